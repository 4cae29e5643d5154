-- `admission::judge` meets its contract. Assumes nothing.
use mathlib.Core.Path.{sym, ◌∙◌}
use Rattle.std.proofs.lemmas.Result.{err_from_is_err_and}
use Rattle.admission.specs.Admission.{HierarchyCall}
use Rattle.admission.proofs.Lines.{sizes_refuse, rooms_refuse, shape_refuses, rule_judges}
use Rattle.admission.proofs.judge.Goals as goal

pub returns-in_err-judge_sizes : goal.returns-in_err-judge_sizes
returns-in_err-judge_sizes c =
    let q : HierarchyCall =
    record {
      rule = record { metric = c.args.metric; inputs = record { expected = c.args.expected.now; returns = c.args.returns.now; return_rows = c.args.return_rows; confidence = c.args.confidence }; clusters = c.args.clusters };
      expected_given = c.args.given;
      return_columns = c.args.return_columns;
    }
    in
    let e = err_from_is_err_and c.from_residual.result c.from_residual.ensures.1 in
    rw (e.1, e.2) (sizes_refuse q _ _ _ _ _ (sym (c.judge_sizes.ensures c.args.metric c.args.expected.now c.args.confidence c.args.given c.args.clusters) ∙ c.in_err-judge_sizes.was))

pub returns-in_err-judge_rooms : goal.returns-in_err-judge_rooms
returns-in_err-judge_rooms c =
    let q : HierarchyCall =
    record {
      rule = record { metric = c.args.metric; inputs = record { expected = c.args.expected.now; returns = c.args.returns.now; return_rows = c.args.return_rows; confidence = c.args.confidence }; clusters = c.args.clusters };
      expected_given = c.args.given;
      return_columns = c.args.return_columns;
    }
    in
    let e = err_from_is_err_and c.from_residual-in_err-judge_rooms.result c.from_residual-in_err-judge_rooms.ensures.1 in
    rw (e.1, e.2) (rooms_refuse q _ _ _ _ (sym (c.judge_sizes.ensures c.args.metric c.args.expected.now c.args.confidence c.args.given c.args.clusters) ∙ c.in_ok-judge_sizes.was) _ (sym (c.judge_rooms.ensures) ∙ c.in_err-judge_rooms.was))

pub returns-in_err-judge_shape : goal.returns-in_err-judge_shape
returns-in_err-judge_shape c =
    let q : HierarchyCall =
    record {
      rule = record { metric = c.args.metric; inputs = record { expected = c.args.expected.now; returns = c.args.returns.now; return_rows = c.args.return_rows; confidence = c.args.confidence }; clusters = c.args.clusters };
      expected_given = c.args.given;
      return_columns = c.args.return_columns;
    }
    in
    let e = err_from_is_err_and c.from_residual-in_err-judge_shape.result c.from_residual-in_err-judge_shape.ensures.1 in
    rw (e.1, e.2) (shape_refuses q _ _ _ _ (sym (c.judge_sizes.ensures c.args.metric c.args.expected.now c.args.confidence c.args.given c.args.clusters) ∙ c.in_ok-judge_sizes.was) (sym (c.judge_rooms.ensures) ∙ c.in_ok-judge_rooms.was) _ (sym (c.judge_shape.ensures c.args.expected.now c.args.returns.now c.args.confidence c.args.given c.args.clusters) ∙ c.in_err-judge_shape.was))

pub returns : goal.returns
returns c =
    let q : HierarchyCall =
    record {
      rule = record { metric = c.args.metric; inputs = record { expected = c.args.expected.now; returns = c.args.returns.now; return_rows = c.args.return_rows; confidence = c.args.confidence }; clusters = c.args.clusters };
      expected_given = c.args.given;
      return_columns = c.args.return_columns;
    }
    in
    c.judge_rule.ensures c.args.returns.now c.args.return_columns ∙ rule_judges q _ _ _ _ (sym (c.judge_sizes.ensures c.args.metric c.args.expected.now c.args.confidence c.args.given c.args.clusters) ∙ c.in_ok-judge_sizes.was) (sym (c.judge_rooms.ensures) ∙ c.in_ok-judge_rooms.was) (sym (c.judge_shape.ensures c.args.expected.now c.args.returns.now c.args.confidence c.args.given c.args.clusters) ∙ c.in_ok-judge_shape.was)
