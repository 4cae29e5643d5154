-- `sharing::allocate_down_tree` meets its contract. Assumes nothing.
use mathlib.Core.Path.{refl, sym, ◌∙◌}
use native.Mathlib.Omega.{arith}
use Rattle.std.proofs.lemmas.Result.{err_from_is_err_and}
use Rattle.metrics.specs.Inner.{inputs}
use Rattle.sharing.specs.Inner.{down_call}
use Rattle.sharing.proofs.Judged.{call_right, sizes_refused, rules_judge, front_fits, front_length, down_refused, down_none, down_some, root, down_start, down_shared, part_length, whole_length, cleared_blank}
use Rattle.sharing.proofs.allocate_down_tree.Goals as goal

pub returns-in_err-sizes : goal.returns-in_err-sizes
returns-in_err-sizes c =
    let q =
    down_call c.args.metric (inputs c.args.expected.now c.args.returns.now c.args.return_rows c.args.confidence) c.args.expected_given c.args.return_columns
    c.args.covariance.now c.args.covariance_rows c.args.covariance_columns c.args.rows.now c.args.n c.args.clusters in
    let p = err_from_is_err_and c.from_residual.result c.from_residual.ensures.1 in
    let d = down_refused q _ _ _ _ (sizes_refused q _ _ _ c.judge_sizes-sizes.ensures _ c.in_err-sizes.was) c.clear.ensures in
    record { value = rw (p.1, p.2) d.0; out_after = d.1; scratch_after = c.clear-2.ensures }

pub returns-in_err-judge_rules : goal.returns-in_err-judge_rules
returns-in_err-judge_rules c =
    let q =
    down_call c.args.metric (inputs c.args.expected.now c.args.returns.now c.args.return_rows c.args.confidence) c.args.expected_given c.args.return_columns
    c.args.covariance.now c.args.covariance_rows c.args.covariance_columns c.args.rows.now c.args.n c.args.clusters in
    let p = err_from_is_err_and c.from_residual-in_err-judge_rules.result c.from_residual-in_err-judge_rules.ensures.1 in
    let d = down_refused q _ _ _ _ (sym c.in_err-judge_rules.was ∙ rules_judge q _ _ _ c.judge_sizes-sizes.ensures _ c.in_ok-sizes.was c.judge_rules.ensures) c.clear.ensures in
    record { value = rw (p.1, p.2) d.0; out_after = d.1; scratch_after = c.clear-2.ensures }

pub overflow_mul-root : goal.overflow_mul-root
overflow_mul-root c =
    let q =
    down_call c.args.metric (inputs c.args.expected.now c.args.returns.now c.args.return_rows c.args.confidence) c.args.expected_given c.args.return_columns
    c.args.covariance.now c.args.covariance_rows c.args.covariance_columns c.args.rows.now c.args.n c.args.clusters in
    let p = call_right q _ _ (sym (rules_judge q _ _ _ c.judge_sizes-sizes.ensures _ c.in_ok-sizes.was c.judge_rules.ensures) ∙ c.in_ok-judge_rules.was) in
    omega (arith, p.most)

pub overflow_sub-root : goal.overflow_sub-root
overflow_sub-root c =
    let q =
    down_call c.args.metric (inputs c.args.expected.now c.args.returns.now c.args.return_rows c.args.confidence) c.args.expected_given c.args.return_columns
    c.args.covariance.now c.args.covariance_rows c.args.covariance_columns c.args.rows.now c.args.n c.args.clusters in
    let p = call_right q _ _ (sym (rules_judge q _ _ _ c.judge_sizes-sizes.ensures _ c.in_ok-sizes.was c.judge_rules.ensures) ∙ c.in_ok-judge_rules.was) in
    omega (arith, p.some)

pub order_leaves-requires : goal.order_leaves-requires
order_leaves-requires c =
    let q =
    down_call c.args.metric (inputs c.args.expected.now c.args.returns.now c.args.return_rows c.args.confidence) c.args.expected_given c.args.return_columns
    c.args.covariance.now c.args.covariance_rows c.args.covariance_columns c.args.rows.now c.args.n c.args.clusters in
    let p = call_right q _ _ (sym (rules_judge q _ _ _ c.judge_sizes-sizes.ensures _ c.in_ok-sizes.was c.judge_rules.ensures) ∙ c.in_ok-judge_rules.was) in
    record {
      below = root _ _ _ p;
      order_len = refl;
      firsts_len = refl;
      sizes_len = refl;
    }

pub slice_bounds-share-end-4 : goal.slice_bounds-share-end-4
slice_bounds-share-end-4 c =
    let q =
    down_call c.args.metric (inputs c.args.expected.now c.args.returns.now c.args.return_rows c.args.confidence) c.args.expected_given c.args.return_columns
    c.args.covariance.now c.args.covariance_rows c.args.covariance_columns c.args.rows.now c.args.n c.args.clusters in
    let p = call_right q _ _ (sym (rules_judge q _ _ _ c.judge_sizes-sizes.ensures _ c.in_ok-sizes.was c.judge_rules.ensures) ∙ c.in_ok-judge_rules.was) in
    front_fits _ _ _ p _ c.clear.ensures

pub slice_bounds-share-end-5 : goal.slice_bounds-share-end-5
slice_bounds-share-end-5 c =
    let q =
    down_call c.args.metric (inputs c.args.expected.now c.args.returns.now c.args.return_rows c.args.confidence) c.args.expected_given c.args.return_columns
    c.args.covariance.now c.args.covariance_rows c.args.covariance_columns c.args.rows.now c.args.n c.args.clusters in
    let p = call_right q _ _ (sym (rules_judge q _ _ _ c.judge_sizes-sizes.ensures _ c.in_ok-sizes.was c.judge_rules.ensures) ∙ c.in_ok-judge_rules.was) in
    sym (front_length _ _ _ p _ c.clear.ensures)

pub share-shared-requires : goal.share-shared-requires
share-shared-requires c =
    let q =
    down_call c.args.metric (inputs c.args.expected.now c.args.returns.now c.args.return_rows c.args.confidence) c.args.expected_given c.args.return_columns
    c.args.covariance.now c.args.covariance_rows c.args.covariance_columns c.args.rows.now c.args.n c.args.clusters in
    let p = call_right q _ _ (sym (rules_judge q _ _ _ c.judge_sizes-sizes.ensures _ c.in_ok-sizes.was c.judge_rules.ensures) ∙ c.in_ok-judge_rules.was) in
    record {
      down = down_start _ _ _ p _ c.clear.ensures c.order_leaves.ensures;
      blank = cleared_blank _ p.enough c.clear-2.ensures;
    }

pub returns-then-is_err : goal.returns-then-is_err
returns-then-is_err c =
    let q =
    down_call c.args.metric (inputs c.args.expected.now c.args.returns.now c.args.return_rows c.args.confidence) c.args.expected_given c.args.return_columns
    c.args.covariance.now c.args.covariance_rows c.args.covariance_columns c.args.rows.now c.args.n c.args.clusters in
    let p = call_right q _ _ (sym (rules_judge q _ _ _ c.judge_sizes-sizes.ensures _ c.in_ok-sizes.was c.judge_rules.ensures) ∙ c.in_ok-judge_rules.was) in
    let w = whole_length _ _ _ p _ c.clear.ensures c.share-shared.new.weights c.share-shared.auto.weights in
    let d = down_none _ _ _ p c.share-shared.result c.share-shared.new.weights _ _ (down_shared _ _ _ p _ c.clear.ensures _ c.share-shared.ensures.weights_after) (sym c.is_err.ensures.value ∙ c.if-is_err.true) c.refused.ensures.weights_after w in
    record {
      value = c.refused.ensures.value ∙ d.0;
      out_after = d.1;
      scratch_after = c.share-shared.ensures.scratch_unchanged ∙ c.clear-2.ensures;
    }

pub returns : goal.returns
returns c =
    let q =
    down_call c.args.metric (inputs c.args.expected.now c.args.returns.now c.args.return_rows c.args.confidence) c.args.expected_given c.args.return_columns
    c.args.covariance.now c.args.covariance_rows c.args.covariance_columns c.args.rows.now c.args.n c.args.clusters in
    let p = call_right q _ _ (sym (rules_judge q _ _ _ c.judge_sizes-sizes.ensures _ c.in_ok-sizes.was c.judge_rules.ensures) ∙ c.in_ok-judge_rules.was) in
    let d = down_some _ _ _ p c.share-shared.result c.share-shared.new.weights _ _ (down_shared _ _ _ p _ c.clear.ensures _ c.share-shared.ensures.weights_after) (sym c.is_err.ensures.value ∙ c.if-is_err.false) c.clear.ensures refl (part_length _ _ _ p _ c.clear.ensures c.share-shared.new.weights c.share-shared.auto.weights) in
    record {
      value = d.0;
      out_after = d.1;
      scratch_after = c.share-shared.ensures.scratch_unchanged ∙ c.clear-2.ensures;
    }
