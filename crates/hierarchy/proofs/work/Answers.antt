-- `hierarchy::work` meets its contract. Assumes nothing.
use mathlib.Core.Path.{refl, sym, ◌∙◌}
use native.Mathlib.Omega.{arith}
use lib.Seq.{length-take-le}
use Rattle.std.proofs.lemmas.Result.{err_from_is_err_and}
use Rattle.hierarchy.specs.Hierarchy.{HierarchyCall}
use Rattle.hierarchy.proofs.Answers.{judge_refuses, passed, grounded, plant_refuses, sharing_refuses, worked_done, rows_in_tree, order_in_leaves, rows_fit, order_fits}
use Rattle.hierarchy.proofs.work.Goals as goal

pub returns-in_err-judge : goal.returns-in_err-judge
returns-in_err-judge c =
    let q : HierarchyCall =
    record {
      rule = record { metric = c.args.metric; inputs = record { expected = c.args.expected.now; returns = c.args.returns.now; return_rows = c.args.return_rows; confidence = c.args.confidence }; clusters = c.args.clusters };
      expected_given = c.args.expected_given;
      return_columns = c.args.return_columns;
    }
    in
    let e = err_from_is_err_and c.from_residual.result c.from_residual.ensures.1 in
    rw (e.1, e.2) (judge_refuses q c.args.distance c.args.linkage c.args.covariance.now c.args.rows_in c.args.columns _ _ (sym c.judge.ensures ∙ c.in_err-judge.was) _ _ _ _)

pub plant-requires : goal.plant-requires
plant-requires c =
    let q : HierarchyCall =
    record {
      rule = record { metric = c.args.metric; inputs = record { expected = c.args.expected.now; returns = c.args.returns.now; return_rows = c.args.return_rows; confidence = c.args.confidence }; clusters = c.args.clusters };
      expected_given = c.args.expected_given;
      return_columns = c.args.return_columns;
    }
    in
    grounded q c.args.distance c.args.linkage c.args.covariance.now c.args.rows_in c.args.columns _ (sym c.judge.ensures ∙ c.in_ok-judge.was) _ _ refl refl

pub returns-in_err-plant : goal.returns-in_err-plant
returns-in_err-plant c =
    let q : HierarchyCall =
    record {
      rule = record { metric = c.args.metric; inputs = record { expected = c.args.expected.now; returns = c.args.returns.now; return_rows = c.args.return_rows; confidence = c.args.confidence }; clusters = c.args.clusters };
      expected_given = c.args.expected_given;
      return_columns = c.args.return_columns;
    }
    in
    let e = err_from_is_err_and c.from_residual-in_err-plant.result c.from_residual-in_err-plant.ensures.1 in
    rw (e.1, e.2) (plant_refuses q c.args.distance c.args.linkage c.args.covariance.now c.args.rows_in c.args.columns _ (sym c.judge.ensures ∙ c.in_ok-judge.was) _ _ _ c.plant.ensures _ c.in_err-plant.was _ _ _ _)

pub overflow_sub-k : goal.overflow_sub-k
overflow_sub-k c =
    let q : HierarchyCall =
    record {
      rule = record { metric = c.args.metric; inputs = record { expected = c.args.expected.now; returns = c.args.returns.now; return_rows = c.args.return_rows; confidence = c.args.confidence }; clusters = c.args.clusters };
      expected_given = c.args.expected_given;
      return_columns = c.args.return_columns;
    }
    in
    let z = passed q c.args.distance c.args.linkage c.args.covariance.now c.args.rows_in c.args.columns _ (sym c.judge.ensures ∙ c.in_ok-judge.was) in omega (arith, z.some)

pub overflow_mul-k : goal.overflow_mul-k
overflow_mul-k c =
    let q : HierarchyCall =
    record {
      rule = record { metric = c.args.metric; inputs = record { expected = c.args.expected.now; returns = c.args.returns.now; return_rows = c.args.return_rows; confidence = c.args.confidence }; clusters = c.args.clusters };
      expected_given = c.args.expected_given;
      return_columns = c.args.return_columns;
    }
    in
    let z = passed q c.args.distance c.args.linkage c.args.covariance.now c.args.rows_in c.args.columns _ (sym c.judge.ensures ∙ c.in_ok-judge.was) in omega (arith, z.few)

pub slice_bounds-tree-end : goal.slice_bounds-tree-end
slice_bounds-tree-end c =
    let q : HierarchyCall =
    record {
      rule = record { metric = c.args.metric; inputs = record { expected = c.args.expected.now; returns = c.args.returns.now; return_rows = c.args.return_rows; confidence = c.args.confidence }; clusters = c.args.clusters };
      expected_given = c.args.expected_given;
      return_columns = c.args.return_columns;
    }
    in
    rows_in_tree q c.args.distance c.args.linkage c.args.covariance.now c.args.rows_in c.args.columns _ (sym c.judge.ensures ∙ c.in_ok-judge.was) _ c.plant.auto.tree

pub slice_bounds-made-end : goal.slice_bounds-made-end
slice_bounds-made-end c =
    let q : HierarchyCall =
    record {
      rule = record { metric = c.args.metric; inputs = record { expected = c.args.expected.now; returns = c.args.returns.now; return_rows = c.args.return_rows; confidence = c.args.confidence }; clusters = c.args.clusters };
      expected_given = c.args.expected_given;
      return_columns = c.args.return_columns;
    }
    in
    sym (length-take-le _ _ (rows_in_tree q c.args.distance c.args.linkage c.args.covariance.now c.args.rows_in c.args.columns _ (sym c.judge.ensures ∙ c.in_ok-judge.was) _ c.plant.auto.tree))

pub lay-requires : goal.lay-requires
lay-requires c =
    let q : HierarchyCall =
    record {
      rule = record { metric = c.args.metric; inputs = record { expected = c.args.expected.now; returns = c.args.returns.now; return_rows = c.args.return_rows; confidence = c.args.confidence }; clusters = c.args.clusters };
      expected_given = c.args.expected_given;
      return_columns = c.args.return_columns;
    }
    in
    rows_fit q c.args.distance c.args.linkage c.args.covariance.now c.args.rows_in c.args.columns _ (sym c.judge.ensures ∙ c.in_ok-judge.was) _ c.plant.auto.tree

pub slice_bounds-leaves-end : goal.slice_bounds-leaves-end
slice_bounds-leaves-end c =
    let q : HierarchyCall =
    record {
      rule = record { metric = c.args.metric; inputs = record { expected = c.args.expected.now; returns = c.args.returns.now; return_rows = c.args.return_rows; confidence = c.args.confidence }; clusters = c.args.clusters };
      expected_given = c.args.expected_given;
      return_columns = c.args.return_columns;
    }
    in
    order_in_leaves q c.args.distance c.args.linkage c.args.covariance.now c.args.rows_in c.args.columns _ (sym c.judge.ensures ∙ c.in_ok-judge.was) _ c.plant.auto.leaves

pub slice_bounds-lay-end : goal.slice_bounds-lay-end
slice_bounds-lay-end c =
    let q : HierarchyCall =
    record {
      rule = record { metric = c.args.metric; inputs = record { expected = c.args.expected.now; returns = c.args.returns.now; return_rows = c.args.return_rows; confidence = c.args.confidence }; clusters = c.args.clusters };
      expected_given = c.args.expected_given;
      return_columns = c.args.return_columns;
    }
    in
    sym (length-take-le _ _ (order_in_leaves q c.args.distance c.args.linkage c.args.covariance.now c.args.rows_in c.args.columns _ (sym c.judge.ensures ∙ c.in_ok-judge.was) _ c.plant.auto.leaves))

pub lay-requires-2 : goal.lay-requires-2
lay-requires-2 c =
    let q : HierarchyCall =
    record {
      rule = record { metric = c.args.metric; inputs = record { expected = c.args.expected.now; returns = c.args.returns.now; return_rows = c.args.return_rows; confidence = c.args.confidence }; clusters = c.args.clusters };
      expected_given = c.args.expected_given;
      return_columns = c.args.return_columns;
    }
    in
    order_fits q c.args.distance c.args.linkage c.args.covariance.now c.args.rows_in c.args.columns _ (sym c.judge.ensures ∙ c.in_ok-judge.was) _ c.plant.auto.leaves

pub returns-in_err-allocate_down_tree : goal.returns-in_err-allocate_down_tree
returns-in_err-allocate_down_tree c =
    let q : HierarchyCall =
    record {
      rule = record { metric = c.args.metric; inputs = record { expected = c.args.expected.now; returns = c.args.returns.now; return_rows = c.args.return_rows; confidence = c.args.confidence }; clusters = c.args.clusters };
      expected_given = c.args.expected_given;
      return_columns = c.args.return_columns;
    }
    in
    let e = err_from_is_err_and c.from_residual-in_err-allocate_down_tree.result c.from_residual-in_err-allocate_down_tree.ensures.1 in
    rw (e.1, e.2) (sharing_refuses q c.args.distance c.args.linkage c.args.covariance.now c.args.rows_in c.args.columns _ (sym c.judge.ensures ∙ c.in_ok-judge.was) _ _ _ c.plant.ensures c.in_ok-plant.was _ _ c.plant.auto.scratch c.allocate_down_tree.ensures.value _ _ _ _ _ c.in_err-allocate_down_tree.was)

pub returns : goal.returns
returns c =
    let q : HierarchyCall =
    record {
      rule = record { metric = c.args.metric; inputs = record { expected = c.args.expected.now; returns = c.args.returns.now; return_rows = c.args.return_rows; confidence = c.args.confidence }; clusters = c.args.clusters };
      expected_given = c.args.expected_given;
      return_columns = c.args.return_columns;
    }
    in
    worked_done q c.args.distance c.args.linkage c.args.covariance.now c.args.rows_in c.args.columns _ (sym c.judge.ensures ∙ c.in_ok-judge.was) _ _ _ c.plant.ensures c.in_ok-plant.was _ _ c.plant.auto.scratch c.allocate_down_tree.ensures.value _ _ _ _ _ c.in_ok-allocate_down_tree.was c.allocate_down_tree.ensures.out_after c.allocate_down_tree.ensures.scratch_after c.lay.ensures c.lay-2.ensures
