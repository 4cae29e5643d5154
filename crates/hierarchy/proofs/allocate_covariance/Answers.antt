-- `hierarchy::allocate_covariance` meets its contract. Assumes nothing.
use Rattle.hierarchy.specs.Hierarchy.{HierarchyCall}
use Rattle.hierarchy.proofs.Answers.{answered_refused, answered_done}
use Rattle.hierarchy.proofs.allocate_covariance.Goals as goal

pub returns-in-Err : goal.returns-in-Err
returns-in-Err c =
    let q : HierarchyCall =
    record {
      rule = record { metric = c.args.metric; inputs = record { expected = c.args.expected.now; returns = c.args.returns.now; return_rows = c.args.return_rows; confidence = c.args.confidence }; clusters = c.args.clusters };
      expected_given = c.args.expected_given;
      return_columns = c.args.return_columns;
    }
    in
    answered_refused q c.args.distance c.args.linkage c.args.covariance.now c.args.rows_in c.args.columns _ _ _ _ _ _ _ _ _ _ _ _ _ _ c.work.auto.rows c.work.auto.order c.work.auto.weights c.work.auto.scratch (rw c.in-Err.is at c.work.ensures) c.clear_all.ensures

pub returns : goal.returns
returns c =
    let q : HierarchyCall =
    record {
      rule = record { metric = c.args.metric; inputs = record { expected = c.args.expected.now; returns = c.args.returns.now; return_rows = c.args.return_rows; confidence = c.args.confidence }; clusters = c.args.clusters };
      expected_given = c.args.expected_given;
      return_columns = c.args.return_columns;
    }
    in
    answered_done q c.args.distance c.args.linkage c.args.covariance.now c.args.rows_in c.args.columns _ _ _ _ _ (rw c.in_default.is at c.work.ensures)
