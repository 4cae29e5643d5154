-- What a call of the allocation on a covariance must have: its rule and its rooms. Document 01, "Order". Definitions only.
use Rattle.std.specs.Prelude.{ℕ, Bool, not, List, [], ◌∷◌, ◌++◌, length}
use Rattle.refusal.specs.Table.{Line}
use Rattle.refusal.specs.declared.Refusal.TheVariants.{DimensionMismatch, OverLimit, SliceLength}
use Rattle.lent.specs.Lent.{over_limit, other_length, sizes}
use Rattle.metrics.specs.declared.Metric.{Metric}
use Rattle.rooms.specs.Rooms.{Room, room_lines, square_lines}
use Rattle.sharing.specs.Split.{Inputs}
use Rattle.sharing.specs.Down.{other_rows, count_line, length_line, lack_line, metric_tail_lines}

-- how the money is shared out: by a metric, with what the metrics read beside the covariance, into k clusters
pub record Rule : Type 0 where
  pub metric : Metric
  pub inputs : Inputs
  pub clusters : ℕ

-- a call's rule; "expected returns .. given" or not; the columns of its rows of returns
pub record HierarchyCall : Type 0 where
  pub rule : Rule
  pub expected_given : Bool
  pub return_columns : ℕ

-- 9 and 10, of the covariance in a slice of len numbers and of the rows of returns
unfoldable pub hierarchy_size_lines : HierarchyCall → ℕ → ℕ → ℕ → List Line
hierarchy_size_lines q len rows w =
    (over_limit q.rule.inputs.return_rows q.return_columns, OverLimit)
    ∷ (sizes len rows w ++ ((other_length (length q.rule.inputs.returns) q.rule.inputs.return_rows q.return_columns, SliceLength) ∷ []))

-- no assets 1; covariance size 3; "return rows present with columns other than n 3", where they are read
unfoldable pub hierarchy_shape_lines : HierarchyCall → ℕ → ℕ → List Line
unfolding square_lines
hierarchy_shape_lines q rows w =
    square_lines rows w ++ ((other_rows q.rule.metric q.rule.inputs.return_rows q.return_columns w, DimensionMismatch) ∷ [])

-- "Sharpe: expected length other than n 3, else 4"
unfoldable pub expected_lines : HierarchyCall → ℕ → List Line
expected_lines q n =
    length_line q.rule.metric q.expected_given (length q.rule.inputs.expected) n
    ∷ lack_line q.rule.metric (not q.expected_given)
    ∷ []

-- document 02, request 1: 16 and 17, "before 6"; 6
unfoldable pub rule_lines : Rule → ℕ → List Line
rule_lines q n = metric_tail_lines q.metric q.inputs.return_rows q.inputs.confidence ++ (count_line q.clusters n ∷ [])

-- the lines before those of the risk
unfoldable pub hierarchy_judge_table : HierarchyCall → ℕ → ℕ → ℕ → Room → List Line
unfolding hierarchy_size_lines hierarchy_shape_lines expected_lines rule_lines
hierarchy_judge_table q len rows w room =
    hierarchy_size_lines q len rows w ++ (room_lines w room ++ (hierarchy_shape_lines q rows w ++ (expected_lines q w ++ rule_lines q.rule w)))
