-- What the private functions ask of one another and promise: may be skipped. Definitions only.
use Rattle.std.specs.Prelude.{◌≡◌, true, List, ℕ, ◌-◌, ◌*◌, ◌≤◌, ◌<◌, length, get_or}
use Rattle.lent.specs.Grid.{noughts}
use Rattle.tree.specs.Rows.{is_tree}
use Rattle.branches.specs.Branch.{size_of}

-- rows of a tree of n assets
pub record Rooted (rows : List ℕ) (n : ℕ) : Type 0 where
  pub some : 1 ≤ n
  pub tree : is_tree rows n ≡ true

-- and a list in which the sizes of the nodes below v stand
pub record Measured (rows : List ℕ) (n v : ℕ) (sizes : List ℕ) : Type 0 where
  pub rooted : Rooted rows n
  pub room : 2 * n - 1 ≤ length sizes
  pub each : (u : ℕ) → u < v → get_or sizes u 0 ≡ size_of rows n u

-- a cleared list with room for every node
pub record Emptied (n : ℕ) (list : List ℕ) : Type 0 where
  pub room : 2 * n - 1 ≤ length list
  pub clear : list ≡ noughts (length list)
