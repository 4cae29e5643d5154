-- What the private functions ask of one another and promise: may be skipped. Definitions only.
use Rattle.std.specs.Prelude.{◌≡◌, true, List, ℕ, ◌-◌, ◌*◌, ◌≤◌, ◌<◌, length, get_or, Float}
use Rattle.lent.specs.Count.{count}
use Rattle.lent.specs.Grid.{over}
use Rattle.tree.specs.Rows.{is_tree}
use Rattle.tree.specs.Tree.{leaves_of}

-- entry k is how often k stands in the list
pub record Tallied (list t : List ℕ) : Type 0 where
  pub each : (k : ℕ) → k < 128 → count k list ≡ get_or t k 0

-- rows of a tree of n assets, and a node of it
pub record OnTree (rows : List ℕ) (n v : ℕ) : Type 0 where
  pub some : 1 ≤ n
  pub tree : is_tree rows n ≡ true
  pub node : v ≤ 2 * n - 2

-- and room for the node's leaves
pub record Ready (rows : List ℕ) (n v : ℕ) (out : List ℕ) : Type 0 where
  pub on : OnTree rows n v
  pub room : length (leaves_of rows n v) ≤ length out

-- the node's leaves stand at the front, and the rest is as it was
pub record Written (rows : List ℕ) (n v : ℕ) (out after : List ℕ) (r : ℕ) : Type 0 where
  pub size : r ≡ length (leaves_of rows n v)
  pub list : after ≡ over (leaves_of rows n v) out

-- a matrix of n by n, and n numbers below n
pub record Seriable (m : List Float) (n : ℕ) (order : List ℕ) : Type 0 where
  pub cells : length m ≡ n * n
  pub size : length order ≡ n
  pub low : (j : ℕ) → j < n → get_or order j 0 < n
