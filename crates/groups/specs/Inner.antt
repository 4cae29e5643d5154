-- What the private functions ask of one another and promise: may be skipped. Definitions only.
use Rattle.std.specs.Prelude.{ℕ, ◌+◌, ◌-◌, ◌*◌, ◌≤◌, ◌<◌, ◌≡◌, Bool, true, cond, List, [], ◌∷◌, ◌++◌, length, get_or}
use Rattle.lent.specs.Grid.{over}
use Rattle.tree.specs.Rows.{is_tree}
use Rattle.tree.specs.Tree.{Tree, leaf, fork, tree_at}
use Rattle.tree.specs.Inner.{OnTree}
use Rattle.branches.specs.Summary.{part_of}
use Rattle.listing.specs.Inner.{Named}
use Rattle.groups.specs.Groups.{group_line}

-- a node, then the nodes of its left child's tree, then those of its right child's
unfoldable pub nodes_in : ℕ → Tree → List ℕ
nodes_in n (leaf a) = a ∷ []
nodes_in n (fork k l r) = (n + k) ∷ (nodes_in n l ++ nodes_in n r)

abbrev pub nodes_below : List ℕ → ℕ → ℕ → List ℕ
nodes_below rows n v = nodes_in n (tree_at rows n v)

-- a node of a tree, and room for the nodes below it
pub record NodesReady (rows : List ℕ) (n v : ℕ) (out : List ℕ) : Type 0 where
  pub on : OnTree rows n v
  pub room : length (nodes_below rows n v) ≤ length out

-- they stand at the front, and the rest is as it was
pub record NodesWritten (rows : List ℕ) (n v : ℕ) (out after : List ℕ) (r : ℕ) : Type 0 where
  pub size : r ≡ length (nodes_below rows n v)
  pub list : after ≡ over (nodes_below rows n v) out

-- at most 64 members, each with a part, and parts whose sum fits
pub record Summable (parts members : List ℕ) : Type 0 where
  pub few : length members ≤ 64
  pub low : (j : ℕ) → j < length members → get_or members j 0 < length parts
  pub small : (i : ℕ) → i < length parts → get_or parts i 0 ≤ 1000001

-- the members of every node can be looked up, and there is room for its subtotal
pub record Looked (order firsts sizes : List ℕ) (n : ℕ) (parts : List ℕ) (room : ℕ) : Type 0 where
  pub some : 1 ≤ n
  pub few : n ≤ 64
  pub summed : (v : ℕ) → v < 2 * n - 1 → Summable parts (part_of order firsts sizes n v)
  pub roomy : 2 * n - 1 ≤ room

-- no line is longer: three numbers of at most 20 digits, two tabs, a newline; and 63 times two spaces, a tab and a name of 16 bytes
abbrev pub line_room : Bool → ℕ
line_room named = cond named 206 63

-- at most 127 nodes, each with its depth, size and subtotal
pub record Lined (nodes depths sizes totals : List ℕ) : Type 0 where
  pub few : length nodes ≤ 127
  pub deep : (i : ℕ) → i < length nodes → get_or nodes i 0 < length depths
  pub sized : (i : ℕ) → i < length nodes → get_or nodes i 0 < length sizes
  pub summed : (i : ℕ) → i < length nodes → get_or nodes i 0 < length totals
  pub low : (i : ℕ) → i < length nodes → get_or depths (get_or nodes i 0) 0 ≤ 63

-- the line at place i
unfoldable pub line_at : Bool → (ℕ → List ℕ) → ℕ → List ℕ → List ℕ → List ℕ → List ℕ → ℕ → List ℕ
unfolding group_line
line_at named name n nodes depths sizes totals i =
    group_line named name n (get_or nodes i 0) (record { depth = get_or depths (get_or nodes i 0) 0; size = get_or sizes (get_or nodes i 0) 0; total = get_or totals (get_or nodes i 0) 0 })

-- what a sheet is made of
pub record Sheetable (text starts rows parts : List ℕ) : Type 0 where
  pub named : Named text starts
  pub some : 1 ≤ length starts
  pub tree : is_tree rows (length starts) ≡ true
  pub each : length parts ≡ length starts
  pub small : (i : ℕ) → i < length parts → get_or parts i 0 ≤ 1000001
