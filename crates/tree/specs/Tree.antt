-- Document 01, "Tree and leaf order": the tree that merge rows say, and its leaves. Definitions only.
use Rattle.std.specs.Prelude.{ℕ, zero, suc, ◌+◌, ◌-◌, ◌*◌, Bool, true, false, List, [], ◌∷◌, ◌++◌, ltb, get_or}

-- an asset, or the node of a row with its left and right subtrees
pub data Tree : Type 0 where
  leaf : ℕ → Tree
  fork : ℕ → Tree → Tree → Tree

-- the two ids of row k
abbrev pub left : List ℕ → ℕ → ℕ
left rows k = get_or rows (2 * k) 0

abbrev pub right : List ℕ → ℕ → ℕ
right rows k = get_or rows (2 * k + 1) 0

-- the tree below node v, down to depth d at most; b says whether v is an asset, and is matched on, since antt would work out a
-- call under a `cond` whether or not its test passes
unfoldable pub grow : ℕ → Bool → List ℕ → ℕ → ℕ → Tree
grow zero b rows n v = leaf v
grow (suc d) true rows n v = leaf v
grow (suc d) false rows n v = fork (v - n)
    (grow d (ltb (left rows (v - n)) n) rows n (left rows (v - n)))
    (grow d (ltb (right rows (v - n)) n) rows n (right rows (v - n)))

-- the tree below node v: an id falls at each step down, so that v steps are enough
unfoldable pub tree_at : List ℕ → ℕ → ℕ → Tree
unfolding grow
tree_at rows n v = grow v (ltb v n) rows n v

-- "The leaves under a node are the left child's leaves joined with the right child's"
unfoldable pub leaves : Tree → List ℕ
leaves (leaf a) = a ∷ []
leaves (fork k l r) = leaves l ++ leaves r

abbrev pub leaves_of : List ℕ → ℕ → ℕ → List ℕ
leaves_of rows n v = leaves (tree_at rows n v)
