-- Document 02, request 13: "Keep beside the tree, for every node, its first place in the leaf order, its size, and its depth". Definitions only.
use Rattle.std.specs.Prelude.{ℕ, suc, ◌+◌, ◌-◌, ◌*◌, cond, List, [], ◌∷◌, ◌++◌, eqb, length, get_or, take, drop}
use Rattle.lent.specs.Count.{over_all}
use Rattle.tree.specs.Tree.{Tree, leaf, fork, tree_at, leaves, leaves_of}

-- a node of a tree: its id, where its leaves begin, how many there are, and how many nodes are above it
pub record Branch : Type 0 where
  pub node : ℕ
  pub first : ℕ
  pub size : ℕ
  pub depth : ℕ

-- the nodes of a tree "from the root down, left first"; the tree's leaves begin at `place`, and `above` nodes are above it.
-- The left child's leaves begin where its parent's do, and the right child's after the left child's.
unfoldable pub walk : ℕ → ℕ → ℕ → Tree → List Branch
unfolding leaves
walk n place above (leaf a) = record { node = a; first = place; size = 1; depth = above } ∷ []
walk n place above (fork k l r) =
    record { node = n + k; first = place; size = length (leaves (fork k l r)); depth = above }
    ∷ (walk n place (suc above) l ++ walk n (place + length (leaves l)) (suc above) r)

-- all nodes of the tree of n assets
unfoldable pub branches : List ℕ → ℕ → List Branch
unfolding walk
branches rows n = walk n 0 0 (tree_at rows n (2 * n - 2))

-- the one of node v
unfoldable pub find : ℕ → List Branch → Branch
find v [] = record { node = v; first = 0; size = 0; depth = 0 }
find v (b ∷ bs) = cond (eqb b.node v) b (find v bs)

-- "its first place in the leaf order"
unfoldable pub first_of : List ℕ → ℕ → ℕ → ℕ
unfolding branches find
first_of rows n v = (find v (branches rows n)).first

-- "its size"
unfoldable pub size_of : List ℕ → ℕ → ℕ → ℕ
unfolding branches find
size_of rows n v = (find v (branches rows n)).size

-- "and its depth, the nodes above it"
unfoldable pub depth_of : List ℕ → ℕ → ℕ → ℕ
unfolding branches find
depth_of rows n v = (find v (branches rows n)).depth

-- "Any node's assets are then one part of the leaf order": from its first place on, as many entries as its size
unfoldable pub members_of : List ℕ → ℕ → ℕ → List ℕ
unfolding first_of size_of
members_of rows n v = take (size_of rows n v) (drop (first_of rows n v) (leaves_of rows n (2 * n - 2)))

-- "subtotal": what a list of numbers, one an asset, adds up to over some assets
unfoldable pub subtotal : List ℕ → List ℕ → ℕ
unfolding over_all
subtotal xs part = over_all (λ a. get_or xs a 0) part
