-- The steps of `nodes_below` in plain lists, and that they are the nodes of the walk. Assumes nothing.
use mathlib.Core.Path.{◌≡◌, refl, ap, ap₂, ◌∙◌}
use mathlib.Core.List.{List, [], ◌∷◌, ◌++◌, map}
use Prim.Native.Nat.{ℕ, zero, suc, ◌+◌, ◌-◌, ◌*◌, ◌≤◌, ◌<◌}
use native.Mathlib.Omega.{arith}
use lib.ListN.{length, get_or, set, take, drop, length-append, length-drop, length-set, length-map}
use lib.Seq.{take_all}
use Rattle.lent.specs.Grid.{over}
use Rattle.lent.proofs.Laws.{over_push, over_none, length_over}
use Rattle.tree.specs.Tree.{Tree, leaf, fork, left, right, tree_at, leaves}
use Rattle.tree.specs.Inner.{OnTree}
use Rattle.tree.proofs.Tree.{tree_leaf, tree_on, on_left, on_right}
use Rattle.tree.proofs.Walk.{join}
use Rattle.branches.specs.Branch.{Branch, walk, branches}
use Rattle.branches.specs.Inner.{Rooted}
use Rattle.branches.proofs.Walk.{OnEach}
use Rattle.branches.proofs.Sheet.{OwnNumbers, lines_are, branches_count}
use Rattle.groups.specs.Groups.{nodes_down}
use Rattle.groups.specs.Inner.{nodes_in, nodes_below, NodesReady, NodesWritten}

nodes_leaf : (rows : List ℕ) (n v : ℕ) → v < n → nodes_below rows n v ≡ v ∷ []
unfolding nodes_in
nodes_leaf rows n v h = rw (tree_leaf rows n v h)

nodes_fork : {rows : List ℕ} {n v : ℕ} → OnTree rows n v → n ≤ v → nodes_below rows n v ≡ v ∷ (nodes_below rows n (left rows (v - n)) ++ nodes_below rows n (right rows (v - n)))
unfolding nodes_in
nodes_fork {rows} {n} {v} p ge = rw (tree_on p ge) (ap (λ (u : ℕ). u ∷ (nodes_below rows n (left rows (v - n)) ++ nodes_below rows n (right rows (v - n)))) (omega arith))

some_nodes : (n : ℕ) (t : Tree) → 0 < length (nodes_in n t)
unfolding nodes_in
some_nodes n (leaf a) = omega arith
some_nodes n (fork k l r) = omega arith

-- a node is put at the front
put_first : (out : List ℕ) (v : ℕ) → 0 < length out → set out 0 v ≡ over (v ∷ []) out
put_first out v h = ap (λ (l : List ℕ). set l 0 v) (over_none out) ∙ over_push [] out 0 v refl h

module _ {rows : List ℕ} {n v : ℕ} {out : List ℕ} (p : NodesReady rows n v out) where
  pub room_first : 0 < length out
  room_first = omega (arith, some_nodes n (tree_at rows n v), p.room)

  abbrev headed : List ℕ
  headed = set out 0 v

  headed_size : length headed ≡ length out
  headed_size = length-set out 0 v

  pub headed_some : 1 ≤ length headed
  headed_some = omega (arith, headed_size, room_first)

  pub wrote_leaf : v < n → NodesWritten rows n v out headed 1
  wrote_leaf h = record { size = rw (nodes_leaf rows n v h); list = rw (nodes_leaf rows n v h) (put_first out v room_first) }

  module _ (ge : n ≤ v) where
    abbrev L : List ℕ
    L = nodes_below rows n (left rows (v - n))

    abbrev R : List ℕ
    R = nodes_below rows n (right rows (v - n))

    size_fork : length (nodes_below rows n v) ≡ 1 + length L + length R
    size_fork = omega (arith, ap length (nodes_fork p.on ge), length-append L R)

    pub ready_left : NodesReady rows n (left rows (v - n)) (take (length headed - 1) (drop 1 headed))
    ready_left = record {
      on = on_left p.on ge;
      room = rw (take_all (length headed - 1) (drop 1 headed) (omega (arith, length-drop 1 headed)), length-drop 1 headed) (omega (arith, headed_size, size_fork, p.room));
    }

    -- after the left child's call, which left `part` and said l
    module _ {part : List ℕ} {l : ℕ} (w : NodesWritten rows n (left rows (v - n)) (take (length headed - 1) (drop 1 headed)) part l) where
      abbrev mid : List ℕ
      mid = take 1 headed ++ (part ++ drop (length headed - 1) (drop 1 headed))

      mid_is : mid ≡ over (v ∷ L) out
      mid_is = join (v ∷ []) L out headed part 1 refl (put_first out v room_first) w.list

      pub mid_size : length mid ≡ length out
      mid_size = ap length mid_is ∙ length_over (v ∷ L) out (omega (arith, size_fork, p.room))

      pub left_fits : 1 + l ≤ length mid
      left_fits = omega (arith, mid_size, size_fork, p.room, w.size)

      pub ready_right : NodesReady rows n (right rows (v - n)) (take (length mid - (1 + l)) (drop (1 + l) mid))
      ready_right = record {
        on = on_right p.on ge;
        room = rw (take_all (length mid - (1 + l)) (drop (1 + l) mid) (omega (arith, length-drop (1 + l) mid)), length-drop (1 + l) mid) (omega (arith, mid_size, size_fork, p.room, w.size));
      }

      -- and after the right child's, which left `rest` and said r
      module _ {rest : List ℕ} {r : ℕ} (u : NodesWritten rows n (right rows (v - n)) (take (length mid - (1 + l)) (drop (1 + l) mid)) rest r) where
        pub wrote_fork : NodesWritten rows n v out (take (1 + l) mid ++ (rest ++ drop (length mid - (1 + l)) (drop (1 + l) mid))) (1 + l + r)
        wrote_fork = record {
          size = omega (arith, size_fork, w.size, u.size);
          list = rw (nodes_fork p.on ge) (join (v ∷ L) R out mid rest (1 + l) (omega (arith, w.size)) mid_is u.list);
        }

        pub total_fits : 1 + l + r ≤ length out
        total_fits = omega (arith, size_fork, w.size, u.size, p.room)

-- ---- the walk's nodes

map_append : (f : Branch → ℕ) (xs ys : List Branch) → map f (xs ++ ys) ≡ map f xs ++ map f ys
map_append f [] ys = refl
map_append f (x ∷ xs) ys = ap (λ (l : List ℕ). f x ∷ l) (map_append f xs ys)

walk_nodes : (n place above : ℕ) (t : Tree) → map (λ b. b.node) (walk n place above t) ≡ nodes_in n t
unfolding walk nodes_in leaves
walk_nodes n place above (leaf a) = refl
walk_nodes n place above (fork k l r) =
    ap (λ (s : List ℕ). (n + k) ∷ s)
    (map_append (λ b. b.node) (walk n place (suc above) l) (walk n (place + length (leaves l)) (suc above) r)
    ∙ ap₂ ◌++◌ (walk_nodes n place (suc above) l) (walk_nodes n (place + length (leaves l)) (suc above) r))

pub nodes_down_lem : (rows : List ℕ) (n : ℕ) → nodes_down rows n ≡ nodes_below rows n (2 * n - 2)
unfolding nodes_down branches
nodes_down_lem rows n = walk_nodes n 0 0 (tree_at rows n (2 * n - 2))

-- ---- how many, and which

low_at : (P : Branch → Type 0) (m : ℕ) → ((b : Branch) → P b → b.node ≤ m) → (bs : List Branch) → OnEach P bs → (i : ℕ) → i < length bs → get_or (map (λ b. b.node) bs) i 0 ≤ m
low_at P m f [] a i h = absurd (omega arith)
low_at P m f (b ∷ bs) a zero h = f b a.0
low_at P m f (b ∷ bs) a (suc i) h = low_at P m f bs a.1 i (omega arith)

module _ {rows : List ℕ} {n : ℕ} (p : Rooted rows n) where
  pub nodes_count : length (nodes_down rows n) ≡ 2 * n - 1
  unfolding nodes_down
  nodes_count = length-map (branches rows n) (λ b. b.node) ∙ branches_count p

  pub nodes_low : (i : ℕ) → i < length (nodes_down rows n) → get_or (nodes_down rows n) i 0 ≤ 2 * n - 2
  unfolding nodes_down
  nodes_low i h = low_at (OwnNumbers p) (2 * n - 2) (λ b o. o.node) (branches rows n) (lines_are p) i (omega (arith, length-map (branches rows n) (λ b. b.node)))
