-- The steps of `leaves` in plain lists: what its two calls ask, and what they give together.
-- Assumes nothing.
use mathlib.Core.Path.{◌≡◌, sym, ap, ◌∙◌}
use mathlib.Core.List.{List, [], ◌∷◌, ◌++◌, append_assoc, append-nil}
use Prim.Native.Nat.{ℕ, ◌+◌, ◌-◌, ◌≤◌, ◌<◌}
use native.Mathlib.Omega.{arith}
use lib.ListN.{length, take, drop, length-append, length-drop, drop_of_length-le}
use lib.Seq.{take_at, drop_at, take_all, drop-drop}
use Rattle.lent.specs.Grid.{over}
use Rattle.lent.proofs.Laws.{length_over}
use Rattle.tree.specs.Tree.{left, right, leaves, leaves_of}
use Rattle.tree.specs.Inner.{OnTree, Ready, Written}
use Rattle.tree.proofs.Tree.{tree_leaf, tree_on, on_left, on_right}

-- ---- at an asset

pub leaves_leaf : (rows : List ℕ) (n v : ℕ) → v < n → leaves_of rows n v ≡ v ∷ []
unfolding leaves
leaves_leaf rows n v h = rw (tree_leaf rows n v h)

pub room_leaf : {rows : List ℕ} {n v : ℕ} {out : List ℕ} → Ready rows n v out → v < n → 0 < length out
room_leaf {rows} {n} {v} p h = rw (leaves_leaf rows n v h) at p.room

pub wrote_leaf : (rows : List ℕ) (n v : ℕ) (out after : List ℕ) → v < n → after ≡ over (v ∷ []) out → Written rows n v out after 1
wrote_leaf rows n v out after h e = record { size = rw (leaves_leaf rows n v h); list = rw (leaves_leaf rows n v h) e }

-- ---- at a row's node

-- a slice keeps its length
kept : {rows : List ℕ} {n v : ℕ} {out after : List ℕ} {r : ℕ} → Ready rows n v out → Written rows n v out after r → length after ≡ length out
kept {rows} {n} {v} {out} p w = ap length w.list ∙ length_over (leaves_of rows n v) out p.room

-- the left child's leaves A stand at the front, and the right child's B were written to the part after them
pub join : (A B out mid part : List ℕ) (l : ℕ) → l ≡ length A → mid ≡ over A out → part ≡ over B (take (length mid - l) (drop l mid))
    → take l mid ++ (part ++ drop (length mid - l) (drop l mid)) ≡ over (A ++ B) out
unfolding over
join A B out mid part l hl hm hp =
    let front : take l mid ≡ A = rw hm (take_at A (drop (length A) out) l (sym hl)) in
    let rest : drop l mid ≡ drop (length A) out = rw hm (drop_at A (drop (length A) out) l (sym hl)) in
    let whole : take (length mid - l) (drop l mid) ≡ drop l mid = take_all (length mid - l) (drop l mid) (omega (arith, length-drop l mid)) in
    let none : drop (length mid - l) (drop l mid) ≡ [] = drop_of_length-le (drop l mid) {i = length mid - l} (omega (arith, length-drop l mid)) in
    let wrote : part ≡ B ++ drop (length B) (drop (length A) out) = rw (whole, rest) at hp in
    rw (front, none, wrote, append-nil, drop-drop, length-append, append_assoc)

pub leaves_fork : {rows : List ℕ} {n v : ℕ} → OnTree rows n v → n ≤ v → leaves_of rows n v ≡ leaves_of rows n (left rows (v - n)) ++ leaves_of rows n (right rows (v - n))
unfolding leaves
leaves_fork p ge = rw (tree_on p ge)

module _ {rows : List ℕ} {n v : ℕ} {out : List ℕ} (p : Ready rows n v out) (ge : n ≤ v) where
  size_fork : length (leaves_of rows n v) ≡ length (leaves_of rows n (left rows (v - n))) + length (leaves_of rows n (right rows (v - n)))
  size_fork = rw (leaves_fork p.on ge) (length-append (leaves_of rows n (left rows (v - n))) (leaves_of rows n (right rows (v - n))))

  pub ready_left : Ready rows n (left rows (v - n)) out
  ready_left = record { on = on_left p.on ge; room = omega (arith, size_fork, p.room) }

  -- after the left child's call, which left `mid` and said l
  module _ {mid : List ℕ} {l : ℕ} (w : Written rows n (left rows (v - n)) out mid l) where
    pub mid_size : length mid ≡ length out
    mid_size = kept ready_left w

    pub left_fits : l ≤ length mid
    left_fits = omega (arith, mid_size, size_fork, p.room, w.size)

    pub ready_right : Ready rows n (right rows (v - n)) (take (length mid - l) (drop l mid))
    ready_right = record {
      on = on_right p.on ge;
      room = rw (take_all (length mid - l) (drop l mid) (omega (arith, length-drop l mid)), length-drop l mid) (omega (arith, mid_size, size_fork, p.room, w.size));
    }

    -- and after the right child's, which left `part` and said r
    module _ {part : List ℕ} {r : ℕ} (u : Written rows n (right rows (v - n)) (take (length mid - l) (drop l mid)) part r) where
      pub wrote_fork : Written rows n v out (take l mid ++ (part ++ drop (length mid - l) (drop l mid))) (l + r)
      wrote_fork =
          let A = leaves_of rows n (left rows (v - n)) in
          let B = leaves_of rows n (right rows (v - n)) in
          record {
            size = omega (arith, size_fork, w.size, u.size);
            list = rw (leaves_fork p.on ge) (join A B out mid part l w.size w.list u.list);
          }

      pub kept_fork : length (take l mid ++ (part ++ drop (length mid - l) (drop l mid))) ≡ length out
      kept_fork = kept p wrote_fork

      pub total_fits : l + r ≤ length out
      total_fits = omega (arith, size_fork, w.size, u.size, p.room)
