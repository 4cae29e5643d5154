-- Laws of rows that are written two entries at a time. Assumes nothing.
use Prim.Native.Nat.{ℕ, suc, ◌+◌, ◌*◌, ◌<◌}
use mathlib.Core.Path.{◌≡◌, sym, ap, ap₂, ◌∙◌}
use mathlib.Core.List.{List, [], ◌∷◌, ◌++◌, append_assoc}
use native.Mathlib.Omega.{arith}
use lib.ListN.{length, take, drop, set, length-set, take-append-drop}
use lib.Seq.{take-suc-set, drop-set-lt, drop-drop}
use Rattle.lent.specs.Grid.{over}

-- two entries written one after the other: the part before them with the two, and the part after them
pub take_two : (r : List ℕ) (k a b : ℕ) → 2 * k + 1 < length r
    → take (2 * (k + 1)) (set (set r (2 * k) a) (2 * k + 1) b) ≡ take (2 * k) r ++ (a ∷ b ∷ [])
take_two r k a b h =
    let e : 2 * (k + 1) ≡ suc (suc (2 * k)) = omega arith in
    let f : 2 * k + 1 ≡ suc (2 * k) = omega arith in
    let h1 : suc (2 * k) < length (set r (2 * k) a) = simp length-set (omega arith) in
    let h2 : 2 * k < length r = omega arith in
    rw (e, f) (take-suc-set (set r (2 * k) a) (suc (2 * k)) b h1
    ∙ ap (λ (l : List ℕ). l ++ (b ∷ [])) (take-suc-set r (2 * k) a h2)
    ∙ append_assoc (take (2 * k) r) (a ∷ []) (b ∷ []))

pub drop_two : (r : List ℕ) (k a b : ℕ) → drop (2 * (k + 1)) (set (set r (2 * k) a) (2 * k + 1) b) ≡ drop (2 * (k + 1)) r
drop_two r k a b =
    drop-set-lt (2 * (k + 1)) (set r (2 * k) a) (2 * k + 1) b (omega arith) ∙ drop-set-lt (2 * (k + 1)) r (2 * k) a (omega arith)

pub drop_more : (r s : List ℕ) (k : ℕ) → drop (2 * k) r ≡ drop (2 * k) s → drop (2 * (k + 1)) r ≡ drop (2 * (k + 1)) s
drop_more r s k h =
    let e : 2 * (k + 1) ≡ 2 * k + 2 = omega arith in
    rw (e, ← drop-drop 2 (2 * k) r, ← drop-drop 2 (2 * k) s) (ap (drop 2) h)

-- a list known by its front, which is p, and by its rest, which is l's
pub over_parts : (r p l : List ℕ) (m : ℕ) → length p ≡ m → take m r ≡ p → drop m r ≡ drop m l → r ≡ over p l
unfolding over
over_parts r p l m e f g = sym (take-append-drop m r) ∙ ap₂ ◌++◌ f g ∙ ap (λ (k : ℕ). p ++ drop k l) (sym e)
