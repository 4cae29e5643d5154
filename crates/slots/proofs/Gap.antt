-- The loop that leaves y out: before turn j those of the first j entries that stay are written over the list. Assumes nothing.
use Prim.Native.Nat.{ℕ, ◌+◌, ◌-◌, ◌≤◌, ◌<◌, zero-le, min}
use mathlib.Core.Path.{◌≡◌, refl, sym, ap, ◌∙◌}
use mathlib.Core.Logic.{◌⊎◌, inl, inr, ⊎_elim}
use mathlib.Core.List.{List, [], ◌∷◌, ◌++◌}
use native.Mathlib.Nat.{min-eq_left, min-eq_right}
use native.Mathlib.Numerals.{add-one}
use native.Mathlib.Omega.{arith}
use lib.ListN.{length, get_or, set, take, drop, length-append}
use lib.Seq.{take_all, take-length, take-suc, get_or-drop, get_or-append-add}
use lib.Dec.{ltb}
use borrow.Author.Tests.{ltb-true, ltb-false}
use Rattle.lent.specs.Grid.{over}
use Rattle.lent.proofs.Laws.{either, over_push, length_over}
use Rattle.slots.specs.Slots.{without}
use Rattle.slots.proofs.Packed.{without_stays, without_goes}

pub record Gap (l : List ℕ) (y j : ℕ) (slots : List ℕ) (w : ℕ) : Type 0 where
  pub low : w ≤ j
  pub many : length (without y (take j l)) ≡ w
  pub is : slots ≡ over (without y (take j l)) l

pub gap_start : (l : List ℕ) (y : ℕ) → Gap l y 0 l 0
unfolding without over
gap_start l y = record { low = zero-le; many = refl; is = refl }

-- behind what is written a list is as it was
over_rest : (p l : List ℕ) (k : ℕ) → length p ≤ k → get_or (over p l) k 0 ≡ get_or l k 0
unfolding over
over_rest p l k h =
    let e : k ≡ length p + (k - length p) = omega arith in
    ap (λ (i : ℕ). get_or (p ++ drop (length p) l) i 0) e
    ∙ get_or-append-add p (drop (length p) l) (k - length p) 0
    ∙ get_or-drop (length p) l (k - length p) 0
    ∙ ap (λ (i : ℕ). get_or l i 0) (sym e)

module _ (l : List ℕ) (y j : ℕ) (slots : List ℕ) (w : ℕ) (h : j < length l) (g : Gap l y j slots w) where
  same_entry : get_or slots j 0 ≡ get_or l j 0
  same_entry = ap (λ (s : List ℕ). get_or s j 0) g.is ∙ over_rest (without y (take j l)) l j (omega (arith, g.many, g.low))

  more_front : take (j + 1) l ≡ take j l ++ (get_or slots j 0 ∷ [])
  more_front = ap (λ (k : ℕ). take k l) (add-one j) ∙ take-suc l j 0 h ∙ ap (λ (k : ℕ). take j l ++ (k ∷ [])) (sym same_entry)

  pub gap_goes : get_or slots j 0 ≡ y → Gap l y (j + 1) slots w
  gap_goes q =
      let z : without y (take (j + 1) l) ≡ without y (take j l) = ap (without y) more_front ∙ without_goes y (take j l) (get_or slots j 0) q in
      record { low = omega (arith, g.low); many = ap length z ∙ g.many; is = g.is ∙ ap (λ (p : List ℕ). over p l) (sym z) }

  pub gap_stays : (get_or slots j 0 ≡ y → ⊥) → Gap l y (j + 1) (set slots w (get_or slots j 0)) (w + 1)
  gap_stays q =
      let s = get_or slots j 0 in
      let z : without y (take (j + 1) l) ≡ without y (take j l) ++ (s ∷ []) = ap (without y) more_front ∙ without_stays y (take j l) s q in
      record {
        low = omega (arith, g.low);
        many = ap length z ∙ length-append (without y (take j l)) (s ∷ []) ∙ ap (λ (k : ℕ). k + 1) g.many;
        is = ap (λ (t : List ℕ). set t w s) g.is ∙ over_push (without y (take j l)) l w s g.many (omega (arith, g.low)) ∙ ap (λ (p : List ℕ). over p l) (sym z);
      }

either_le : (m n : ℕ) → (m ≤ n) ⊎ (n ≤ m)
either_le m n = ⊎_elim (λ e. inr (omega (arith, ltb-true n m e))) (λ e. inl (ltb-false n m e)) (either (ltb n m))

-- the loop has run where its counter has reached the smaller of m and the list's length
pub gap_end : (l : List ℕ) (y j m : ℕ) (slots : List ℕ) (w : ℕ) → Gap l y j slots w → j ≡ min m (length l) → slots ≡ over (without y (take m l)) l
gap_end l y j m slots w g e =
    let t : take j l ≡ take m l =
    ⊎_elim
    (λ h. ap (λ (k : ℕ). take k l) (e ∙ min-eq_left h))
    (λ h. ap (λ (k : ℕ). take k l) (e ∙ min-eq_right h) ∙ take-length l ∙ sym (take_all m l h))
    (either_le m (length l)) in
    g.is ∙ ap (λ (r : List ℕ). over (without y r) l) t

pub gap_length : (l : List ℕ) (y j : ℕ) (slots : List ℕ) (w : ℕ) → Gap l y j slots w → j ≤ length l → length slots ≡ length l
gap_length l y j slots w g h = ap length g.is ∙ length_over (without y (take j l)) l (omega (arith, g.many, g.low))
