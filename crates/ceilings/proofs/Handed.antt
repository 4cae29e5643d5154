-- An amount handed out in order, each one filled up to its gap: the steps of the loops, what is handed out in all, and that no other way is in order. Assumes nothing.
use Prim.Native.Nat.{ℕ, zero, suc, ◌+◌, ◌-◌, ◌≤◌, ◌<◌, min}
use mathlib.Core.Path.{◌≡◌, refl, sym, ap, subst, ◌∙◌}
use mathlib.Core.Logic.{⊎_elim}
use mathlib.Core.List.{List}
use native.Mathlib.Nat.{le_of_suc-le-suc, eq-or-lt_of_le}
use native.Mathlib.Numerals.{add-one}
use native.Mathlib.Omega.{arith}
use borrow.Author.Tests.{ltb-true, ltb-false}
use lib.Dec.{ltb}
use lib.ListN.{get_or}
use Rattle.lent.specs.Count.{upto}
use Rattle.lent.specs.Grid.{tab, over}
use Rattle.lent.proofs.Laws.{either, unwritten}
use Rattle.ceilings.specs.Ceilings.{kept_at, gap_at, cut_total, left_for, capped_at}

-- what is left when a gap has been filled
less_min : (l g : ℕ) → l - min g l ≡ l - g
less_min l g = omega arith

module _ (gap : ℕ → ℕ) (amount : ℕ) where
  pub left_start : amount ≡ left_for gap amount 0
  unfolding left_for
  left_start = refl

  pub left_more : (l m v k : ℕ) → l ≡ left_for gap amount k → v ≡ gap k → m ≡ min v l → l - m ≡ left_for gap amount (k + 1)
  unfolding left_for
  left_more l m v k e h q = ap (λ (x : ℕ). l - x) q ∙ less_min l v ∙ ap (λ (x : ℕ). x - v) e ∙ ap (λ (x : ℕ). left_for gap amount k - x) h ∙ ap (left_for gap amount) (sym (add-one k))

  -- it goes down by the gaps
  pub left_is : (n : ℕ) → left_for gap amount n ≡ amount - upto gap n
  unfolding left_for upto
  left_is zero = omega arith
  left_is (suc n) = omega (arith, left_is n)

  -- what is handed out, and what is left over
  pub handed : (n : ℕ) → upto (λ i. min (gap i) (left_for gap amount i)) n + left_for gap amount n ≡ amount
  unfolding left_for upto
  handed zero = omega arith
  handed (suc n) = omega (arith, handed n)

-- ---- an amount that n are given, nobody more than the gap, and nobody after one who lacks something: it is handed out in order

-- the first k and the next are given no more than the first m
pub grows : (f : ℕ → ℕ) (k m : ℕ) → k < m → upto f k + f k ≤ upto f m
unfolding upto
grows f k zero h = absurd (omega arith)
grows f k (suc m) h = ⊎_elim (λ (e : k ≡ m). subst (λ (x : ℕ). upto f k + f k ≤ upto f x + f x) e (omega arith)) (λ (l : k < m). omega (arith, grows f k m l)) (eq-or-lt_of_le (le_of_suc-le-suc h))

module _ (gap given : ℕ → ℕ) (n : ℕ) (below : (i : ℕ) → i < n → given i ≤ gap i) (order : (i j : ℕ) → i < j → j < n → 0 < given j → given i ≡ gap i) where
  -- nobody after one who lacks something has any
  none_after : (k m : ℕ) → k < m → m ≤ n → given k < gap k → upto given m ≡ upto given k + given k
  unfolding upto
  none_after k zero h l g = absurd (omega arith)
  none_after k (suc m) h l g =
      ⊎_elim
      (λ (e : k ≡ m). ap (λ (x : ℕ). upto given x + given x) (sym e))
      (λ (h' : k < m).
      ⊎_elim
      (λ p. absurd (let q : given k ≡ gap k = order k m h' l (ltb-true 0 (given m) p) in omega arith))
      (λ p. let q : given m ≤ 0 = ltb-false 0 (given m) p in omega (arith, none_after k m h' (omega arith) g))
      (either (ltb 0 (given m))))
      (eq-or-lt_of_le (le_of_suc-le-suc h))

  -- k is given its gap, or all that is left
  takes : (k left : ℕ) → k < n → left + upto given k ≡ upto given n → given k ≡ min (gap k) left
  takes k left h e =
      let b = below k h in
      let m = grows given k n h in
      ⊎_elim
      (λ p. let q = none_after k n h (omega arith) (ltb-true (given k) (gap k) p) in omega arith)
      (λ p. let q : gap k ≤ given k = ltb-false (given k) (gap k) p in omega arith)
      (either (ltb (given k) (gap k)))

  left_given : (k : ℕ) → k ≤ n → left_for gap (upto given n) k + upto given k ≡ upto given n
  unfolding left_for upto
  left_given zero h = omega arith
  left_given (suc k) h =
      let i = left_given k (omega arith) in
      let t = takes k (left_for gap (upto given n) k) h i in
      omega arith

  pub given_is : (k : ℕ) → k < n → given k ≡ min (gap k) (left_for gap (upto given n) k)
  given_is k h = takes k (left_for gap (upto given n) k) h (left_given k (omega arith))

-- ---- a turn of the loop that cuts and fills

module _ (xs cs d : List ℕ) (k kept more left : ℕ) (e : d ≡ over (tab k (capped_at xs cs)) xs) (a : kept ≡ min (get_or d k 0) (get_or cs k 0)) (b : more ≡ min (get_or cs k 0 - kept) left)
    (l : left ≡ left_for (gap_at xs cs) (cut_total xs cs) k) where
  kept_is : kept ≡ kept_at xs cs k
  unfolding kept_at
  kept_is = a ∙ ap (λ (x : ℕ). min x (get_or cs k 0)) (unwritten d xs (capped_at xs cs) k 0 e)

  gap_is : get_or cs k 0 - kept ≡ gap_at xs cs k
  unfolding gap_at
  gap_is = ap (λ (x : ℕ). get_or cs k 0 - x) kept_is

  pub turn_part : kept + more ≡ capped_at xs cs k
  unfolding capped_at
  turn_part = rw (b, gap_is, l, kept_is)

  pub turn_left : left - more ≡ left_for (gap_at xs cs) (cut_total xs cs) (k + 1)
  turn_left = left_more (gap_at xs cs) (cut_total xs cs) left more (get_or cs k 0 - kept) k l gap_is b
