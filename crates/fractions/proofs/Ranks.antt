-- In a strict total order of n things, exactly m have fewer than m before them, for every m up to n. Assumes nothing.
use Prim.Native.Nat.{ℕ, zero, suc, ◌+◌, ◌-◌, ◌≤◌, ◌<◌}
use mathlib.Core.Path.{◌≡◌, refl, sym, ap, subst, ◌∙◌}
use mathlib.Core.Bool.{Bool, true, false}
use mathlib.Core.Logic.{◌⊎◌, inl, inr, ⊎_elim}
use native.Mathlib.Nat.{lt_irrefl, le_antisymm}
use native.Mathlib.Numerals.{add-one}
use native.Mathlib.Omega.{arith}
use lib.Dec.{ltb, eqb}
use mir.Val.{bool_byte}
use borrow.Author.Tests.{ltb-true, ltb-false, lt-ltb, le-ltb, ne_eqb}
use Rattle.lent.specs.Count.{one, upto}
use Rattle.lent.proofs.Laws.{either, same_or_not}
use Rattle.lent.proofs.Sizes.{same_test}
use Rattle.lent.proofs.Counting.{one_true, one_false, one_le, upto_same, upto_add, upto_le, upto_is}

-- ---- tests and sums

-- a test cast to a number
pub cast_one : (b : Bool) → bool_byte b ≡ one b
cast_one true = refl
cast_one false = refl

-- a sum as a loop makes it
module _ (f : ℕ → ℕ) where
  pub count_start : 0 ≡ upto f 0
  unfolding upto
  count_start = refl

  pub count_more : (s v k : ℕ) → s ≡ upto f k → v ≡ f k → s + v ≡ upto f (k + 1)
  unfolding upto
  count_more s v k e h = rw (add-one, e, h)

  pub count_end : (s k n : ℕ) → s ≡ upto f k → k ≤ n → n ≤ k → s ≡ upto f n
  count_end s k n e h g = e ∙ ap (upto f) (le_antisymm h g)

-- a test that brings another with it counts no more
pub one_mono : (a b : Bool) → (a ≡ true → b ≡ true) → one a ≤ one b
one_mono a b h =
    ⊎_elim
    (λ e. omega (arith, one_le a, one_true b (h e)))
    (λ e. omega (arith, one_false a e))
    (either a)

-- a sum that is nowhere more, and less at j, is less
pub upto_less : (f g : ℕ → ℕ) (n j : ℕ) → j < n → ((a : ℕ) → a < n → f a ≤ g a) → f j < g j → upto f n < upto g n
upto_less f g n j l h s =
    let more : upto (λ a. f a + one (eqb j a)) n ≤ upto g n = upto_le (λ a. f a + one (eqb j a)) g n at in
    let both : upto (λ a. f a + one (eqb j a)) n ≡ upto f n + upto (λ a. one (eqb j a)) n = upto_add f (λ a. one (eqb j a)) n in
    let hit : upto (λ a. one (eqb j a)) n ≡ 1 = upto_is j n ∙ one_true (ltb j n) (lt-ltb j n l) in
    omega arith
  where
    at : (a : ℕ) → a < n → f a + one (eqb j a) ≤ g a
    at a k =
        ⊎_elim
        (λ e. let q = one_le (eqb j a) in let p : f a < g a = subst (λ (x : ℕ). f x < g x) e s in omega arith)
        (λ e. omega (arith, one_false (eqb j a) (ne_eqb j a e), h a k))
        (same_or_not j a)

-- n tests count no more than n
pub upto_most : (n : ℕ) (t : ℕ → Bool) → upto (λ a. one (t a)) n ≤ n
unfolding upto
upto_most zero t = omega arith
upto_most (suc n) t = omega (arith, upto_most n t, one_le (t n))

-- ---- the order: b j i where j comes before i

module _ (b : ℕ → ℕ → Bool) (irr : (i : ℕ) → b i i ≡ false) (tr : (i j k : ℕ) → b i j ≡ true → b j k ≡ true → b i k ≡ true) (tot : (i j : ℕ) → (i ≡ j → ⊥) → b i j ≡ false → b j i ≡ true) where
  -- who comes before another of the first n has a lower rank among them
  pub rank_less : (n i k : ℕ) → i < n → b i k ≡ true → upto (λ j. one (b j i)) n < upto (λ j. one (b j k)) n
  rank_less n i k l e =
      upto_less (λ j. one (b j i)) (λ j. one (b j k)) n i l (λ a h. one_mono (b a i) (b a k) (λ t. tr a i k t e))
      (omega (arith, one_false (b i i) (irr i), one_true (b i k) e))

  -- and who comes before another has no higher rank
  pub rank_le : (n i k : ℕ) → b i k ≡ true → upto (λ j. one (b j i)) n ≤ upto (λ j. one (b j k)) n
  rank_le n i k e = upto_le (λ j. one (b j i)) (λ j. one (b j k)) n (λ a h. one_mono (b a i) (b a k) (λ t. tr a i k t e))

  -- the rank of i among the first n + 1: one more where thing n comes before it
  before_last : (n m i : ℕ) → i < n → m ≤ upto (λ j. one (b j n)) n
      → one (ltb (upto (λ j. one (b j i)) n + one (b n i)) m) ≡ one (ltb (upto (λ j. one (b j i)) n) m)
  before_last n m i l h =
      ⊎_elim
      (λ e. ap (λ (x : ℕ). one (ltb (upto (λ j. one (b j i)) n + x) m)) (one_false (b n i) e) ∙ ap (λ (x : ℕ). one (ltb x m)) (plus_none (upto (λ j. one (b j i)) n)))
      (λ e.
      let r : upto (λ j. one (b j n)) n ≤ upto (λ j. one (b j i)) n = rank_le n n i e in
      one_false _ (le-ltb _ m (omega arith)) ∙ sym (one_false _ (le-ltb _ m (omega arith))))
      (flip (either (b n i)))
    where
      plus_none : (x : ℕ) → x + 0 ≡ x
      plus_none x = omega arith

      flip : {A B : Type 0} → A ⊎ B → B ⊎ A
      flip (inl x) = inr x
      flip (inr x) = inl x

  after_last : (n m i : ℕ) → i < n → upto (λ j. one (b j n)) n < m
      → one (ltb (upto (λ j. one (b j i)) n + one (b n i)) m) ≡ one (ltb (upto (λ j. one (b j i)) n) (m - 1))
  after_last n m i l h =
      ⊎_elim
      (λ e.
      let o : one (b n i) ≡ 1 = one_true (b n i) e in
      ap one (same_test (upto (λ j. one (b j i)) n + one (b n i)) m (upto (λ j. one (b j i)) n) (m - 1) (λ q. omega arith) (λ q. omega arith)))
      (λ e.
      let o : one (b n i) ≡ 0 = one_false (b n i) e in
      let t : b i n ≡ true = tot n i (λ q. lt_irrefl i (subst (λ (x : ℕ). i < x) q l)) e in
      let r : upto (λ j. one (b j i)) n < upto (λ j. one (b j n)) n = rank_less n i n l t in
      ap one (same_test (upto (λ j. one (b j i)) n + one (b n i)) m (upto (λ j. one (b j i)) n) (m - 1) (λ q. omega arith) (λ q. omega arith)))
      (either (b n i))

  -- exactly m of n have a rank below m
  pub ranks : (n m : ℕ) → m ≤ n → upto (λ i. one (ltb (upto (λ j. one (b j i)) n) m)) n ≡ m
  unfolding upto
  ranks zero m h = omega arith
  ranks (suc n) m h =
      ⊎_elim
      (λ e.
      let l : upto (λ j. one (b j n)) n < m = ltb-true _ m e in
      let s : upto (λ i. one (ltb (upto (λ j. one (b j i)) n + one (b n i)) m)) n ≡ upto (λ i. one (ltb (upto (λ j. one (b j i)) n) (m - 1))) n =
      upto_same (λ i. one (ltb (upto (λ j. one (b j i)) n + one (b n i)) m)) (λ i. one (ltb (upto (λ j. one (b j i)) n) (m - 1))) n (λ i k. after_last n m i k l) in
      let r : upto (λ i. one (ltb (upto (λ j. one (b j i)) n) (m - 1))) n ≡ m - 1 = ranks n (m - 1) (omega arith) in
      let o : one (b n n) ≡ 0 = one_false (b n n) (irr n) in
      let last : one (ltb (upto (λ j. one (b j n)) n + one (b n n)) m) ≡ 1 = one_true _ (lt-ltb _ m (omega arith)) in
      omega arith)
      (λ e.
      let l : m ≤ upto (λ j. one (b j n)) n = ltb-false _ m e in
      let most : upto (λ j. one (b j n)) n ≤ n = upto_most n (λ j. b j n) in
      let s : upto (λ i. one (ltb (upto (λ j. one (b j i)) n + one (b n i)) m)) n ≡ upto (λ i. one (ltb (upto (λ j. one (b j i)) n) m)) n =
      upto_same (λ i. one (ltb (upto (λ j. one (b j i)) n + one (b n i)) m)) (λ i. one (ltb (upto (λ j. one (b j i)) n) m)) n (λ i k. before_last n m i k l) in
      let r : upto (λ i. one (ltb (upto (λ j. one (b j i)) n) m)) n ≡ m = ranks n m (omega arith) in
      let o : one (b n n) ≡ 0 = one_false (b n n) (irr n) in
      let last : one (ltb (upto (λ j. one (b j n)) n + one (b n n)) m) ≡ 0 = one_false _ (le-ltb _ m (omega arith)) in
      omega arith)
      (either (ltb (upto (λ j. one (b j n)) n) m))
