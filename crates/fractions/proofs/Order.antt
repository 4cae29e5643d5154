-- Who comes before whom is a strict total order, so that exactly m of n assets have fewer than m before them. Assumes nothing.
use Prim.Native.Nat.{ℕ, ◌≤◌, ◌<◌}
use mathlib.Core.Path.{◌≡◌, refl, sym, subst, ◌∙◌}
use mathlib.Core.Bool.{Bool, true, false, ◌&&◌, ◌||◌, true≢false}
use mathlib.Core.Logic.{◌⊎◌, inl, inr, ⊎_elim}
use native.Mathlib.Nat.{lt_irrefl}
use native.Mathlib.Omega.{arith}
use borrow.Author.Tests.{ltb-true, ltb-false, lt-ltb, eqb-true, eq-eqb}
use lib.Dec.{ltb, eqb}
use Rattle.lent.specs.Count.{one, upto}
use Rattle.lent.proofs.Laws.{either}
use Rattle.fractions.specs.Fractions.{sooner, rank_of}
use Rattle.fractions.proofs.Ranks.{rank_le, ranks}

or_yes : (p q r : Bool) → (p || (q && r)) ≡ true → (p ≡ true) ⊎ ((q ≡ true) × (r ≡ true))
or_yes true q r e = inl refl
or_yes false true true e = inr (refl, refl)
or_yes false true false e = absurd (true≢false (sym e))
or_yes false false r e = absurd (true≢false (sym e))

yes_left : (p q r : Bool) → p ≡ true → (p || (q && r)) ≡ true
yes_left p q r e = rw e

yes_right : (p q r : Bool) → q ≡ true → r ≡ true → (p || (q && r)) ≡ true
yes_right true q r e f = refl
yes_right false q r e f = rw (e, f)

module _ (left : ℕ → ℕ) where
  pub sooner_is : (j i : ℕ) → sooner left j i ≡ true → (left i < left j) ⊎ ((left j ≡ left i) × (j < i))
  unfolding sooner
  sooner_is j i e =
      ⊎_elim
      (λ p. inl (ltb-true (left i) (left j) p))
      (λ q. inr (eqb-true (left j) (left i) q.0, ltb-true j i q.1))
      (or_yes (ltb (left i) (left j)) (eqb (left j) (left i)) (ltb j i) e)

  pub is_sooner : (j i : ℕ) → (left i < left j) ⊎ ((left j ≡ left i) × (j < i)) → sooner left j i ≡ true
  unfolding sooner
  is_sooner j i s =
      ⊎_elim
      (λ p. yes_left _ (eqb (left j) (left i)) (ltb j i) (lt-ltb (left i) (left j) p))
      (λ q. yes_right (ltb (left i) (left j)) _ _ (eq-eqb (left j) (left i) q.0) (lt-ltb j i q.1))
      s

  pub not_both : (j i : ℕ) → sooner left j i ≡ true → sooner left i j ≡ true → ⊥
  not_both j i p q =
      ⊎_elim
      (λ a. ⊎_elim (λ b. omega arith) (λ b. let x = b.0 in omega arith) (sooner_is i j q))
      (λ a. let x = a.0 in let y = a.1 in ⊎_elim (λ b. omega arith) (λ b. let z = b.1 in omega arith) (sooner_is i j q))
      (sooner_is j i p)

  pub irreflexive : (i : ℕ) → sooner left i i ≡ false
  irreflexive i = ⊎_elim (λ e. absurd (not_both i i e e)) (λ e. e) (either (sooner left i i))

  transitive : (i j k : ℕ) → sooner left i j ≡ true → sooner left j k ≡ true → sooner left i k ≡ true
  transitive i j k p q =
      is_sooner i k
      (⊎_elim
      (λ a. ⊎_elim (λ b. inl (omega arith)) (λ b. let x = b.0 in inl (omega arith)) (sooner_is j k q))
      (λ a. let x = a.0 in let y = a.1 in ⊎_elim (λ b. inl (omega arith)) (λ b. let z = b.0 in let v = b.1 in inr (omega arith, omega arith)) (sooner_is j k q))
      (sooner_is i j p))

  total : (i j : ℕ) → (i ≡ j → ⊥) → sooner left i j ≡ false → sooner left j i ≡ true
  total i j d e =
      ⊎_elim
      (λ p. is_sooner j i (inl (ltb-true (left i) (left j) p)))
      (λ p.
      let l : left j ≤ left i = ltb-false (left i) (left j) p in
      ⊎_elim
      (λ q. absurd (true≢false (sym (is_sooner i j (inl (ltb-true (left j) (left i) q))) ∙ e)))
      (λ q.
      let k : left i ≤ left j = ltb-false (left j) (left i) q in
      ⊎_elim
      (λ t. absurd (true≢false (sym (is_sooner i j (inr (omega arith, ltb-true i j t))) ∙ e)))
      (λ t. let m : j ≤ i = ltb-false i j t in is_sooner j i (inr (omega arith, omega arith)))
      (either (ltb i j)))
      (either (ltb (left j) (left i))))
      (either (ltb (left i) (left j)))

  -- a lower rank is an earlier turn
  pub rank_order : (n i j : ℕ) → rank_of left n i < rank_of left n j → sooner left i j ≡ true
  unfolding rank_of
  rank_order n i j h =
      ⊎_elim
      (λ e. e)
      (λ e.
      let d : i ≡ j → ⊥ = λ q. lt_irrefl _ (subst (λ (k : ℕ). rank_of left n i < rank_of left n k) (sym q) h) in
      let r : rank_of left n j ≤ rank_of left n i = rank_le (sooner left) irreflexive transitive total n j i (total i j d e) in
      absurd (omega arith))
      (either (sooner left i j))

  -- exactly m of n have fewer than m before them
  pub ranked : (n m : ℕ) → m ≤ n → upto (λ i. one (ltb (rank_of left n i) m)) n ≡ m
  unfolding rank_of
  ranked n m h = ranks (sooner left) irreflexive transitive total n m h
