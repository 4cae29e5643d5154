-- A buffer filled from its front by a loop that may have more to tell than the buffer holds. Assumes nothing.
use Prim.Native.Nat.{ℕ, ◌+◌, ◌<◌, ◌≤◌}
use mathlib.Core.Path.{◌≡◌, refl, sym, ap, ◌∙◌, subst}
use mathlib.Core.List.{List}
use mathlib.Core.Logic.{◌⊎◌, ⊎_elim}
use native.Mathlib.Nat.{lt_of_not-le}
use native.Mathlib.Omega.{arith}
use lib.ListN.{length, get_or, set, length-set}
use lib.Seq.{get_or-set_same, get_or-set_other}
use Rattle.lent.specs.Grid.{tab}
use Rattle.lent.proofs.Laws.{same_or_not, tab_of}

module _ {A : Type 0} (z : A) (f : ℕ → A) where
  -- as far as it reaches, the first j entries are f's
  pub record Front (j : ℕ) (l : List A) : Type 0 where
    pub are : (k : ℕ) → k < j → k < length l → get_or l k z ≡ f k

  pub front_start : (l : List A) → Front 0 l
  front_start l = record { are = λ k h i. absurd (omega arith) }

  pub front_put : (j : ℕ) (l : List A) (v : A) → Front j l → j < length l → v ≡ f j → Front (j + 1) (set l j v)
  front_put j l v w h e = record {
    are = λ k m i.
        ⊎_elim
        (λ q. ap (λ (a : ℕ). get_or (set l j v) a z) q ∙ get_or-set_same l j v z h ∙ e ∙ ap f (sym q))
        (λ n. get_or-set_other l j k v z n ∙ w.are k (lt_of_not-le (λ b. n (omega arith))) (omega (arith, length-set l j v)))
        (same_or_not k j);
  }

  pub front_past : (j : ℕ) (l : List A) → Front j l → length l ≤ j → Front (j + 1) l
  front_past j l w h = record { are = λ k m i. w.are k (omega arith) i }

  pub front_end : (j : ℕ) (l : List A) → Front j l → length l ≤ j → l ≡ tab (length l) f
  front_end j l w h = tab_of (length l) f l z refl (λ k m. w.are k (omega arith) m)

  -- a loop's step: entry j is written where there is one
  pub front_step : (j : ℕ) (l : List A) (v : A) (l' : List A) → Front j l → v ≡ f j → ((j < length l) × (l' ≡ set l j v)) ⊎ ((length l ≤ j) × (l' ≡ l))
      → (length l' ≡ length l) × Front (j + 1) l'
  front_step j l v l' w e came =
      ⊎_elim
      (λ t. (ap length t.1 ∙ length-set l j v, subst (Front (j + 1)) (sym t.1) (front_put j l v w t.0 e)))
      (λ t. (ap length t.1, subst (Front (j + 1)) (sym t.1) (front_past j l w t.0)))
      came
