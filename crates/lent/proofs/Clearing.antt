-- A loop that clears a buffer from a place on, over any element: clearing_start, clearing_step, clearing_end. Assumes nothing.
use Prim.Native.Nat.{ℕ, zero, suc, ◌+◌, ◌-◌, ◌<◌, ◌≤◌}
use mathlib.Core.Path.{◌≡◌, refl, sym, ap, ◌∙◌}
use mathlib.Core.List.{List, [], ◌∷◌, ◌++◌, append_assoc, append-nil}
use native.Mathlib.Numerals.{add-one, unary_clauses}
use native.Mathlib.Omega.{arith}
use lib.ListN.{length, set, take, replicate, length-set}
use lib.Seq.{take_all, take-suc-set}

-- out is what out₀ is with the entries from start up to i cleared
pub record Clearing {A : Type 0} (z : A) (start : ℕ) (out₀ : List A) (i : ℕ) (out : List A) : Type 0 where
  pub past : start ≤ i
  pub within : i - start ≤ length out₀ - start
  pub same : length out ≡ length out₀
  pub front : take i out ≡ take start out₀ ++ replicate (i - start) z

module _ {A : Type 0} where
  replicate_snoc : (k : ℕ) (z : A) → replicate k z ++ (z ∷ []) ≡ replicate (suc k) z
  replicate_snoc zero z = refl
  replicate_snoc (suc k) z = ap (λ (l : List A). z ∷ l) (replicate_snoc k z)

  pub clearing_start : (z : A) (start : ℕ) (out : List A) → Clearing z start out start out
  clearing_start z start out =
      let e : start - start ≡ 0 = omega arith in
      record { past = omega arith; within = omega arith; same = refl; front = rw e (sym (append-nil (take start out))) }

  pub clearing_step : {z : A} {start : ℕ} {out₀ : List A} {i : ℕ} {out : List A} → Clearing z start out₀ i out → i < length out → Clearing z start out₀ (i + 1) (set out i z)
  clearing_step {z} {start} {out₀} {i} {out} p h =
      let past : start ≤ i = p.past in
      let same : length out ≡ length out₀ = p.same in
      let e : i + 1 - start ≡ suc (i - start) = omega arith in
      record {
        past = omega arith;
        within = omega arith;
        same = length-set out i z ∙ same;
        front = rw (e, add-one, ← replicate_snoc (i - start) z)
            (take-suc-set out i z h
            ∙ ap (λ (l : List A). l ++ (z ∷ [])) p.front
            ∙ append_assoc (take start out₀) (replicate (i - start) z) (z ∷ []));
      }

  pub clearing_end : {z : A} {start : ℕ} {out₀ : List A} {i : ℕ} {out : List A} → Clearing z start out₀ i out → length out ≤ i → out ≡ take start out₀ ++ replicate (length out₀ - start) z
  clearing_end {z} {start} {out₀} {i} {out} p h =
      let within : i - start ≤ length out₀ - start = p.within in
      let same : length out ≡ length out₀ = p.same in
      let e : i - start ≡ length out₀ - start = omega arith in
      sym (take_all i out h) ∙ p.front ∙ ap (λ (k : ℕ). take start out₀ ++ replicate k z) e

-- cleared from its start on
pub cleared : (d out : List ℕ) → out ≡ take 0 d ++ replicate (length d - 0) 0 → out ≡ replicate (length d) 0
cleared d out e = simp unary_clauses at e
