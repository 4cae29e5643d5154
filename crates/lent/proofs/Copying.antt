-- A loop that copies one list over the front of another, and what callers use of what it leaves. Assumes nothing.
use Prim.Native.Nat.{ℕ, ◌+◌, ◌<◌, ◌≤◌, min}
use mathlib.Core.Path.{◌≡◌, refl, sym, ap, ◌∙◌}
use mathlib.Core.List.{List, [], ◌∷◌, ◌++◌}
use native.Mathlib.Decide.{dec_le}
use native.Mathlib.Numerals.{add-one}
use Rattle.std.proofs.lemmas.List.{take_min}
use native.Mathlib.Omega.{arith}
use lib.ListN.{length, get_or, set, take, drop, length-set}
use lib.Seq.{take_all, take-suc, take_at, length-take-le}
use Rattle.lent.specs.Grid.{over}
use Rattle.lent.proofs.Laws.{over_push, over_all_lem}

-- to is what to₀ is with the first k entries of from over its front
pub record Copying {A : Type 0} (from to₀ : List A) (k : ℕ) (to : List A) : Type 0 where
  pub within : k ≤ length from
  pub fits : k ≤ length to₀
  pub same : length to ≡ length to₀
  pub front : to ≡ over (take k from) to₀

module _ {A : Type 0} where
  pub copying_start : (from to : List A) → Copying from to 0 to
  unfolding over
  copying_start from to = record { within = omega arith; fits = omega arith; same = refl; front = refl }

  pub copying_step : {from to₀ to : List A} {k : ℕ} (d : A) → Copying from to₀ k to → k < length from → k < length to → Copying from to₀ (k + 1) (set to k (get_or from k d))
  copying_step {from} {to₀} {to} {k} d p h g =
      let same : length to ≡ length to₀ = p.same in
      let q : set (over (take k from) to₀) k (get_or from k d) ≡ over (take k from ++ (get_or from k d ∷ [])) to₀ =
      over_push (take k from) to₀ k (get_or from k d) (length-take-le k from p.within) (omega arith) in
      record {
        within = omega arith;
        fits = omega arith;
        same = length-set to k (get_or from k d) ∙ same;
        front = ap (λ (l : List A). set l k (get_or from k d)) p.front ∙ q ∙ rw (add-one, take-suc from k d h);
      }

  -- all of from is copied, or to is full
  pub copying_all : {from to₀ to : List A} {k : ℕ} → Copying from to₀ k to → length from ≤ k → to ≡ over (take (length to₀) from) to₀
  copying_all {from} {to₀} {to} {k} p h =
      let fits : k ≤ length to₀ = p.fits in
      p.front ∙ ap (λ (l : List A). over l to₀) (take_all k from h ∙ sym (take_all (length to₀) from (omega arith)))

  pub copying_full : {from to₀ to : List A} {k : ℕ} → Copying from to₀ k to → length to ≤ k → to ≡ over (take (length to₀) from) to₀
  copying_full {from} {to₀} {to} {k} p h =
      let fits : k ≤ length to₀ = p.fits in
      let same : length to ≡ length to₀ = p.same in
      let e : k ≡ length to₀ = omega arith in
      p.front ∙ ap (λ (n : ℕ). over (take n from) to₀) e

  -- as many are copied as both have
  pub copying_end : {from to₀ to : List A} {k : ℕ} → Copying from to₀ k to → min (length from) (length to) ≤ k → to ≡ over (take (length to₀) from) to₀
  copying_end {from} {to₀} {to} {k} p h = go (dec_le (length from) k)
    where
      go : Dec (length from ≤ k) → to ≡ over (take (length to₀) from) to₀
      go (yes g) = copying_all p g
      go (no g) = copying_full p (omega arith)

  -- as many as both have
  pub copied_short : (from to p : List A) (n : ℕ) → n ≡ min (length to) (length from) → p ≡ take n from → p ++ drop n to ≡ over (take (length to) from) to
  unfolding over
  copied_short from to p n e f =
      let t : take (length to) from ≡ take n from = rw e (sym (take_min (length to) from)) in
      let k : length (take n from) ≡ n = length-take-le n from (omega arith) in
      rw (t, k, f) refl

  -- what a caller has of it: lists of one length, and a list that fits
  pub copied_whole : (from to : List A) → length to ≡ length from → over (take (length to) from) to ≡ from
  copied_whole from to e =
      let t : take (length to) from ≡ from = take_all (length to) from (omega arith) in
      rw t (over_all_lem from to (sym e))

  pub copied_front : (from to : List A) → length from ≤ length to → take (length from) (over (take (length to) from) to) ≡ from
  unfolding over
  copied_front from to h =
      let t : take (length to) from ≡ from = take_all (length to) from h in
      rw t (take_at from (drop (length from) to) (length from) refl)
