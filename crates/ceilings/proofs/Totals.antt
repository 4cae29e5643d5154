-- A list's total kept at most one above 1,000,000, as a loop makes it, and what it decides. Assumes nothing.
use Prim.Native.Nat.{ℕ, ◌+◌, ◌-◌, ◌≤◌, min}
use mathlib.Core.Path.{◌≡◌, refl, ap}
use mathlib.Core.Bool.{not}
use mathlib.Core.List.{List}
use native.Mathlib.Nat.{le_antisymm}
use native.Mathlib.Numerals.{add-one}
use native.Mathlib.Omega.{arith}
use lib.Dec.{ltb, eqb}
use lib.ListN.{length, get_or}
use Rattle.lent.specs.Count.{upto}
use Rattle.lent.proofs.Counting.{over_all_places}
use Rattle.lent.proofs.Sizes.{same_test, same_equal}
use Rattle.millionths.specs.Meaning.{total_of}
use Rattle.ceilings.specs.Ceilings.{too_low}

-- a list's total, by its places
pub total_places : (l : List ℕ) (n : ℕ) → length l ≡ n → total_of l ≡ upto (λ i. get_or l i 0) n
total_places l n e = over_all_places l n (λ i. get_or l i 0) e (λ k h. refl)

module _ (l : List ℕ) where
  -- the first k entries' total, kept so
  abbrev pub kept_to : ℕ → ℕ
  kept_to k = min (upto (λ i. get_or l i 0) k) 1000001

  pub kept_start : 0 ≡ kept_to 0
  unfolding upto
  kept_start = omega arith

  pub kept_more : (s v k : ℕ) → s ≡ kept_to k → v ≡ min (get_or l k 0) (1000001 - s) → s + v ≡ kept_to (k + 1)
  unfolding upto
  kept_more s v k e h = rw add-one (omega arith)

  pub kept_end : (s k : ℕ) → s ≡ kept_to k → k ≤ length l → length l ≤ k → s ≡ min (total_of l) 1000001
  kept_end s k e h g = rw (total_places l k (le_antisymm g h)) e

  -- it is as good as the total for both tests
  module _ (s : ℕ) (e : s ≡ min (total_of l) 1000001) where
    pub kept_low : ltb s 1000000 ≡ too_low l
    unfolding too_low
    kept_low = same_test s 1000000 (total_of l) 1000000 (λ h. omega arith) (λ h. omega arith)

    pub kept_off : not (eqb s 1000000) ≡ not (eqb (total_of l) 1000000)
    kept_off = ap not (same_equal s 1000000 (total_of l) 1000000 (λ h. omega arith) (λ h. omega arith))
