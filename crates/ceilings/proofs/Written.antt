-- A ceiling in a text: what its reading tells. Assumes nothing.
use Prim.Native.Nat.{ℕ, ◌≤◌}
use mathlib.Core.Path.{◌≡◌, refl}
use mathlib.Core.Bool.{Bool, true, false, not, cond}
use mathlib.Core.List.{List, [], ◌∷◌}
use native.Mathlib.Omega.{arith}
use borrow.Author.Tests.{leb-true}
use lib.ListN.{length}
use Rattle.refusal.specs.Table.{first}
use Rattle.refusal.specs.Telling.{tells}
use Rattle.refusal.specs.declared.Refusal.TheVariants.{MalformedText}
use Rattle.fields.specs.Numerals.{is_numeral, numeral_tells}
use Rattle.fields.proofs.Every.{three_yes}
use Rattle.ceilings.specs.Written.{ceiling_of, is_ceiling, ceiling_read, ceiling_outcome}
use Rattle.std.specs.Prelude.{Some, None}

-- ---- what a reading says of its test

read_no : (t : Bool) (n : ℕ) → cond t (Some n) None ≡ None → t ≡ false
read_no true n h = absurd (let z : ◌≡◌ {A = ℕ} 0 1 = cc in omega arith)
read_no false n h = refl

read_yes : (t : Bool) (n v : ℕ) → cond t (Some n) None ≡ Some v → (t ≡ true) × (v ≡ n)
read_yes true n v h = (refl, cc)
read_yes false n v h = absurd (let z : ◌≡◌ {A = ℕ} 0 1 = cc in omega arith)

module _ (w : List ℕ) where
  -- 0 and the ceiling, or 15
  pub ceiling_tells : numeral_tells (ceiling_read w) ≡ tells (ceiling_outcome w) (ceiling_of w)
  unfolding ceiling_read ceiling_outcome first
  ceiling_tells = go (is_ceiling w)
    where
      go : (b : Bool) → numeral_tells (cond b (Some (ceiling_of w)) None) ≡ tells (first ((not b, MalformedText) ∷ [])) (ceiling_of w)
      go true = refl
      go false = refl

  pub ceiling_no : ceiling_read w ≡ None → is_ceiling w ≡ false
  unfolding ceiling_read
  ceiling_no e = read_no (is_ceiling w) (ceiling_of w) e

  pub ceiling_yes : (k : ℕ) → ceiling_read w ≡ Some k → (is_ceiling w ≡ true) × (k ≡ ceiling_of w)
  unfolding ceiling_read
  ceiling_yes k e = read_yes (is_ceiling w) (ceiling_of w) k e

  -- 1 to 7 digits, and at most 1,000,000
  pub ceiling_is : is_ceiling w ≡ true → (is_numeral w ≡ true) × (length w ≤ 7) × (ceiling_of w ≤ 1000000)
  unfolding is_ceiling
  ceiling_is e = let a = three_yes (is_numeral w) _ _ e in (a.0, leb-true (length w) 7 a.1, leb-true (ceiling_of w) 1000000 a.2)
