-- The first line, by its number of fields and by single fields. Assumes nothing.
use Prim.Native.Nat.{ℕ, suc, ◌+◌, ◌-◌, ◌≤◌, ◌<◌}
use mathlib.Core.Path.{◌≡◌, refl}
use mathlib.Core.Bool.{Bool, true, false}
use mathlib.Core.List.{List}
use native.Mathlib.Omega.{arith}
use borrow.Author.Tests.{eqb-true, lt-ltb, le-ltb}
use lib.Dec.{eqb}
use lib.ListN.{length}
use Rattle.lent.specs.Count.{one}
use Rattle.lent.proofs.Counting.{one_le}
use Rattle.lent.proofs.Sizes.{same_equal}
use Rattle.text.specs.Bytes.{bytes, same}
use Rattle.fields.specs.Split.{split}
use Rattle.fields.proofs.Every.{both_left}
use Rattle.fields.proofs.Pieces.{pieces, pieces_le}
use Rattle.heading.specs.Heading.{fields_in, last_field, prices_after, ceilings_after, is_of, is_hrp, is_hcaa}

-- ---- fields counted by the tabs between them

-- as many tabs as fields but one
pub tabs_between : (l : List ℕ) → (1 ≤ length (split 9 l)) × (length (split 9 l) ≤ suc (length l))
tabs_between l = (pieces 9 l, pieces_le 9 l)

module _ (l : List ℕ) (k tabs : ℕ) (counted : tabs ≡ length (split 9 l) - 1) where
  pub ceilings_other : tabs < k → ceilings_after k l ≡ false
  unfolding ceilings_after
  ceilings_other h = let p = pieces 9 l in rw (le-ltb k (length (split 9 l)) (omega arith))

  pub ceilings_named : k ≤ tabs → ceilings_after k l ≡ same (last_field l) (bytes "ceilings")
  unfolding ceilings_after
  ceilings_named h = let p = pieces 9 l in rw (lt-ltb k (length (split 9 l)) (omega arith))

  pub of_fields_lem : 1 ≤ k → (said : ℕ) → said ≡ one (prices_after k l) + one (ceilings_after k l) → eqb tabs (k - 1 + said) ≡ is_of k l
  unfolding is_of
  of_fields_lem m said e = let p = pieces 9 l in same_equal tabs (k - 1 + said) (length (split 9 l)) (k + one (prices_after k l) + one (ceilings_after k l)) (λ h. omega arith) (λ h. omega arith)

-- ---- the two kinds of line

-- k fields, or one or two more
of_count : (k : ℕ) (l : List ℕ) → is_of k l ≡ true → (k ≤ fields_in l) × (fields_in l ≤ k + 2)
unfolding is_of
of_count k l e =
    let f = eqb-true (fields_in l) (k + one (prices_after k l) + one (ceilings_after k l)) e in
    let p = one_le (prices_after k l) in
    let c = one_le (ceilings_after k l) in
    (omega arith, omega arith)

-- a line is not both: one has 2 to 4 fields, the other 5 to 7
pub hrp_not_hcaa : (l : List ℕ) → is_hrp l ≡ true → is_hcaa l ≡ false
unfolding is_hrp is_hcaa
hrp_not_hcaa l e = go (is_of 5 l) refl
  where
    go : (t : Bool) → is_of 5 l ≡ t → is_hcaa l ≡ false
    go false f = rw f
    go true f = let a = of_count 2 l (both_left (is_of 2 l) _ e) in let b = of_count 5 l f in absurd (omega arith)
