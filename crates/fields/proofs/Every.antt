-- Tests of every entry of a list, as a loop makes them from the first on, and tests in a row. Assumes nothing.
use Prim.Native.Nat.{ℕ, zero, suc, ◌+◌, ◌<◌, ◌≤◌}
use mathlib.Core.Path.{◌≡◌, refl, ap, ◌∙◌}
use mathlib.Core.Bool.{Bool, true, false, ◌&&◌}
use mathlib.Core.List.{List, [], ◌∷◌}
use native.Mathlib.Numerals.{add-one}
use native.Mathlib.Omega.{arith}
use lib.ListN.{length, get_or, drop, drop_of_length-le}
use lib.Seq.{drop-cons}
use Rattle.std.specs.List.{list_all}
use Rattle.fields.specs.Split.{all}

-- ---- tests in a row that are true: each is

pub both_left : (a b : Bool) → (a && b) ≡ true → a ≡ true
both_left true b e = refl
both_left false b e = e

pub both_right : (a b : Bool) → (a && b) ≡ true → b ≡ true
both_right true b e = e
both_right false b e = absurd (let z : ◌≡◌ {A = ℕ} 0 1 = cc in omega arith)

pub three_yes : (a b d : Bool) → (a && (b && d)) ≡ true → (a ≡ true) × (b ≡ true) × (d ≡ true)
three_yes a b d e = let f = both_right a (b && d) e in (both_left a (b && d) e, both_left b d f, both_right b d f)

pub four_yes : (a b d f : Bool) → (a && (b && (d && f))) ≡ true → (a ≡ true) × (b ≡ true) × (d ≡ true) × (f ≡ true)
four_yes a b d f e = let g = three_yes b d f (both_right a (b && (d && f)) e) in (both_left a (b && (d && f)) e, g.0, g.1, g.2)

-- ---- every entry from place i on

module _ {A : Type 0} (f : A → Bool) where
  -- what std's `all` answers
  pub all_list : (l : List A) → list_all f l ≡ all f l
  unfolding all
  all_list [] = refl
  all_list (a ∷ l) = ap (λ (t : Bool). f a && t) (all_list l)

  pub all_end : (l : List A) (i : ℕ) → length l ≤ i → all f (drop i l) ≡ true
  unfolding all
  all_end l i h = rw (drop_of_length-le l h)

  all_step : (l : List A) (i : ℕ) (d : A) → i < length l → all f (drop i l) ≡ (f (get_or l i d) && all f (drop (i + 1) l))
  unfolding all
  all_step l i d h = rw (add-one) (ap (all f) (drop-cons l i d h))

  pub all_yes : (l : List A) (i : ℕ) (d : A) → i < length l → f (get_or l i d) ≡ true → all f (drop i l) ≡ all f (drop (i + 1) l)
  all_yes l i d h e = all_step l i d h ∙ ap (λ (t : Bool). t && all f (drop (i + 1) l)) e

  pub all_no : (l : List A) (i : ℕ) (d : A) → i < length l → f (get_or l i d) ≡ false → all f (drop i l) ≡ false
  all_no l i d h e = all_step l i d h ∙ ap (λ (t : Bool). t && all f (drop (i + 1) l)) e

  -- an entry of a list whose every entry passes
  pub all_at : (l : List A) (d : A) → all f l ≡ true → (i : ℕ) → i < length l → f (get_or l i d) ≡ true
  unfolding all
  all_at [] d e i h = absurd (omega arith)
  all_at (a ∷ l) d e zero h = both_left (f a) (all f l) e
  all_at (a ∷ l) d e (suc i) h = all_at l d (both_right (f a) (all f l) e) i (omega arith)
