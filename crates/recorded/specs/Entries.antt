-- How many entries are not zero, entry by entry: of doubles and of numbers. Assumes nothing.
use Rattle.std.specs.Prelude.{◌≡◌, ℕ, ◌+◌, min, refl, List, [], ◌∷◌, Float}
use Rattle.std.specs.Float.{binary64}
use Rattle.std.specs.Float.Ieee.{to_bits}
use Rattle.recorded.specs.Told.{unclean_in, unclean_numbers_in}

pub no_double : unclean_in [] ≡ 0
unfolding unclean_in
no_double = refl

pub one_double : (x : Float) (xs : List Float) → unclean_in (x ∷ xs) ≡ min (to_bits binary64 x) 1 + unclean_in xs
unfolding unclean_in
one_double x xs = refl

pub no_number : unclean_numbers_in [] ≡ 0
unfolding unclean_numbers_in
no_number = refl

pub one_number : (n : ℕ) (ns : List ℕ) → unclean_numbers_in (n ∷ ns) ≡ min n 1 + unclean_numbers_in ns
unfolding unclean_numbers_in
one_number n ns = refl
