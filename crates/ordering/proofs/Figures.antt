-- Some lists put in order, and some places, by their bits: computed by antt.
use Rattle.std.proofs.Common.{◌≡◌, ℕ, Bool, true, ◌&&◌, eqb, List, [], ◌∷◌, map, refl}
use lib.Ieee.{binary64, of_bits, to_bits, is_nan, lt, eq, mul, of_int}
use Rattle.arithmetic.specs.Arithmetic.{count_of}
use Rattle.ordering.specs.Order.{sorted, insert_all, insert, before, has_minus}
use Rattle.ordering.specs.Nearest.{whole_of, place, quantile}

abbrev in_order : List ℕ → List ℕ
in_order l = map (to_bits binary64) (sorted (map (of_bits binary64) l))

-- NaN, 1, +0, −0, −infinity, NaN with other bits, 2^-1074, −1
orders : in_order (0x7ff8000000000001 ∷ 0x3ff0000000000000 ∷ 0 ∷ 0x8000000000000000 ∷ 0xfff0000000000000 ∷ 0xfff8000000000000 ∷ 1 ∷ 0xbff0000000000000 ∷ [])
    ≡ (0xfff0000000000000 ∷ 0xbff0000000000000 ∷ 0x8000000000000000 ∷ 0 ∷ 1 ∷ 0x3ff0000000000000 ∷ 0x7ff8000000000000 ∷ 0x7ff8000000000000 ∷ [])
unfolding sorted insert_all insert before has_minus of_bits to_bits is_nan lt eq
orders = refl

abbrev at : ℕ → ℕ → ℕ → Bool
at q n k = eqb (place (of_bits binary64 q) n) k

-- 0.5 of 2, 4 and 6 entries: 0.5, 1.5 and 2.5 go to the even one. 0.05 of 21; −0, 0 and 1 of 4097.
places : (at 0x3fe0000000000000 2 0 && at 0x3fe0000000000000 4 2 && at 0x3fe0000000000000 6 2 && at 0x3fa999999999999a 21 1
    && at 0x8000000000000000 4097 0 && at 0 4097 0 && at 0x3ff0000000000000 4097 4096 && at 0x3fa999999999999a 1 0) ≡ true
unfolding place count_of whole_of of_bits mul of_int
places = refl

none : to_bits binary64 (quantile (of_bits binary64 0x3fe0000000000000) []) ≡ 0
unfolding quantile of_bits to_bits
none = refl
