-- What an offered pair does to the best. Assumes nothing.
use Prim.Native.Nat.{ℕ}
use mathlib.Core.Path.{◌≡◌, refl}
use mathlib.Core.Bool.{true}
use lib.Ieee.{Float}
use Rattle.pairing.specs.declared.Best.{Best}
use Rattle.pairing.specs.Pairing.{better, offer}
use Rattle.pairing.specs.Inner.{Far}

-- a pair too far off changes nothing
pub offer_far : (a b : ℕ) (x : Float) (p q : ℕ) (best : Best) → best.found ≡ true → Far x best.dist → offer a b x p q best ≡ best
unfolding offer better
offer_far a b x p q best f h = rw (f, h.over, h.apart) refl
