-- What the private functions ask of one another and promise: may be skipped. Definitions only.
use Rattle.std.specs.Prelude.{◌≡◌, false, Float}
use Rattle.std.specs.Float.{binary64}
use Rattle.std.specs.Float.Ieee.{add, lt}
use Rattle.pairing.specs.Pairing.{eps, near}

-- a pair at distance x can never replace one at distance y
pub record Far (x y : Float) : Type 0 where
  pub over : lt (add binary64 x eps) y ≡ false
  pub apart : near x y ≡ false
