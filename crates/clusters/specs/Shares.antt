-- Weights that are being shared out, by either allocator: the weights, or a refusal, which says nothing of them. Definitions only.
use Rattle.std.specs.Prelude.{Bool, true, false, List, [], Float, Ok, Err}
use Rattle.std.specs.Float.{binary64}
use Rattle.std.specs.Float.Ieee.{add, sub, div}
use Rattle.arithmetic.specs.Constants.{unit, epsilon}
use Rattle.clusters.specs.Outcomes.{Risk}

-- how two sides share, l and r being their risks: "Factor 1 − l/(l + r + EPSILON)"
unfoldable pub factor_of : Float → Float → Float
factor_of l r = sub binary64 unit (div binary64 l (add binary64 (add binary64 l r) epsilon))

pub data Shares : Type 0 where
  none : Shares
  some : List Float → Shares

-- go on with the weights, or with a risk, where there is one
abbrev pub with_shares : Shares → (List Float → Shares) → Shares
with_shares none f = none
with_shares (some ws) f = f ws

abbrev pub with_risk : Risk → (Float → Shares) → Shares
with_risk (Err r) f = none
with_risk (Ok x) f = f x

-- a side was refused
unfoldable pub is_none : Shares → Bool
is_none none = true
is_none (some ws) = false

unfoldable pub weights_in : Shares → List Float
weights_in none = []
weights_in (some ws) = ws
