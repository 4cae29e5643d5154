-- `arithmetic::one_over` meets its contract. Assumes nothing.
use Rattle.std.proofs.Common.{ap}
use lib.Ieee.{Float, binary64, div}
use Rattle.arithmetic.specs.Constants.{unit}
use Rattle.arithmetic.specs.Arithmetic.{count_of, one_over}
use Rattle.arithmetic.proofs.one_over.Goals as goal

pub returns : goal.returns
unfolding count_of one_over
returns c = ap (λ (x : Float). div binary64 unit x) c.count.ensures
