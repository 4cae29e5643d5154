-- `stats::correlation_cell` meets its contract. Assumes nothing.
use mathlib.Core.Path.{ap₂}
use native.Mathlib.Omega.{arith}
use lib.Ieee.{Float, binary64, mul, div}
use Rattle.lent.proofs.Fill.{filling}
use Rattle.stats.specs.Covariance.{correlation_cell}
use Rattle.stats.proofs.correlation_cell.Goals as goal

pub at-requires : goal.at-requires
at-requires c = search filling

pub returns : goal.returns
unfolding correlation_cell
returns c =
    let p = c.requires.kept.entry c.args.i (omega arith) in
    let q = c.requires.kept.entry c.args.j (omega arith) in
    ap₂ (λ (x y : Float). div binary64 x y) c.at.ensures (ap₂ (λ (x y : Float). mul binary64 x y) p q)
