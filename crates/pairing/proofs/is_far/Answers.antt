-- `pairing::is_far` meets its contract. Assumes nothing.
use mathlib.Core.Path.{refl}
use borrow.Author.Tests.{not-true}
use Rattle.pairing.proofs.Far.{far}
use Rattle.pairing.proofs.is_far.Goals as goal

pub returns : goal.returns
returns c = record {
  value = refl;
  far = (λ e. far c.args.x c.args.y c.well_formed.1.0.1 (not-true _ e));
}
