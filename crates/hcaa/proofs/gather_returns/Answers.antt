-- `hcaa::gather_returns` meets its contract. Assumes nothing.
use mathlib.Core.Path.{refl}
use Rattle.hcaa.proofs.Stages.{copied, gathered_refused, given_fits, gathered_given, gathered_none, gathered_made}
use Rattle.hcaa.proofs.gather_returns.Goals as goal

pub returns-in_default : goal.returns-in_default
returns-in_default c = gathered_refused _ _ _ _ _ _ _ _ _ c.in_default.is c.answered.ensures

pub shape_of-out-in-Some : goal.shape_of-out-in-Some
shape_of-out-in-Some c = c.copy.auto.to

pub returns-in-Some : goal.returns-in-Some
returns-in-Some c = gathered_given _ _ _ _ _ _ c.in-Ok.is _ _ _ c.in-Some.is c.requires.sources (copied _ _ _ _ (given_fits _ _ _ _ _ _ _ _ c.in-Ok.is c.in-Some.is c.requires.sources c.requires.out_len) c.copy.ensures refl)

pub returns-in_default-prices_shape : goal.returns-in_default-prices_shape
returns-in_default-prices_shape c = gathered_none _ _ _ _ _ _ c.in-Ok.is _ _ c.in_default-returns_shape.is c.in_default-prices_shape.is c.answered-in_default-prices_shape.ensures

pub shape_of-out : goal.shape_of-out
shape_of-out c = c.sampled_returns.auto.out

pub returns : goal.returns
returns c = gathered_made _ _ _ _ _ _ c.in-Ok.is _ _ _ _ _ c.in_default-returns_shape.is c.in-Some-prices_shape.is c.requires.sources c.requires.out_len c.sampled_returns.ensures.value c.sampled_returns.ensures.out_after
