-- `capi::rovignesc_covariance` meets its contract. Assumes nothing.
use mathlib.Core.Path.{ap, ◌∙◌}
use Rattle.lent.specs.Lent.{told_of}
use Rattle.lent.proofs.Sizes.{told_as}
use Rattle.stats.specs.Covariance.{covariance_answer}
use Rattle.foreign.proofs.Stages.{number_in}
use Rattle.capi.proofs.rovignesc_covariance.Goals as goal

pub shape_of-covariance : goal.shape_of-covariance
shape_of-covariance c = c.covariance.auto.out

pub returns : goal.returns
unfolding covariance_answer
returns c =
    record { answer = c.number.ensures ∙ ap number_in (c.told.ensures ∙ ap told_of c.covariance.ensures.value ∙ told_as _ _ _); cells_are = c.covariance.ensures.out_after }
