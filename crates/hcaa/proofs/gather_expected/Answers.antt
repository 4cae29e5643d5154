-- `hcaa::gather_expected` meets its contract. Assumes nothing.
use mathlib.Core.Path.{refl}
use Rattle.hcaa.proofs.Stages.{copied, hoped_fits, hoped_nothing, hoped_given, hoped_mean, hoped_exponential, hoped_unknown}
use Rattle.lent.proofs.Clauses.{value_and_out}
use Rattle.hcaa.proofs.gather_expected.Goals as goal

pub returns-in-Nothing : goal.returns-in-Nothing
returns-in-Nothing c = value_and_out (hoped_nothing _ _ _ _ _ c.in-Nothing.is)

pub shape_of-out-in-Given : goal.shape_of-out-in-Given
shape_of-out-in-Given c = c.copy.auto.to

pub returns-in-Given : goal.returns-in-Given
returns-in-Given c = value_and_out (hoped_given _ _ _ _ _ _ c.in-Given.is c.requires.hopeful (copied _ _ _ _ (hoped_fits _ _ _ _ _ _ c.requires.hopeful c.in-Given.is c.requires.out_len c.requires.n_value) c.copy.ensures refl))

pub shape_of-out-in-Mean : goal.shape_of-out-in-Mean
shape_of-out-in-Mean c = c.mean_expected_returns.auto.out

pub returns-in-Mean : goal.returns-in-Mean
returns-in-Mean c = value_and_out (hoped_mean _ _ _ _ _ _ _ c.requires.out_len c.requires.n_value c.in-Mean.is c.mean_expected_returns.ensures.out_after)

pub shape_of-out-in-Exponential : goal.shape_of-out-in-Exponential
shape_of-out-in-Exponential c = c.exponential_expected_returns.auto.out

pub returns-in-Exponential : goal.returns-in-Exponential
returns-in-Exponential c = value_and_out (hoped_exponential _ _ _ _ _ _ _ c.requires.out_len c.requires.n_value c.in-Exponential.is c.exponential_expected_returns.ensures.out_after)

pub returns-in-Unknown : goal.returns-in-Unknown
returns-in-Unknown c = value_and_out (hoped_unknown _ _ _ _ _ c.in-Unknown.is)
