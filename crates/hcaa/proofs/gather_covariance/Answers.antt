-- `hcaa::gather_covariance` meets its contract. Assumes nothing.
use mathlib.Core.Path.{refl, sym, ◌∙◌}
use Rattle.hcaa.proofs.Stages.{copied, covered_fits, covered_given, covered_made}
use Rattle.hcaa.proofs.gather_covariance.Goals as goal

pub shape_of-out-then-is_absent : goal.shape_of-out-then-is_absent
shape_of-out-then-is_absent c = c.covariance.auto.out

pub returns-then-is_absent : goal.returns-then-is_absent
returns-then-is_absent c = covered_made _ _ _ _ _ c.requires.n_value c.requires.coverable _ _ c.requires.out_len (sym c.is_absent.ensures ∙ c.if-is_absent.true) c.covariance.ensures.out_after

pub shape_of-out : goal.shape_of-out
shape_of-out c = c.copy.auto.to

pub returns : goal.returns
returns c = covered_given _ _ _ _ _ c.requires.n_value c.requires.coverable _ (sym c.is_absent.ensures ∙ c.if-is_absent.false) (copied _ _ _ _ (covered_fits _ _ _ _ _ _ c.requires.n_value c.requires.coverable c.requires.out_len (sym c.is_absent.ensures ∙ c.if-is_absent.false)) c.copy.ensures refl)
