-- `job::allocate` meets its contract. Assumes nothing.
use mathlib.Core.Path.{refl, ap, ◌∙◌}
use Rattle.std.specs.Prelude.{Ok}
use Rattle.job.proofs.Jobs.{hrp_begun, hcaa_begun, unread}
use Rattle.job.proofs.allocate.Goals as goal

pub by_hrp-requires : goal.by_hrp-requires
by_hrp-requires c = hrp_begun _ _ _ c.requires _ _ (c.in-Ok.is ∙ ap Ok c.in-Hrp.is)

pub by_hcaa-requires : goal.by_hcaa-requires
by_hcaa-requires c = hcaa_begun _ _ _ c.requires _ _ _ (c.in-Ok.is ∙ ap Ok c.in-Hcaa.is)

pub returns-in-Err : goal.returns-in-Err
returns-in-Err c = unread _ _ _ c.requires _ c.in-Err.is _ refl

pub returns-in-Hrp : goal.returns-in-Hrp
returns-in-Hrp c = c.by_hrp.ensures

pub returns-in-Hcaa : goal.returns-in-Hcaa
returns-in-Hcaa c = c.by_hcaa.ensures
