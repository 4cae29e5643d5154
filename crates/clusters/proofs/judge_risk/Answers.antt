-- `clusters::judge_risk` meets its contract. Assumes nothing.
use mathlib.Core.Path.{sym, ◌∙◌}
use Rattle.refusal.specs.declared.Refusal.TheVariants.{NoTree}
use Rattle.clusters.proofs.Laws.{listed, passed}
use Rattle.clusters.proofs.judge_risk.Goals as goal

pub any_low-requires : goal.any_low-requires
any_low-requires c =
    let no = sym c.any_outside.ensures ∙ passed _ NoTree (sym c.refuse.ensures ∙ c.in_ok-refuse.was) in
    listed _ _ _ c.requires.cov_len c.requires.assets_len_bound no

pub recip_sum-requires : goal.recip_sum-requires
recip_sum-requires c =
    let no = sym c.any_outside.ensures ∙ passed _ NoTree (sym c.refuse.ensures ∙ c.in_ok-refuse.was) in
    listed _ _ _ c.requires.cov_len c.requires.assets_len_bound no
