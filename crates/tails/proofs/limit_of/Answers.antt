-- `tails::limit_of` meets its contract. Assumes nothing.
use mathlib.Core.Path.{◌∙◌}
use borrow.Author.Rules.{rules}
use Rattle.ordering.proofs.Parts.{entry_given, no_part_lem, quantile_known}
use Rattle.tails.proofs.limit_of.Goals as goal

pub unwrap-requires : goal.unwrap-requires
unwrap-requires c = rw (c.quantile.ensures.value ∙ quantile_known _ _ c.requires.xs_len_bound (no_part_lem _ c.requires.part)) (search rules)

pub returns : goal.returns
returns c = entry_given _ _ c.requires.xs_len_bound c.requires.part _ c.quantile.ensures.value _ c.unwrap.ensures
