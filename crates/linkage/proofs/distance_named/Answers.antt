-- `linkage::distance_named` meets its contract. Assumes nothing.
use mathlib.Core.Path.{sym, ◌∙◌}
use Rattle.linkage.specs.Names.{distance_named}
use Rattle.linkage.proofs.distance_named.Goals as goal

pub returns-then-is_word : goal.returns-then-is_word
unfolding distance_named
returns-then-is_word c = rw (sym c.is_word.ensures ∙ c.if-is_word.true)

pub returns-then-is_word-2 : goal.returns-then-is_word-2
unfolding distance_named
returns-then-is_word-2 c = rw (sym c.is_word.ensures ∙ c.if-is_word.false, sym c.is_word-2.ensures ∙ c.if-is_word-2.true)

pub returns : goal.returns
unfolding distance_named
returns c = rw (sym c.is_word.ensures ∙ c.if-is_word.false, sym c.is_word-2.ensures ∙ c.if-is_word-2.false)
