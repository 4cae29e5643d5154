-- `text::is_word` meets its contract: where the lengths are the same, the pairs of bytes decide. Assumes nothing.
use Rattle.std.proofs.Common.{rules}
use mathlib.Core.Path.{sym, ◌∙◌}
use Prim.Native.Nat.{ℕ}
use lib.Dec.{eqb}
use borrow.Author.Tests.{tests, ne_eqb}
use Rattle.std.proofs.lemmas.Iterator.{YieldsList-from_slice, YieldsList-from_zip}
use Rattle.std.proofs.lemmas.Iterator.Search.{all_from_yields_List}
use Rattle.std.specs.Char.{to_ascii_lowercase}
use Rattle.text.specs.Bytes.{is_word, lowered}
use Rattle.text.proofs.Names.{pairs_same, same_length, length_lowered}
use Rattle.text.proofs.is_word.Goals as goal

pub returns-then-name-word : goal.returns-then-name-word
unfolding is_word
returns-then-name-word c =
    all_from_yields_List (λ (p : ℕ × ℕ). eqb (to_ascii_lowercase p.0) p.1) c.all.new.self _ _ c.all.ensures.ran
    (YieldsList-from_zip (YieldsList-from_slice c.args.name.now cc) (YieldsList-from_slice c.args.word.now cc))
    (λ x b q k. search (rules, tests))
    ∙ pairs_same c.args.name.now c.args.word.now c.if-name-word.true

pub returns-else-name-word : goal.returns-else-name-word
unfolding is_word
returns-else-name-word c =
    ne_eqb _ _ c.if-name-word.false
    ∙ sym (same_length (lowered c.args.name.now) c.args.word.now (λ e. c.if-name-word.false (sym (length_lowered c.args.name.now) ∙ e)))
