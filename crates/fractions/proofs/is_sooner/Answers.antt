-- `fractions::is_sooner` meets its contract. Assumes nothing.
use Rattle.std.proofs.Common.{ap, sym, ◌∙◌, Bool, ◌||◌, ◌&&◌, eqb}
use Rattle.fractions.proofs.Compare.{before, said}
use Rattle.fractions.proofs.is_sooner.Goals as goal

pub returns-then-lt : goal.returns-then-lt
returns-then-lt c =
    c.if-lt.true
    ∙ sym (ap (λ (t : Bool). t || (eqb c.args.x.top c.args.y.top && eqb c.args.x.low c.args.y.low) && c.args.lower) (sym (before c.args.x c.args.y c.args.lower) ∙ sym c.lt.ensures ∙ c.if-lt.true))
    ∙ said c.args.x c.args.y c.args.lower c.requires.normal c.requires.normal_2

pub returns-else-eq : goal.returns-else-eq
returns-else-eq c =
    c.if-eq.false
    ∙ sym (ap (λ (t : Bool). t || (eqb c.args.x.top c.args.y.top && eqb c.args.x.low c.args.y.low) && c.args.lower) (sym (before c.args.x c.args.y c.args.lower) ∙ sym c.lt.ensures ∙ c.if-lt.false)
    ∙ ap (λ (t : Bool). t && c.args.lower) (sym c.eq.ensures ∙ c.if-eq.false))
    ∙ said c.args.x c.args.y c.args.lower c.requires.normal c.requires.normal_2
