-- What the loops of `groups::put_indent` keep true. Assumes nothing.
use Rattle.writing.specs.Writing.{Wrote}
use Rattle.groups.specs.Groups.{indent}
use Rattle.groups.proofs.put_indent.Given as goal

abbrev pub invariant-loop : goal.invariant-loop
invariant-loop l = Wrote l.initial.out l.at (indent l.counter) l.out l.end
