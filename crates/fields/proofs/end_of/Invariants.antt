-- What the loop of `fields::end_of` keeps true. Assumes nothing.
use mathlib.Core.Path.{◌≡◌}
use Rattle.fields.specs.Split.{end_of}
use Rattle.fields.proofs.end_of.Given as goal

abbrev pub invariant-loop-i : goal.invariant-loop-i
invariant-loop-i l = end_of l.d l.s l.from ≡ end_of l.d l.s l.i
