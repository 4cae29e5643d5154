-- What the loop of `slots::close_gap` keeps true. Assumes nothing.
use Rattle.slots.proofs.Gap.{Gap}
use Rattle.slots.proofs.close_gap.Given as goal

abbrev pub invariant-loop-j : goal.invariant-loop-j
invariant-loop-j l = Gap l.initial.slots l.y l.j l.slots l.w
