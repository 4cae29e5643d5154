-- What the loop of `recorded::unclean` keeps true. Assumes nothing.
use Rattle.std.proofs.Common.{◌≡◌, ◌+◌, ◌≤◌, length, drop}
use Rattle.recorded.proofs.unclean.Given as goal

abbrev pub invariant-loop-x : goal.invariant-loop-x
invariant-loop-x g l = record {
  bound : l.n ≤ l.x-index;
  in_range : l.x-index ≤ length l.rest;
  counted : l.n + g.T.Entry.unclean (drop l.x-index l.rest) ≡ g.T.Entry.unclean l.rest;
}
