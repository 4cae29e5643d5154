-- What falls in the loop of `recorded::replay`, and what it keeps true. Assumes nothing.
use Rattle.std.proofs.Common.{◌-◌, length}
use Rattle.recorded.specs.Told.{Continues}
use Rattle.recorded.proofs.replay.Given as goal

abbrev pub decreases-loop-tokens : goal.decreases-loop-tokens
decreases-loop-tokens g l = length l.text - l.tokens.at

abbrev pub invariant-loop-tokens : goal.invariant-loop-tokens
invariant-loop-tokens g l = Continues l.fn.told l.told
