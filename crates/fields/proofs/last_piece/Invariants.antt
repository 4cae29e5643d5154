-- What the loop of `fields::last_piece` keeps true: from place k on there is one piece. Assumes nothing.
use mathlib.Core.Path.{◌≡◌}
use lib.ListN.{length, drop}
use Rattle.fields.specs.Split.{split}
use Rattle.fields.proofs.last_piece.Given as goal

abbrev pub invariant-loop-k : goal.invariant-loop-k
invariant-loop-k l = length (split l.d (drop l.k l.s)) ≡ 1
