-- What the loops of `groups::put_lines` keep true. Assumes nothing.
use Rattle.std.proofs.Common.{length}
use Rattle.writing.specs.Writing.{joined, Wrote}
use Rattle.listing.specs.Listing.{name_in}
use Rattle.groups.specs.Inner.{line_at}
use Rattle.groups.proofs.put_lines.Given as goal

abbrev pub invariant-loop-v : goal.invariant-loop-v
invariant-loop-v l = Wrote l.initial.out 0 (joined l.v-index (line_at l.named (name_in l.text l.starts) (length l.starts) l.nodes l.depths l.sizes l.totals)) l.out l.at
