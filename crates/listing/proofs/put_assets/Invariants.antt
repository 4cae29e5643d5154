-- What the loop of `listing::put_assets` keeps true. Assumes nothing.
use Rattle.listing.specs.Listing.{line_of, name_in}
use Rattle.writing.specs.Writing.{joined, Wrote}
use Rattle.listing.proofs.put_assets.Given as goal

abbrev pub invariant-loop-i : goal.invariant-loop-i
invariant-loop-i l = Wrote l.initial.out 0 (joined l.i (line_of (name_in l.text l.starts) l.weights l.ceilings)) l.out l.at
