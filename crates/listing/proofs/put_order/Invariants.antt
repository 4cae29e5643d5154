-- What the loop of `listing::put_order` keeps true. Assumes nothing.
use Rattle.writing.specs.Writing.{joined, Wrote}
use Rattle.listing.specs.Listing.{ordered, name_in}
use Rattle.listing.proofs.put_order.Given as goal

abbrev pub invariant-loop-k : goal.invariant-loop-k
invariant-loop-k l = Wrote l.initial.out l.from (joined l.k (ordered (name_in l.text l.starts) l.order)) l.out l.at
