-- What the loop of `pages::put_positions` keeps true. Assumes nothing.
use Rattle.writing.specs.Writing.{joined, Wrote}
use Rattle.ledger.specs.Ledger.{position_at}
use Rattle.pages.specs.Pages.{position_line}
use Rattle.pages.proofs.put_positions.Given as goal

abbrev pub invariant-loop-i : goal.invariant-loop-i
invariant-loop-i l = Wrote l.initial.out l.from (joined l.i (λ k. position_line (position_at l.table k))) l.out l.at
