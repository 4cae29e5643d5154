-- `pages::put_positions` meets its contract: the lines of the first i names are written. Assumes nothing.
use native.Mathlib.Omega.{arith}
use Rattle.writing.proofs.Writing.{none_yet, one_more, all_parts}
use Rattle.ledger.specs.Ledger.{position_at}
use Rattle.pages.specs.Pages.{position_line}
use Rattle.pages.proofs.Lines.{position_room, line_here}
use Rattle.pages.proofs.put_positions.Goals as goal

pub loop-i-init : goal.loop-i-init
loop-i-init c = none_yet _ _ _ (omega arith)

pub put_position-at-requires : goal.put_position-at-requires
put_position-at-requires c = position_room (position_at c.args.table.now) c.loop-i.i c.args.n c.loop-i.invariant c.loop-i-test.true c.requires.n_in_bounds

pub loop-i-preserved : goal.loop-i-preserved
loop-i-preserved c = one_more (λ k. position_line (position_at c.args.table.now k)) c.loop-i.i c.loop-i.invariant c.put_position-at.ensures (line_here c.args.table.now c.loop-i.i _ c.position_in.ensures c.requires.table_len (omega arith))

pub returns : goal.returns
returns c = all_parts _ c.loop-i.i _ c.loop-i.invariant (omega arith)
