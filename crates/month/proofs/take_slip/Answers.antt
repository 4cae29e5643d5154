-- `month::take_slip` meets its contract. Assumes nothing.
use Rattle.slips.specs.declared.Slip.TheVariants.{Held}
use Rattle.month.proofs.Steps.{slip_other, slip_held, slip_as, slip_order, slip_broken}
use Rattle.month.proofs.take_slip.Goals as goal

pub take_held-requires : goal.take_held-requires
take_held-requires c = record {
  fits = c.requires.fits;
  m_bound = slip_held c.args.table.now c.args.y c.args.w.now c.args.slip _ c.in-Held.is c.requires.small_slip;
}

pub returns-in-Other : goal.returns-in-Other
returns-in-Other c = rw c.at_line.ensures (slip_other c.args.table.now c.args.y c.args.w.now c.args.slip c.in-Other.is)

pub shape_of-table : goal.shape_of-table
shape_of-table c = c.take_held.auto.table

pub returns-in-Held : goal.returns-in-Held
returns-in-Held c = slip_as c.args.table.now c.args.y c.args.w.now c.args.slip (Held c.in-Held.m) c.take_held.result c.take_held.new.table c.in-Held.is c.take_held.ensures

pub returns-in-Order : goal.returns-in-Order
returns-in-Order c = slip_order c.args.table.now c.args.y c.args.w.now c.args.slip c.in-Order.k c.take_order.result c.in-Order.is c.requires.fits c.take_order.ensures

pub returns-in-Refused : goal.returns-in-Refused
returns-in-Refused c = slip_broken c.args.table.now c.args.y c.args.w.now c.args.slip c.take_refused.result c.in-Refused.is c.requires.fits c.take_refused.ensures
