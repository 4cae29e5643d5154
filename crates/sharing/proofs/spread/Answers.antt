-- `sharing::spread` meets its contract. Assumes nothing.
use Rattle.std.proofs.Common.{◌+◌, drop, sym, ap, ◌∙◌, arith}
use Rattle.sharing.specs.Allot.{spread_of}
use Rattle.sharing.proofs.Laws.{spread_step, spread_end}
use Rattle.sharing.proofs.spread.Goals as goal

pub loop-a-preserved : goal.loop-a-preserved
loop-a-preserved c =
    c.loop-a.invariant ∙ spread_step c.args.members.now c.args.w c.loop-a.weights c.loop-a.a-index (omega arith)
    ∙ ap (spread_of (drop (c.loop-a.a-index + 1) c.args.members.now) c.args.w) (sym c.give.ensures)

pub returns : goal.returns
returns c = sym (c.loop-a.invariant ∙ spread_end c.args.members.now c.args.w c.loop-a.weights c.loop-a.a-index (omega arith))
