-- `ordering::insert_each` meets its contract. Assumes nothing.
use Rattle.std.proofs.Common.{◌≡◌, ◌<◌, length, sym, ◌∙◌, arith, length-take-le}
use Rattle.ordering.proofs.Laws.{sort_start, sort_step, sort_end}
use Rattle.ordering.proofs.insert_each.Goals as goal

pub loop-i-init : goal.loop-i-init
loop-i-init c = sort_start _

pub loop-i-preserved : goal.loop-i-preserved
loop-i-preserved c =
    let h : c.loop-i.i < length c.loop-i.xs = omega arith in
    let n : length c.pass.new.xs ≡ c.loop-i.i = c.pass.auto.xs ∙ length-take-le c.loop-i.i c.loop-i.xs (omega arith) in
    sort_step c.loop-i.xs c.pass.new.xs c.pass.result c.loop-i.i h c.pass.ensures n ∙ c.loop-i.invariant

pub returns : goal.returns
returns c = sym (sort_end c.loop-i.xs c.loop-i.i (omega arith)) ∙ c.loop-i.invariant
