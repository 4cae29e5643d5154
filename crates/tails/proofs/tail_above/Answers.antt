-- `tails::tail_above` meets its contract. Assumes nothing.
use Rattle.std.proofs.Common.{refl}
use lib.Ieee.{le}
use Rattle.tails.specs.Tail.{row_return, wealth, peak, drawdown}
use Rattle.tails.proofs.Laws.{tail_start, tail_hit, tail_miss, wealth_next, peak_next, drawdown_at}
use Rattle.tails.proofs.tail_above.Goals as goal
use Rattle.tails.proofs.tail_above.Goals.{then-hit_start, else-hit_start, then-limit-d, else-limit-d}

pub loop-r-init : goal.loop-r-init
unfolding wealth peak
loop-r-init c =
    let f = row_return c.args.returns.now c.args.n c.args.assets.now c.args.w.now in
    let d = drawdown_at f _ _ _ 0 refl refl c.fall_of-start.ensures in
    record {
      tail = elim c.if-hit_start.branch [
        | then-hit_start w ↦ tail_hit (λ x. le c.args.limit x) (drawdown f) _ _ _ _ _ 0 (tail_start _ _) d w.if-hit_start.true w.sum-is w.count-is
        | else-hit_start w ↦ tail_miss (λ x. le c.args.limit x) (drawdown f) _ _ _ _ _ 0 (tail_start _ _) d w.if-hit_start.false w.sum-is w.count-is
      ];
      worth = refl;
      top = refl;
    }

pub loop-r-preserved : goal.loop-r-preserved
loop-r-preserved c =
    let f = row_return c.args.returns.now c.args.n c.args.assets.now c.args.w.now in
    let g = wealth_next f c.loop-r.v c.row_return.result c.loop-r.r c.loop-r.invariant.worth c.row_return.ensures in
    let u = peak_next f _ _ _ _ c.loop-r.invariant.top g c.higher_of-p.ensures in
    let d = drawdown_at f _ _ _ _ u g c.fall_of-d.ensures in
    record {
      tail = elim c.if-limit-d.branch [
        | then-limit-d w ↦ tail_hit (λ x. le c.args.limit x) (drawdown f) _ _ _ _ _ _ c.loop-r.invariant.tail d w.if-limit-d.true w.sum-is w.count-is
        | else-limit-d w ↦ tail_miss (λ x. le c.args.limit x) (drawdown f) _ _ _ _ _ _ c.loop-r.invariant.tail d w.if-limit-d.false w.sum-is w.count-is
      ];
      worth = g;
      top = u;
    }
