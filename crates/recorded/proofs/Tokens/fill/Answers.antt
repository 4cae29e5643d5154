-- `recorded::Tokens::fill` meets its contract. Assumes nothing.
use Rattle.std.proofs.Common.{ℕ, List, refl, ap, ◌∙◌, arith}
use lib.ListN.{length-set}
use Rattle.lent.proofs.Fill.{tab_start}
use Rattle.recorded.specs.Tokens.{next_value}
use Rattle.recorded.proofs.Laws.{place_start, place_step, fill_step}
use Rattle.recorded.proofs.Tokens.fill.Goals as goal

pub loop-i-init : goal.loop-i-init
loop-i-init g c = record {
  in_range = omega arith;
  same_length = refl;
  same_text = refl;
  at_here = place_start _ _;
  filled = tab_start _ _;
}

pub loop-i-preserved : goal.loop-i-preserved
loop-i-preserved g c = let kept = c.loop-i.invariant in record {
  in_range = omega arith;
  same_length = simp length-set kept.same_length;
  same_text = c.next.ensures.same_text ∙ kept.same_text;
  at_here = place_step _ _ _ _ _ kept.at_here (rw kept.same_text at c.next.ensures.at_after);
  filled = fill_step g.T.Entry.of_token _ _ _ _ _ _ _ _ kept.filled kept.at_here (ap (λ (t : List ℕ). next_value t c.loop-i.self.at) kept.same_text) c.next.ensures.value (omega arith);
}
