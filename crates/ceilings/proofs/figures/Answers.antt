-- `ceilings::figures` meets its contract: sized, then request 3's part, then the ceilings in the part that it filled. Assumes nothing.
use Rattle.std.proofs.Common.{rules}
use mathlib.Core.Path.{sym, ◌∙◌}
use native.Mathlib.Nat.{le_trans, le_of_eq}
use borrow.Author.Tests.{eqb-true, eqb-false}
use lib.ListN.{length}
use lib.Seq.{length-take-le, length_front}
use Rattle.ceilings.proofs.Ended.{sizes_refused, ends_refused, fits, plain_said, plain_laid, part_said, part_laid, under_said, under_laid}
use Rattle.ceilings.proofs.figures.Goals as goal

pub returns-in_err-sized : goal.returns-in_err-sized
returns-in_err-sized c = let said = sizes_refused c.args.weights.now c.args.ceilings.now _ _ c.judge_sizes-sized.ensures _ c.in_err-sized.was in
    record {
      value = search (rules, said);
      out_after = ends_refused _ _ _ _ _ _ said c.in_err-sized.was c.clear.ensures;
    }

pub returns-in_err-weights_in_millionths : goal.returns-in_err-weights_in_millionths
returns-in_err-weights_in_millionths c = let value = rw c.clear.auto.out at c.weights_in_millionths.ensures.value in
    let out_after = rw c.clear.auto.out at c.weights_in_millionths.ensures.out_after in
    let said = part_said c.args.weights.now c.args.ceilings.now _ _ c.judge_sizes-sized.ensures c.in_ok-sized.was _ _ value out_after _ c.in_err-weights_in_millionths.was in
    record {
      value = search (rules, said);
      out_after = part_laid c.args.weights.now c.args.ceilings.now _ _ c.judge_sizes-sized.ensures c.in_ok-sized.was _ _ value out_after _ c.in_err-weights_in_millionths.was;
    }

pub returns-then-is_empty : goal.returns-then-is_empty
returns-then-is_empty c = let value = rw c.clear.auto.out at c.weights_in_millionths.ensures.value in
    let out_after = rw c.clear.auto.out at c.weights_in_millionths.ensures.out_after in
    let none = eqb-true (length c.args.ceilings.now) 0 (sym c.is_empty.ensures ∙ c.if-is_empty.true) in
    record {
      value = sym c.in_ok-weights_in_millionths.was ∙ plain_said c.args.weights.now c.args.ceilings.now _ _ _ value out_after none;
      out_after = plain_laid c.args.weights.now c.args.ceilings.now _ _ _ value out_after none;
    }

pub slice_bounds-under_ceilings-end : goal.slice_bounds-under_ceilings-end
slice_bounds-under_ceilings-end c =
    le_trans (fits c.args.weights.now c.args.ceilings.now _ _ c.judge_sizes-sized.ensures c.in_ok-sized.was) (le_of_eq (sym (c.weights_in_millionths.auto.out ∙ c.clear.auto.out)))

pub slice_bounds-under_ceilings-end-2 : goal.slice_bounds-under_ceilings-end-2
slice_bounds-under_ceilings-end-2 c =
    sym (length-take-le _ _ (le_trans (fits c.args.weights.now c.args.ceilings.now _ _ c.judge_sizes-sized.ensures c.in_ok-sized.was) (le_of_eq (sym (c.weights_in_millionths.auto.out ∙ c.clear.auto.out)))))

pub shape_of-out : goal.shape_of-out
shape_of-out c =
    length_front c.weights_in_millionths.new.out c.under_ceilings.new.parts (length c.args.weights.now) c.under_ceilings.auto.parts ∙ c.weights_in_millionths.auto.out ∙ c.clear.auto.out

pub returns : goal.returns
returns c = let value = rw c.clear.auto.out at c.weights_in_millionths.ensures.value in
    let out_after = rw c.clear.auto.out at c.weights_in_millionths.ensures.out_after in
    let some = eqb-false (length c.args.ceilings.now) 0 (sym c.is_empty.ensures ∙ c.if-is_empty.false) in
    record {
      value = under_said c.args.weights.now c.args.ceilings.now _ _ c.judge_sizes-sized.ensures c.in_ok-sized.was _ _ value out_after c.in_ok-weights_in_millionths.was some _ _ c.under_ceilings.ensures.value c.under_ceilings.ensures.parts_after;
      out_after = under_laid c.args.weights.now c.args.ceilings.now _ _ c.judge_sizes-sized.ensures c.in_ok-sized.was _ _ value out_after c.in_ok-weights_in_millionths.was some _ _ c.under_ceilings.ensures.value c.under_ceilings.ensures.parts_after;
    }
