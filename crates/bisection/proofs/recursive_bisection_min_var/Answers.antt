-- `bisection::recursive_bisection_min_var` meets its contract. How it ends is in `Laws`. Assumes nothing.
use mathlib.Core.Path.{refl, sym, ◌∙◌}
use borrow.Author.Rules.{rules}
use lib.ListN.{length-replicate}
use lib.Seq.{length-take-le}
use Rattle.std.proofs.lemmas.Result.{err_from_is_err_and}
use Rattle.bisection.proofs.Laws.{take_zeros, call_roomy, call_low, ends_refused, ends_side, ends_done}
use Rattle.lent.proofs.Clauses.{value_and_out}
use Rattle.bisection.proofs.recursive_bisection_min_var.Goals as goal

pub returns-in_err-said : goal.returns-in_err-said
returns-in_err-said c = let p = err_from_is_err_and c.from_residual.result c.from_residual.ensures.1 in
    let ends = ends_refused _ _ _ _ _ _ c.judge-said.ensures _ _ c.in_err-said.was c.clear.ensures in
    record {
      value = rw (p.1, p.2) ends.0;
      out_after = ends.1;
    }

pub slice_bounds-share-end : goal.slice_bounds-share-end
slice_bounds-share-end c =
    let r = call_roomy _ _ _ _ _ _ c.judge-said.ensures c.in_ok-said.was in
    rw (c.clear.ensures, length-replicate) r

pub slice_bounds-share-end-2 : goal.slice_bounds-share-end-2
slice_bounds-share-end-2 c =
    let r = call_roomy _ _ _ _ _ _ c.judge-said.ensures c.in_ok-said.was in
    sym (length-take-le _ _ (rw (c.clear.ensures, length-replicate) r))

pub share-requires : goal.share-requires
share-requires c = record {
  by_index = call_low _ _ _ _ _ _ c.judge-said.ensures c.in_ok-said.was;
  weights_value = rw c.clear.ensures (take_zeros _ _ (call_roomy _ _ _ _ _ _ c.judge-said.ensures c.in_ok-said.was));
}

pub returns-then-is_err : goal.returns-then-is_err
returns-then-is_err c = let ends = ends_side _ _ _ _ _ _ c.judge-said.ensures _ c.in_ok-said.was c.share.result _ c.share.ensures (sym c.is_err.ensures.value ∙ c.if-is_err.true) c.clear.new.out c.refused.ensures.weights_after (search rules) in
    record {
      value = c.refused.ensures.value ∙ ends.0;
      out_after = ends.1;
    }

pub returns : goal.returns
returns c = value_and_out (ends_done _ _ _ _ _ _ c.judge-said.ensures _ c.in_ok-said.was c.share.result _ c.share.ensures _ (sym c.is_err.ensures.value ∙ c.if-is_err.false) c.clear.ensures refl)
