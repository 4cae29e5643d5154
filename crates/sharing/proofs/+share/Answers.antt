-- `sharing::share` meets its contract. The measure is the node's id, which is less at each child. What is asked of lists is in `Steps`. Assumes nothing.
use mathlib.Core.Path.{refl, sym, ap, ◌∙◌}
use native.Mathlib.Omega.{arith}
use Rattle.std.proofs.lemmas.Result.{err_from_is_err_and}
use Rattle.clusters.specs.Shares.{some}
use Rattle.tree.proofs.Tree.{row_fits, left_falls, right_falls}
use Rattle.sharing.proofs.Laws.{blank_still}
use Rattle.sharing.proofs.Steps.{members_dealt, down_left, down_right, allot_leaf, allot_cut, no_split, left_refused, both}
use Rattle.sharing.proofs.+share.Goals as goal

pub returns-then-at-n : goal.returns-then-at-n
returns-then-at-n t c = record {
  weights_after = ap some c.give.ensures ∙ sym (allot_leaf c.requires.down c.args.cov.now c.args.weight c.if-at-n.true);
  scratch_unchanged = refl;
}

pub inside-requires : goal.inside-requires
inside-requires t c = members_dealt c.requires.down c.members-members.ensures

pub returns-then-k-clusters : goal.returns-then-k-clusters
returns-then-k-clusters t c = record {
  weights_after = allot_cut c.requires.down c.args.cov.now c.args.weight c.if-at-n.false c.if-k-clusters.true c.members-members.ensures c.inside.ensures;
  scratch_unchanged = refl;
}

pub bounds-rows-k : goal.bounds-rows-k
bounds-rows-k t c = omega (arith, row_fits c.requires.down.node.on c.if-at-n.false)

pub bounds-rows-k-2 : goal.bounds-rows-k-2
bounds-rows-k-2 t c = row_fits c.requires.down.node.on c.if-at-n.false

pub returns-in_err-split : goal.returns-in_err-split
returns-in_err-split t c =
    let p = err_from_is_err_and c.from_residual.result c.from_residual.ensures.1 in
    record {
      weights_after = rw p.1 (sym (no_split c.requires.down c.args.cov.now c.args.weight c.if-at-n.false c.if-k-clusters.false c.members-left.ensures c.members-right.ensures c.split_at.ensures.value c.in_err-split.was));
      scratch_unchanged = c.split_at.ensures.scratch_unchanged;
    }

pub share-requires : goal.share-requires
share-requires t c =
    (omega (arith, left_falls c.requires.down.node.on c.if-at-n.false, c.requires.down), (down_left c.requires.down c.if-at-n.false, blank_still c.requires.blank c.split_at.ensures.scratch_unchanged))

pub returns-in_err-share : goal.returns-in_err-share
returns-in_err-share t c =
    let p = err_from_is_err_and c.from_residual-in_err-share.result c.from_residual-in_err-share.ensures.1 in
    record {
      weights_after = rw p.1 (sym (left_refused c.requires.down c.args.cov.now c.args.weight c.if-at-n.false c.if-k-clusters.false c.members-left.ensures c.members-right.ensures c.split_at.ensures.value c.in_ok-split.was c.share.result c.share.new.weights c.share.ensures.weights_after c.in_err-share.was));
      scratch_unchanged = c.share.ensures.scratch_unchanged ∙ c.split_at.ensures.scratch_unchanged;
    }

pub share-requires-2 : goal.share-requires-2
share-requires-2 t c =
    (omega (arith, right_falls c.requires.down.node.on c.if-at-n.false, c.requires.down), (down_right c.requires.down c.if-at-n.false c.share.auto.weights, blank_still c.requires.blank (c.share.ensures.scratch_unchanged ∙ c.split_at.ensures.scratch_unchanged)))

pub returns : goal.returns
returns t c = record {
  weights_after = both c.requires.down c.args.cov.now c.args.weight c.if-at-n.false c.if-k-clusters.false c.members-left.ensures c.members-right.ensures c.split_at.ensures.value c.in_ok-split.was c.share.result c.share.new.weights c.share.ensures.weights_after c.in_ok-share.was c.share-2.ensures.weights_after;
  scratch_unchanged = c.share-2.ensures.scratch_unchanged ∙ c.share.ensures.scratch_unchanged ∙ c.split_at.ensures.scratch_unchanged;
}
