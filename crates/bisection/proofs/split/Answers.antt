-- `bisection::split` meets its contract. Assumes nothing.
use Rattle.std.proofs.lemmas.Result.{err_from_is_err_and}
use Rattle.bisection.proofs.Halves.{split_left, split_right, split_both}
use Rattle.bisection.proofs.split.Goals as goal

pub returns-in_err-l : goal.returns-in_err-l
returns-in_err-l c = let p = err_from_is_err_and c.from_residual.result c.from_residual.ensures.1 in
    rw (p.1, p.2) (split_left _ _ c.args.part.now _ _ (rw c.requires at c.cluster_variance.ensures) c.in_err-l.was)

pub returns-in_err-r : goal.returns-in_err-r
returns-in_err-r c = let p = err_from_is_err_and c.from_residual-in_err-r.result c.from_residual-in_err-r.ensures.1 in
    rw (p.1, p.2) (split_right _ _ c.args.part.now _ _ _ (rw c.requires at c.cluster_variance.ensures) c.in_ok-l.was (rw c.requires at c.cluster_variance-2.ensures) _ c.in_err-r.was)

pub returns : goal.returns
returns c =
    split_both _ _ c.args.part.now _ _ _ (rw c.requires at c.cluster_variance.ensures) c.in_ok-l.was (rw c.requires at c.cluster_variance-2.ensures) _ _ c.in_ok-r.was c.factor.ensures
