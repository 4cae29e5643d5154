-- `bisection::share` meets its contract. Assumes nothing.
use mathlib.Core.Path.{◌∙◌}
use Rattle.std.proofs.lemmas.Result.{err_from_is_err_and}
use Rattle.clusters.proofs.Sharing.{shared_done, shared_refused}
use Rattle.bisection.proofs.Halves.{share_no, share_yes}
use Rattle.bisection.proofs.share.Goals as goal

pub returns-in_err-bisect : goal.returns-in_err-bisect
returns-in_err-bisect c = let p = err_from_is_err_and c.from_residual.result c.from_residual.ensures.1 in
    rw p.1 (shared_refused _ _ ∙ share_no _ _ _ c.bisect.result _ (rw c.requires.weights_value at c.bisect.ensures) _ c.in_err-bisect.was)

pub returns : goal.returns
returns c = shared_done _ ∙ share_yes _ _ _ c.bisect.result _ (rw c.requires.weights_value at c.bisect.ensures) c.in_ok-bisect.was _ c.normalise.ensures
