-- `clusters::any_outside` meets its contract. Assumes nothing.
use Rattle.std.proofs.Common.{◌≡◌, true, false, leb, rules}
use Rattle.std.specs.Bool.{MatchBool}
use Rattle.std.specs.List.{Any, All}
use Rattle.clusters.specs.Clusters.{outside}
use Rattle.clusters.proofs.Laws.{any_listed}
use Rattle.clusters.proofs.any_outside.Goals as goal

pub returns : goal.returns
unfolding outside
returns c =
    let e : MatchBool c.any.result (Any (λ a. leb c.args.n a ≡ true) c.args.assets.now) (All (λ a. leb c.args.n a ≡ false) c.args.assets.now) = search rules in
    any_listed (λ a. leb c.args.n a) c.args.assets.now c.any.result e
