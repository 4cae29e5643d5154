-- `tree::each_tallied_once` meets its contract. The first m entries of the tally are 1. Assumes nothing.
use Rattle.std.specs.Prelude.{◌≡◌, ◌↔◌, IsTrue, get_or, take, EachIndex}
use borrow.Author.Rules.{rules}
use Rattle.tree.proofs.Counted.{tally_told}
use Rattle.tree.proofs.each_tallied_once.Goals as goal

pub returns : goal.returns
returns c =
    let e : IsTrue c.all.result ↔ EachIndex (take c.args.m c.tally-t.result) (λ k. get_or (take c.args.m c.tally-t.result) k 0 ≡ 1) = search rules in
    tally_told c.args.list.now c.tally-t.result c.args.m c.all.result c.tally-t.ensures c.requires (search rules) e
