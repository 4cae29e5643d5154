-- The proof of the cycle of calls {sort_in}. The measure is the list's length, which is less in each half. What is asked of lists is in `Merging`. Assumes nothing.
use Rattle.std.proofs.Common.{◌≡◌, ◌-◌, ◌/◌, length, ◌∙◌, length-take-le, rules}
use Rattle.ordering.proofs.Merging.{all_doubles, half_le, second_length, sort_made}
use Rattle.ordering.proofs.+sort_in.Goals as goal

pub returns : goal.returns
returns t c =
    let m = length c.args.xs.now / 2 in
    let h = half_le (length c.args.xs.now) in
    let np : length c.sort_in.new.xs ≡ m = c.sort_in.auto.xs ∙ length-take-le m c.args.xs.now h in
    let nq : length c.sort_in-2.new.xs ≡ length c.args.xs.now - m = c.sort_in-2.auto.xs ∙ second_length c.args.xs.now c.sort_in.new.xs m h np in
    sort_made c.args.xs.now c.sort_in.new.xs m h np c.sort_in-2.new.xs nq _ (all_doubles c.args.xs.now (λ i. search rules)) c.sort_in.ensures c.sort_in-2.ensures c.merge.ensures
