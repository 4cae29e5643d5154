-- `arithmetic::root::lift` meets its contract: the highest digit of t is the one that the count of its leading zeros finds. Assumes nothing.
use Rattle.std.proofs.Common.{ℕ, ◌-◌, ◌*◌, ◌^◌, ◌<◌, ◌≤◌}
use lib.Count.{count_leading_zeros, leading_top}
use Rattle.arithmetic.proofs.root.Laws.{lifted}
use Rattle.arithmetic.proofs.root.lift.Goals as goal

abbrev Says : ℕ → ℕ → Type 0
Says t l = (2 ^ 52 ≤ t * 2 ^ (l - 11)) × (t * 2 ^ (l - 11) < 2 ^ 53) × (l - 11 ≤ 52) × (11 ≤ l)

says : (t : ℕ) → 0 < t → t < 2 ^ 64 → t < 2 ^ 52 → Says t (count_leading_zeros 64 t)
says t some fits small =
    let top = leading_top 64 t some fits in
    lifted t top.0 (count_leading_zeros 64 t) top.1 top.2 top.3 small

pub overflow_sub-result : goal.overflow_sub-result
overflow_sub-result c = (says c.args.t c.requires.0 c.ranges.t.fits c.requires.1).3

pub returns : goal.returns
returns c =
    let s = says c.args.t c.requires.0 c.ranges.t.fits c.requires.1 in
    (s.0, s.1, s.2)
