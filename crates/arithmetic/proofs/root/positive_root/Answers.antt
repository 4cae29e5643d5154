-- `arithmetic::root::positive_root` meets its contract. Assumes nothing.
use Rattle.std.proofs.Common.{◌≡◌, true, not, T, sym, ◌∙◌, subst, arith}
use lib.Ieee.{Float, nan, inf, fin, binary64, fits, is_nan, to_bits}
use lib.Ieee.Bits.{of_bits-to_bits}
use lib.Ieee.Positive.{positive}
use Rattle.arithmetic.proofs.root.At.{root_at}
use Rattle.arithmetic.proofs.root.Pattern.{Worth, worth_of_lem, near_least, near_most, root_no_nan, pattern_is}
use Rattle.arithmetic.proofs.root.positive_root.Goals as goal

no_nan : (x : Float) → T (positive x) → T (not (is_nan x))
unfolding is_nan
no_nan nan p = absurd p
no_nan (inf s) p = absurd p
no_nan (fin s m e) p = tt

-- what owning an `f64` tells: the format holds it. So it is read back from its bits
worth_here : (x : Float) → fits binary64 x ≡ true → T (positive x) → Worth (to_bits binary64 x) x
worth_here x f p = worth_of_lem (to_bits binary64 x) x (of_bits-to_bits binary64 x (subst T (sym f) tt)) p

pub float_to_bits-b : goal.float_to_bits-b
float_to_bits-b c = no_nan c.args.x c.requires

pub radicand-s-requires : goal.radicand-s-requires
radicand-s-requires c = (worth_here c.args.x c.well_formed.0.1 c.requires).pattern

pub overflow_add-result : goal.overflow_add-result
overflow_add-result c =
    let s = c.radicand-s in
    omega (arith, near_most s.result.m c.nearest-q.result c.nearest-q.ensures s.ensures.value.most, s.ensures.value.small)

pub float_from_bits-result : goal.float_from_bits-result
float_from_bits-result c =
    let s = c.radicand-s in
    let least = near_least s.result.m c.nearest-q.result c.nearest-q.ensures s.ensures.value.least in
    let most = near_most s.result.m c.nearest-q.result c.nearest-q.ensures s.ensures.value.most in
    root_no_nan s.result.k c.nearest-q.result least most s.ensures.value.small

pub returns : goal.returns
returns c =
    let s = c.radicand-s in
    let least = near_least s.result.m c.nearest-q.result c.nearest-q.ensures s.ensures.value.least in
    let most = near_most s.result.m c.nearest-q.result c.nearest-q.ensures s.ensures.value.most in
    pattern_is s.result.k c.nearest-q.result least most s.ensures.value.small
    ∙ sym (root_at c.args.x _ s.result.m s.result.k c.nearest-q.result (worth_here c.args.x c.well_formed.0.1 c.requires).value s.ensures.value.value s.ensures.value.least (omega (arith, s.ensures.value.most)) c.nearest-q.ensures)
