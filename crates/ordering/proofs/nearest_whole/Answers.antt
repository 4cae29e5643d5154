-- `ordering::nearest_whole` meets its contract. Assumes nothing.
use Rattle.std.proofs.Common.{ℕ, ◌+◌, ◌*◌, ◌%◌, false, ap, ◌∙◌, subst, arith}
use lib.Ieee.Exact.{HasValue}
use Rattle.ordering.proofs.Nearest.{short_fits, whole_small, whole_less, whole_more, whole_tie}
use Rattle.ordering.proofs.nearest_whole.Goals as goal

pub truncating_f64_to_u64-t-requires-clause-upper_bound : goal.truncating_f64_to_u64-t-requires-clause-upper_bound
truncating_f64_to_u64-t-requires-clause-upper_bound c = short_fits c.args.x c.requires

pub half_past-half-requires : goal.half_past-half-requires
half_past-half-requires c = let w = whole_small c.args.x c.requires in omega arith

pub returns-then-x-half : goal.returns-then-x-half
returns-then-x-half c = c.truncating_f64_to_u64-t.ensures ∙ whole_less c.args.x c.half_past-half.result c.requires (subst (λ (t : ℕ). HasValue c.half_past-half.result false (2 * t + 1) 2) c.truncating_f64_to_u64-t.ensures c.half_past-half.ensures) c.if-x-half.true

pub overflow_add-result : goal.overflow_add-result
overflow_add-result c = let w = whole_small c.args.x c.requires in omega arith

pub returns-then-half-x : goal.returns-then-half-x
returns-then-half-x c = ap (λ (t : ℕ). t + 1) c.truncating_f64_to_u64-t.ensures ∙ whole_more c.args.x c.half_past-half.result c.requires (subst (λ (t : ℕ). HasValue c.half_past-half.result false (2 * t + 1) 2) c.truncating_f64_to_u64-t.ensures c.half_past-half.ensures) c.if-half-x.true

pub overflow_add-result-2 : goal.overflow_add-result-2
overflow_add-result-2 c = let w = whole_small c.args.x c.requires in omega arith

pub returns : goal.returns
returns c = ap (λ (t : ℕ). t + t % 2) c.truncating_f64_to_u64-t.ensures ∙ whole_tie c.args.x c.half_past-half.result c.requires (subst (λ (t : ℕ). HasValue c.half_past-half.result false (2 * t + 1) 2) c.truncating_f64_to_u64-t.ensures c.half_past-half.ensures) c.if-x-half.false c.if-half-x.false
