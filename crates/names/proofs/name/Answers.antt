-- `names::name` meets its contract. Assumes nothing.
use Prim.Native.Nat.{ℕ, ◌-◌}
use mathlib.Core.Path.{ap, ◌∙◌}
use native.Mathlib.Nat.{le_of_lt}
use native.Mathlib.Omega.{arith}
use lib.ListN.{length, take, drop, drop_of_length-le}
use lib.Seq.{drop-length, take-nil}
use Rattle.fields.specs.Split.{first_piece}
use Rattle.fields.proofs.Pieces.{cut_first, cut_front, front_length}
use Rattle.names.proofs.Pieces.{within, either_first}
use Rattle.names.proofs.name.Goals as goal

pub returns-then-text-start : goal.returns-then-text-start
unfolding first_piece
returns-then-text-start c =
    rw (drop-length, drop_of_length-le c.args.text.now c.if-text-start.true) (take-nil (length c.args.text.now - length c.args.text.now))

pub slice_bounds-field-count : goal.slice_bounds-field-count
slice_bounds-field-count c = omega (arith, within _ _ _ _ (le_of_lt c.if-text-start.false) c.end_of-e.ensures)

pub slice_bounds-field-start : goal.slice_bounds-field-start
slice_bounds-field-start c = omega (arith, within _ _ _ _ (le_of_lt c.if-text-start.false) c.end_of-e.ensures)

pub slice_bounds-field-end : goal.slice_bounds-field-end
slice_bounds-field-end c = omega (arith, within _ _ _ _ (le_of_lt c.if-text-start.false) c.end_of-e.ensures)

pub slice_bounds-result-end-2 : goal.slice_bounds-result-end-2
slice_bounds-result-end-2 c = rw c.end_of-k.ensures (front_length 10 _)

pub returns : goal.returns
returns c =
    let l = ap (λ (k : ℕ). take (k - c.args.start) (drop c.args.start c.args.text.now)) c.end_of-e.ensures ∙ cut_first 9 c.args.text.now c.args.start (omega arith) in
    rw c.end_of-k.ensures (cut_front 10 _ ∙ ap (first_piece 10) l ∙ either_first 10 9 (drop c.args.start c.args.text.now))
