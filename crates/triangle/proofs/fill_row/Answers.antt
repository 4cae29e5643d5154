-- `triangle::fill_row` meets its contract. The invariant: the cells of row r from the diagonal to c are copied, and held to their mirrors. Assumes nothing.
use borrow.Author.Rules.{rules}
use native.Mathlib.Omega.{arith}
use Prim.Native.Nat.{ℕ, ◌+◌, ◌-◌}
use mathlib.Core.Path.{◌≡◌, sym, ap, ◌∙◌}
use mathlib.Core.Bool.{Bool, ◌&&◌}
use mathlib.Core.List.{List}
use lib.Dec.{eqb}
use lib.ListN.{length, set}
use lib.Ieee.{Float, binary64, to_bits}
use Rattle.lent.specs.Grid.{cell}
use Rattle.lent.proofs.Range.{range_none, range_more, range_end}
use Rattle.triangle.specs.declared.Form.TheVariants.{Triangle}
use Rattle.triangle.specs.Triangle.{place_of, is_mirror, mirror_row, upper_row}
use Rattle.triangle.proofs.Places.{right_at, write_in}
use Rattle.triangle.proofs.fill_row.Goals as goal

-- one cell more held to its mirror
told : (xs : List Float) (same : Bool) (n r c : ℕ) (z : Bool) (x y : Float) → z ≡ (same && eqb (to_bits binary64 x) (to_bits binary64 y)) → x ≡ cell xs n r c → y ≡ cell xs n c r
    → z ≡ (same && is_mirror xs n r c)
unfolding is_mirror
told xs same n r c z x y e p q = rw (← p, ← q) e

pub loop-c-init : goal.loop-c-init
loop-c-init c = (sym (range_none _ _ _ _ (search rules)), sym (range_none _ _ _ _ (search rules)))

pub overflow_add-d : goal.overflow_add-d
overflow_add-d c = omega (arith, (write_in c.args.n _ c.args.r c.loop-c.c (length c.loop-c.d) c.requires.0 (omega arith) (omega arith) (omega (arith, c.requires.3, c.loop-c.auto.d)) c.row_start-base.ensures).1)

pub offset_bounds-d-base : goal.offset_bounds-d-base
offset_bounds-d-base c = omega (arith, (write_in c.args.n _ c.args.r c.loop-c.c (length c.loop-c.d) c.requires.0 (omega arith) (omega arith) (omega (arith, c.requires.3, c.loop-c.auto.d)) c.row_start-base.ensures).1)

pub bounds-d-base : goal.bounds-d-base
bounds-d-base c = (write_in c.args.n _ c.args.r c.loop-c.c (length c.loop-c.d) c.requires.0 (omega arith) (omega arith) (omega (arith, c.requires.3, c.loop-c.auto.d)) c.row_start-base.ensures).0

pub loop-c-preserved : goal.loop-c-preserved
loop-c-preserved c =
    let f : ℕ → Bool → Bool = λ i b. b && is_mirror c.args.xs.now c.args.n c.args.r i in
    let u : ℕ → List Float → List Float = λ i t. set t (place_of Triangle c.args.n c.args.r i) (cell c.args.xs.now c.args.n c.args.r i) in
    let q = right_at Triangle c.args.n _ c.args.r c.loop-c.c (omega arith) c.row_start-base.ensures in (
      told c.args.xs.now c.loop-c.same c.args.n c.args.r c.loop-c.c _ _ _ c.agrees-same.ensures c.at-x.ensures c.at.ensures ∙ ap (f c.loop-c.c) c.loop-c.invariant.0 ∙ sym (range_more f _ _ _ (omega arith)),
      ap (λ (x : Float). set c.loop-c.d (c.row_start-base.result + (c.loop-c.c - c.args.r - 1)) x) c.at-x.ensures
          ∙ ap (λ (j : ℕ). set c.loop-c.d j (cell c.args.xs.now c.args.n c.args.r c.loop-c.c)) q
          ∙ ap (u c.loop-c.c) c.loop-c.invariant.1
          ∙ sym (range_more u _ _ _ (omega arith)),
    )

pub returns : goal.returns
unfolding mirror_row upper_row
returns c = (range_end _ _ _ _ _ _ c.loop-c.invariant.0 (omega arith) (omega arith), range_end _ _ _ _ _ _ c.loop-c.invariant.1 (omega arith) (omega arith))
