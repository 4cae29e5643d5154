-- `resample::scan` meets its contract. No zero was met among the prices passed, and what is written so far are their returns. Assumes nothing.
use mathlib.Core.Path.{◌≡◌, refl, sym, ap, ◌∙◌}
use mathlib.Core.Bool.{true≢false}
use Prim.Native.Nat.{ℕ, ◌+◌, ◌*◌}
use native.Mathlib.Nat.{zero-mul, add-zero}
use native.Mathlib.Omega.{arith}
use Rattle.lent.proofs.Laws.{cell_lt, cell_in, next_row}
use Rattle.lent.proofs.Fill.{rows_start, rows_keep, rows_step, rows_end, cells_start, cells_step, cells_end}
use Rattle.resample.specs.Resample.{zero_met}
use Rattle.resample.proofs.Laws.{zero_none, zero_more, zero_hit, zero_test, return_stored}
use Rattle.resample.proofs.scan.Goals as goal

pub scan-init : goal.scan-init
scan-init c = (refl, rw zero-mul (zero_none _), rows_start _ _ _)

pub loop-c-init : goal.loop-c-init
loop-c-init c =
    (refl, rw add-zero c.scan.invariant.1, cells_start _ _ _ _ (rows_keep _ _ _ _ _ _ c.scan.invariant.2 (omega arith) c.requires.columns_in_bounds))

pub at-previous-requires : goal.at-previous-requires
at-previous-requires c =
    cell_in c.args.prices.now _ _ _ _ c.requires.prices_len (omega arith) (omega arith)

pub at-price-requires : goal.at-price-requires
at-price-requires c =
    cell_in c.args.prices.now _ _ _ _ c.requires.prices_len (omega arith) (omega arith)

pub loop-c-preserved : goal.loop-c-preserved
loop-c-preserved c =
    let i : c.scan.r * c.args.columns + (c.loop-c.c + 1) ≡ c.scan.r * c.args.columns + c.loop-c.c + 1 = omega arith in
    let n = zero_more c.args.prices.now (c.scan.r * c.args.columns + c.loop-c.c) c.loop-c.invariant.1 (zero_test c.args.prices.now c.args.columns c.scan.r c.loop-c.c _ _ c.at-previous.ensures c.if-previous.false) in
    let v = return_stored c.args.prices.now c.args.columns c.scan.r c.loop-c.c _ _ _ c.settled.ensures c.at-price.ensures c.at-previous.ensures in
    (c.loop-c.invariant.0, rw i n, cells_step _ _ _ _ _ _ _ _ c.args.last c.put.ensures c.loop-c.invariant.2 v (omega arith) (omega arith) (omega arith))

pub scan-preserved : goal.scan-preserved
scan-preserved c =
    let i : (c.scan.r + 1) * c.args.columns ≡ c.scan.r * c.args.columns + c.loop-c.c = omega (arith, next_row c.scan.r c.args.columns) in
    let row = cells_end _ _ _ _ _ _ c.loop-c.invariant.2 (omega arith) (omega arith) in
    (c.loop-c.invariant.0 ∙ c.scan.invariant.0, rw i c.loop-c.invariant.1, rows_step _ _ _ _ _ _ _ row c.scan.invariant.2 (omega arith) c.requires.columns_in_bounds)

pub returns-after-scan : goal.returns-after-scan
returns-after-scan c =
    let i : c.scan.r ≡ c.args.last = omega arith in
    record {
      value = c.scan.invariant.0 ∙ sym c.scan.invariant.1 ∙ ap (λ (k : ℕ). zero_met c.args.prices.now (k * c.args.columns)) i;
      out_after = (λ z. rows_end _ _ _ _ _ _ c.scan.invariant.2 (omega arith) (omega arith));
    }

pub returns-then-previous : goal.returns-then-previous
returns-then-previous c =
    let h = cell_lt c.args.last c.args.columns c.scan.r c.loop-c.c (omega arith) (omega arith) in
    record {
      value = sym (zero_hit c.args.prices.now (c.args.last * c.args.columns) (c.scan.r * c.args.columns + c.loop-c.c) h (zero_test c.args.prices.now c.args.columns c.scan.r c.loop-c.c _ _ c.at-previous.ensures c.if-previous.true));
      out_after = (λ z. absurd (true≢false z));
    }
