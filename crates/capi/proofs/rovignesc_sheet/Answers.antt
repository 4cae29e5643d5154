-- `capi::rovignesc_sheet` meets its contract. Assumes nothing.
use native.Mathlib.Omega.{arith}
use Rattle.capi.proofs.Calls.{sheet_none, sheet_made}
use Rattle.capi.proofs.rovignesc_sheet.Goals as goal

pub shape_of-sheet-then-bytes-lt1 : goal.shape_of-sheet-then-bytes-lt1
shape_of-sheet-then-bytes-lt1 c = c.clear-then-bytes-lt1.auto.out

pub shape_of-bytes-then-bytes-lt1 : goal.shape_of-bytes-then-bytes-lt1
shape_of-bytes-then-bytes-lt1 c = c.clear.auto.out

pub returns-then-bytes-lt1 : goal.returns-then-bytes-lt1
returns-then-bytes-lt1 c =
    sheet_none _ _ _ _ _ c.clear.ensures c.if-bytes-lt1.true _ c.judge_bytes.ensures _ c.number.ensures _ c.clear-then-bytes-lt1.ensures

pub shape_of-sheet : goal.shape_of-sheet
shape_of-sheet c = c.text_to_sheet-listed.auto.out

pub returns : goal.returns
returns c =
    sheet_made _ _ _ _ _ c.clear.ensures (omega (arith, c.if-bytes-lt1.false)) _ _ c.text_to_sheet-listed.ensures _ c.bytes.ensures _ c.number_listed.ensures
