-- `capi::rovignesc_refusal_line` meets its contract. Assumes nothing.
use native.Mathlib.Omega.{arith}
use Rattle.capi.proofs.Calls.{line_none, line_made}
use Rattle.capi.proofs.rovignesc_refusal_line.Goals as goal

pub returns-then-bytes-lt1 : goal.returns-then-bytes-lt1
returns-then-bytes-lt1 c = line_none _ _ _ _ c.clear.ensures c.if-bytes-lt1.true _ c.number.ensures _ c.clear-then-bytes-lt1.ensures

pub returns : goal.returns
returns c =
    line_made _ _ _ _ c.clear.ensures (omega (arith, c.if-bytes-lt1.false)) _ _ c.refusal_line-listed.ensures _ c.bytes.ensures _ c.number_listed.ensures
