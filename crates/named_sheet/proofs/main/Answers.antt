-- `named_sheet::main` is safe, and ends. Assumes nothing.
use native.Mathlib.Omega.{arith}
use Rattle.channel.proofs.Laws.{read_text}
use Rattle.named_sheet.proofs.main.Goals as goal

pub slice_bounds-text-end : goal.slice_bounds-text-end
slice_bounds-text-end c = omega (arith, (read_text _ _ _ c.in-Some.is c.read-input.ensures).0)

pub slice_bounds-text_to_sheet-end : goal.slice_bounds-text_to_sheet-end
slice_bounds-text_to_sheet-end c = (read_text _ _ _ c.in-Some.is c.read-input.ensures).1
