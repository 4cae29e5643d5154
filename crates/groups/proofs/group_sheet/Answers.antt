-- `groups::group_sheet` meets its contract. Assumes nothing.
use native.Mathlib.Omega.{arith}
use lib.Seq.{length-take-le}
use mathlib.Core.Path.{sym, ◌∙◌}
use Rattle.listing.proofs.Sheets.{made_done, made_exit}
use Rattle.groups.proofs.Judged.{group_said, starts_few, room_holds, sheetable, sheet_of_lem}
use Rattle.groups.proofs.group_sheet.Goals as goal

pub slice_bounds-parts-end : goal.slice_bounds-parts-end
slice_bounds-parts-end c = omega (arith, c.figures-parted.auto.out, starts_few _ _ _ _ _ _ _ _ _ _ c.judge-judged.ensures c.figures-parted.ensures.value c.and_then-said.ensures c.in_ok-said.was _ c.figures-parted.ensures.out_after)

pub slice_bounds-put_sheet-end : goal.slice_bounds-put_sheet-end
slice_bounds-put_sheet-end c = sym (length-take-le _ _ (omega (arith, c.figures-parted.auto.out, starts_few _ _ _ _ _ _ _ _ _ _ c.judge-judged.ensures c.figures-parted.ensures.value c.and_then-said.ensures c.in_ok-said.was _ c.figures-parted.ensures.out_after)))

pub put_sheet-requires : goal.put_sheet-requires
put_sheet-requires c = record {
  sheetable = sheetable _ _ _ _ _ _ _ _ _ _ c.judge-judged.ensures c.figures-parted.ensures.value c.and_then-said.ensures c.in_ok-said.was _ c.figures-parted.ensures.out_after;
  named_in_bounds = room_holds _ _ _ _ _ _ _ _ _ _ c.judge-judged.ensures c.figures-parted.ensures.value c.and_then-said.ensures c.in_ok-said.was _ c.figures-parted.ensures.out_after _ c.clear.auto.out;
}

pub returns : goal.returns
returns c = made_done _ _ _ _ _ _ (sym (group_said _ _ _ _ _ _ _ _ _ _ c.judge-judged.ensures c.figures-parted.ensures.value c.and_then-said.ensures) ∙ c.in_ok-said.was) c.clear.ensures (sheet_of_lem _ _ _ _ _ _ _ _ _ _ c.judge-judged.ensures c.figures-parted.ensures.value c.and_then-said.ensures c.in_ok-said.was _ c.figures-parted.ensures.out_after c.put_sheet.ensures)

pub returns-in_err-said : goal.returns-in_err-said
returns-in_err-said c = made_exit _ _ _ _ _ _ c.from_residual.ensures.1 (sym (group_said _ _ _ _ _ _ _ _ _ _ c.judge-judged.ensures c.figures-parted.ensures.value c.and_then-said.ensures) ∙ c.in_err-said.was) c.clear.ensures
