-- `job::finish` meets its contract. Assumes nothing.
use native.Mathlib.Omega.{arith}
use mathlib.Core.Path.{sym}
use Rattle.reading.proofs.Whole.{err_is}
use Rattle.job.proofs.Ends.{ends_refused, ws_size, ws_fit, os_size, os_fit, rs_size, rs_fit, some, ends_listed, ends_sheeted}
use Rattle.job.proofs.finish.Goals as goal

pub slice_bounds-weights-end : goal.slice_bounds-weights-end
slice_bounds-weights-end c = ws_fit _ _ c.requires.allotted _ _ c.requires.placed c.in_ok-said.was

pub slice_bounds-sheet-end : goal.slice_bounds-sheet-end
slice_bounds-sheet-end c = sym (ws_size _ _ c.requires.allotted _ _ c.requires.placed c.in_ok-said.was)

pub slice_bounds-order-end : goal.slice_bounds-order-end
slice_bounds-order-end c = os_fit _ _ c.requires.allotted _ _ c.requires.placed c.in_ok-said.was

pub slice_bounds-sheet-end-in-Listing : goal.slice_bounds-sheet-end-in-Listing
slice_bounds-sheet-end-in-Listing c = sym (os_size _ _ c.requires.allotted _ _ c.requires.placed c.in_ok-said.was)

pub slice_bounds-weights-end-in-Sheet : goal.slice_bounds-weights-end-in-Sheet
slice_bounds-weights-end-in-Sheet c = ws_fit _ _ c.requires.allotted _ _ c.requires.placed c.in_ok-said.was

pub slice_bounds-group_sheet-end : goal.slice_bounds-group_sheet-end
slice_bounds-group_sheet-end c = sym (ws_size _ _ c.requires.allotted _ _ c.requires.placed c.in_ok-said.was)

pub overflow_sub-rows : goal.overflow_sub-rows
overflow_sub-rows c = omega (arith, some _ _ c.requires.allotted _ _ c.requires.placed c.in_ok-said.was)

pub slice_bounds-rows-end : goal.slice_bounds-rows-end
slice_bounds-rows-end c = rs_fit _ _ c.requires.allotted _ _ c.requires.placed c.in_ok-said.was

pub slice_bounds-group_sheet-end-in-Sheet : goal.slice_bounds-group_sheet-end-in-Sheet
slice_bounds-group_sheet-end-in-Sheet c = sym (rs_size _ _ c.requires.allotted _ _ c.requires.placed c.in_ok-said.was)

pub returns-in_err-said : goal.returns-in_err-said
returns-in_err-said c = rw (err_is _ _ c.from_residual.ensures.1) (ends_refused _ _ c.requires.allotted _ _ c.requires.blank_listing _ c.in_err-said.was)

pub shape_of-out-in-Listing : goal.shape_of-out-in-Listing
shape_of-out-in-Listing c = c.sheet.auto.out

pub returns-in-Listing : goal.returns-in-Listing
returns-in-Listing c =
    ends_listed _ _ c.requires.allotted _ _ c.requires.placed c.in_ok-said.was _ c.in-Listing.is _ c.requires.blank_listing.room _ _ c.sheet.ensures

pub shape_of-out-in-Sheet : goal.shape_of-out-in-Sheet
shape_of-out-in-Sheet c = c.group_sheet.auto.out

pub returns-in-Sheet : goal.returns-in-Sheet
returns-in-Sheet c =
    ends_sheeted _ _ c.requires.allotted _ _ c.requires.placed c.in_ok-said.was _ _ c.in-Sheet.is _ c.requires.blank_listing.room _ _ c.group_sheet.ensures
