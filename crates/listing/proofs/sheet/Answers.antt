-- `listing::sheet` meets its contract: judged, cleared, written. Assumes nothing.
use mathlib.Core.Path.{sym, ◌∙◌}
use Rattle.listing.proofs.Sheets.{made_done, made_exit, sheet_said, listable}
use Rattle.listing.proofs.sheet.Goals as goal

pub returns-in_err-said : goal.returns-in_err-said
returns-in_err-said c =
    made_exit _ _ _ _ _ _ c.from_residual.ensures.1 (sym (sheet_said _ _ _ _ _ _ _ _ _ c.judge-judged.ensures c.figures-parted.ensures.value c.and_then-said.ensures) ∙ c.in_err-said.was) c.clear.ensures

pub put_listing-requires : goal.put_listing-requires
put_listing-requires c =
    listable _ _ _ _ _ _ _ _ _ c.judge-judged.ensures c.figures-parted.ensures.value c.and_then-said.ensures c.in_ok-said.was
    _ c.figures-parted.auto.out c.figures-parted.ensures.out_after _ c.clear.auto.out

pub returns : goal.returns
returns c =
    made_done _ _ _ _ _ _ (sym (sheet_said _ _ _ _ _ _ _ _ _ c.judge-judged.ensures c.figures-parted.ensures.value c.and_then-said.ensures) ∙ c.in_ok-said.was) c.clear.ensures c.put_listing.ensures
