-- `listing::refusal_line` meets its contract. Assumes nothing.
use mathlib.Core.Path.{◌∙◌}
use native.Mathlib.Omega.{arith}
use Rattle.writing.proofs.Digits.{decimal_long}
use Rattle.listing.proofs.Sheets.{made_done, made_exit, line_said, line_fits}
use Rattle.listing.proofs.refusal_line.Goals as goal

pub overflow_add-k : goal.overflow_add-k
overflow_add-k c = omega (arith, c.places-k.ensures, decimal_long c.args.number)

pub returns-in_err-refuse : goal.returns-in_err-refuse
returns-in_err-refuse c =
    made_exit _ _ _ _ _ _ c.from_residual.ensures.1 (line_said _ _ _ c.places-k.ensures _ (rw c.clear.auto.out at c.refuse.ensures) ∙ c.in_err-refuse.was) c.clear.ensures

pub put_refusal-requires : goal.put_refusal-requires
put_refusal-requires c = line_fits _ _ _ c.places-k.ensures _ c.refuse.ensures c.in_ok-refuse.was

pub returns : goal.returns
returns c =
    made_done _ _ _ _ _ _ (line_said _ _ _ c.places-k.ensures _ (rw c.clear.auto.out at c.refuse.ensures) ∙ c.in_ok-refuse.was) c.clear.ensures c.put_refusal.ensures
