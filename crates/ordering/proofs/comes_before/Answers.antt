-- `ordering::comes_before` meets its contract. Assumes nothing.
use Rattle.std.proofs.Common.{not, ap, sym, ◌∙◌}
use Rattle.ordering.proofs.Laws.{before_less, before_equal, before_apart, eq_right, sign_of, is_number}
use Rattle.ordering.proofs.comes_before.Goals as goal

pub returns-then-x-y : goal.returns-then-x-y
returns-then-x-y c = before_less _ _ c.if-x-y.true

pub is_sign_negative-requires-then-is_sign_negative : goal.is_sign_negative-requires-then-is_sign_negative
is_sign_negative-requires-then-is_sign_negative c = is_number _ (eq_right _ _ c.if-x-y-2.true)

pub returns-then-is_sign_negative : goal.returns-then-is_sign_negative
returns-then-is_sign_negative c =
    rw (before_equal c.args.x c.args.y c.if-x-y.false c.if-x-y-2.true, sign_of c.args.x, ← c.is_sign_negative.ensures, c.if-is_sign_negative.true)
    (ap not (c.is_sign_negative-then-is_sign_negative.ensures ∙ sym (sign_of c.args.y)))

pub returns-else-is_sign_negative : goal.returns-else-is_sign_negative
returns-else-is_sign_negative c =
    rw (before_equal c.args.x c.args.y c.if-x-y.false c.if-x-y-2.true, sign_of c.args.x, ← c.is_sign_negative.ensures, c.if-is_sign_negative.false)

pub returns-then-not-is_nan : goal.returns-then-not-is_nan
returns-then-not-is_nan c =
    rw (before_apart c.args.x c.args.y c.if-x-y.false c.if-x-y-2.false, ← c.is_nan.ensures.value, c.if-not-is_nan.true) c.is_nan-then-not-is_nan.ensures.value

pub returns-else-not-is_nan : goal.returns-else-not-is_nan
returns-else-not-is_nan c =
    rw (before_apart c.args.x c.args.y c.if-x-y.false c.if-x-y-2.false, ← c.is_nan.ensures.value, c.if-not-is_nan.false)
