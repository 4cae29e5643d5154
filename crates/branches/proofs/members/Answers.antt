-- `branches::members` meets its contract. The part that is judged to be there. Assumes nothing.
use native.Mathlib.Omega.{arith}
use Rattle.branches.proofs.Answer.{lookup_none, lookup_within, lookup_some}
use Rattle.branches.proofs.members.Goals as goal

pub returns-in_default : goal.returns-in_default
returns-in_default c = lookup_none _ _ _ _ _ _ c.judge_members.ensures _ c.in_default.is

pub offset_bounds-firsts-at : goal.offset_bounds-firsts-at
offset_bounds-firsts-at c = omega (arith, (lookup_within _ _ _ _ _ _ c.judge_members.ensures c.in-Ok.is).begun)

pub bounds-firsts-at : goal.bounds-firsts-at
bounds-firsts-at c = (lookup_within _ _ _ _ _ _ c.judge_members.ensures c.in-Ok.is).begun

pub offset_bounds-sizes-at : goal.offset_bounds-sizes-at
offset_bounds-sizes-at c = omega (arith, (lookup_within _ _ _ _ _ _ c.judge_members.ensures c.in-Ok.is).sized)

pub bounds-sizes-at : goal.bounds-sizes-at
bounds-sizes-at c = (lookup_within _ _ _ _ _ _ c.judge_members.ensures c.in-Ok.is).sized

pub overflow_add-end : goal.overflow_add-end
overflow_add-end c = omega (arith, (lookup_within _ _ _ _ _ _ c.judge_members.ensures c.in-Ok.is).fits)

pub offset_bounds-order-start : goal.offset_bounds-order-start
offset_bounds-order-start c = omega (arith, (lookup_within _ _ _ _ _ _ c.judge_members.ensures c.in-Ok.is).fits)

pub slice_bounds-result-end-2 : goal.slice_bounds-result-end-2
slice_bounds-result-end-2 c = (lookup_within _ _ _ _ _ _ c.judge_members.ensures c.in-Ok.is).fits

pub returns : goal.returns
returns c = lookup_some _ _ _ _ _ _ c.judge_members.ensures c.in-Ok.is
