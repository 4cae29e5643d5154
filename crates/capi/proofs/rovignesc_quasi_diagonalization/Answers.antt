-- `capi::rovignesc_quasi_diagonalization` meets its contract. Assumes nothing.
use Rattle.capi.proofs.Calls.{leaf_refused, leaf_place, leaf_told, leaf_made}
use Rattle.capi.proofs.rovignesc_quasi_diagonalization.Goals as goal

pub shape_of-order-in_default : goal.shape_of-order-in_default
shape_of-order-in_default c = c.clear-in_default.auto.out

pub shape_of-leaves-in_default : goal.shape_of-leaves-in_default
shape_of-leaves-in_default c = c.clear.auto.out

pub returns-in_default : goal.returns-in_default
returns-in_default c =
    leaf_refused _ _ _ _ _ _ _ c.judge_leaves-said.ensures c.clear.ensures _ c.in_default.is _ c.number.ensures _ c.clear-in_default.ensures

pub shape_of-order-in_default-answer : goal.shape_of-order-in_default-answer
shape_of-order-in_default-answer c = c.quasi_diagonalization-answer.auto.out

pub shape_of-leaves-in_default-answer : goal.shape_of-leaves-in_default-answer
shape_of-leaves-in_default-answer c = c.clear.auto.out

pub returns-in_default-answer : goal.returns-in_default-answer
returns-in_default-answer c =
    leaf_told _ _ _ _ _ _ _ c.judge_leaves-said.ensures c.clear.ensures c.in-Ok.is _ c.quasi_diagonalization-answer.ensures.value _ c.quasi_diagonalization-answer.ensures.out_after _ c.in_default-answer.is _ c.told.ensures _ c.number-in_default-answer.ensures

pub bounds-leaves-0 : goal.bounds-leaves-0
bounds-leaves-0 c =
    leaf_place _ _ _ _ _ c.judge_leaves-said.ensures c.clear.ensures c.in-Ok.is

pub shape_of-order : goal.shape_of-order
shape_of-order c = c.quasi_diagonalization-answer.auto.out

pub returns : goal.returns
returns c =
    leaf_made _ _ _ _ _ _ _ c.judge_leaves-said.ensures c.clear.ensures c.in-Ok.is _ c.quasi_diagonalization-answer.ensures.value _ c.quasi_diagonalization-answer.ensures.out_after _ _ c.in-Ok-answer.is
