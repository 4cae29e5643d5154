-- `capi::rovignesc_linkage_children` meets its contract. Assumes nothing.
use Rattle.capi.proofs.Calls.{merge_refused, merge_place, merge_told, merge_made}
use lib.ListN.{length}
use Rattle.capi.proofs.rovignesc_linkage_children.Goals as goal

pub shape_of-rows-in_default : goal.shape_of-rows-in_default
shape_of-rows-in_default c = c.clear-in_default.auto.out

pub shape_of-pairs-in_default : goal.shape_of-pairs-in_default
shape_of-pairs-in_default c = c.clear.auto.out

pub returns-in_default : goal.returns-in_default
returns-in_default c =
    merge_refused _ _ _ _ _ _ _ _ c.judge_merge-said.ensures c.clear.ensures _ c.in_default.is _ c.number.ensures _ c.clear-in_default.ensures

pub bounds-pairs-0 : goal.bounds-pairs-0
bounds-pairs-0 c =
    merge_place c.args.distances.now c.args.distances_rows c.args.distances_columns c.args.linkage.now (length c.args.rows.now) (length c.args.pairs.now) _ _ c.judge_merge-said.ensures c.clear.ensures c.in-Ok.is

pub shape_of-rows-in-Ok-answer : goal.shape_of-rows-in-Ok-answer
shape_of-rows-in-Ok-answer c = c.linkage_children-answer.auto.out

pub returns-in-Ok-answer : goal.returns-in-Ok-answer
returns-in-Ok-answer c =
    merge_made _ _ _ _ _ _ _ _ c.judge_merge-said.ensures c.clear.ensures c.in-Ok.is _ c.linkage_in.ensures _ c.linkage_children-answer.ensures.value _ c.linkage_children-answer.ensures.out_after _ _ c.in-Ok-answer.is

pub shape_of-rows-in-Err : goal.shape_of-rows-in-Err
shape_of-rows-in-Err c = c.linkage_children-answer.auto.out

pub shape_of-pairs-in-Err : goal.shape_of-pairs-in-Err
shape_of-pairs-in-Err c = c.clear.auto.out

pub returns-in-Err : goal.returns-in-Err
returns-in-Err c =
    merge_told _ _ _ _ _ _ _ _ c.judge_merge-said.ensures c.clear.ensures c.in-Ok.is _ c.linkage_in.ensures _ c.linkage_children-answer.ensures.value _ c.linkage_children-answer.ensures.out_after _ c.in-Err.is _ c.number-in-Err.ensures
