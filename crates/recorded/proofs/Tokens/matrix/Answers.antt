-- `recorded::Tokens::matrix` meets its contract. Assumes nothing.
use Rattle.std.proofs.Common.{◌∙◌}
use Rattle.recorded.proofs.Laws.{place_three, token_first, token_second, token_third, token_fourth, shape_read, matrix_place_lem}
use Rattle.recorded.proofs.Tokens.matrix.Goals as goal

pub returns-clause-shape_value : goal.returns-clause-shape_value
returns-clause-shape_value c =
    let s = c.next-given.ensures.same_text in
    let t = c.next-rows.ensures.same_text ∙ s in
    let a = rw s at c.next-rows.ensures.at_after in
    shape_read _ _ _ _ _ _ _ c.shape_if-shape.ensures (token_first _ _ _ c.next-given.ensures.value)
    (token_second _ _ _ _ c.next-given.ensures.at_after (rw s at c.next-rows.ensures.value))
    (token_third _ _ _ _ _ c.next-given.ensures.at_after a (rw t at c.next-columns.ensures.value))

pub returns-clause-len_value : goal.returns-clause-len_value
returns-clause-len_value c =
    let s = c.next-given.ensures.same_text in
    let t = c.next-rows.ensures.same_text ∙ s in
    let u = c.next-columns.ensures.same_text ∙ t in
    token_fourth _ _ _ _ (place_three _ _ _ _ _ c.next-given.ensures.at_after (rw s at c.next-rows.ensures.at_after) (rw t at c.next-columns.ensures.at_after))
    (rw u at c.fill_from-len.ensures.value)

pub returns-clause-at_after : goal.returns-clause-at_after
returns-clause-at_after c =
    let s = c.next-given.ensures.same_text in
    let t = c.next-rows.ensures.same_text ∙ s in
    let u = c.next-columns.ensures.same_text ∙ t in
    matrix_place_lem _ _ _ _ _ (place_three _ _ _ _ _ c.next-given.ensures.at_after (rw s at c.next-rows.ensures.at_after) (rw t at c.next-columns.ensures.at_after))
    (rw u at c.fill_from-len.ensures.at_after)
