-- `reading::read_text` meets its contract. Assumes nothing.
use mathlib.Core.Path.{◌≡◌, refl, sym, ap, ◌∙◌}
use native.Mathlib.Nat.{le_trans}
use native.Mathlib.Omega.{arith}
use borrow.Author.Tests.{ltb-true, ltb-false}
use Rattle.std.specs.Prelude.{Err}
use Rattle.refusal.specs.declared.Refusal.TheVariants.{MalformedText}
use Rattle.fields.proofs.Pieces.{end_le, front_length as front_end}
use Rattle.heading.specs.Heading.{head_of}
use Rattle.reading.proofs.Blocks.{front_length, held_few}
use Rattle.reading.proofs.Whole.{err_is, refused_by, passed_by, not_true, not_false, line_cut, priced_is, ceiled_is, block_asked, rows_short, ceilings_asked, text_as, text_lineless, text_blockless, text_unlimited, text_judged}
use Rattle.reading.proofs.read_text.Goals as goal

pub returns-in_err-refuse : goal.returns-in_err-refuse
returns-in_err-refuse c =
    let h = refused_by _ _ _ _ c.refuse.ensures c.in_err-refuse.was in
    text_as _ _ _ _ _ _ _ _ _ (err_is _ _ c.from_residual.ensures.1 ∙ ap Err h.1) (text_lineless _ _ _ _ _ _ _ _ c.count-ends.ensures (omega (arith, ltb-true _ _ h.0)))

pub slice_bounds-line-end : goal.slice_bounds-line-end
slice_bounds-line-end c = rw c.end_of-e.ensures (front_end 10 _)

pub overflow_add-from : goal.overflow_add-from
overflow_add-from c =
    omega (arith, c.end_of-e.ensures, end_le 10 c.args.text.now 0 (omega arith), c.requires.text_len_bound)

pub read_block-found-requires : goal.read_block-found-requires
read_block-found-requires c =
    let l = line_cut _ _ c.end_of-e.ensures in
    let p = priced_is _ _ _ c.is_priced-priced.ensures l in
    let q = ceiled_is _ _ _ c.is_ceiled-ceiled.ensures l in
    block_asked _ _ _ _ _ _ _ _ c.requires.text_len_bound c.end_of-e.ensures c.count-ends.ensures (ltb-false _ _ (passed_by _ _ _ c.refuse.ensures c.in_ok-refuse.was)) p q c.from.ensures c.requires.in_bounds c.requires.in_bounds_2

pub returns-in_err-assets : goal.returns-in_err-assets
returns-in_err-assets c =
    let n = c.in_err-assets.ensures.ok_part in
    let v = rw n at c.in_err-assets.ensures.value in
    let k : c.in_err-assets.field-0.0 ≡ MalformedText = cc in
    text_as _ _ _ _ _ _ _ _ _ (err_is _ _ c.from_residual-in_err-assets.ensures.1 ∙ ap Err k) (text_blockless _ _ _ _ _ _ _ _ c.read_block-found.ensures n)

pub held-w-requires : goal.held-w-requires
held-w-requires c = rows_short c.read_block-found.ensures _ _ c.in_ok-assets.ensures.ok_part c.requires.text_len_bound

pub slice_bounds-read_ceilings-end : goal.slice_bounds-read_ceilings-end
slice_bounds-read_ceilings-end c = le_trans (held_few _ _ _ c.held-w.ensures) c.requires.in_bounds_3

pub slice_bounds-read_ceilings-end-2 : goal.slice_bounds-read_ceilings-end-2
slice_bounds-read_ceilings-end-2 c = front_length _ _ (le_trans (held_few _ _ _ c.held-w.ensures) c.requires.in_bounds_3)

pub read_ceilings-good-requires : goal.read_ceilings-good-requires
read_ceilings-good-requires c =
    let l = line_cut _ _ c.end_of-e.ensures in
    let p = priced_is _ _ _ c.is_priced-priced.ensures l in
    let q = ceiled_is _ _ _ c.is_ceiled-ceiled.ensures l in
    let b = block_asked _ _ _ _ _ _ _ _ c.requires.text_len_bound c.end_of-e.ensures c.count-ends.ensures (ltb-false _ _ (passed_by _ _ _ c.refuse.ensures c.in_ok-refuse.was)) p q c.from.ensures c.requires.in_bounds c.requires.in_bounds_2 in
    ceilings_asked c.read_block-found.ensures _ _ c.in_ok-assets.ensures.ok_part b _ q _ _ c.held-w.ensures (sym (front_length _ _ (le_trans (held_few _ _ _ c.held-w.ensures) c.requires.in_bounds_3)))

pub returns-in_err-refuse-2 : goal.returns-in_err-refuse-2
returns-in_err-refuse-2 c =
    let h = refused_by _ _ _ _ c.refuse-2.ensures c.in_err-refuse-2.was in
    text_as _ _ _ _ _ _ _ _ _ (err_is _ _ c.from_residual-in_err-refuse-2.ensures.1 ∙ ap Err h.1)
    (text_unlimited _ _ _ _ _ _ _ _ c.read_block-found.ensures _ _ c.in_ok-assets.ensures.ok_part _ c.held-w.ensures _ _ (le_trans (held_few _ _ _ c.held-w.ensures) c.requires.in_bounds_3) c.read_ceilings-good.ensures (not_true _ h.0))

pub judged-requires : goal.judged-requires
judged-requires c = rows_short c.read_block-found.ensures _ _ c.in_ok-assets.ensures.ok_part c.requires.text_len_bound

pub returns : goal.returns
returns c =
    let l = line_cut _ _ c.end_of-e.ensures in
    let p = priced_is _ _ _ c.is_priced-priced.ensures l in
    let q = ceiled_is _ _ _ c.is_ceiled-ceiled.ensures l in
    text_judged _ _ _ _ _ _ _ _ c.read_block-found.ensures _ _ c.in_ok-assets.ensures.ok_part _ c.held-w.ensures _ _ (le_trans (held_few _ _ _ c.held-w.ensures) c.requires.in_bounds_3) c.read_ceilings-good.ensures (not_false _ (passed_by _ _ _ c.refuse-2.ensures c.in_ok-refuse-2.was)) refl
    (omega (arith, c.count-ends.ensures, ltb-false _ _ (passed_by _ _ _ c.refuse.ensures c.in_ok-refuse.was))) _ (c.head-asked.ensures ∙ ap head_of l) _ p _ q _ c.judged.ensures
