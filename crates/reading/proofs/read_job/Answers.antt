-- `reading::read_job` meets its contract. Assumes nothing.
use mathlib.Core.Path.{sym, ap, ◌∙◌}
use native.Mathlib.Omega.{arith}
use Rattle.lent.specs.Grid.{zeros, noughts}
use Rattle.reading.proofs.Answer.{sizes_fit, answer_as, ends_small, ends_refused, ends_done}
use Rattle.reading.proofs.Whole.{err_is}
use Rattle.reading.proofs.read_job.Goals as goal

pub returns-in_err-said : goal.returns-in_err-said
returns-in_err-said c =
    answer_as (err_is _ _ c.from_residual.ensures.1)
    (ends_small _ _ _ c.judge-said.ensures _ _ _ _ c.in_err-said.was (record {
      cells = c.blank.ensures.cells_after;
      starts = c.blank.ensures.starts_after;
      ceilings = c.blank.ensures.ceilings_after;
    }))

pub read_text-read-requires : goal.read_text-read-requires
read_text-read-requires c = let f = sizes_fit _ _ (sym c.judge-said.ensures ∙ c.in_ok-said.was) in
    record {
      text_len_bound = f.short;
      in_bounds = omega (arith, f.roomy, c.blank.auto.cells);
      in_bounds_2 = omega (arith, f.placed, c.blank.auto.starts);
      in_bounds_3 = omega (arith, f.limits, c.blank.auto.ceilings);
    }

pub returns-then-is_err : goal.returns-then-is_err
returns-then-is_err c =
    ends_refused _ _ _ c.judge-said.ensures _ _ _ _ _ _ _ c.in_ok-said.was c.read_text-read.ensures _ _ _ (sym c.is_err.ensures.value ∙ c.if-is_err.true) (record {
      cells = c.blank-then-is_err.ensures.cells_after ∙ ap zeros (c.read_text-read.auto.cells ∙ c.blank.auto.cells);
      starts = c.blank-then-is_err.ensures.starts_after ∙ ap noughts (c.read_text-read.auto.starts ∙ c.blank.auto.starts);
      ceilings = c.blank-then-is_err.ensures.ceilings_after ∙ ap noughts (c.read_text-read.auto.ceilings ∙ c.blank.auto.ceilings);
    })

pub returns-else-is_err : goal.returns-else-is_err
returns-else-is_err c =
    ends_done _ _ _ c.judge-said.ensures _ _ _ _ _ _ _ c.in_ok-said.was c.read_text-read.ensures (sym c.is_err.ensures.value ∙ c.if-is_err.false)
    (record {
      cells = c.blank.ensures.cells_after;
      starts = c.blank.ensures.starts_after;
      ceilings = c.blank.ensures.ceilings_after;
    })
