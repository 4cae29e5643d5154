-- `cutting::take_bytes` meets its contract. Assumes nothing.
use mathlib.Core.Path.{◌∙◌, refl, sym}
use Rattle.cutting.proofs.Steps.{fed_refused, fed_begins, fed_on}
use Rattle.cutting.specs.Calls.{streaming}
use Rattle.cutting.proofs.take_bytes.Goals as goal

pub returns-then-is_err : goal.returns-then-is_err
returns-then-is_err c =
    fed_refused c.args.feed c.args.table.now c.args.held.now c.judged-progress.result (c.judged-progress.ensures c.args.table.now refl) c.args.piece.now _ _ _ (sym c.is_err.ensures.value ∙ c.if-is_err.true) c.settle.ensures

pub take_each-fed-requires : goal.take_each-fed-requires
take_each-fed-requires c =
    let d = fed_begins c.args.feed c.args.table.now c.args.held.now c.judged-progress.result (c.judged-progress.ensures c.args.table.now refl) (sym c.is_err.ensures.value ∙ c.if-is_err.false) in
    record { held_bound = d.0; in_bounds = d.1 }

pub returns : goal.returns
returns c =
    let d = fed_begins c.args.feed c.args.table.now c.args.held.now c.judged-progress.result (c.judged-progress.ensures c.args.table.now refl) (sym c.is_err.ensures.value ∙ c.if-is_err.false) in
    fed_on c.args.feed c.args.table.now c.args.held.now c.args.piece.now c.take_each-fed.result c.take_each-fed.new.table c.take_each-fed.new.held _ _ _
    (c.take_each-fed.ensures.running (streaming c.args.feed c.args.table.now c.args.held.now) c.args.table.now d.2) c.take_each-fed.ensures.held_bound_2 d.1 c.take_each-fed.auto.held c.settle-2.ensures
