-- `decimals::read_bare` meets its contract. Assumes nothing.
use mathlib.Core.Path.{sym, ap, ◌∙◌}
use native.Mathlib.Omega.{arith}
use Rattle.fields.specs.Inner.{spelled_after}
use Rattle.fields.proofs.Digits.{room_of_ten}
use Rattle.decimals.specs.Inner.{fraction_read}
use Rattle.decimals.proofs.Reading.{seen, bare_shape, bare_none, bare_some, room_after, shaped_sum, spelled_some, front_lt}
use Rattle.decimals.proofs.read_bare.Goals as goal

-- each clause, from a proof of all
clauses : {A B : Type 0} → A × B → record { w_len_bound : A; n_bound : B }
clauses p = record { w_len_bound = p.0; n_bound = p.1 }

pub returns-then-not-shaped : goal.returns-then-not-shaped
returns-then-not-shaped c =
    sym (bare_shape _ (seen _ _ _ _ _ _ c.shaped.ensures c.count.ensures c.piece-front.ensures c.piece-back.ensures c.if-not-shaped.true))

pub digits-requires : goal.digits-requires
digits-requires c = let h = shaped_sum _ _ _ (seen _ _ _ _ _ _ c.shaped.ensures c.count.ensures c.piece-front.ensures c.piece-back.ensures c.if-not-shaped.false) in
    room_of_ten _ (rw c.piece-front.ensures (omega arith))

pub fraction-requires : goal.fraction-requires
fraction-requires c = let h = shaped_sum _ _ _ (seen _ _ _ _ _ _ c.shaped.ensures c.count.ensures c.piece-front.ensures c.piece-back.ensures c.if-not-shaped.false) in
    let s = spelled_some 0 _ _ (sym (c.digits.ensures ∙ ap (spelled_after 10 0) c.piece-front.ensures) ∙ c.in_ok-n.was) in
    clauses
    (rw c.piece-back.ensures (omega arith, room_after _ _ _ h (rw s.1 (front_lt _ s.0))))

pub returns-in_err-n : goal.returns-in_err-n
returns-in_err-n c =
    let h = seen _ _ _ _ _ _ c.shaped.ensures c.count.ensures c.piece-front.ensures c.piece-back.ensures c.if-not-shaped.false in
    c.from_residual.ensures ∙ sym (bare_none _ h (sym (c.digits.ensures ∙ ap (spelled_after 10 0) c.piece-front.ensures) ∙ c.in_err-n.was))

pub returns : goal.returns
returns c =
    let h = seen _ _ _ _ _ _ c.shaped.ensures c.count.ensures c.piece-front.ensures c.piece-back.ensures c.if-not-shaped.false in
    c.fraction.ensures
    ∙ ap (fraction_read _) c.piece-back.ensures
    ∙ sym (bare_some _ _ h (sym (c.digits.ensures ∙ ap (spelled_after 10 0) c.piece-front.ensures) ∙ c.in_ok-n.was))
