-- `ledger::update` meets its contract. Assumes nothing.
use mathlib.Core.Bool.{false}
use native.Mathlib.Omega.{arith}
use mathlib.Core.Path.{◌≡◌, sym, ap, ◌∙◌}
use lib.ListN.{set, take, length-set}
use Rattle.ledger.specs.Ledger.{position_at, positions, added, beyond}
use Rattle.ledger.specs.declared.Position.{Position}
use Rattle.ledger.proofs.Storing.{length_positions}
use Rattle.ledger.proofs.Entering.{first_length, set_over, passes, done_answer, done_left}
use Rattle.ledger.proofs.update.Goals as goal

pub returns : goal.returns
returns c = let e = position_at c.args.table.now c.args.at in
    let b : beyond e c.args.h ≡ false = ap (λ (z : Position). beyond z c.args.h) (sym c.position_at-p.ensures) ∙ sym c.is_beyond.ensures ∙ passes _ _ c.refuse.ensures c.in_ok-refuse.was in
    let l = set (take c.args.n (positions c.args.table.now)) c.args.at (added e c.args.h) in
    let q = length-set (take c.args.n (positions c.args.table.now)) c.args.at (added e c.args.h) ∙ first_length c.args.table.now c.args.n c.requires.2 in
    let j : c.join.result ≡ added e c.args.h = c.join.ensures ∙ ap (λ (z : Position). added z c.args.h) c.position_at-p.ensures in record {
      value = done_answer (beyond e c.args.h) l l c.args.n b q;
      table_after = done_left (beyond e c.args.h) l (positions c.args.table.now) (positions c.put_position.new.table) b (c.put_position.ensures ∙ ap (λ (z : Position). set (positions c.args.table.now) c.args.at z) j ∙ set_over (positions c.args.table.now) c.args.n c.args.at (added e c.args.h) c.requires.1 (omega (arith, length_positions c.args.table.now)));
    }
