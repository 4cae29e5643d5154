-- `ledger::place_of` meets its contract. Assumes nothing.
use Rattle.keys.specs.Keys.{key_before}
use Rattle.ledger.specs.declared.Position.{Position}
use native.Mathlib.Omega.{arith}
use mathlib.Core.Path.{sym, ap, ◌∙◌}
use native.Mathlib.Nat.{zero-add}
use lib.ListN.{take}
use Rattle.ledger.specs.Ledger.{positions}
use Rattle.ledger.proofs.Entering.{first_length, first_at, place_here, place_on, place_past}
use Rattle.ledger.proofs.place_of.Goals as goal

pub loop-i-init : goal.loop-i-init
loop-i-init c = sym (zero-add _)

pub returns-then-not-is_before : goal.returns-then-not-is_before
returns-then-not-is_before c = let w = first_length c.args.table.now c.args.n c.requires.1 in record {
  value = sym (c.loop-i.invariant ∙ place_here c.args.name (take c.args.n (positions c.args.table.now)) c.loop-i.i c.position_at.result (omega arith) (ap (λ (z : Position). key_before z.name c.args.name) (first_at c.args.table.now c.args.n c.loop-i.i c.position_at.result c.requires.1 (omega arith) ∙ sym c.position_at.ensures) ∙ sym c.is_before.ensures ∙ c.if-not-is_before.true));
  upper_bound = omega arith;
}

pub loop-i-preserved : goal.loop-i-preserved
loop-i-preserved c = let w = first_length c.args.table.now c.args.n c.requires.1 in c.loop-i.invariant ∙ place_on c.args.name (take c.args.n (positions c.args.table.now)) c.loop-i.i c.position_at.result (omega arith) (ap (λ (z : Position). key_before z.name c.args.name) (first_at c.args.table.now c.args.n c.loop-i.i c.position_at.result c.requires.1 (omega arith) ∙ sym c.position_at.ensures) ∙ sym c.is_before.ensures ∙ c.if-not-is_before.false)

pub returns : goal.returns
returns c = let w = first_length c.args.table.now c.args.n c.requires.1 in record {
  value = omega arith ∙ sym (c.loop-i.invariant ∙ place_past c.args.name (take c.args.n (positions c.args.table.now)) c.loop-i.i (omega arith));
  upper_bound = omega arith;
}
