-- `ledger::add` meets its contract. Assumes nothing.
use Prim.Native.Nat.{ℕ, ◌+◌}
use native.Mathlib.Omega.{arith}
use mathlib.Core.Path.{ap, ◌∙◌}
use lib.Dec.{eqb}
use lib.ListN.{take}
use Rattle.ledger.specs.Ledger.{positions, opened}
use Rattle.ledger.specs.Inner.{insert_at}
use Rattle.ledger.proofs.Entering.{first_length, insert_length, passes, done_answer}
use Rattle.ledger.proofs.add.Goals as goal

pub returns-clause-value : goal.returns-clause-value
returns-clause-value c =
    let l = insert_at c.args.at (opened c.args.h) (take c.args.n (positions c.args.table.now)) in
    let w = first_length c.args.table.now c.args.n c.requires.2 in
    done_answer (eqb c.args.n 256) l l (c.args.n + 1) (passes _ _ c.refuse.ensures c.in_ok-refuse.was)
    (insert_length (take c.args.n (positions c.args.table.now)) c.args.at (opened c.args.h) (omega arith) ∙ ap (λ (j : ℕ). j + 1) w)
