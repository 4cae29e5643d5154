-- `ledger::enter_judged` meets its contract. Assumes nothing.
use Rattle.std.proofs.Common.{rules}
use Rattle.ledger.proofs.Outcomes.{judged_fits, step_taken, step_refused}
use Rattle.ledger.proofs.enter_judged.Goals as goal

-- each clause, from a proof of all
clauses : {A B : Type 0} → A × B → record { value : A; step_left : B }
clauses p = record { value = p.0; step_left = p.1 }

pub returns-in_err-judge_table : goal.returns-in_err-judge_table
returns-in_err-judge_table c = let told = step_refused c.args.table.now c.args.names c.args.h _ c.judge_table.ensures _ c.in_err-judge_table.was in
    record { value = search (rules, told.0); step_left = told.1 }

pub put_in-requires : goal.put_in-requires
put_in-requires c = judged_fits c.args.table.now c.args.names c.args.h _ c.judge_table.ensures c.in_ok-judge_table.was

pub returns : goal.returns
returns c = clauses (step_taken c.args.table.now c.args.names c.args.h _ c.judge_table.ensures c.put_in.result c.put_in.new.table c.in_ok-judge_table.was c.put_in.auto.table c.put_in.ensures.value c.put_in.ensures.table_after)
