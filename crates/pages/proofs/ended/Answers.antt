-- `pages::ended` meets its contract. Assumes nothing.
use Rattle.std.proofs.Common.{rules}
use mathlib.Core.Path.{refl}
use Rattle.pages.proofs.Ends.{counts_done, ended_refused, ended_out, ended_on}
use Rattle.pages.proofs.ended.Goals as goal

pub returns-in_err-y : goal.returns-in_err-y
returns-in_err-y c = λ t l. let told = ended_refused c.args.progress _ _ c.counts.ensures c.in_err-y.was t in search (rules, told)

pub returns-in_err-judge_table : goal.returns-in_err-judge_table
returns-in_err-judge_table c = λ t l.
    let told = ended_out c.args.progress c.in_ok-y.y c.args.cells _ _ (counts_done _ _ _ c.counts.ensures c.in_ok-y.was) c.judge_table.ensures _ c.in_err-judge_table.was refl t l in
    search (rules, told)

pub returns : goal.returns
returns c = ended_on c.args.progress c.in_ok-y.y c.args.cells _ _ (counts_done _ _ _ c.counts.ensures c.in_ok-y.was) c.judge_table.ensures c.in_ok-judge_table.was c.refuse.ensures
