-- `pages::judge_end` meets its contract. Assumes nothing.
use Rattle.std.proofs.Common.{rules}
use Rattle.pages.proofs.Ends.{end_out, end_on}
use Rattle.pages.proofs.judge_end.Goals as goal

pub returns-in_err-judge_page : goal.returns-in_err-judge_page
returns-in_err-judge_page c = λ t l. let told = end_out c.args.progress c.args.cells c.args.room _ _ c.names_held.ensures c.judge_page.ensures _ c.in_err-judge_page.was t l in search (rules, told)

pub returns : goal.returns
returns c = end_on c.args.progress c.args.cells c.args.room _ _ c.names_held.ensures c.judge_page.ensures _ c.in_ok-judge_page.was c.ended.ensures
