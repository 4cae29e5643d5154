-- `month::judge_refused` meets its contract. Assumes nothing.
use Rattle.std.proofs.Common.{rules}
use Rattle.refusal.specs.Table.{first, or_else}
use Rattle.month.specs.Month.{slip_lines}
use Rattle.month.specs.Calls.{books_of}
use Rattle.month.proofs.Steps.{one_more}
use Rattle.month.proofs.judge_refused.Goals as goal

pub returns : goal.returns
unfolding slip_lines books_of first or_else
returns c = λ t w. let e = c.is_over_counted.ensures t in let j = one_more c.args.y.jobs in search (rules, e, j)
