-- `month::job_number` meets its contract. Assumes nothing.
use Rattle.month.proofs.Steps.{job_next, job_open}
use Rattle.month.proofs.job_number.Goals as goal

pub returns-then-y-eq0 : goal.returns-then-y-eq0
returns-then-y-eq0 c = λ t. job_next c.args.y t c.if-y-eq0.true

pub returns-else-y-eq0 : goal.returns-else-y-eq0
returns-else-y-eq0 c = λ t. job_open c.args.y t c.if-y-eq0.false
