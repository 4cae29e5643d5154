-- `month::is_job_over` meets its contract. Assumes nothing.
use Prim.Native.Nat.{ℕ}
use mathlib.Core.Path.{ap, ◌∙◌}
use lib.Dec.{ltb}
use Rattle.month.proofs.Steps.{one_more, job_next, job_open}
use Rattle.month.proofs.is_job_over.Goals as goal

pub returns-then-y-eq0 : goal.returns-then-y-eq0
returns-then-y-eq0 c = λ t. one_more c.args.y.jobs ∙ ap (λ (k : ℕ). ltb 200 k) (job_next c.args.y t c.if-y-eq0.true)

pub returns-else-y-eq0 : goal.returns-else-y-eq0
returns-else-y-eq0 c = λ t. ap (λ (k : ℕ). ltb 200 k) (job_open c.args.y t c.if-y-eq0.false)
