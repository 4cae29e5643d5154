-- `pages::put_jobs` meets its contract: four writes, one after the other. Assumes nothing.
use mathlib.Core.Path.{◌∙◌}
use Rattle.pages.proofs.Lines.{jobs_put}
use Rattle.pages.proofs.put_jobs.Goals as goal

pub shape_of-out : goal.shape_of-out
shape_of-out c = c.put_byte.auto.out ∙ c.put_figure-told.auto.out ∙ c.put_figure-counted.auto.out ∙ c.put_bytes-headed.auto.out

pub returns : goal.returns
returns c = jobs_put _ _ c.put_bytes-headed.ensures c.put_figure-counted.ensures c.put_figure-told.ensures c.put_byte.ensures c.requires
