-- `pages::put_figure` meets its contract: two writes, one after the other. Assumes nothing.
use mathlib.Core.Path.{◌∙◌}
use Rattle.pages.proofs.Lines.{figure_put}
use Rattle.pages.proofs.put_figure.Goals as goal

pub shape_of-out : goal.shape_of-out
shape_of-out c = c.put_decimal.auto.out ∙ c.put_byte-tabbed.auto.out

pub returns : goal.returns
returns c = figure_put _ c.put_byte-tabbed.ensures c.put_decimal.ensures
