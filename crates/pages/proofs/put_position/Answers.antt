-- `pages::put_position` meets its contract: six writes, one after the other. Assumes nothing.
use mathlib.Core.Path.{◌∙◌}
use Rattle.pages.proofs.Lines.{position_put}
use Rattle.pages.proofs.put_position.Goals as goal

pub shape_of-out : goal.shape_of-out
shape_of-out c = c.put_byte.auto.out ∙ c.put_figure-totalled.auto.out ∙ c.put_figure-most.auto.out ∙ c.put_figure-least.auto.out ∙ c.put_figure-counted.auto.out ∙ c.put_key-named.auto.out

pub returns : goal.returns
returns c = position_put c.args.p c.put_key-named.ensures c.put_figure-counted.ensures c.put_figure-least.ensures c.put_figure-most.ensures c.put_figure-totalled.ensures c.put_byte.ensures c.requires
