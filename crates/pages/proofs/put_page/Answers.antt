-- `pages::put_page` meets its contract: the first line, then the names'. Assumes nothing.
use mathlib.Core.Path.{◌∙◌}
use native.Mathlib.Omega.{arith}
use Rattle.pages.proofs.Lines.{positions_room, page_put}
use Rattle.pages.proofs.put_page.Goals as goal

pub put_jobs-headed-requires : goal.put_jobs-headed-requires
put_jobs-headed-requires c = omega arith

pub put_positions-requires : goal.put_positions-requires
put_positions-requires c = record {
  table_len = c.requires.table_len;
  n_bound = c.requires.names_bound;
  n_in_bounds = positions_room _ _ _ c.put_jobs-headed.ensures c.requires.names_bound c.requires.in_bounds;
}

pub shape_of-page : goal.shape_of-page
shape_of-page c = c.put_positions.auto.out ∙ c.put_jobs-headed.auto.out

pub returns : goal.returns
returns c = page_put c.args.y c.args.table.now c.requires.names_bound _ c.refused.ensures c.put_jobs-headed.ensures c.put_positions.ensures
