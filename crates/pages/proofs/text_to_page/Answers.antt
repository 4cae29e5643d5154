-- `pages::text_to_page` meets its contract. Assumes nothing.
use mathlib.Core.Path.{◌∙◌}
use Rattle.pages.proofs.Whole.{text_reported}
use Rattle.pages.proofs.text_to_page.Goals as goal

pub shape_of-table : goal.shape_of-table
shape_of-table c = c.end_report.auto.table ∙ c.take_bytes-fed.auto.table ∙ c.begin_feed-begun.auto.table

pub shape_of-held : goal.shape_of-held
shape_of-held c = c.end_feed-progress.auto.held ∙ c.take_bytes-fed.auto.held ∙ c.begin_feed-begun.auto.held

pub shape_of-page : goal.shape_of-page
shape_of-page c = c.end_report.auto.page

pub returns : goal.returns
returns c = text_reported c.args.text.now c.args.table.now c.args.held.now _ c.begin_feed-begun.ensures c.take_bytes-fed.ensures c.end_feed-progress.ensures c.end_report.ensures (c.take_bytes-fed.auto.table ∙ c.begin_feed-begun.auto.table) (c.take_bytes-fed.auto.held ∙ c.begin_feed-begun.auto.held)
