-- `linkage::merge_rows` meets its contract. Assumes nothing.
use Rattle.linkage.proofs.Forms.{tried_made}
use Rattle.linkage.proofs.merge_rows.Goals as goal

pub returns-in-Some : goal.returns-in-Some
returns-in-Some c = tried_made _ _ _ _ _ _ _ c.in_triangle.ensures.0 c.in-Some.is c.in_triangle.ensures.1
