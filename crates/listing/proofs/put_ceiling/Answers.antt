-- `listing::put_ceiling` meets its contract: no write, or two. Assumes nothing.
use Rattle.listing.proofs.Lines.{ceiling_none, ceiling_put}
use Rattle.listing.proofs.put_ceiling.Goals as goal

pub returns-in_default : goal.returns-in_default
returns-in_default c = ceiling_none _ c.in_default.is

pub returns : goal.returns
returns c = ceiling_put _ _ c.in-Some.is c.put_byte-tabbed.ensures c.put_decimal.ensures
