-- `ceilings::under_ceilings` meets its contract: judged, then cleared or capped. Assumes nothing.
use Rattle.ceilings.proofs.Called.{cappable, ends_refused, ends_done}
use Rattle.ceilings.proofs.under_ceilings.Goals as goal

pub cap-requires : goal.cap-requires
cap-requires c = cappable _ _ _ c.judge-said.ensures c.in-Ok.is

pub returns-in-Ok-clause-parts_after : goal.returns-in-Ok-clause-parts_after
returns-in-Ok-clause-parts_after c = ends_done _ _ _ c.judge-said.ensures _ c.in-Ok.is c.cap.ensures

pub returns-in-Err-clause-parts_after : goal.returns-in-Err-clause-parts_after
returns-in-Err-clause-parts_after c = ends_refused _ _ _ c.judge-said.ensures _ _ c.in-Err.is c.clear.ensures
