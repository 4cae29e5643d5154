-- `hierarchy::plant` meets its contract. Assumes nothing.
use Rattle.hierarchy.proofs.Laws.{ground_few}
use Rattle.hierarchy.proofs.plant.Goals as goal

pub plant_in-requires : goal.plant_in-requires
plant_in-requires c = ground_few _ _ _ _ _ c.requires c.if-n-le16.true
