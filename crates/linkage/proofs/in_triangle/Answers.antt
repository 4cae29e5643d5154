-- `linkage::in_triangle` meets its contract. Assumes nothing.
use native.Mathlib.Omega.{arith}
use Rattle.triangle.proofs.Places.{met_few, met_room}
use Rattle.linkage.proofs.in_triangle.Goals as goal

pub in_room-requires : goal.in_room-requires
in_room-requires c = (c.requires.0, c.requires.1, c.requires.2, met_few c.args.n c.if-n-le32.true, omega arith)

pub in_room-requires-else-n-le32 : goal.in_room-requires-else-n-le32
in_room-requires-else-n-le32 c = (c.requires.0, c.requires.1, c.requires.2, met_room c.args.n c.requires.0, omega arith)
