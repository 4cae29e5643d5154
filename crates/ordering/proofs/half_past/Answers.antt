-- `ordering::half_past` meets its contract. Assumes nothing.
use Rattle.ordering.proofs.Nearest.{half_of}
use Rattle.ordering.proofs.half_past.Goals as goal

pub returns : goal.returns
returns c = half_of _ c.requires
