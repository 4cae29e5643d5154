-- `distances::distance` meets its contract. Assumes nothing.
use Rattle.distances.specs.Distances.{clamped, distance_of}
use Rattle.distances.proofs.distance.Goals as goal

pub returns-in-Hrp : goal.returns-in-Hrp
unfolding distance_of clamped
returns-in-Hrp c = rw (c.in-Hrp.is, c.sqrt.ensures, c.max.ensures, c.clamp-c.ensures)

pub returns-in-Hcaa : goal.returns-in-Hcaa
unfolding distance_of clamped
returns-in-Hcaa c = rw (c.in-Hcaa.is, c.sqrt-in-Hcaa.ensures, c.max-in-Hcaa.ensures, c.clamp-c.ensures)
