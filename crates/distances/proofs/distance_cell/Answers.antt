-- `distances::distance_cell` meets its contract. Assumes nothing.
use mathlib.Core.Path.{sym, ap, ◌∙◌}
use lib.Ieee.{binary64, to_bits}
use Rattle.distances.specs.Distances.{distance_cell}
use Rattle.distances.proofs.Laws.{distance_across}
use Rattle.distances.proofs.distance_cell.Goals as goal

pub returns-then-to_bits : goal.returns-then-to_bits
returns-then-to_bits c =
    let e = ap (to_bits binary64) (sym c.at-x.ensures) ∙ sym c.to_bits.ensures ∙ c.if-to_bits.true ∙ c.to_bits-then-j-i.ensures ∙ ap (to_bits binary64) c.at.ensures in
    c.at-then-to_bits.ensures ∙ c.requires.i_value c.if-j-i.true ∙ distance_across _ _ _ _ _ c.type_inv.corr e

pub returns : goal.returns
unfolding distance_cell
returns c = rw (c.distance.ensures, c.at-x.ensures)
