-- `lent::clear` meets its contract. Assumes nothing.
use native.Mathlib.Numerals.{unary_clauses}
use Rattle.lent.proofs.clear.Goals as goal

pub returns : goal.returns
returns g c = simp unary_clauses at c.clear_from.ensures
