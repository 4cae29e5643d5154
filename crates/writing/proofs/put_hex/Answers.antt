-- `writing::put_hex` meets its contract. Assumes nothing.
use Rattle.writing.specs.Writing.{hex_of}
use Rattle.writing.proofs.put_hex.Goals as goal

pub returns : goal.returns
unfolding hex_of
returns c = c.put_digits.ensures
