-- `keys::key_of` meets its contract. Assumes nothing.
use Rattle.keys.specs.Keys.{key_of}
use Rattle.keys.proofs.key_of.Goals as goal

pub returns : goal.returns
unfolding key_of
returns c = rw (c.word.ensures, c.word-2.ensures)
