-- `keys::byte_of` meets its contract. Assumes nothing.
use borrow.Author.Tests.{lt-ltb, le-ltb}
use Rattle.keys.specs.Keys.{key_byte}
use Rattle.keys.proofs.byte_of.Goals as goal

pub returns-then-i-lt8 : goal.returns-then-i-lt8
unfolding key_byte
returns-then-i-lt8 c = rw (lt-ltb _ _ c.if-i-lt8.true, c.shift.ensures)

pub returns : goal.returns
unfolding key_byte
returns c = rw (le-ltb _ _ c.if-i-lt8.false, c.shift-2.ensures)
