-- `writing::put_byte` meets its contract. Assumes nothing.
use mathlib.Core.Path.{refl}
use native.Mathlib.Omega.{arith}
use Rattle.writing.proofs.Writing.{one_byte, put_wrote, put_none}
use Rattle.writing.proofs.put_byte.Goals as goal

pub returns-then-out-at : goal.returns-then-out-at
returns-then-out-at c = put_none (omega arith) refl refl

pub returns : goal.returns
returns c = put_wrote (one_byte _ _ _ (omega arith))
