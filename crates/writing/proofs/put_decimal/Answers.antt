-- `writing::put_decimal` meets its contract. Assumes nothing.
use Prim.Native.Nat.{ℕ}
use mathlib.Core.Path.{◌∙◌, ap}
use Rattle.writing.specs.Writing.{digits, decimal}
use Rattle.writing.proofs.Writing.{renamed_put}
use Rattle.writing.proofs.Digits.{decimal_places}
use Rattle.writing.proofs.put_decimal.Goals as goal

pub returns : goal.returns
unfolding decimal
returns c =
    renamed_put _ c.put_digits.ensures (ap (λ (k : ℕ). digits 10 k c.args.n) (c.places.ensures ∙ decimal_places c.args.n))
