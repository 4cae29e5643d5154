-- What the private functions ask of one another and promise: may be skipped. Definitions only.
use Rattle.std.specs.Prelude.{ℕ, cond, List, Some, None}
use Rattle.fields.specs.Split.{all}
use Rattle.fields.specs.Numerals.{digit, in_base, number}
use Rattle.fields.specs.Outcomes.{Numeral}

-- the number that digits of the base spell, after digits worth n; malformed where a byte is none
unfoldable pub spelled_after : ℕ → ℕ → List ℕ → Numeral
unfolding digit all number
spelled_after base n w = cond (all (in_base base) w) (Some (number base n w)) None
