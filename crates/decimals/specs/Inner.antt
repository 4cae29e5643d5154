-- What the private functions ask of one another and promise: may be skipped. Definitions only.
use Rattle.std.specs.Prelude.{ℕ, cond, List, length, Some, None}
use Rattle.fields.specs.Split.{all}
use Rattle.fields.specs.Numerals.{in_base, number}
use Rattle.decimals.specs.Decimal.{is_bare, digits_of, places_of, over_tens}
use Rattle.fields.specs.Outcomes.{Cell}

-- the digits after the point, after those before it, which are worth n
unfoldable pub fraction_read : ℕ → List ℕ → Cell
unfolding over_tens
fraction_read n w = cond (all (in_base 10) w) (Some (over_tens (number 10 n w) (length w))) None

-- a decimal without its minus
unfoldable pub bare_read : List ℕ → Cell
unfolding is_bare digits_of over_tens
bare_read w = cond (is_bare w) (Some (over_tens (digits_of w) (places_of w))) None
