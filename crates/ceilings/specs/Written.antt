-- Document 02, request 10: a ceiling in a text. Definitions only.
use Rattle.std.specs.Prelude.{ℕ, Bool, not, cond, ◌&&◌, List, [], ◌∷◌, leb, length, Some, None}
use Rattle.refusal.specs.Table.{first, Outcome}
use Rattle.refusal.specs.declared.Refusal.TheVariants.{MalformedText}
use Rattle.fields.specs.Numerals.{is_numeral, number}
use Rattle.fields.specs.Outcomes.{Numeral}

-- the number that its digits spell, whatever zeros it begins with
unfoldable pub ceiling_of : List ℕ → ℕ
unfolding number
ceiling_of w = number 10 0 w

-- "15 for a ceiling that isn't 1 to 7 digits or is above 1,000,000"
unfoldable pub is_ceiling : List ℕ → Bool
unfolding is_numeral ceiling_of
is_ceiling w = is_numeral w && (leb (length w) 7 && leb (ceiling_of w) 1000000)

unfoldable pub ceiling_read : List ℕ → Numeral
unfolding is_ceiling ceiling_of
ceiling_read w = cond (is_ceiling w) (Some (ceiling_of w)) None

unfoldable pub ceiling_outcome : List ℕ → Outcome
unfolding is_ceiling
ceiling_outcome w = first ((not (is_ceiling w), MalformedText) ∷ [])
