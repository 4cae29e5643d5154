-- The C interface: what a call hands in as numbers, flags, names and sizes, and what it is refused for before the call behind it is made. Definitions only.
use Rattle.std.specs.Prelude.{ℕ, ◌-◌, ◌*◌, cond, List, [], ◌∷◌, ◌++◌, ltb, length, Ok, Err}
use Rattle.refusal.specs.Table.{Line, Outcome}
use Rattle.refusal.specs.Telling.{outcome_tells}
use Rattle.refusal.specs.declared.Refusal.TheVariants.{OverLimit, ShortBuffer}
use Rattle.lent.specs.Grid.{noughts}
use Rattle.lent.specs.Lent.{most_assets, sizes}
use Rattle.linkage.specs.declared.Distance.{Distance}
use Rattle.linkage.specs.declared.Distance.TheVariants.{Correlation}
use Rattle.linkage.specs.declared.Linkage.{Linkage}
use Rattle.linkage.specs.declared.Linkage.TheVariants.{Single}
use Rattle.reading.specs.Reading.{most_bytes}
use Rattle.linkage.specs.Outcomes.{NamedDistance, NamedLinkage}

-- ---- names: "unknown distance, unknown linkage name (any case)"

-- one that was read: done, or its refusal
unfoldable pub distance_says : NamedDistance → Outcome
distance_says (Ok d) = Ok tt
distance_says (Err r) = Err r

unfoldable pub linkage_says : NamedLinkage → Outcome
linkage_says (Ok l) = Ok tt
linkage_says (Err r) = Err r

-- and what it names; one that is refused stands for the first of them, and every buffer of its call is zero
unfoldable pub distance_meant : NamedDistance → Distance
distance_meant (Ok d) = d
distance_meant (Err r) = Correlation

unfoldable pub linkage_meant : NamedLinkage → Linkage
linkage_meant (Ok l) = l
linkage_meant (Err r) = Single

-- ---- refusal 6's two values

-- 11: the two numbers that refusal 6 has beside its own take so many entries
unfoldable pub asked_lines : ℕ → List Line
asked_lines asked = (ltb asked 2, ShortBuffer) ∷ []

-- "6 also the count asked and the assets": the values of an outcome at the start of a buffer of `asked` numbers, and zeros after them; zeros throughout
-- where it is too short for any
unfoldable pub asked_laid : Outcome → ℕ → List ℕ
asked_laid o asked = cond (ltb asked 2) (noughts asked) ((outcome_tells o).values ++ noughts (asked - length (outcome_tells o).values))

-- ---- sizes

-- 11: `count` entries for a number that a call returns beside its own
unfoldable pub count_lines : ℕ → List Line
count_lines count = (ltb count 1, ShortBuffer) ∷ []

-- the merge step: 9, 10, 11
unfoldable pub merge_sizes : ℕ → ℕ → ℕ → ℕ → List Line
merge_sizes len rows w room = sizes len rows w ++ ((ltb room (2 * (w - 1)), ShortBuffer) ∷ [])

-- the leaf order: 9, 11: `room` entries for the order, and `count` for the one number
unfoldable pub leaf_sizes : ℕ → ℕ → ℕ → List Line
leaf_sizes n room count = (ltb most_assets n, OverLimit) ∷ (ltb room n, ShortBuffer) ∷ (ltb count 1, ShortBuffer) ∷ []

-- a listing: 9, then 11: a text of len bytes, and `count` entries for the one number
unfoldable pub byte_lines : ℕ → ℕ → List Line
byte_lines len count = (ltb most_bytes len, OverLimit) ∷ (ltb count 1, ShortBuffer) ∷ []
