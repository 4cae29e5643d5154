-- Document 02, request 1, the Nearest rule: which entry of an ordered list stands at the part q of its length. Definitions only.
use Rattle.std.specs.Prelude.{◌≡◌, ℕ, ◌+◌, ◌-◌, ◌*◌, ◌%◌, ◌≤◌, Bool, cond, not, ◌&&◌, ◌⊎◌, List, [], ◌∷◌, length, nat_lt, slice_index_or, Float, Ok, Err}
use Rattle.std.specs.Float.{nan, inf, fin, binary64}
use Rattle.std.specs.Float.Ieee.{mul, le, up, down}
use Rattle.std.specs.Float.Ieee.Nearest.{closest}
use Rattle.arithmetic.specs.Constants.{pz, unit}
use Rattle.arithmetic.specs.Arithmetic.{count_of}
use Rattle.refusal.specs.Table.{Line, first, Outcome}
use Rattle.refusal.specs.Telling.{Telling, accepts, refuses}
use Rattle.refusal.specs.declared.Refusal.TheVariants.{OverLimit, ConfidenceOutOfRange}
use Rattle.lent.specs.Lent.{laid}
use Rattle.ordering.specs.Order.{sorted}
use Rattle.ordering.specs.Outcomes.{Entry}

-- k is a / b "rounded to the nearest whole, halves to even"
pub record Rounded (a b k : ℕ) : Type 0 where
  pub low : 2 * (k * b) ≤ 2 * a + b
  pub high : 2 * a ≤ 2 * (k * b) + b
  pub even : (2 * (k * b) ≡ 2 * a + b) ⊎ (2 * a ≡ 2 * (k * b) + b) → k % 2 ≡ 0

-- a double rounded so, and 0 for one below 0, for an infinity and for a NaN. `closest a b` is the one k with `Rounded a b k`.
unfoldable pub whole_of : Float → ℕ
whole_of nan = 0
whole_of (inf s) = 0
whole_of (fin s m e) = cond s 0 (closest (m * up e) (down e))

-- "index q·(list length − 1) worked out in double, rounded to the nearest whole"
unfoldable pub place : Float → ℕ → ℕ
place q n = whole_of (mul binary64 q (count_of (n - 1)))

-- "in the list sorted ascending with −0 before +0 and every NaN last"; 0 of no entries, as in the source
unfoldable pub quantile : Float → List Float → Float
quantile q [] = pz
quantile q (x ∷ l) = slice_index_or (sorted (x ∷ l)) (place q (length (x ∷ l))) nan

-- ---- the call

-- a portfolio's series has at most 4,096 rows, and its start
abbrev pub most_entries : ℕ
most_entries = 4097

-- 17: "confidence NaN or outside 0 to 1"
unfoldable pub no_part : Float → Bool
no_part q = not (le pz q && le q unit)

-- 9, then 17, of a list of n entries
unfoldable pub part_table : ℕ → Float → List Line
unfolding no_part
part_table n q = (nat_lt most_entries n, OverLimit) ∷ (no_part q, ConfidenceOutOfRange) ∷ []

-- what `sort` returns, and the list that it leaves: in order, or zeros after a refusal.
-- 9: a list has at most 4,097 entries: a portfolio's rows and its start
unfoldable pub sort_outcome : List Float → Outcome
sort_outcome l = first ((nat_lt most_entries (length l), OverLimit) ∷ [])

unfoldable pub sort_laid : List Float → List Float
unfolding sort_outcome
sort_laid l = laid pz (sort_outcome l) (length l) (sorted l)

unfoldable pub part_outcome : List Float → Float → Outcome
unfolding part_table
part_outcome l q = first (part_table (length l) q)

abbrev pub entry_of : Outcome → Float → Entry
entry_of (Ok _) x = Ok x
entry_of (Err r) x = Err r

-- 0 and the entry, or the refusal's number and values
abbrev pub entry_tells : Entry → Telling Float
entry_tells (Ok x) = accepts x
entry_tells (Err r) = refuses r

-- what `quantile` returns, and the list that it leaves: in order, or zeros after a refusal
unfoldable pub quantile_answer : List Float → Float → Entry
unfolding part_outcome
quantile_answer l q = entry_of (part_outcome l q) (quantile q l)

unfoldable pub quantile_laid : List Float → Float → List Float
unfolding part_outcome
quantile_laid l q = laid pz (part_outcome l q) (length l) (sorted l)
