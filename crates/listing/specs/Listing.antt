-- Document 01, "Millionths and the job program": the listing of an answer, and the line of a refusal. Document 02, request 10: ceilings. Definitions only.
use Rattle.std.specs.Prelude.{ℕ, ◌≤◌, ◌≡◌, Bool, not, cond, List, [], ◌∷◌, ◌++◌, leb, ltb, eqb, length, get_or, Float, Some, Ok, None, Err}
use Rattle.std.specs.Float.{nan, binary64}
use Rattle.std.specs.Float.Ieee.{to_bits}
use Rattle.refusal.specs.Table.{Line, first, and_then, Outcome}
use Rattle.refusal.specs.Telling.{Telling, accepts, refuses, tells}
use Rattle.refusal.specs.declared.Refusal.TheVariants.{DimensionMismatch, OverLimit, ShortBuffer, NoTree, MalformedText}
use Rattle.lent.specs.Lent.{most_assets, laid}
use Rattle.text.specs.Bytes.{bytes}
use Rattle.fields.specs.Split.{newline, tabulator, all}
use Rattle.writing.specs.Writing.{decimal, hex_of, joined}
use Rattle.ceilings.specs.Figures.{are_given, are_unlike, figures_in, figures_lines}
use Rattle.tree.specs.Rows.{is_order}
use Rattle.names.specs.Names.{name_from}
use Rattle.reading.specs.Reading.{most_bytes}
use Rattle.listing.specs.declared.Holding.{Holding}
use Rattle.listing.specs.Outcomes.{Ceiling, Listed}

-- ---- "Each asset's record gains a ceiling in millionths": the record is the asset's name and its holding, for the listing and for all that reads it

-- asset i's ceiling
unfoldable pub ceiling_at : List ℕ → ℕ → Ceiling
ceiling_at cs i = cond (are_given cs) (Some (get_or cs i 0)) None

-- asset i's holding, by the weights and the ceilings
unfoldable pub holding_at : List Float → List ℕ → ℕ → Holding
unfolding figures_in ceiling_at
holding_at ws cs i = record { weight = get_or ws i nan; millionths = get_or (figures_in ws cs) i 0; ceiling = ceiling_at cs i }

-- "the listing, where ceilings are given, shows it as a fourth field"
unfoldable pub ceiling_field : Ceiling → List ℕ
unfolding decimal
ceiling_field None = []
ceiling_field (Some c) = (tabulator ∷ []) ++ decimal c

-- "prints name, weight bits, millionths": "An answer that is NaN has the bits 7ff8000000000000". The weight is the one before ceilings, the millionths those after them
unfoldable pub holding_line : List ℕ → Holding → List ℕ
unfolding decimal hex_of ceiling_field
holding_line name h =
    name ++ (tabulator ∷ []) ++ hex_of (to_bits binary64 h.weight) ++ (tabulator ∷ []) ++ decimal h.millionths ++ ceiling_field h.ceiling ++ (newline ∷ [])

-- ---- the listing

-- a line for each weight
unfoldable pub line_of : (ℕ → List ℕ) → List Float → List ℕ → ℕ → List ℕ
unfolding holding_line holding_at
line_of name ws cs i = holding_line (name i) (holding_at ws cs i)

-- "then the leaf order"
unfoldable pub ordered : (ℕ → List ℕ) → List ℕ → ℕ → List ℕ
ordered name order k = (tabulator ∷ []) ++ name (get_or order k 0)

unfoldable pub listing : (ℕ → List ℕ) → List Float → List ℕ → List ℕ → List ℕ
unfolding joined line_of ordered
listing name ws cs order = joined (length ws) (line_of name ws cs) ++ (bytes "order" ++ joined (length order) (ordered name order) ++ (newline ∷ []))

-- "a refusal prints `refused`, tab, number"
unfoldable pub refusal_line : ℕ → List ℕ
unfolding decimal
refusal_line k = bytes "refused" ++ (tabulator ∷ []) ++ decimal k ++ (newline ∷ [])

-- ---- what a call answers that writes bytes into a lent buffer: how many, or the refusal

unfoldable pub listed_as : Outcome → ℕ → Listed
listed_as (Ok _) bytes = Ok bytes
listed_as (Err r) bytes = Err r

-- a refusal has no bytes
abbrev pub bytes_in : Listed → ℕ
bytes_in (Ok bytes) = bytes
bytes_in (Err r) = 0

-- what the answer tells: 0 and how many bytes, or the refusal's number
abbrev pub listed_tells : Listed → Telling ℕ
listed_tells (Ok bytes) = accepts bytes
listed_tells (Err r) = refuses r

-- such a call, which would write s, by how it went: s at the front of the buffer and zeros after it; "leaves every lent answer .. entry zero" where it is refused
pub record ListingMade (o : Outcome) (s : List ℕ) (room : ℕ) (r : Listed) (out : List ℕ) : Type 0 where
  pub answer : r ≡ listed_as o (length s)
  pub bytes_are : out ≡ laid 0 o room s
  pub within : bytes_in r ≤ length out
  pub told : listed_tells r ≡ tells o (length s)

-- ---- the listing of the assets whose lines begin at `starts` in a text, by their weights and their leaf order

-- the name on the line of asset i
unfoldable pub name_in : List ℕ → List ℕ → ℕ → List ℕ
name_in text starts i = name_from text (get_or starts i 0)

-- "a name of 1 to 16 bytes": one of more has no place in a listing
unfoldable pub is_short : List ℕ → ℕ → Bool
is_short text start = leb (length (name_from text start)) 16

-- 8,192 bytes hold every listing
abbrev pub least_listing : ℕ
least_listing = 8192

-- 9 of the text and of the assets, 11; then 3: a weight for each asset, and a ceiling for each or none; 14: "a given leaf order isn't each asset once"; 15
unfoldable pub sheet_lines : List ℕ → List ℕ → ℕ → List ℕ → List ℕ → ℕ → List Line
unfolding are_unlike is_order all is_short
sheet_lines text starts count cs order room =
    (ltb most_bytes (length text), OverLimit)
    ∷ (ltb most_assets (length starts), OverLimit)
    ∷ (ltb room least_listing, ShortBuffer)
    ∷ (not (eqb count (length starts)), DimensionMismatch)
    ∷ (are_unlike cs (length starts), DimensionMismatch)
    ∷ (not (is_order order (length starts)), NoTree)
    ∷ (not (all (is_short text) starts), MalformedText)
    ∷ []

-- then 13, 18 and 20
unfoldable pub sheet_outcome : List ℕ → List ℕ → List Float → List ℕ → List ℕ → ℕ → Outcome
unfolding sheet_lines figures_lines
sheet_outcome text starts ws cs order room = and_then (first (sheet_lines text starts (length ws) cs order room)) (first (figures_lines ws cs))

-- ---- the line of a refusal of a number, into a buffer of `room` bytes: 11 where it does not fit

unfoldable pub refusal_outcome : ℕ → ℕ → Outcome
unfolding refusal_line
refusal_outcome k room = first ((ltb room (length (refusal_line k)), ShortBuffer) ∷ [])
