-- Document 01, "Tree and leaf order": what `linkage_children` answers and leaves in its buffer. Definitions only.
use Rattle.std.specs.Prelude.{ℕ, ◌-◌, ◌*◌, not, List, [], ◌∷◌, ◌++◌, ltb, eqb, length, Float, Ok, Err}
use Rattle.refusal.specs.Table.{Line, first, Outcome}
use Rattle.refusal.specs.Telling.{Telling, accepts, refuses}
use Rattle.refusal.specs.declared.Refusal.TheVariants.{DimensionMismatch, ShortBuffer}
use Rattle.lent.specs.Lent.{sizes, laid}
use Rattle.linkage.specs.declared.Linkage.{Linkage}
use Rattle.linkage.specs.Merge.{merge_rows}
use Rattle.linkage.specs.Pairs.{pairs_visited}
use Rattle.linkage.specs.Outcomes.{Joined, merged}

-- 9, 10, 11 ("Answer buffers need 2(n − 1) numbers for rows"), then 3. "Merge rows of n = 0 or 1: accepted, none."
unfoldable pub children_table : ℕ → ℕ → ℕ → ℕ → List Line
children_table len rows w room = sizes len rows w ++ ((ltb room (2 * (w - 1)), ShortBuffer) ∷ (not (eqb rows w), DimensionMismatch) ∷ [])

unfoldable pub children_outcome : List Float → ℕ → ℕ → ℕ → Outcome
unfolding children_table
children_outcome xs rows w room = first (children_table (length xs) rows w room)

-- rows made and pairs looked at, or the refusal
unfoldable pub joined_of : Outcome → ℕ → ℕ → Joined
joined_of (Ok _) rows pairs = Ok (merged rows pairs)
joined_of (Err r) rows pairs = Err r

-- n − 1 rows, and the live pairs of their scans
unfoldable pub children_answer : Linkage → List Float → ℕ → ℕ → ℕ → Joined
children_answer l xs rows w room = joined_of (children_outcome xs rows w room) (w - 1) (pairs_visited l w xs)

-- "The count is zero on refusal."
unfoldable pub pairs_of : Joined → ℕ
pairs_of (Ok s) = s.pairs
pairs_of (Err r) = 0

-- this paper's number and values: 0 and the rows and pairs, or the refusal's
abbrev pub joined_tells : Joined → Telling (ℕ × ℕ)
joined_tells (Ok s) = accepts (s.rows, s.pairs)
joined_tells (Err r) = refuses r

unfoldable pub children_rows : Linkage → List Float → ℕ → ℕ → ℕ → List ℕ
children_rows l xs rows w room = laid 0 (children_outcome xs rows w room) room (merge_rows l w xs)
