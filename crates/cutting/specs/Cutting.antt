-- Document 02, request 5: input read as it comes, cut into lines. Definitions only.
use Rattle.std.specs.Prelude.{ℕ, cond, List, [], ◌∷◌, ◌++◌, ltb, eqb, length}
use Rattle.fields.specs.Split.{newline}
use Rattle.slips.specs.Slips.{most_line}
use Rattle.month.specs.Month.{Report, at, opening, line_taken}

-- where the report stands, and the bytes of a line that has begun
pub record Stream : Type 0 where
  pub report : Report
  pub held : List ℕ

unfoldable pub dry : Stream
unfolding opening
dry = record { report = at opening; held = [] }

-- "lines ended by a newline": one byte more. A line longer than any can be ends there, and is at fault
unfoldable pub byte_taken : Stream → ℕ → Stream
byte_taken f b =
    cond (eqb b newline)
    (record { report = line_taken f.report f.held; held = [] })
    (cond (ltb (length f.held) most_line)
    (record { report = f.report; held = f.held ++ (b ∷ []) })
    (record { report = line_taken f.report (f.held ++ (b ∷ [])); held = [] }))

unfoldable pub bytes_taken : Stream → List ℕ → Stream
unfolding byte_taken
bytes_taken f [] = f
bytes_taken f (b ∷ s) = bytes_taken (byte_taken f b) s

-- what was read in pieces
unfoldable pub pieces_taken : Stream → List (List ℕ) → Stream
unfolding bytes_taken
pieces_taken f [] = f
pieces_taken f (s ∷ ss) = pieces_taken (bytes_taken f s) ss

-- the pieces as one text
unfoldable pub gathered : List (List ℕ) → List ℕ
gathered [] = []
gathered (s ∷ ss) = s ++ gathered ss
