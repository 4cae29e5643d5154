-- How an answer is told: what writing leaves alone, an answer's sizes, and how much is not zero. Definitions only.
use Rattle.std.specs.Prelude.{ℕ, ◌+◌, ◌*◌, ◌<◌, ◌≤◌, min, cond, ◌||◌, ◌≡◌, List, [], ◌∷◌, ltb, length, get_or, Float, Ok, Err}
use Rattle.std.specs.Float.{binary64}
use Rattle.std.specs.Float.Ieee.{to_bits}
use Rattle.recorded.specs.declared.Told.{Told}
use Rattle.lent.specs.Lent.{Answer}
use Rattle.refusal.specs.Table.{Outcome}

-- written on from place `at` to place at': what stands before `at` is as it was, and nothing goes past the buffer's end
pub record Onward (d : List ℕ) (at : ℕ) (d' : List ℕ) (at' : ℕ) : Type 0 where
  pub on : at ≤ at'
  pub within : at ≤ length d → at' ≤ length d
  pub same : length d' ≡ length d
  pub kept : (k : ℕ) → k < at → get_or d' k 0 ≡ get_or d k 0

-- rows times columns; 0 for sizes that no answer has
unfoldable pub table_size : ℕ → ℕ → ℕ
table_size rows w = cond (ltb 4096 rows || ltb 64 w) 0 (rows * w)

-- the rows and columns of an answer
unfoldable pub answered_rows : Answer → ℕ
answered_rows (Ok s) = s.rows
answered_rows (Err r) = 0

unfoldable pub answered_columns : Answer → ℕ
answered_columns (Ok s) = s.columns
answered_columns (Err r) = 0

-- the assets of an account that was not refused
unfoldable pub answered_assets : Outcome → ℕ → ℕ
answered_assets (Ok _) n = n
answered_assets (Err r) n = 0

-- how many numbers are not 0, and how many doubles are not +0
unfoldable pub unclean_numbers_in : List ℕ → ℕ
unclean_numbers_in [] = 0
unclean_numbers_in (n ∷ ns) = min n 1 + unclean_numbers_in ns

unfoldable pub unclean_in : List Float → ℕ
unclean_in [] = 0
unclean_in (x ∷ xs) = min (to_bits binary64 x) 1 + unclean_in xs

-- the same buffer, written on
pub record Continues (t t' : Told) : Type 0 where
  pub same_buffer : t'.bytes.ghost_name ≡ t.bytes.ghost_name
  pub onward : Onward t.bytes.now t.end t'.bytes.now t'.end
