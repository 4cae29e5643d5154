-- Recorded calls as oracle/README.md has them: numbers in hex, parted by bytes up to 32. Definitions only.
use Rattle.std.specs.Prelude.{ℕ, zero, suc, ◌+◌, ◌*◌, ◌-◌, ◌%◌, ◌^◌, min, cond, List, [], ◌∷◌, ltb, drop}

-- what a byte is worth as a hex digit
unfoldable pub worth_of : ℕ → ℕ
worth_of c = cond (ltb c 97) (c % 16) ((c - 87) % 16)

-- of bytes that stand from place i on: the place of the first that is over 32
unfoldable pub token_start : List ℕ → ℕ → ℕ
token_start [] i = i
token_start (c ∷ s) i = cond (ltb 32 c) i (token_start s (suc i))

-- of bytes that stand from place i on: the place of the first that is not
unfoldable pub token_end : List ℕ → ℕ → ℕ
token_end [] i = i
token_end (c ∷ s) i = cond (ltb 32 c) (token_end s (suc i)) i

-- w followed by the digits at the front of the bytes, the last 16 digits of all
unfoldable pub token_value : List ℕ → ℕ → ℕ
unfolding worth_of
token_value [] w = w
token_value (c ∷ s) w = cond (ltb 32 c) (token_value s (w % 2 ^ 60 * 16 + worth_of c)) w

-- the first number from a place of a text on, and the place after it
unfoldable pub next_value : List ℕ → ℕ → ℕ
unfolding token_start token_value
next_value text at = token_value (drop (token_start (drop at text) at) text) 0

unfoldable pub next_place : List ℕ → ℕ → ℕ
unfolding token_start token_end
next_place text at = let i = token_start (drop at text) at in token_end (drop i text) i

-- the place after k numbers, and the number that follows them
unfoldable pub place_after : List ℕ → ℕ → ℕ → ℕ
unfolding next_place
place_after text at zero = at
place_after text at (suc k) = next_place text (place_after text at k)

unfoldable pub token_at : List ℕ → ℕ → ℕ → ℕ
unfolding place_after next_value
token_at text at k = next_value text (place_after text at k)

-- the place after a count and as many numbers, or as many as there is room for
unfoldable pub part_place : List ℕ → ℕ → ℕ → ℕ
unfolding next_value next_place place_after
part_place text at room = place_after text (next_place text at) (min (next_value text at) room)

-- the place after a matrix: whether it is given, its rows, its columns, and its cells after their count
unfoldable pub matrix_place : List ℕ → ℕ → ℕ → ℕ
unfolding place_after part_place
matrix_place text at room = part_place text (place_after text at 3) room

-- the place after three, each with its part of a list of `room` cells
unfoldable pub matrices_place : List ℕ → ℕ → ℕ → ℕ
unfolding matrix_place
matrices_place text at room = matrix_place text (matrix_place text (matrix_place text at room) (room - 4352)) (room - 8704)
