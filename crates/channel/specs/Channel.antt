-- What was read stands at the start of the buffer. Definitions only.
use Rattle.std.specs.Prelude.{◌<◌, ◌≤◌, ℕ, ◌≡◌, List, length, take, Some, None, Option}

-- the bytes read are the first of the buffer. The second part follows from the first, and is there for `&text[..n]`
abbrev pub IsRead : Option ℕ → List ℕ → Type 0
IsRead (Some n) text = (n ≤ length text) × (n ≡ length (take n text))
IsRead None text = Unit {0}

-- and the buffer has room for more, so that the end was seen
abbrev pub IsWhole : Option ℕ → List ℕ → Type 0
IsWhole (Some n) text = (n < length text) × (n ≡ length (take n text))
IsWhole None text = Unit {0}
