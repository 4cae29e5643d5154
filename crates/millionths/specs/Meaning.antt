-- Document 02, request 3: what a list of millionths has to be, apart from how it is made. Definitions only.
use Rattle.std.specs.Prelude.{ℕ, ◌+◌, ◌≤◌, ◌<◌, ◌≡◌, ◌⊎◌, List, Float, length, get_or}
use Rattle.lent.specs.Count.{over_all}
use Rattle.fractions.specs.Fractions.{whole_at, left_at}

-- the numbers of a list, added up
abbrev pub total_of : List ℕ → ℕ
total_of l = over_all (λ x. x) l

-- a list that does what request 3 asks
pub record Serves (ws : List Float) (l : List ℕ) : Type 0 where
  pub each : length l ≡ length ws
  -- "Prove that total"
  pub total : total_of l ≡ 1000000
  -- "and that nobody moves by more than one"
  pub low : (i : ℕ) → i < length ws → whole_at ws i ≤ get_or l i 0
  pub high : (i : ℕ) → i < length ws → get_or l i 0 ≤ whole_at ws i + 1
  -- "the largest fractions left over, the lower asset number first on a tie": i has one more and j has not
  pub largest : (i j : ℕ) → i < length ws → j < length ws → whole_at ws i < get_or l i 0 → get_or l j 0 ≤ whole_at ws j
      → (left_at ws j < left_at ws i) ⊎ ((left_at ws i ≡ left_at ws j) × (i < j))
