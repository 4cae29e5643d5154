-- What the private functions ask of one another and promise: may be skipped. Definitions only.
use Rattle.std.specs.Prelude.{ℕ, ◌-◌, ◌≤◌, ◌<◌, ◌||◌, List, ltb, length, get_or, Ok}
use Rattle.refusal.specs.Table.{or_else, and_then, Outcome}
use Rattle.refusal.specs.declared.Refusal.TheVariants.{OverLimit, ShortBuffer, TotalOutOfReach}

-- 64 whole parts, whose total fits
pub record Wholes (wholes : List ℕ) : Type 0 where
  pub few : length wholes ≤ 64
  pub small : (i : ℕ) → i < length wholes → get_or wholes i 0 ≤ 1000000

-- 9, 11, what was said of the weights, 18; by the total of the whole parts of n weights
unfoldable pub judged : Outcome → ℕ → ℕ → ℕ → Outcome
judged ranged total n room =
    or_else (ltb 64 n) OverLimit (or_else (ltb room n) ShortBuffer (and_then ranged (or_else (ltb 1000000 total || ltb n (1000000 - total)) TotalOutOfReach (Ok tt))))

-- the whole parts and the ranks of n weights, and room for their millionths
pub record Served (wholes ranks : List ℕ) (n room : ℕ) : Type 0 where
  pub wholes_are : Wholes wholes
  pub wholes_wide : n ≤ length wholes
  pub ranks_wide : n ≤ length ranks
  pub roomy : n ≤ room
