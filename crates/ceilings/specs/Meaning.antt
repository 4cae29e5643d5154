-- Document 02, request 10: what figures under ceilings have to be, apart from how they are made. Definitions only.
use Rattle.std.specs.Prelude.{ℕ, ◌≤◌, ◌<◌, min, ◌≡◌, List, length, get_or}
use Rattle.millionths.specs.Meaning.{total_of}

-- a "list of whole millionths, none above its ceiling," that "totals one million"
pub record Under (cs l : List ℕ) : Type 0 where
  pub each : length l ≡ length cs
  pub below : (i : ℕ) → i < length cs → get_or l i 0 ≤ get_or cs i 0
  pub total : total_of l ≡ 1000000

-- a list that does what request 10 asks with the old figures xs
pub record Capped (xs cs l : List ℕ) : Type 0 where
  -- "Prove that the total is one million, that nobody is above the ceiling"
  pub under : Under cs l
  -- "and that nobody has less than the smaller of the old figure and the ceiling"
  pub least : (i : ℕ) → i < length cs → min (get_or xs i 0) (get_or cs i 0) ≤ get_or l i 0
  -- "in asset order, each one filled up to its ceiling": where j has got more than that, everyone before it is full
  pub in_order : (i j : ℕ) → i < j → j < length cs → min (get_or xs j 0) (get_or cs j 0) < get_or l j 0 → get_or l i 0 ≡ get_or cs i 0
