-- What the private functions ask of one another and promise: may be skipped. Definitions only.
use Rattle.std.specs.Prelude.{ℕ, ◌≤◌, ◌<◌, ◌≡◌, List, [], ◌∷◌, ltb, length, get_or}
use Rattle.refusal.specs.Table.{Line}
use Rattle.refusal.specs.declared.Refusal.TheVariants.{DimensionMismatch, OverLimit, ShortBuffer}
use Rattle.lent.specs.Lent.{most_assets}
use Rattle.ceilings.specs.Figures.{are_unlike}

-- figures that can be cut: as many as ceilings, and small enough to add up
pub record Cappable (xs cs : List ℕ) : Type 0 where
  pub same : length xs ≡ length cs
  pub few : length xs ≤ 64
  pub small : (i : ℕ) → i < length xs → get_or xs i 0 ≤ 1000000

-- the first lines of the table of figures: those that the sizes decide
unfoldable pub size_lines : ℕ → List ℕ → ℕ → List Line
unfolding are_unlike
size_lines weights cs room =
    (ltb most_assets weights, OverLimit)
    ∷ (ltb room weights, ShortBuffer)
    ∷ (are_unlike cs weights, DimensionMismatch)
    ∷ []
