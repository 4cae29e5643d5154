-- What the private functions ask of one another and promise: may be skipped. Definitions only.
use Rattle.std.specs.Prelude.{ℕ, ◌<◌, ◌≤◌, ◌≡◌, List, ◌++◌, length, get_or, Float}
use Rattle.std.specs.Float.{nan}
use Rattle.lent.specs.Grid.{tab, grid}

-- the first n rows, and the first j cells of row n: where two nested loops stand
unfoldable pub part : {A : Type 0} → ℕ → ℕ → ℕ → (ℕ → ℕ → A) → List A
unfolding tab grid
part n j w f = grid n w f ++ tab j (f n)

-- the entries of m from lo up to hi are f lo, f (lo + 1), .., f (hi - 1): sums that go side by side
pub record Held (m : List Float) (lo hi : ℕ) (f : ℕ → Float) : Type 0 where
  pub size : hi ≤ length m
  pub entry : (k : ℕ) → lo ≤ k → k < hi → get_or m k nan ≡ f k
