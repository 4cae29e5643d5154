-- A counted loop as a function: `range f lo hi s` is s after the turns lo, lo + 1, .. hi - 1, each by f; none where hi is at most lo. Definitions only.
use Rattle.std.specs.Prelude.{ℕ, zero, suc, ◌+◌, ◌-◌}

unfoldable pub span : {S : Type 0} → (ℕ → S → S) → ℕ → ℕ → S → S
span f lo zero s = s
span f lo (suc k) s = f (lo + k) (span f lo k s)

unfoldable pub range : {S : Type 0} → (ℕ → S → S) → ℕ → ℕ → S → S
unfolding span
range f lo hi s = span f lo (hi - lo) s
