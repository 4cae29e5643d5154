-- The clusters of document 01's job, worked out; and that 2^-53 cannot be 2^-54. Assumes nothing.
use mathlib.Core.Path.{◌≡◌, refl}
use mathlib.Core.List.{List, [], ◌∷◌}
use Prim.Native.Nat.{ℕ, ◌+◌, ◌*◌, ◌^◌}
use lib.Count.{count_trailing_zeros}
use lib.Ieee.{div, of_int, of_bits, of_fields, odd, round, units, size, span, climb}
use Rattle.arithmetic.specs.Arithmetic.{count_of, one_over}
use Rattle.arithmetic.specs.Exact.{units_of}
use Rattle.tree.specs.Tree.{grow, tree_at, leaves}
use Rattle.equal.specs.Clusters.{Cluster, cut, clusters}

-- the rows of document 01's job: A and B, then C and these two
abbrev rows : List ℕ
rows = 0 ∷ 1 ∷ 2 ∷ 3 ∷ []

abbrev of : ℕ → List ℕ → Cluster
of d xs = record { above = d; assets = xs }

-- cut into 3, 2 and 1: C stands below one split; A and B are together there, or a split further down
pub figures : (clusters rows 3 3 ∷ clusters rows 3 2 ∷ clusters rows 3 1 ∷ [])
    ≡ (of 1 (2 ∷ []) ∷ of 2 (0 ∷ []) ∷ of 2 (1 ∷ []) ∷ []) ∷ (of 1 (2 ∷ []) ∷ of 1 (0 ∷ 1 ∷ []) ∷ []) ∷ (of 0 (2 ∷ 0 ∷ 1 ∷ []) ∷ []) ∷ []
unfolding cut tree_at grow leaves
figures = refl

-- 49 assets in one cluster are 23/32 of 2^-53 short of one: a bound of 2^-54 would be false
pub farthest : 49 * units_of (one_over 49) + 23 * 2 ^ 1016 ≡ 2 ^ 1074
unfolding count_of one_over div of_int of_bits of_fields odd count_trailing_zeros round units size span climb
farthest = refl
