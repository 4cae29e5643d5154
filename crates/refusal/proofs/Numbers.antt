-- Of every refusal: its number is not 0, and it has no values or two. Assumes nothing.
use Prim.Native.Nat.{ℕ}
use mathlib.Core.Path.{◌≡◌, refl}
use mathlib.Core.Logic.{◌⊎◌, inl, inr}
use mathlib.Core.List.{[], ◌∷◌}
use native.Mathlib.Omega.{arith}
use Rattle.refusal.specs.Refusal.{number_of, values_of}
use Rattle.refusal.specs.declared.Refusal.{Refusal}
use Rattle.refusal.specs.declared.Refusal.TheVariants.{
  NoData,
  UnknownAllocationMetric,
  DimensionMismatch,
  MissingExpectedReturnsForSharpe,
  UnknownReturns,
  InvalidNumClusters,
  UnknownDistance,
  UnknownLinkage,
  OverLimit,
  SliceLength,
  ShortBuffer,
  WeightOutOfRange,
  NoTree,
  MalformedText,
  MissingReturnsForTailRisk,
  ConfidenceOutOfRange,
  TotalOutOfReach,
  CeilingsTooLow,
}

pub number_some : (r : Refusal) → number_of r ≡ 0 → ⊥
number_some NoData e = omega arith
number_some UnknownAllocationMetric e = omega arith
number_some DimensionMismatch e = omega arith
number_some MissingExpectedReturnsForSharpe e = omega arith
number_some UnknownReturns e = omega arith
number_some (InvalidNumClusters k n) e = omega arith
number_some UnknownDistance e = omega arith
number_some UnknownLinkage e = omega arith
number_some OverLimit e = omega arith
number_some SliceLength e = omega arith
number_some ShortBuffer e = omega arith
number_some WeightOutOfRange e = omega arith
number_some NoTree e = omega arith
number_some MalformedText e = omega arith
number_some MissingReturnsForTailRisk e = omega arith
number_some ConfidenceOutOfRange e = omega arith
number_some TotalOutOfReach e = omega arith
number_some CeilingsTooLow e = omega arith

pub no_values_or_two : (r : Refusal) → (values_of r ≡ []) ⊎ ((k : ℕ) × ((n : ℕ) × (values_of r ≡ k ∷ n ∷ [])))
no_values_or_two NoData = inl refl
no_values_or_two UnknownAllocationMetric = inl refl
no_values_or_two DimensionMismatch = inl refl
no_values_or_two MissingExpectedReturnsForSharpe = inl refl
no_values_or_two UnknownReturns = inl refl
no_values_or_two (InvalidNumClusters k n) = inr (k, (n, refl))
no_values_or_two UnknownDistance = inl refl
no_values_or_two UnknownLinkage = inl refl
no_values_or_two OverLimit = inl refl
no_values_or_two SliceLength = inl refl
no_values_or_two ShortBuffer = inl refl
no_values_or_two WeightOutOfRange = inl refl
no_values_or_two NoTree = inl refl
no_values_or_two MalformedText = inl refl
no_values_or_two MissingReturnsForTailRisk = inl refl
no_values_or_two ConfidenceOutOfRange = inl refl
no_values_or_two TotalOutOfReach = inl refl
no_values_or_two CeilingsTooLow = inl refl
