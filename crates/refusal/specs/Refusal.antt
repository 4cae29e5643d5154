-- Document 01, "Refusal numbers", and document 02, requests 1, 3 and 10: the number and the values of each case. Definitions only.
use Rattle.std.specs.Prelude.{ℕ, List, [], ◌∷◌}
use Rattle.refusal.specs.declared.Refusal.{Refusal}
use Rattle.refusal.specs.declared.Refusal.TheVariants.{
  NoData,
  UnknownAllocationMetric,
  DimensionMismatch,
  MissingExpectedReturnsForSharpe,
  UnknownReturns,
  InvalidNumClusters,
  UnknownDistance,
  UnknownLinkage,
  OverLimit,
  SliceLength,
  ShortBuffer,
  WeightOutOfRange,
  NoTree,
  MalformedText,
  MissingReturnsForTailRisk,
  ConfidenceOutOfRange,
  TotalOutOfReach,
  CeilingsTooLow,
}

abbrev pub number_of : Refusal → ℕ
-- "`NoData`, as ordered below"
number_of NoData = 1
-- "metric is none of the source's six names (case matters)"
number_of UnknownAllocationMetric = 2
-- "`DimensionMismatch`"
number_of DimensionMismatch = 3
-- "Sharpe without expected returns or return rows"
number_of MissingExpectedReturnsForSharpe = 4
-- "Sharpe must estimate and the method is neither `mean` nor `exponential` (any case)"
number_of UnknownReturns = 5
-- "cluster count 0 or above the assets"
number_of (InvalidNumClusters requested assets) = 6
-- "unknown distance, unknown linkage name (any case)"
number_of UnknownDistance = 7
number_of UnknownLinkage = 8
-- "a number of assets, rows, columns or cells, or a text, is over its limit"
number_of OverLimit = 9
-- "a matrix's slice isn't rows times columns long"
number_of SliceLength = 10
-- "an answer buffer is too short, or scratch has under 8,192 doubles"
number_of ShortBuffer = 11
-- "a weight to be put in millionths is NaN, below 0 or above 1"
number_of WeightOutOfRange = 13
-- "merge rows are no tree, a node number is above 2n − 2, or an asset number above n − 1, or a given leaf order isn't each asset once"
number_of NoTree = 14
-- "job text is malformed"
number_of MalformedText = 15
-- document 02, request 1: "12 is no longer given; 16, no return rows"; "17, under these two metrics, confidence NaN or outside 0 to 1"
number_of MissingReturnsForTailRisk = 16
number_of ConfidenceOutOfRange = 17
-- document 02, request 3: "18, after 13, when the missing amount is below 0 or above the asset count"
number_of TotalOutOfReach = 18
-- document 02, request 10: "20, after 18, exactly when no list of whole millionths, none above its ceiling, totals one million"
number_of CeilingsTooLow = 20

-- "Each refusal returns its number (6 also the count asked and the assets)"
abbrev pub values_of : Refusal → List ℕ
values_of NoData = []
values_of UnknownAllocationMetric = []
values_of DimensionMismatch = []
values_of MissingExpectedReturnsForSharpe = []
values_of UnknownReturns = []
values_of (InvalidNumClusters requested assets) = requested ∷ assets ∷ []
values_of UnknownDistance = []
values_of UnknownLinkage = []
values_of OverLimit = []
values_of SliceLength = []
values_of ShortBuffer = []
values_of WeightOutOfRange = []
values_of NoTree = []
values_of MalformedText = []
values_of MissingReturnsForTailRisk = []
values_of ConfidenceOutOfRange = []
values_of TotalOutOfReach = []
values_of CeilingsTooLow = []
