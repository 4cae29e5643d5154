-- Document 01, refusals 7 and 8: the names of distances and linkages. Definitions only.
use Rattle.std.specs.Prelude.{ℕ, cond, List, Ok, Err}
use Rattle.text.specs.Bytes.{bytes, is_word}
use Rattle.refusal.specs.Telling.{Telling, accepts, refuses}
use Rattle.refusal.specs.declared.Refusal.TheVariants.{UnknownDistance, UnknownLinkage}
use Rattle.linkage.specs.declared.Distance.{Distance}
use Rattle.linkage.specs.declared.Distance.TheVariants.{Correlation, DistanceOfDistances}
use Rattle.linkage.specs.declared.Linkage.{Linkage}
use Rattle.linkage.specs.declared.Linkage.TheVariants.{Single, Complete, Average, Ward}
use Rattle.linkage.specs.Outcomes.{NamedDistance, NamedLinkage}

-- "unknown distance, unknown linkage name (any case)"
unfoldable pub distance_named : List ℕ → NamedDistance
distance_named name =
    cond (is_word name (bytes "correlation")) (Ok Correlation)
    (cond (is_word name (bytes "distance_of_distances")) (Ok DistanceOfDistances)
    (Err UnknownDistance))

unfoldable pub linkage_named : List ℕ → NamedLinkage
linkage_named name =
    cond (is_word name (bytes "single")) (Ok Single)
    (cond (is_word name (bytes "complete")) (Ok Complete)
    (cond (is_word name (bytes "average")) (Ok Average)
    (cond (is_word name (bytes "ward")) (Ok Ward)
    (Err UnknownLinkage))))

-- this paper's number and values: 0 and what is named, or the refusal's
abbrev pub distance_tells : NamedDistance → Telling Distance
distance_tells (Ok d) = accepts d
distance_tells (Err r) = refuses r

abbrev pub linkage_tells : NamedLinkage → Telling Linkage
linkage_tells (Ok l) = accepts l
linkage_tells (Err r) = refuses r
