-- First lines, computed by antt as one table: each line is an answer beside the one that it must be. Assumes nothing.
use Prim.Native.Nat.{ℕ, ◌+◌}
use mathlib.Core.Path.{◌≡◌, refl}
use mathlib.Core.Bool.{Bool, true, cond, ◌&&◌}
use mathlib.Core.List.{List, [], ◌∷◌}
use lib.Dec.{eqb}
use Rattle.refusal.specs.Refusal.{number_of}
use Rattle.refusal.specs.Table.{first, Outcome}
use Rattle.text.specs.Bytes.{bytes, same, lower, lowered, is_word}
use Rattle.fields.specs.Split.{onto, split, all as every}
use Rattle.fields.specs.Numerals.{digit, number, is_numeral, numeral_read}
use Rattle.linkage.specs.Names.{distance_named, linkage_named}
use Rattle.linkage.specs.declared.Distance.{Distance}
use Rattle.linkage.specs.declared.Distance.TheVariants.{Correlation, DistanceOfDistances}
use Rattle.linkage.specs.declared.Linkage.{Linkage}
use Rattle.linkage.specs.declared.Linkage.TheVariants.{Single, Complete, Average, Ward}
use Rattle.heading.specs.Heading.{clusters_of, prices_after, ceilings_after, is_of, is_hrp, is_hcaa, own_fields, is_priced, is_ceiled, distance_field, unknown_lines, head_lines, head_outcome, head_of}
use Rattle.heading.specs.declared.Asked.{Asked}
use Rattle.heading.specs.declared.Asked.TheVariants as asked
use Rattle.std.specs.Prelude.{Ok, Err}
use Rattle.heading.specs.Outcomes.{Heading}
use Rattle.heading.specs.declared.Task.TheVariants as task

abbrev all : List Bool → Bool
all [] = true
all (b ∷ bs) = b && all bs

-- 1000 for all, 2000 for none, else the count
abbrev asks : List ℕ → ℕ
asks w = number_asked (clusters_of w)
  where
    number_asked : Asked → ℕ
    number_asked asked.Malformed = 2000
    number_asked asked.All = 1000
    number_asked (asked.Count k) = k

abbrev clusters : List Bool
clusters =
    eqb (asks (bytes "-")) 1000
    ∷ eqb (asks (bytes "0")) 0
    ∷ eqb (asks (bytes "007")) 7
    ∷ eqb (asks (bytes "123456789")) 123456789
    ∷ eqb (asks (bytes "1234567890")) 2000
    ∷ eqb (asks []) 2000
    ∷ eqb (asks (bytes "--")) 2000
    ∷ eqb (asks (bytes "1a")) 2000
    ∷ []

-- the refusal's number; 100 or 200 for an `hrp` line by its distance, 1000 and more with that for an `hcaa` line by its linkage; 10,000 more where prices follow, and 20,000 where there are ceilings
abbrev distances : Distance → ℕ
distances Correlation = 100
distances DistanceOfDistances = 200

abbrev linkages : Linkage → ℕ
linkages Single = 1000
linkages Complete = 2000
linkages Average = 3000
linkages Ward = 4000

abbrev told : Heading → ℕ
told (Err r) = number_of r
told (Ok (task.Hrp d)) = distances d
told (Ok (task.Hcaa l d)) = linkages l + distances d

abbrev heads : List ℕ → ℕ
heads l = told (head_of l) + cond (is_priced l) 10000 0 + cond (is_ceiled l) 20000 0

-- the table says the same number
abbrev tabled : Outcome → ℕ
tabled (Ok _) = 0
tabled (Err r) = number_of r

abbrev refused : List ℕ → ℕ → Bool
refused l k = eqb (heads l) k && eqb (tabled (head_outcome l)) k

abbrev accepted : List ℕ → ℕ → Bool
accepted l k = eqb (heads l) k && eqb (tabled (head_outcome l)) 0

abbrev lines : List Bool
lines =
    accepted (bytes "hrp\tcorrelation") 100
    ∷ accepted (bytes "hrp\tDistance_of_distances") 200
    ∷ accepted (bytes "hrp\tcorrelation\tprices") 10100
    ∷ accepted (bytes "hcaa\tequal_weighting\tsingle\tcorrelation\t-") 1100
    ∷ accepted (bytes "hcaa\tnone\tWARD\tdistance_of_distances\t3\tprices") 14200
    ∷ accepted (bytes "hcaa\t\tcomplete\tcorrelation\t0") 2100
    ∷ accepted (bytes "hcaa\tprices\taverage\tcorrelation\t000000001\tprices") 13100
    ∷ accepted (bytes "hrp\tcorrelation\tceilings") 20100
    ∷ accepted (bytes "hrp\tcorrelation\tprices\tceilings") 30100
    ∷ accepted (bytes "hcaa\tequal_weighting\tsingle\tcorrelation\t-\tceilings") 21100
    ∷ accepted (bytes "hcaa\tnone\tWARD\tdistance_of_distances\t3\tprices\tceilings") 34200
    -- a distance named `prices`, or `ceilings`
    ∷ refused (bytes "hrp\tprices") 7
    ∷ refused (bytes "hrp\tceilings") 7
    -- in order: 15, 8, 7; a line whose names are not known still says what follows it
    ∷ refused (bytes "hcaa\tequal_weighting\tnone\tnone\tx") 15
    ∷ refused (bytes "hcaa\tequal_weighting\tnone\tnone\t-") 8
    ∷ refused (bytes "hcaa\tequal_weighting\tward\tnone\t-") 7
    ∷ eqb (heads (bytes "hcaa\tequal_weighting\tnone\tnone\t-\tprices")) 10008
    ∷ eqb (heads (bytes "hrp\tnone\tprices")) 10007
    -- clusters named `prices`
    ∷ refused (bytes "hcaa\tequal_weighting\tsingle\tcorrelation\tprices") 15
    ∷ refused [] 15
    ∷ refused (bytes "hrp") 15
    ∷ refused (bytes "HRP\tcorrelation") 15
    ∷ refused (bytes "hrp\tcorrelation\t") 15
    ∷ refused (bytes "hrp\tcorrelation\tPrices") 15
    ∷ refused (bytes "hrp\tcorrelation\tprice") 15
    ∷ refused (bytes "hrp\tcorrelation\tprices\t") 15
    ∷ refused (bytes "hrp\tcorrelation\tprices\tprices") 15
    ∷ refused (bytes "hrp\tcorrelation\tceilings\tprices") 15
    ∷ refused (bytes "hrp\tcorrelation\tceilings\tceilings") 15
    ∷ refused (bytes "hrp\tcorrelation\tprices\tceilings\t") 15
    ∷ refused (bytes "hrp\tcorrelation\tceiling") 15
    ∷ refused (bytes "hcaa\tequal_weighting\tsingle\tcorrelation\tceilings") 15
    ∷ refused (bytes "hcaa\tequal_weighting\tsingle\tcorrelation\t-\tdays") 15
    ∷ refused (bytes "hcaa\tequal_weighting\tsingle\tcorrelation\t-\tprices\tprices") 15
    ∷ refused (bytes "hrp\tequal_weighting\tsingle\tcorrelation\t-") 15
    ∷ refused (bytes "hcaa\tcorrelation") 15
    ∷ []

pub figures : all clusters && all lines ≡ true
unfolding first same lower lowered is_word onto split every digit number is_numeral numeral_read distance_named linkage_named clusters_of prices_after ceilings_after is_of is_hrp is_hcaa own_fields is_priced is_ceiled distance_field unknown_lines head_lines head_outcome head_of
figures = refl
