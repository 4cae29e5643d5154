-- Document 01, "Millionths and the job program": the first line of a job text. Document 02, requests 8 and 10: its last fields `prices` and `ceilings`. Definitions only.
use Rattle.std.specs.Prelude.{ℕ, ◌+◌, Bool, true, false, not, cond, ◌&&◌, ◌||◌, List, [], ◌∷◌, ltb, eqb, length, Some, Ok, None, Err}
use Rattle.refusal.specs.Table.{Line, first, Outcome}
use Rattle.refusal.specs.Telling.{Telling, accepts, refuses}
use Rattle.refusal.specs.declared.Refusal.TheVariants.{UnknownDistance, UnknownLinkage, MalformedText}
use Rattle.text.specs.Bytes.{bytes, same}
use Rattle.lent.specs.Count.{one}
use Rattle.fields.specs.Split.{tabulator, split, piece, last_piece}
use Rattle.fields.specs.Numerals.{numeral_read}
use Rattle.linkage.specs.Names.{distance_named, linkage_named}
use Rattle.heading.specs.declared.Asked.{Asked}
use Rattle.heading.specs.declared.Asked.TheVariants as asked
use Rattle.fields.specs.Outcomes.{Numeral}
use Rattle.heading.specs.Outcomes.{Heading}
use Rattle.linkage.specs.Outcomes.{NamedDistance, NamedLinkage}
use Rattle.heading.specs.declared.Task.TheVariants as task

-- "fields parted by tabs": field k of a line, counted from 0
abbrev pub field : List ℕ → ℕ → List ℕ
field l k = piece tabulator l k

abbrev pub fields_in : List ℕ → ℕ
fields_in l = length (split tabulator l)

abbrev pub last_field : List ℕ → List ℕ
last_field l = last_piece tabulator l

-- ---- "First line: `hrp` and distance; or `hcaa`, metric, linkage, distance, clusters (1 to 9 digits, or `-` for all)."

abbrev pub asked_by : Numeral → Asked
asked_by (Some k) = asked.Count k
asked_by None = asked.Malformed

unfoldable pub clusters_of : List ℕ → Asked
unfolding same
clusters_of w = cond (same w (bytes "-")) asked.All (asked_by (numeral_read w))

abbrev pub well_asked : Asked → Bool
well_asked asked.Malformed = false
well_asked asked.All = true
well_asked (asked.Count k) = true

-- what is asked for, or 15
unfoldable pub asked_outcome : List ℕ → Outcome
unfolding clusters_of
asked_outcome w = first ((not (well_asked (clusters_of w)), MalformedText) ∷ [])

abbrev pub asked_tells : Asked → Telling Asked
asked_tells asked.Malformed = refuses MalformedText
asked_tells asked.All = accepts asked.All
asked_tells (asked.Count k) = accepts (asked.Count k)

-- request 8: "the first line gains a last field `prices`", after the k fields that the job has without it
unfoldable pub prices_after : ℕ → List ℕ → Bool
unfolding split same
prices_after k l = same (field l k) (bytes "prices")

-- request 10: "`ceilings` as the last field of its first line", after `prices` where both stand
unfoldable pub ceilings_after : ℕ → List ℕ → Bool
unfolding split same
ceilings_after k l = ltb k (fields_in l) && same (last_field l) (bytes "ceilings")

-- k fields, and those of these two that stand after them
unfoldable pub is_of : ℕ → List ℕ → Bool
unfolding split prices_after ceilings_after
is_of k l = eqb (fields_in l) (k + one (prices_after k l) + one (ceilings_after k l))

unfoldable pub is_hrp : List ℕ → Bool
unfolding split same is_of
is_hrp l = is_of 2 l && same (field l 0) (bytes "hrp")

unfoldable pub is_hcaa : List ℕ → Bool
unfolding split same is_of clusters_of
is_hcaa l = is_of 5 l && (same (field l 0) (bytes "hcaa") && well_asked (clusters_of (field l 4)))

-- the fields that a job has without them; all, where the line is none of a job
unfoldable pub own_fields : List ℕ → ℕ
unfolding split is_hrp is_hcaa
own_fields l = cond (is_hrp l) 2 (cond (is_hcaa l) 5 (fields_in l))

-- whether "a new prices block" stands "in place of the covariance"
unfoldable pub is_priced : List ℕ → Bool
unfolding own_fields prices_after
is_priced l = prices_after (own_fields l) l

-- whether the assets have ceilings
unfoldable pub is_ceiled : List ℕ → Bool
unfolding own_fields ceilings_after
is_ceiled l = ceilings_after (own_fields l) l

-- ---- refusals: "15, 8, 7"

abbrev pub known_distance : NamedDistance → Bool
known_distance (Ok d) = true
known_distance (Err r) = false

abbrev pub known_linkage : NamedLinkage → Bool
known_linkage (Ok l) = true
known_linkage (Err r) = false

-- the distance is the second field of an `hrp` line and the fourth of an `hcaa` line
unfoldable pub distance_field : List ℕ → List ℕ
unfolding is_hrp split
distance_field l = cond (is_hrp l) (field l 1) (field l 3)

-- 8, then 7
unfoldable pub unknown_lines : List ℕ → List Line
unfolding is_hcaa split distance_field distance_named linkage_named
unknown_lines l =
    (is_hcaa l && not (known_linkage (linkage_named (field l 2))), UnknownLinkage)
    ∷ (not (known_distance (distance_named (distance_field l))), UnknownDistance)
    ∷ []

unfoldable pub head_lines : List ℕ → List Line
unfolding is_hrp is_hcaa unknown_lines
head_lines l = (not (is_hrp l || is_hcaa l), MalformedText) ∷ unknown_lines l

unfoldable pub head_outcome : List ℕ → Outcome
unfolding head_lines
head_outcome l = first (head_lines l)

-- ---- the answer

abbrev pub hrp_asked : NamedDistance → Heading
hrp_asked (Ok d) = Ok (task.Hrp d)
hrp_asked (Err r) = Err r

abbrev pub hcaa_asked : NamedLinkage → NamedDistance → Heading
hcaa_asked (Ok l) (Ok d) = Ok (task.Hcaa l d)
hcaa_asked (Ok l) (Err r) = Err r
hcaa_asked (Err r) d = Err r

-- what a first line asks for
unfoldable pub head_of : List ℕ → Heading
unfolding is_hrp is_hcaa split distance_named linkage_named
head_of l =
    cond (is_hrp l) (hrp_asked (distance_named (field l 1)))
    (cond (is_hcaa l) (hcaa_asked (linkage_named (field l 2)) (distance_named (field l 3)))
    (Err MalformedText))

-- what the answer tells: 0 and the job, or the refusal's number
abbrev pub head_tells : Heading → Telling Heading
head_tells (Err r) = refuses r
head_tells (Ok (task.Hrp d)) = accepts (Ok (task.Hrp d))
head_tells (Ok (task.Hcaa l d)) = accepts (Ok (task.Hcaa l d))
