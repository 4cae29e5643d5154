-- The C interface: what each call of rovignesc.h answers, and what it leaves in each lent buffer, for every input: what the call behind it does, said in numbers. Definitions only.
use Rattle.std.specs.Prelude.{ℕ, ◌-◌, ◌*◌, ◌≡◌, cond, List, [], ◌∷◌, length, take, Float, Some, None}
use Rattle.refusal.specs.Table.{first, and_then, Outcome}
use Rattle.refusal.specs.Telling.{outcome_tells}
use Rattle.lent.specs.Lent.{is_set, laid}
use Rattle.inputs.specs.Inputs.{matrix_lines}
use Rattle.stats.specs.Covariance.{covariance_outcome, covariances}
use Rattle.tree.specs.Tree.{leaves_of}
use Rattle.tree.specs.Order.{order_outcome}
use Rattle.linkage.specs.Names.{distance_named, linkage_named}
use Rattle.linkage.specs.Merge.{merge_rows}
use Rattle.linkage.specs.Pairs.{pairs_visited}
use Rattle.linkage.specs.Children.{children_outcome}
use Rattle.parity.specs.Parity as parity
use Rattle.hrp.specs.Hrp as hrp
use Rattle.hierarchy.specs.Hierarchy as hierarchy
use Rattle.hcaa.specs.Hcaa as hcaa
use Rattle.metrics.specs.declared.Metric.TheVariants.{EqualWeighting}
use Rattle.equal.specs.Equal.{EqualShares}
use Rattle.listing.specs.Listing.{refusal_line, refusal_outcome}
use Rattle.job.specs.Job.{job_outcome, listing_of, sheet_of}
use Rattle.job.specs.declared.Form.TheVariants.{Listing, Sheet}
use Rattle.foreign.specs.Foreign.{distance_says, linkage_says, linkage_meant, asked_lines, asked_laid, count_lines, merge_sizes, leaf_sizes, byte_lines}
use Rattle.hcaa.specs.Outcomes.{Clusters}

-- ---- hierarchical risk parity

-- "Always 9, 10, 11 first"; then 7; then as the call behind, whose job has the distance of this name
unfoldable pub named_hrp_outcome : hrp.HrpJob → List ℕ → parity.ParityRoom → Outcome
unfolding distance_says
named_hrp_outcome j name room =
    and_then (first (matrix_lines j.assets j.prices_shape (length j.prices) j.returns_shape (length j.returns) j.covariance_shape (length j.covariance)))
    (and_then (first (parity.parity_room_lines j.assets room))
    (and_then (distance_says (distance_named name)) (hrp.hrp_outcome j room)))

pub record HrpAnswer (j : hrp.HrpJob) (name : List ℕ) (room : parity.ParityRoom) (r : ℕ) (rows order : List ℕ) (weights correlations distances scratch : List Float) : Type 0 where
  pub answer : r ≡ (outcome_tells (named_hrp_outcome j name room)).number
  pub buffers : parity.ParityLaid (named_hrp_outcome j name room) j.distance (hrp.hrp_covariance j) j.assets room rows order weights correlations distances scratch

-- ---- hierarchical clustering-based asset allocation

-- a flag says whether a count is given: without one, all
unfoldable pub clusters_for : ℕ → ℕ → Clusters
clusters_for given count = cond (is_set given) (Some count) None

-- "Always 9, 10, 11 first"; then 8, then 7; then as the call behind, whose job has the linkage and the distance of these names
unfoldable pub named_hcaa_outcome : hcaa.HcaaJob → List ℕ → List ℕ → hierarchy.Room → ℕ → Outcome
unfolding asked_lines linkage_says distance_says
named_hcaa_outcome j link name room asked =
    and_then (first (matrix_lines j.assets j.prices_shape (length j.prices) j.returns_shape (length j.returns) j.covariance_shape (length j.covariance)))
    (and_then (first (hierarchy.room_lines j.assets room))
    (and_then (first (asked_lines asked))
    (and_then (linkage_says (linkage_named link)) (and_then (distance_says (distance_named name)) (hcaa.hcaa_outcome j room)))))

pub record HcaaAnswer (j : hcaa.HcaaJob) (link name : List ℕ) (room : hierarchy.Room) (count r : ℕ) (rows order : List ℕ) (weights scratch : List Float) (asked : List ℕ) : Type 0 where
  pub answer : r ≡ (outcome_tells (named_hcaa_outcome j link name room count)).number
  pub buffers : hierarchy.HierarchyLaid (named_hcaa_outcome j link name room count) (hcaa.used_rule j) j.distance j.linkage (hcaa.hcaa_covariance j) j.assets room rows order weights scratch
  pub asked_is : asked ≡ asked_laid (named_hcaa_outcome j link name room count) count
  -- demand 3: an accepted job by equal weighting leaves equal shares, in the front of the rows and of the weights
  pub equal_shares : r ≡ 0 → hcaa.used_metric j ≡ EqualWeighting
      → EqualShares j.assets (hcaa.cluster_count j.clusters j.assets) (take (2 * (j.assets - 1)) rows) (take j.assets weights)

-- ---- the covariance of the columns of returns xs, and `room` cells: as the call behind

pub record CovarianceAnswer (xs : List Float) (rows w room r : ℕ) (out : List Float) : Type 0 where
  pub answer : r ≡ (outcome_tells (covariance_outcome xs rows w room)).number
  pub cells_are : out ≡ covariances xs rows w room

-- ---- the merge step: a matrix xs of distances, rows for `room` numbers, and how many pairs were looked at

-- 9, 10, 11; then 8; then as the call behind
unfoldable pub merge_outcome : List Float → ℕ → ℕ → List ℕ → ℕ → ℕ → Outcome
unfolding merge_sizes count_lines linkage_says
merge_outcome xs rows w name room count =
    and_then (first (merge_sizes (length xs) rows w room))
    (and_then (first (count_lines count)) (and_then (linkage_says (linkage_named name)) (children_outcome xs rows w room)))

pub record MergeAnswer (xs : List Float) (rows w : ℕ) (name : List ℕ) (room count r : ℕ) (out pairs : List ℕ) : Type 0 where
  pub answer : r ≡ (outcome_tells (merge_outcome xs rows w name room count)).number
  pub rows_are : out ≡ laid 0 (merge_outcome xs rows w name room count) room (merge_rows (linkage_meant (linkage_named name)) w xs)
  -- "Return the number of pairs looked at", "zero on refusal"
  pub pairs_are : pairs ≡ laid 0 (merge_outcome xs rows w name room count) count (pairs_visited (linkage_meant (linkage_named name)) w xs ∷ [])

-- ---- the leaf order: the leaves under node v, and how many there are

-- then as the call behind
unfoldable pub leaf_outcome : List ℕ → ℕ → ℕ → ℕ → ℕ → Outcome
unfolding leaf_sizes
leaf_outcome rows n v room count = and_then (first (leaf_sizes n room count)) (order_outcome rows n v room)

pub record LeafAnswer (rows : List ℕ) (n v room count r : ℕ) (order leaves : List ℕ) : Type 0 where
  pub answer : r ≡ (outcome_tells (leaf_outcome rows n v room count)).number
  pub order_is : order ≡ laid 0 (leaf_outcome rows n v room count) room (leaves_of rows n v)
  pub leaves_are : leaves ≡ laid 0 (leaf_outcome rows n v room count) count (length (leaves_of rows n v) ∷ [])

-- ---- a job text to its listing, and how many bytes of it there are

-- then as the call behind, which has a listing of `room` bytes
unfoldable pub listing_outcome : List ℕ → ℕ → ℕ → Outcome
unfolding byte_lines
listing_outcome text room count = and_then (first (byte_lines (length text) count)) (job_outcome text Listing room)

pub record ListingAnswer (text : List ℕ) (room count r : ℕ) (listing bytes : List ℕ) : Type 0 where
  pub answer : r ≡ (outcome_tells (listing_outcome text room count)).number
  pub listing_is : listing ≡ laid 0 (listing_outcome text room count) room (listing_of text)
  pub bytes_are : bytes ≡ laid 0 (listing_outcome text room count) count (length (listing_of text) ∷ [])

-- ---- a job text to its sheet, with names where a flag says so, and how many bytes of it there are

-- then as the call behind, which has a sheet of `room` bytes
unfoldable pub sheeted_outcome : List ℕ → ℕ → ℕ → ℕ → Outcome
unfolding byte_lines
sheeted_outcome text named room count = and_then (first (byte_lines (length text) count)) (job_outcome text (Sheet (is_set named)) room)

pub record SheetAnswer (text : List ℕ) (named room count r : ℕ) (sheet bytes : List ℕ) : Type 0 where
  pub answer : r ≡ (outcome_tells (sheeted_outcome text named room count)).number
  pub sheet_is : sheet ≡ laid 0 (sheeted_outcome text named room count) room (sheet_of text (is_set named))
  pub bytes_are : bytes ≡ laid 0 (sheeted_outcome text named room count) count (length (sheet_of text (is_set named)) ∷ [])

-- ---- "a refusal prints `refused`, tab, number": its line of `room` bytes, and how many bytes of it there are

-- then as the call behind
unfoldable pub line_outcome : ℕ → ℕ → ℕ → Outcome
unfolding count_lines refusal_outcome
line_outcome number room count = and_then (first (count_lines count)) (refusal_outcome number room)

pub record LineAnswer (number room count r : ℕ) (line bytes : List ℕ) : Type 0 where
  pub answer : r ≡ (outcome_tells (line_outcome number room count)).number
  pub line_is : line ≡ laid 0 (line_outcome number room count) room (refusal_line number)
  pub bytes_are : bytes ≡ laid 0 (line_outcome number room count) count (length (refusal_line number) ∷ [])
