-- Document 01, "Millionths and the job program": from a job text to its listing. "Order: 9, 15, 8, 7, the allocator's, 13"; document 02, request 3: "18, after 13";
-- request 8: prices "in place of the covariance"; request 13: from a job text to its sheet; request 10: "20, after 18". Definitions only.
use Rattle.std.specs.Prelude.{ℕ, ◌+◌, ◌-◌, ◌*◌, ◌<◌, ◌≡◌, Bool, true, false, not, List, [], ◌∷◌, ltb, length, Float, Some, Ok, None, Err}
use Rattle.std.specs.Float.{binary64}
use Rattle.std.specs.Float.Ieee.{of_bits}
use Rattle.refusal.specs.Table.{Line, first, and_then, Outcome}
use Rattle.refusal.specs.declared.Refusal.TheVariants.{OverLimit, ShortBuffer}
use Rattle.lent.specs.Lent.{shape_of}
use Rattle.text.specs.Bytes.{bytes}
use Rattle.heading.specs.Heading.{field, clusters_of}
use Rattle.heading.specs.declared.Asked.{Asked}
use Rattle.heading.specs.declared.Asked.TheVariants as asked
use Rattle.reading.specs.Reading.{most_bytes, text_lines, block_in, job_in, line, priced, ceiled, rows_in, assets, cells_in, name_of, ceilings_in, ReadRoom}
use Rattle.linkage.specs.declared.Distance.{Distance}
use Rattle.linkage.specs.declared.Linkage.{Linkage}
use Rattle.clusters.specs.Shares.{weights_in}
use Rattle.parity.specs.Parity as parity
use Rattle.hrp.specs.Hrp as hrp
use Rattle.hierarchy.specs.Hierarchy as hierarchy
use Rattle.hcaa.specs.Hcaa as hcaa
use Rattle.metrics.specs.declared.Metric.TheVariants.{EqualWeighting}
use Rattle.equal.specs.Equal.{EqualShares}
use Rattle.millionths.specs.Millionths.{millionths_in}
use Rattle.millionths.specs.Meaning.{Serves}
use Rattle.ceilings.specs.Figures.{figures_in, figures_lines}
use Rattle.ceilings.specs.Meaning.{Capped}
use Rattle.tree.specs.Tree.{left, right}
use Rattle.branches.specs.Branch.{members_of, subtotal}
use Rattle.listing.specs.Listing.{listing, least_listing, ListingMade}
use Rattle.groups.specs.Groups.{group_sheet, least_sheet}
use Rattle.job.specs.declared.Form.{Form}
use Rattle.job.specs.declared.Form.TheVariants as form
use Rattle.hcaa.specs.Outcomes.{Clusters}
use Rattle.listing.specs.Outcomes.{Listed}
use Rattle.reading.specs.Outcomes.{Reading}
use Rattle.reading.specs.declared.Job.TheVariants as jobs

-- ---- the allocator's call: the cells of the text, as prices or as a covariance, and nothing else

abbrev pub clusters_as : Asked → Clusters
clusters_as (asked.Count k) = Some k
clusters_as asked.All = None
clusters_as asked.Malformed = None

-- the cells where they are given as this, else none
unfoldable pub cells_if : Bool → List Float → List Float
cells_if true cells = cells
cells_if false cells = []

-- "Such a job keeps every day, shrinks nothing ..
unfoldable pub hrp_job_in : List ℕ → Distance → hrp.HrpJob
unfolding priced rows_in assets cells_in cells_if shape_of
hrp_job_in text d = record {
  assets = assets text;
  prices = cells_if (priced text) (cells_in text);
  prices_shape = shape_of (priced text) (rows_in text) (assets text);
  returns = [];
  returns_shape = None;
  covariance = cells_if (not (priced text)) (cells_in text);
  covariance_shape = shape_of (not (priced text)) (rows_in text) (assets text);
  resample_by = [];
  use_shrinkage = false;
  distance = d;
}

-- .. estimates by `mean` and uses the double nearest 0.05 as confidence." A covariance has no rows of returns, so that neither is read
abbrev pub confidence : Float
confidence = of_bits binary64 0x3fa9_9999_9999_999a

-- the metric is the second field of an `hcaa` line, the clusters the fifth
abbrev pub metric_in : List ℕ → List ℕ
metric_in text = field (line text 0) 1

abbrev pub clusters_in : List ℕ → Clusters
clusters_in text = clusters_as (clusters_of (field (line text 0) 4))

unfoldable pub hcaa_job_in : List ℕ → Linkage → Distance → hcaa.HcaaJob
unfolding priced rows_in assets cells_in cells_if shape_of clusters_of
hcaa_job_in text l d = record {
  assets = assets text;
  prices = cells_if (priced text) (cells_in text);
  prices_shape = shape_of (priced text) (rows_in text) (assets text);
  returns = [];
  returns_shape = None;
  covariance = cells_if (not (priced text)) (cells_in text);
  covariance_shape = shape_of (not (priced text)) (rows_in text) (assets text);
  expected = [];
  expected_given = false;
  metric = metric_in text;
  method = bytes "mean";
  confidence = confidence;
  clusters = clusters_in text;
  resample_by = [];
  distance = d;
  linkage = l;
}

-- buffers for 64 assets
abbrev pub room_of_reader : ReadRoom
room_of_reader = record { cells = 4096; starts = 64; ceilings = 64 }

abbrev pub room_of_hrp : parity.ParityRoom
room_of_hrp = record { rows = 126; order = 64; weights = 64; correlations = 4096; distances = 4096; scratch = 8192 }

abbrev pub room_of_hcaa : hierarchy.Room
room_of_hcaa = record { rows = 126; order = 64; weights = 64; scratch = 8192 }

-- ---- what it says, its weights and its leaf order; by what the text asks for

unfoldable pub allocator_says : List ℕ → Reading → Outcome
unfolding hrp_job_in hcaa_job_in
allocator_says text (Err r) = Err r
allocator_says text (Ok (jobs.Hrp b d)) = hrp.hrp_outcome (hrp_job_in text d) room_of_hrp
allocator_says text (Ok (jobs.Hcaa b l d)) = hcaa.hcaa_outcome (hcaa_job_in text l d) room_of_hcaa

unfoldable pub job_weights : List ℕ → Reading → List Float
unfolding hrp_job_in hcaa_job_in
job_weights text (Err r) = []
job_weights text (Ok (jobs.Hrp b d)) = weights_in (parity.hrp_shares d (hrp.hrp_covariance (hrp_job_in text d)) b.assets)
job_weights text (Ok (jobs.Hcaa b l d)) =
    weights_in (hierarchy.hcaa_shares (hcaa.used_rule (hcaa_job_in text l d)) d l (hcaa.hcaa_covariance (hcaa_job_in text l d)) b.assets)

unfoldable pub job_order : List ℕ → Reading → List ℕ
unfolding hrp_job_in hcaa_job_in
job_order text (Err r) = []
job_order text (Ok (jobs.Hrp b d)) = parity.hrp_order d (hrp.hrp_covariance (hrp_job_in text d)) b.assets
job_order text (Ok (jobs.Hcaa b l d)) = hierarchy.hcaa_order d l (hcaa.hcaa_covariance (hcaa_job_in text l d)) b.assets

-- the rows of its tree
unfoldable pub job_rows : List ℕ → Reading → List ℕ
unfolding hrp_job_in hcaa_job_in
job_rows text (Err r) = []
job_rows text (Ok (jobs.Hrp b d)) = parity.hrp_rows d (hrp.hrp_covariance (hrp_job_in text d)) b.assets
job_rows text (Ok (jobs.Hcaa b l d)) = hierarchy.hcaa_rows d l (hcaa.hcaa_covariance (hcaa_job_in text l d)) b.assets

-- its figures in millionths, under the text's ceilings where it has any
unfoldable pub figures_of : List ℕ → List ℕ
unfolding job_weights job_in ceilings_in figures_in
figures_of text = figures_in (job_weights text (job_in text)) (ceilings_in text)

-- ---- what is printed of a job: its listing, or its sheet, with names or without

unfoldable pub listing_of : List ℕ → List ℕ
unfolding job_weights job_order job_in ceilings_in name_of listing
listing_of text = listing (name_of text) (job_weights text (job_in text)) (ceilings_in text) (job_order text (job_in text))

-- by the "listing's millionths", which are after ceilings
unfoldable pub sheet_of : List ℕ → Bool → List ℕ
unfolding figures_of job_rows job_in name_of group_sheet
sheet_of text named = group_sheet named (name_of text) (job_rows text (job_in text)) (figures_of text) (assets text)

unfoldable pub printed_of : List ℕ → Form → List ℕ
unfolding listing_of sheet_of
printed_of text form.Listing = listing_of text
printed_of text (form.Sheet named) = sheet_of text named

-- ---- refusals: "the program's as in `weights`"

-- the bytes that hold everything of a form
unfoldable pub least_for : Form → ℕ
unfolding least_sheet
least_for form.Listing = least_listing
least_for (form.Sheet named) = least_sheet named

-- "9, 15, 8, 7", with the buffer's 11 after the 9
unfoldable pub text_table : List ℕ → Form → ℕ → List Line
unfolding least_for text_lines
text_table text f room = (ltb most_bytes (length text), OverLimit) ∷ (ltb room (least_for f), ShortBuffer) ∷ text_lines text

unfoldable pub job_outcome : List ℕ → Form → ℕ → Outcome
unfolding text_table allocator_says job_weights job_in ceilings_in figures_lines
job_outcome text f room =
    and_then (first (text_table text f room))
    (and_then (allocator_says text (job_in text)) (first (figures_lines (job_weights text (job_in text)) (ceilings_in text))))

-- ---- the two calls

-- what a call answers and leaves in its buffer. A refused text leaves zeros; the refusal is what is returned
pub record TextListed (text : List ℕ) (room : ℕ) (r : Listed) (out : List ℕ) : Type 0 where
  pub made : ListingMade (job_outcome text form.Listing room) (listing_of text) room r out
  -- document 02, request 3: an accepted text has millionths that total 1,000,000, nobody's moved by more than one; it lists these where it has no ceilings
  pub adds_up : job_outcome text form.Listing room ≡ Ok tt → Serves (job_weights text (job_in text)) (millionths_in (job_weights text (job_in text)))
  -- request 10: where it has ceilings, what it lists totals 1,000,000 too, nobody's above the ceiling, or below the smaller of that figure and the ceiling
  pub capped : job_outcome text form.Listing room ≡ Ok tt → ceiled text ≡ true → Capped (millionths_in (job_weights text (job_in text))) (ceilings_in text) (figures_of text)
  -- demand 3, which "speaks of weights before ceilings": an accepted `hcaa` text by equal weighting lists equal shares, by the rows of its tree and its clusters
  pub equal_shares : (l : Linkage) (d : Distance) → job_outcome text form.Listing room ≡ Ok tt → job_in text ≡ Ok (jobs.Hcaa (block_in text) l d)
      → hcaa.used_metric (hcaa_job_in text l d) ≡ EqualWeighting
      → EqualShares (assets text) (hcaa.cluster_count (clusters_in text) (assets text))
      (hierarchy.hcaa_rows d l (hcaa.hcaa_covariance (hcaa_job_in text l d)) (assets text)) (job_weights text (job_in text))

-- the millionths of a node's assets
unfoldable pub subtotal_at : List ℕ → ℕ → ℕ
unfolding figures_of job_rows job_in members_of subtotal
subtotal_at text v = subtotal (figures_of text) (members_of (job_rows text (job_in text)) (assets text) v)

pub record TextSheeted (text : List ℕ) (named : Bool) (room : ℕ) (r : Listed) (out : List ℕ) : Type 0 where
  pub made : ListingMade (job_outcome text (form.Sheet named) room) (sheet_of text named) room r out
  -- "each branch's subtotal is the sum of its two children's": row k's node is n + k
  pub branches : job_outcome text (form.Sheet named) room ≡ Ok tt → (k : ℕ) → k < assets text - 1
      → subtotal_at text (assets text + k) ≡ subtotal_at text (left (job_rows text (job_in text)) k) + subtotal_at text (right (job_rows text (job_in text)) k)
  -- and so the first line's, the root's, is 1,000,000
  pub whole : job_outcome text (form.Sheet named) room ≡ Ok tt → subtotal_at text (2 * assets text - 2) ≡ 1000000
