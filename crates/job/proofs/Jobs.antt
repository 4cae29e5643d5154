-- What a job's reading, and its allocator's call, leave in the buffers. Assumes nothing.
use Prim.Native.Nat.{ℕ, ◌*◌, ◌-◌, ◌≤◌}
use mathlib.Core.Path.{◌≡◌, refl, sym, ap, subst, ◌∙◌}
use mathlib.Core.Bool.{Bool, true, false, not, cond}
use mathlib.Core.List.{List, []}
use native.Mathlib.Omega.{arith}
use lib.ListN.{length, take}
use lib.Ieee.{Float}
use Rattle.arithmetic.specs.Constants.{pz}
use Rattle.refusal.specs.declared.Refusal.{Refusal}
use Rattle.refusal.proofs.Tables.{done_refused, then_done, then_refused}
use Rattle.lent.specs.Lent.{laid, shape_of, Shape}
use Rattle.lent.proofs.Laws.{length_tab, length_grid}
use Rattle.inputs.proofs.Laws.{laid_front}
use Rattle.tree.proofs.Rows.{is_tree_lem, is_order_lem}
use Rattle.linkage.specs.declared.Distance.{Distance}
use Rattle.linkage.specs.declared.Linkage.{Linkage}
use Rattle.clusters.specs.Shares.{weights_in}
use Rattle.parity.specs.Parity as parity
use Rattle.hrp.specs.Inner.{hrp_job}
use Rattle.hrp.specs.Hrp as hrp
use Rattle.hierarchy.specs.Hierarchy as hierarchy
use Rattle.hcaa.specs.Inner.{hcaa_job}
use Rattle.hcaa.specs.Hcaa as hcaa
use Rattle.text.specs.Bytes.{bytes}
use Rattle.reading.specs.Reading.{rows_in, assets, text_cell, cells_in, name_start, starts_in, ceilings_in, read_outcome, block_in, job_in, read_of, cells_laid, starts_laid, ceilings_laid, JobRead}
use Rattle.reading.specs.declared.Block.{Block}
use Rattle.reading.proofs.Accepted.{accepted, job_hrp, job_hcaa, read_hrp, read_hcaa, read_refused, ceilings_length}
use Rattle.job.specs.declared.Allotment.{Allotment}
use Rattle.job.specs.Job.{cells_if, hrp_job_in, metric_in, clusters_in, confidence, hcaa_job_in, room_of_reader, room_of_hrp, room_of_hcaa, allocator_says, job_weights, job_order, job_rows}
use Rattle.job.specs.Inner.{Read, block_read, Held, Placed, AllocatorAnswer, text_says, Allotted}
use Rattle.job.proofs.Built.{built, hrp_says, hrp_weights, hrp_rows_lem, hrp_order_lem, hcaa_says, hcaa_weights, hcaa_rows_lem, hcaa_order_lem}
use Rattle.std.specs.Prelude.{Ok, None, Err}
use Rattle.hcaa.specs.Outcomes.{Clusters}
use Rattle.reading.specs.Outcomes.{Reading}
use Rattle.refusal.specs.Table.{Outcome}
use Rattle.reading.specs.declared.Job.TheVariants as jobs

-- ---- what was read

-- a block whose cells, names and ceilings the reader's buffers hold
pub record Held-by-reader (b : Block) : Type 0 where
  pub cells_few : b.rows * b.assets ≤ 4096
  pub few : b.assets ≤ 64

in_text : (text : List ℕ) → read_outcome text room_of_reader ≡ Ok tt → Held-by-reader (block_in text)
unfolding block_in
in_text text o = let z = accepted text room_of_reader o in record { cells_few = z.cells_few; few = z.few }

module _ (text : List ℕ) where
  sized_as : (said : Reading) → said ≡ read_of text room_of_reader → Held-by-reader (block_read said)
  unfolding block_read
  sized_as (Err r) e = record { cells_few = omega arith; few = omega arith }
  sized_as (Ok (jobs.Hrp b d)) e = let t = read_hrp text room_of_reader b d (sym e) in subst Held-by-reader (sym (job_hrp text b d t.1).block_is) (in_text text t.0)
  sized_as (Ok (jobs.Hcaa b l d)) e = let t = read_hcaa text room_of_reader b l d (sym e) in subst Held-by-reader (sym (job_hcaa text b l d t.1).block_is) (in_text text t.0)

  block_as : (said : Reading) → said ≡ read_of text room_of_reader → read_outcome text room_of_reader ≡ Ok tt → block_read said ≡ block_in text
  unfolding block_read
  block_as (Err r) e o = absurd (done_refused r (sym o ∙ read_refused text room_of_reader r (sym e)))
  block_as (Ok (jobs.Hrp b d)) e o = (job_hrp text b d (read_hrp text room_of_reader b d (sym e)).1).block_is
  block_as (Ok (jobs.Hcaa b l d)) e o = (job_hcaa text b l d (read_hcaa text room_of_reader b l d (sym e)).1).block_is

limited : (b : Bool) (n : ℕ) → cond b n 0 ≤ n
limited true n = omega arith
limited false n = omega arith

module _ (text : List ℕ) (said : Reading) (cells : List Float) (starts ceilings : List ℕ) (read : JobRead text room_of_reader said cells starts ceilings) (b : Block) (e : b ≡ block_read said) where
  pub sized : Held-by-reader b
  sized = rw e (sized_as text said read.answer)

  -- the buffers hold them
  pub cells_fit : length cells ≡ 4096 → b.rows * b.assets ≤ length cells
  cells_fit l = omega (arith, sized.cells_few)

  pub starts_fit : length starts ≡ 64 → b.assets ≤ length starts
  starts_fit l = omega (arith, sized.few)

  pub limits_fit : length ceilings ≡ 64 → (k : ℕ) → k ≡ cond b.ceiled b.assets 0 → k ≤ length ceilings
  limits_fit l k f = omega (arith, limited b.ceiled b.assets, sized.few)

  module _ (o : read_outcome text room_of_reader ≡ Ok tt) where
    block : b ≡ block_in text
    block = e ∙ block_as text said read.answer o

    front_cells : take (b.rows * b.assets) cells ≡ cells_in text
    unfolding cells_laid cells_in block_in
    front_cells =
        laid_front pz (read_outcome text room_of_reader) 4096 (b.rows * b.assets) (cells_in text) cells read.cells_are o
        (length_grid (rows_in text) (assets text) (text_cell text) ∙ ap (λ (x : Block). x.rows * x.assets) (sym block))

    front_places : take b.assets starts ≡ starts_in text
    unfolding starts_laid starts_in block_in
    front_places =
        laid_front 0 (read_outcome text room_of_reader) 64 b.assets (starts_in text) starts read.starts_are o
        (length_tab (assets text) (name_start text) ∙ ap (λ (x : Block). x.assets) (sym block))

    front_limits : (k : ℕ) → k ≡ cond b.ceiled b.assets 0 → take k ceilings ≡ ceilings_in text
    unfolding ceilings_laid block_in
    front_limits k f =
        laid_front 0 (read_outcome text room_of_reader) 64 k (ceilings_in text) ceilings read.ceilings_are o
        (ceilings_length text ∙ ap (λ (x : Block). cond x.ceiled x.assets 0) (sym block) ∙ sym f)

  pub held : Held text said (take (b.rows * b.assets) cells)
  held = record { is = read.answer; cells_are = front_cells }

  pub placed : (k : ℕ) → k ≡ cond b.ceiled b.assets 0 → Placed text (take b.assets starts) (take k ceilings)
  placed k f = record { places = front_places; limits = λ o. front_limits o k f }

-- ---- what goes to an allocator

module _ (text : List ℕ) (said : Reading) (cells : List Float) (h : Held text said cells) where
  pub hrp_begun : (b : Block) (d : Distance) → said ≡ Ok (jobs.Hrp b d) → Read text (Ok (jobs.Hrp b d)) cells
  hrp_begun b d e = let t = read_hrp text room_of_reader b d (sym h.is ∙ e) in record { done = t.0; is = t.1; cells_are = h.cells_are t.0 }

  pub hcaa_begun : (b : Block) (l : Linkage) (d : Distance) → said ≡ Ok (jobs.Hcaa b l d) → Read text (Ok (jobs.Hcaa b l d)) cells
  hcaa_begun b l d e = let t = read_hcaa text room_of_reader b l d (sym h.is ∙ e) in record { done = t.0; is = t.1; cells_are = h.cells_are t.0 }

  pub unread : (r : Refusal) → said ≡ Err r → (found : Allotment) → found.said ≡ Err r → Allotted text found
  unfolding text_says
  unread r e found f = record {
    is = f ∙ sym (then_refused _ _ r (read_refused text room_of_reader r (sym h.is ∙ e)));
    answer = λ d. absurd (done_refused r (sym d ∙ f));
  }

-- ---- what an allocator left, where it was not refused, at the front of buffers of 126 and 64

module _ (text : List ℕ) (o : Outcome) (is : o ≡ allocator_says text (job_in text)) (e : o ≡ Ok tt) where
  answered : (merged order : List ℕ) (weights : List Float) → merged ≡ laid 0 o 126 (job_rows text (job_in text)) → order ≡ laid 0 o 64 (job_order text (job_in text)) → weights ≡ laid pz o 64 (job_weights text (job_in text))
      → AllocatorAnswer text merged order weights
  answered merged order weights a b c =
      let n = assets text in
      let g = built text (sym is ∙ e) in
      record {
        rows_are = laid_front 0 o 126 (2 * (n - 1)) (job_rows text (job_in text)) merged a e (is_tree_lem _ n g.tree).size;
        order_is = laid_front 0 o 64 n (job_order text (job_in text)) order b e (is_order_lem _ n g.each_once).size;
        weights_are = laid_front pz o 64 n (job_weights text (job_in text)) weights c e g.weighed;
      }

-- an accepted text: its outcome is the allocator's
as_said : (text : List ℕ) → read_outcome text room_of_reader ≡ Ok tt → allocator_says text (job_in text) ≡ text_says text
unfolding text_says
as_said text o = sym (then_done (read_outcome text room_of_reader) _ o)

-- ---- HRP's

-- the call that the code makes: what it is handed for the prices and the covariance, each with its shape
abbrev hrp_call : ℕ → List Float → Shape → List Float → Shape → Distance → hrp.HrpJob
hrp_call n ps s cs t d = hrp_job n ps s [] None cs t [] false d

module _ (text : List ℕ) (d : Distance) where
  hrp_in_text : hrp_job_in text d
      ≡ hrp_call (block_in text).assets (cells_if (block_in text).priced (cells_in text)) (shape_of (block_in text).priced (block_in text).rows (block_in text).assets)
      (cells_if (not (block_in text).priced) (cells_in text)) (shape_of (not (block_in text).priced) (block_in text).rows (block_in text).assets) d
  unfolding hrp_job_in block_in
  hrp_in_text = refl

module _ (text : List ℕ) (cells : List Float) (b : Block) (d : Distance) (is_read : Read text (Ok (jobs.Hrp b d)) cells)
    (ps cs : List Float) (s t : Shape) (ps-are : ps ≡ cells_if b.priced cells) (s-is : s ≡ shape_of b.priced b.rows b.assets)
    (cs_are : cs ≡ cells_if (not b.priced) cells) (t-is : t ≡ shape_of (not b.priced) b.rows b.assets) where
  abbrev hrp_made : hrp.HrpJob
  hrp_made = hrp_call b.assets ps s cs t d

  hrp_same : hrp_made ≡ hrp_job_in text d
  hrp_same = rw (ps-are, s-is, cs_are, t-is, is_read.cells_are, (job_hrp text b d is_read.is).block_is) (sym (hrp_in_text text d))

  pub hrp_allotted : (found : Allotment) (correlations distances scratch : List Float)
      → hrp.HrpAllocated hrp_made room_of_hrp found.said found.rows found.order found.weights correlations distances scratch → Allotted text found
  hrp_allotted found correlations distances scratch y =
      let n = b.assets in
      let o = hrp.hrp_outcome hrp_made room_of_hrp in
      let is : o ≡ allocator_says text (job_in text) = ap (λ (i : hrp.HrpJob). hrp.hrp_outcome i room_of_hrp) hrp_same ∙ sym (ap (allocator_says text) is_read.is ∙ hrp_says text d b) in
      record {
        is = y.answer ∙ is ∙ as_said text is_read.done;
        answer = λ h.
            answered text o is (sym y.answer ∙ h) found.rows found.order found.weights
            (y.buffers.rows_are ∙ ap (laid 0 o 126) (ap (λ (i : hrp.HrpJob). parity.hrp_rows d (hrp.hrp_covariance i) n) hrp_same ∙ sym (ap (job_rows text) is_read.is ∙ hrp_rows_lem text d b)))
            (y.buffers.order_is ∙ ap (laid 0 o 64) (ap (λ (i : hrp.HrpJob). parity.hrp_order d (hrp.hrp_covariance i) n) hrp_same ∙ sym (ap (job_order text) is_read.is ∙ hrp_order_lem text d b)))
            (y.buffers.weights_are
            ∙ ap (laid pz o 64) (ap (λ (i : hrp.HrpJob). weights_in (parity.hrp_shares d (hrp.hrp_covariance i) n)) hrp_same ∙ sym (ap (job_weights text) is_read.is ∙ hrp_weights text d b)));
      }

-- ---- HCAA's

abbrev hcaa_call : ℕ → List Float → Shape → List Float → Shape → List ℕ → Clusters → Linkage → Distance → hcaa.HcaaJob
hcaa_call n ps s cs t m k l d = hcaa_job n ps s [] None cs t [] false m (bytes "mean") confidence k [] d l

module _ (text : List ℕ) (l : Linkage) (d : Distance) where
  hcaa_in_text : hcaa_job_in text l d
      ≡ hcaa_call (block_in text).assets (cells_if (block_in text).priced (cells_in text)) (shape_of (block_in text).priced (block_in text).rows (block_in text).assets)
      (cells_if (not (block_in text).priced) (cells_in text)) (shape_of (not (block_in text).priced) (block_in text).rows (block_in text).assets) (metric_in text) (clusters_in text) l d
  unfolding hcaa_job_in block_in
  hcaa_in_text = refl

module _ (text : List ℕ) (cells : List Float) (b : Block) (l : Linkage) (d : Distance) (is_read : Read text (Ok (jobs.Hcaa b l d)) cells)
    (ps cs : List Float) (s t : Shape) (ps-are : ps ≡ cells_if b.priced cells) (s-is : s ≡ shape_of b.priced b.rows b.assets)
    (cs_are : cs ≡ cells_if (not b.priced) cells) (t-is : t ≡ shape_of (not b.priced) b.rows b.assets)
    (m : List ℕ) (k : Clusters) (m-is : m ≡ metric_in text) (k-is : k ≡ clusters_in text) where
  abbrev hcaa_made : hcaa.HcaaJob
  hcaa_made = hcaa_call b.assets ps s cs t m k l d

  hcaa_same : hcaa_made ≡ hcaa_job_in text l d
  hcaa_same = rw (ps-are, s-is, cs_are, t-is, is_read.cells_are, (job_hcaa text b l d is_read.is).block_is, m-is, k-is) (sym (hcaa_in_text text l d))

  pub hcaa_allotted : (found : Allotment) (scratch : List Float)
      → hcaa.HcaaAllocated hcaa_made room_of_hcaa found.said found.rows found.order found.weights scratch → Allotted text found
  hcaa_allotted found scratch y =
      let n = b.assets in
      let o = hcaa.hcaa_outcome hcaa_made room_of_hcaa in
      let is : o ≡ allocator_says text (job_in text) = ap (λ (i : hcaa.HcaaJob). hcaa.hcaa_outcome i room_of_hcaa) hcaa_same ∙ sym (ap (allocator_says text) is_read.is ∙ hcaa_says text l d b) in
      record {
        is = y.answer ∙ is ∙ as_said text is_read.done;
        answer = λ h.
            answered text o is (sym y.answer ∙ h) found.rows found.order found.weights
            (y.buffers.rows_are ∙ ap (laid 0 o 126) (ap (λ (i : hcaa.HcaaJob). hierarchy.hcaa_rows d l (hcaa.hcaa_covariance i) n) hcaa_same ∙ sym (ap (job_rows text) is_read.is ∙ hcaa_rows_lem text l d b)))
            (y.buffers.order_is ∙ ap (laid 0 o 64) (ap (λ (i : hcaa.HcaaJob). hierarchy.hcaa_order d l (hcaa.hcaa_covariance i) n) hcaa_same ∙ sym (ap (job_order text) is_read.is ∙ hcaa_order_lem text l d b)))
            (y.buffers.weights_are
            ∙ ap (laid pz o 64)
            (ap (λ (i : hcaa.HcaaJob). weights_in (hierarchy.hcaa_shares (hcaa.used_rule i) d l (hcaa.hcaa_covariance i) n)) hcaa_same ∙ sym (ap (job_weights text) is_read.is ∙ hcaa_weights text l d b)));
      }
