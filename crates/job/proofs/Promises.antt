-- What a listing and a sheet promise beside their bytes: figures that total 1,000,000, under ceilings where there are any, equal shares, subtotals that add up. Assumes nothing.
use Prim.Native.Nat.{ℕ, ◌+◌, ◌-◌, ◌*◌, ◌<◌}
use mathlib.Core.Path.{◌≡◌, sym, ap, ◌∙◌}
use mathlib.Core.Bool.{Bool, true, false, cond}
use mathlib.Core.List.{List}
use native.Mathlib.Omega.{arith}
use lib.ListN.{length}
use lib.Ieee.{Float}
use Rattle.refusal.specs.Table.{first}
use Rattle.linkage.specs.declared.Distance.{Distance}
use Rattle.linkage.specs.declared.Linkage.{Linkage}
use Rattle.tree.specs.Tree.{left, right}
use Rattle.branches.specs.Inner.{Rooted}
use Rattle.branches.proofs.Sheet.{part_subtotal, total_is}
use Rattle.millionths.specs.Millionths.{millionths_in}
use Rattle.millionths.specs.Meaning.{Serves}
use Rattle.millionths.proofs.AddUp.{adds_up}
use Rattle.ceilings.specs.Figures.{are_unlike, figures_in, figures_lines}
use Rattle.ceilings.specs.Meaning.{Capped}
use Rattle.ceilings.proofs.Weighed.{figures_lines_done, figures_capped, figures_length, figures_total}
use Rattle.reading.specs.Reading.{assets, ceiled, ceilings_in, block_in, job_in}
use Rattle.reading.proofs.Accepted.{ceilings_length, ceilings_like}
use Rattle.metrics.specs.declared.Metric.TheVariants.{EqualWeighting}
use Rattle.equal.specs.Equal.{EqualShares}
use Rattle.hierarchy.specs.Hierarchy as hierarchy
use Rattle.hcaa.specs.Hcaa as hcaa
use Rattle.job.specs.declared.Form.{Form}
use Rattle.job.specs.declared.Form.TheVariants as form
use Rattle.job.specs.Inner.{Told}
use Rattle.job.specs.Job.{clusters_in, hcaa_job_in, allocator_says, job_weights, job_rows, figures_of, job_outcome, printed_of, TextListed, subtotal_at, TextSheeted}
use Rattle.job.proofs.Built.{Built, built, hcaa_says, hcaa_weights, equal_text}
use Rattle.job.proofs.Ends.{allocator_done, figures_done}
use Rattle.std.specs.Prelude.{Ok}
use Rattle.listing.specs.Outcomes.{Listed}
use Rattle.reading.specs.declared.Job.TheVariants as jobs

module _ (text : List ℕ) (f : Form) (room : ℕ) (done : job_outcome text f room ≡ Ok tt) where
  abbrev ws : List Float
  ws = job_weights text (job_in text)

  whole_text : Built text (job_in text)
  whole_text = built text (allocator_done text f room done)

  passed : first (figures_lines ws (ceilings_in text)) ≡ Ok tt
  passed = figures_done text f room done

  shares : Serves ws (millionths_in ws)
  shares = adds_up ws (figures_lines_done ws (ceilings_in text) passed)

  -- ---- ceilings

  one_each : ceiled text ≡ true → length (ceilings_in text) ≡ assets text
  one_each c = ceilings_length text ∙ ap (λ (b : Bool). cond b (assets text) 0) c

  under_them : ceiled text ≡ true → Capped (millionths_in ws) (ceilings_in text) (figures_of text)
  unfolding figures_of
  under_them c = figures_capped ws (ceilings_in text) (one_each c ∙ sym whole_text.weighed) (omega (arith, one_each c, whole_text.some)) passed

  -- ---- equal shares

  equally : (l : Linkage) (d : Distance) → job_in text ≡ Ok (jobs.Hcaa (block_in text) l d) → hcaa.used_metric (hcaa_job_in text l d) ≡ EqualWeighting
      → EqualShares (assets text) (hcaa.cluster_count (clusters_in text) (assets text)) (hierarchy.hcaa_rows d l (hcaa.hcaa_covariance (hcaa_job_in text l d)) (assets text)) ws
  unfolding block_in
  equally l d is equal =
      let o = sym (ap (allocator_says text) is ∙ hcaa_says text l d (block_in text)) ∙ allocator_done text f room done in
      rw (ap (job_weights text) is ∙ hcaa_weights text l d (block_in text)) (equal_text text l d o equal)

  -- ---- subtotals

  rooted : Rooted (job_rows text (job_in text)) (assets text)
  rooted = record { some = whole_text.some; tree = whole_text.tree }

  branch_adds : (k : ℕ) → k < assets text - 1 → subtotal_at text (assets text + k) ≡ subtotal_at text (left (job_rows text (job_in text)) k) + subtotal_at text (right (job_rows text (job_in text)) k)
  unfolding subtotal_at
  branch_adds k h = part_subtotal rooted (figures_of text) k h

  like : are_unlike (ceilings_in text) (length ws) ≡ false
  like = rw whole_text.weighed (ceilings_like text)

  root_whole : subtotal_at text (2 * assets text - 2) ≡ 1000000
  unfolding subtotal_at figures_of
  root_whole = total_is rooted (figures_in ws (ceilings_in text)) (figures_length ws (ceilings_in text) ∙ whole_text.weighed) ∙ figures_total ws (ceilings_in text) like passed

-- ---- the two calls

pub promised : (text : List ℕ) (room : ℕ) (r : Listed) (out : List ℕ) → Told text form.Listing room r out → TextListed text room r out
unfolding printed_of
promised text room r out t = record {
  made = t;
  adds_up = shares text form.Listing room;
  capped = under_them text form.Listing room;
  equal_shares = λ l d done is equal. equally text form.Listing room done l d is equal;
}

pub promised_sheet : (text : List ℕ) (named : Bool) (room : ℕ) (r : Listed) (out : List ℕ) → Told text (form.Sheet named) room r out → TextSheeted text named room r out
unfolding printed_of
promised_sheet text named room r out t = record {
  made = t;
  branches = branch_adds text (form.Sheet named) room;
  whole = root_whole text (form.Sheet named) room;
}
