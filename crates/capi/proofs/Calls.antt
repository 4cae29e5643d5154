-- How each call ends: what is refused before the call behind is made, and what that call says. Assumes nothing.
use Prim.Native.Nat.{ℕ, zero, suc, ◌-◌, ◌*◌, ◌<◌, ◌≤◌}
use mathlib.Core.Path.{◌≡◌, refl, sym, ap, ◌∙◌}
use mathlib.Core.Bool.{Bool, true, false}
use mathlib.Core.List.{List, [], ◌∷◌}
use native.Mathlib.Omega.{arith}
use borrow.Author.Tests.{ltb-false, lt-ltb, le-ltb}
use lib.Dec.{ltb}
use lib.ListN.{length, set, take, length-replicate}
use lib.Ieee.{Float}
use Rattle.arithmetic.specs.Constants.{pz}
use Rattle.refusal.specs.Table.{Line, first, and_then, Outcome}
use Rattle.refusal.specs.Telling.{Telling}
use Rattle.refusal.specs.declared.Refusal.{Refusal}
use Rattle.refusal.specs.declared.Refusal.TheVariants.{OverLimit, ShortBuffer}
use Rattle.refusal.proofs.Tables.{done_refused, none, table_hit, table_pass, then_done, then_refused, both_done}
use Rattle.lent.specs.Grid.{noughts, over}
use Rattle.lent.specs.Lent.{is_set, answer_of, told_of, laid, Answer, Shape, size}
use Rattle.lent.proofs.Laws.{over_push}
use Rattle.lent.proofs.Sizes.{laid_done, laid_refused, told_as}
use Rattle.inputs.specs.Inputs.{matrix_lines}
use Rattle.inputs.proofs.Laws.{answer_refused}
use Rattle.tree.specs.Order.{order_outcome, order_answer, order_laid}
use Rattle.linkage.specs.Names.{distance_named, linkage_named}
use Rattle.linkage.specs.Children.{children_outcome, children_answer, children_rows}
use Rattle.linkage.specs.declared.Linkage.{Linkage}
use Rattle.linkage.proofs.Judged.{children_made, children_refuses}
use Rattle.parity.specs.Parity.{ParityRoom, parity_room_lines, ParityCleared}
use Rattle.hrp.specs.Hrp.{HrpJob, hrp_outcome, HrpAllocated}
use Rattle.hrp.specs.Inner.{hrp_job}
use Rattle.hrp.proofs.Judged.{cleared}
use Rattle.linkage.specs.declared.Distance.{Distance}
use Rattle.hierarchy.specs.Hierarchy as hierarchy
use Rattle.hcaa.specs.Inner.{hcaa_job}
use Rattle.hcaa.specs.Hcaa as hcaa
use Rattle.metrics.specs.declared.Metric.TheVariants.{EqualWeighting}
use Rattle.equal.specs.Equal.{EqualShares}
use Rattle.listing.specs.Listing.{refusal_line, listed_as, bytes_in, listed_tells, ListingMade, refusal_outcome}
use Rattle.job.specs.Job.{text_table, job_outcome, listing_of, sheet_of, TextListed, TextSheeted}
use Rattle.job.specs.declared.Form.{Form}
use Rattle.job.specs.declared.Form.TheVariants as form
use Rattle.foreign.specs.Foreign.{distance_says, linkage_says, distance_meant, linkage_meant, asked_lines, asked_laid, count_lines, merge_sizes, leaf_sizes, byte_lines}
use Rattle.foreign.proofs.Stages.{then_assoc, number_in, told_number}
use Rattle.foreign.proofs.Judges.{blank_length, number_done}
use Rattle.capi.specs.Capi.{named_hrp_outcome, HrpAnswer, named_hcaa_outcome, HcaaAnswer, merge_outcome, MergeAnswer, leaf_outcome, LeafAnswer, listing_outcome, ListingAnswer, sheeted_outcome, SheetAnswer, line_outcome, LineAnswer}
use Rattle.lent.specs.declared.Size.{Size}
use Rattle.std.specs.Prelude.{Ok, Err}
use Rattle.hcaa.specs.Outcomes.{Clusters}
use Rattle.linkage.specs.Outcomes.{Joined, merged}
use Rattle.listing.specs.Outcomes.{Listed}

-- ---- hierarchical risk parity: the shapes are read from the flags, and the distance from its name

module _ (n : ℕ) (p : List Float) (ps ps' : Shape) (ep : ps ≡ ps') (xs : List Float) (rs rs' : Shape) (er : rs ≡ rs') (c : List Float) (cs cs' : Shape) (ec : cs ≡ cs') (by : List ℕ) (shrink : Bool) (name : List ℕ) (room : ParityRoom) (said : Outcome)
    (e : said ≡ and_then (first (matrix_lines n ps (length p) rs (length xs) cs (length c))) (and_then (first (parity_room_lines n room)) (distance_says (distance_named name)))) where
  abbrev call : HrpJob
  call = hrp_job n p ps' xs rs' c cs' by shrink (distance_meant (distance_named name))

  hrp_stages : named_hrp_outcome call name room ≡ and_then said (hrp_outcome call room)
  unfolding named_hrp_outcome
  hrp_stages = rw (e, ep, er, ec) (simp then_assoc)

  module _ (r : ℕ) (rows order : List ℕ) (weights correlations distances scratch : List Float) where
    pub hrp_refused : (k : Refusal) → said ≡ Err k → r ≡ number_in said → ParityCleared room rows order weights correlations distances scratch
        → HrpAnswer call name room r rows order weights correlations distances scratch
    hrp_refused k h a z =
        let o : named_hrp_outcome call name room ≡ Err k = hrp_stages ∙ then_refused said _ k h in
        record { answer = a ∙ ap number_in (h ∙ sym o); buffers = cleared _ k _ _ n room rows order weights correlations distances scratch o z }

    pub hrp_done : said ≡ Ok tt → (o : Outcome) → r ≡ number_in o → HrpAllocated (hrp_job n p ps xs rs c cs by shrink (distance_meant (distance_named name))) room o rows order weights correlations distances scratch
        → HrpAnswer call name room r rows order weights correlations distances scratch
    hrp_done h o a z =
        let s : named_hrp_outcome call name room ≡ hrp_outcome call room = hrp_stages ∙ then_done said _ h in
        let y : HrpAllocated call room o rows order weights correlations distances scratch = rw (ep, er, ec) at z in
        record { answer = a ∙ ap number_in (y.answer ∙ sym s); buffers = rw s y.buffers }

-- ---- hierarchical clustering-based asset allocation: the shapes are read from the flags, the number of clusters too, and the linkage and the distance from their names

-- buffers that are cleared are what a refusal leaves
hcaa_cleared : (o : Outcome) (k : Refusal) (q : hierarchy.Rule) (d : Distance) (l : Linkage) (cov : List Float) (n : ℕ) (room : hierarchy.Room) (rows order : List ℕ) (weights scratch : List Float)
    → o ≡ Err k → hierarchy.Cleared room rows order weights scratch → hierarchy.HierarchyLaid o q d l cov n room rows order weights scratch
hcaa_cleared o k q d l cov n room rows order weights scratch e z =
    record {
      rows_are = z.rows_are ∙ laid_refused 0 o k _ _ e;
      order_is = z.order_is ∙ laid_refused 0 o k _ _ e;
      weights_are = z.weights_are ∙ laid_refused pz o k _ _ e;
      scratch_is = z.scratch_is;
    }

-- demand 3, by the number
equal_for : (j : hcaa.HcaaJob) (o : Outcome) (r : ℕ) (rows : List ℕ) (weights : List Float) → r ≡ number_in o → hcaa.Equally j o rows weights → r ≡ 0 → hcaa.used_metric j ≡ EqualWeighting
    → EqualShares j.assets (hcaa.cluster_count j.clusters j.assets) (take (2 * (j.assets - 1)) rows) (take j.assets weights)
equal_for j o r rows weights a q e m = q.shares (number_done o (sym a ∙ e)) m

module _ (n : ℕ) (p : List Float) (ps ps' : Shape) (ep : ps ≡ ps') (xs : List Float) (rs rs' : Shape) (er : rs ≡ rs') (c : List Float) (cs cs' : Shape) (ec : cs ≡ cs') (e : List Float) (given : Bool) (metric method : List ℕ) (conf : Float)
    (k : Clusters) (by link name : List ℕ) (room : hierarchy.Room) (count : ℕ) (said : Outcome)
    (f : said ≡ and_then (first (matrix_lines n ps (length p) rs (length xs) cs (length c))) (and_then (first (hierarchy.room_lines n room)) (and_then (first (asked_lines count)) (and_then (linkage_says (linkage_named link)) (distance_says (distance_named name)))))) where
  abbrev split : hcaa.HcaaJob
  split = hcaa_job n p ps' xs rs' c cs' e given metric method conf k by (distance_meant (distance_named name)) (linkage_meant (linkage_named link))

  hcaa_stages : named_hcaa_outcome split link name room count ≡ and_then said (hcaa.hcaa_outcome split room)
  unfolding named_hcaa_outcome
  hcaa_stages = rw (f, ep, er, ec) (simp then_assoc)

  module _ (r : ℕ) (rows order : List ℕ) (weights scratch : List Float) (asked : List ℕ) where
    pub hcaa_refused : (q : Refusal) → said ≡ Err q → r ≡ number_in said → asked ≡ asked_laid said count → hierarchy.Cleared room rows order weights scratch
        → HcaaAnswer split link name room count r rows order weights scratch asked
    hcaa_refused q h a t z =
        let o : named_hcaa_outcome split link name room count ≡ Err q = hcaa_stages ∙ then_refused said _ q h in
        record {
          answer = a ∙ ap number_in (h ∙ sym o);
          buffers = hcaa_cleared _ q _ _ _ _ n room rows order weights scratch o z;
          asked_is = t ∙ ap (λ x. asked_laid x count) (h ∙ sym o);
          equal_shares = equal_for split _ r rows weights (a ∙ ap number_in (h ∙ sym o)) (record { shares = λ d m. absurd (done_refused q (sym d ∙ o)) });
        }

    pub hcaa_done : said ≡ Ok tt → (k' : Clusters) → k' ≡ k → (d : Distance) → d ≡ distance_meant (distance_named name) → (l : Linkage) → l ≡ linkage_meant (linkage_named link)
        → (o : Outcome) → r ≡ number_in o → asked ≡ asked_laid o count → hcaa.HcaaAllocated (hcaa_job n p ps xs rs c cs e given metric method conf k' by d l) room o rows order weights scratch
        → HcaaAnswer split link name room count r rows order weights scratch asked
    hcaa_done h k' ek d ed l el o a t z =
        let s : named_hcaa_outcome split link name room count ≡ hcaa.hcaa_outcome split room = hcaa_stages ∙ then_done said _ h in
        let y : hcaa.HcaaAllocated split room o rows order weights scratch = rw (ep, er, ec, ek, ed, el) at z in
        let v : o ≡ named_hcaa_outcome split link name room count = y.answer ∙ sym s in
        record {
          answer = a ∙ ap number_in v;
          buffers = rw s y.buffers;
          asked_is = t ∙ ap (λ x. asked_laid x count) v;
          equal_shares = equal_for split o r rows weights a y.equally;
        }

-- ---- the merge step, and the number of pairs: its buffer is cleared to blank before the call behind

module _ (xs : List Float) (rows w : ℕ) (name : List ℕ) (room count : ℕ) (said : Outcome) (blank : List ℕ)
    (e : said ≡ and_then (first (merge_sizes (length xs) rows w room)) (and_then (first (count_lines count)) (linkage_says (linkage_named name)))) (z : blank ≡ noughts count) where
  merge_stages : merge_outcome xs rows w name room count ≡ and_then said (children_outcome xs rows w room)
  unfolding merge_outcome
  merge_stages = rw e (simp then_assoc)

  pub merge_refused : (k : Refusal) → said ≡ Err k → (r : ℕ) → r ≡ number_in said → (out : List ℕ) → out ≡ noughts room → MergeAnswer xs rows w name room count r out blank
  merge_refused k h r a out y =
      let o : merge_outcome xs rows w name room count ≡ Err k = merge_stages ∙ then_refused said _ k h in
      record { answer = a ∙ ap number_in (h ∙ sym o); rows_are = y ∙ laid_refused 0 _ k _ _ o; pairs_are = z ∙ laid_refused 0 _ k _ _ o }

  -- there is room for the one number
  pub merge_place : said ≡ Ok tt → 0 < length blank
  unfolding count_lines
  merge_place h =
      let c : first (count_lines count) ≡ (Ok tt) = (both_done _ _ (both_done _ _ (sym e ∙ h)).1).0 in
      let l : 1 ≤ count = ltb-false count 1 (none (count_lines count) c).0 in
      omega (arith, ap length z, length-replicate {A = ℕ} count 0)

  module _ (h : said ≡ Ok tt) (l : Linkage) (el : l ≡ linkage_meant (linkage_named name)) (a : Joined) (ea : a ≡ children_answer l xs rows w room) (out : List ℕ) (eo : out ≡ children_rows l xs rows w room) where
    merge_rest : merge_outcome xs rows w name room count ≡ children_outcome xs rows w room
    merge_rest = merge_stages ∙ then_done said _ h

    pub merge_told : (k : Refusal) → a ≡ Err k → (r : ℕ) → r ≡ number_in (Err k) → MergeAnswer xs rows w name room count r out blank
    unfolding children_rows
    merge_told k g r q =
        let s : merge_outcome xs rows w name room count ≡ Err k = merge_rest ∙ children_refuses l xs rows w room k (sym ea ∙ g) in
        record {
          answer = q ∙ ap number_in (sym s);
          rows_are = rw (merge_rest, ← el) eo;
          pairs_are = z ∙ laid_refused 0 _ k _ _ s;
        }

    pub merge_made : (k m : ℕ) → a ≡ Ok (merged k m) → MergeAnswer xs rows w name room count 0 out (set blank 0 m)
    unfolding children_rows over
    merge_made k m g =
        let b = children_made l xs rows w room k m (sym ea ∙ g) in
        let s : merge_outcome xs rows w name room count ≡ (Ok tt) = merge_rest ∙ b.0 in
        let y : set blank 0 m ≡ over (m ∷ []) blank = over_push [] blank 0 m refl (merge_place h) in
        record {
          answer = sym (ap number_in s);
          rows_are = rw (merge_rest, ← el) eo;
          pairs_are = y ∙ rw (z, ← el, ← b.1) (laid_done 0 _ count (m ∷ []) s);
        }

-- ---- the leaf order, and the number of leaves: its buffer is cleared to blank before the call behind

answer_columns : (o : Outcome) (rows w k m : ℕ) → answer_of o rows w ≡ Ok (size k m) → (o ≡ Ok tt) × (m ≡ w)
unfolding answer_of
answer_columns (Ok _) rows w k m e =
    let z : ◌≡◌ {A = Size} (size k m) (size rows w) = cc in
    (refl, ap (λ (x : Size). x.columns) z)
answer_columns (Err r) rows w k m e = absurd (let z : ◌≡◌ {A = ℕ} 0 1 = cc in omega arith)

-- there is room for the one number
pub leaf_place : (n room count : ℕ) (said : Outcome) (blank : List ℕ) → said ≡ first (leaf_sizes n room count) → blank ≡ noughts count → said ≡ Ok tt → 0 < length blank
unfolding leaf_sizes
leaf_place n room count said blank e z h =
    let l : 1 ≤ count = ltb-false count 1 (none (leaf_sizes n room count) (sym e ∙ h)).1.1.0 in
    omega (arith, ap length z, length-replicate {A = ℕ} count 0)

module _ (rows : List ℕ) (n v room count : ℕ) (said : Outcome) (blank : List ℕ) (e : said ≡ first (leaf_sizes n room count)) (z : blank ≡ noughts count) where
  pub leaf_refused : (k : Refusal) → said ≡ Err k → (r : ℕ) → r ≡ number_in said → (order : List ℕ) → order ≡ noughts room → LeafAnswer rows n v room count r order blank
  unfolding leaf_outcome
  leaf_refused k h r a order y =
      let o : leaf_outcome rows n v room count ≡ Err k = then_refused (first (leaf_sizes n room count)) _ k (sym e ∙ h) in
      record { answer = a ∙ ap number_in (h ∙ sym o); order_is = y ∙ laid_refused 0 _ k _ _ o; leaves_are = z ∙ laid_refused 0 _ k _ _ o }

  module _ (h : said ≡ Ok tt) where
    leaf_rest : leaf_outcome rows n v room count ≡ order_outcome rows n v room
    unfolding leaf_outcome
    leaf_rest = then_done (first (leaf_sizes n room count)) _ (sym e ∙ h)

    module _ (a : Answer) (ea : a ≡ order_answer rows n v room) (order : List ℕ) (eo : order ≡ order_laid rows n v room) where
      pub leaf_told : (k : Refusal) → a ≡ Err k → (o : Outcome) → o ≡ told_of a → (r : ℕ) → r ≡ number_in o → LeafAnswer rows n v room count r order blank
      unfolding order_answer order_laid
      leaf_told k g o t r q =
          let s : leaf_outcome rows n v room count ≡ Err k = leaf_rest ∙ answer_refused _ _ _ k (sym ea ∙ g) in
          record {
            answer = q ∙ ap number_in (t ∙ ap told_of ea ∙ told_as _ _ _ ∙ sym leaf_rest);
            order_is = rw leaf_rest eo;
            leaves_are = z ∙ laid_refused 0 _ k _ _ s;
          }

      pub leaf_made : (k m : ℕ) → a ≡ Ok (size k m) → LeafAnswer rows n v room count 0 order (set blank 0 m)
      unfolding order_answer order_laid over
      leaf_made k m g =
          let b = answer_columns _ _ _ k m (sym ea ∙ g) in
          let s : leaf_outcome rows n v room count ≡ (Ok tt) = leaf_rest ∙ b.0 in
          let w : set blank 0 m ≡ over (m ∷ []) blank = over_push [] blank 0 m refl (leaf_place n room count said blank e z h) in
          record {
            answer = sym (ap number_in s);
            order_is = rw leaf_rest eo;
            leaves_are = w ∙ rw (z, ← b.1) (laid_done 0 _ count (m ∷ []) s);
          }

-- ---- a job text to its listing or its sheet, and a refusal's line: the place for the number of bytes is cleared to blank before

nothing_put : (count : ℕ) → 1 ≤ count → set (noughts count) 0 0 ≡ noughts count
nothing_put zero h = absurd (omega arith)
nothing_put (suc m) h = refl

module _ (o : Outcome) (s : List ℕ) (room count : ℕ) (blank : List ℕ) (z : blank ≡ noughts count) (l : Listed) (out : List ℕ) (y : ListingMade o s room l out) where
  bytes_put : 1 ≤ count → (k : ℕ) → k ≡ bytes_in l → set blank 0 k ≡ laid 0 o count (length s ∷ [])
  unfolding over listed_as
  bytes_put h k e = ap (λ (n : ℕ). set blank 0 n) (e ∙ ap bytes_in y.answer) ∙ go o
    where
      place : 0 < length blank
      place = omega (arith, blank_length count blank z)

      go : (x : Outcome) → set blank 0 (bytes_in (listed_as x (length s))) ≡ laid 0 x count (length s ∷ [])
      go (Ok _) = over_push [] blank 0 (length s) refl place ∙ ap (over (length s ∷ [])) z ∙ laid_done 0 (Ok tt) count (length s ∷ []) refl
      go (Err r) = ap (λ (x : List ℕ). set x 0 0) z ∙ nothing_put count h ∙ laid_refused 0 (Err r) r count (length s ∷ []) refl

  number_told : (r : ℕ) → r ≡ (listed_tells l).number → r ≡ number_in o
  number_told r e = e ∙ ap (λ (t : Telling ℕ). t.number) y.told ∙ told_number o (length s)

-- a last line that is true decides; one that is false leaves what is judged once more
last_line : (t : Bool) (q k : Refusal) (o : Outcome) → first ((t, q) ∷ (true, k) ∷ []) ≡ and_then (first ((t, q) ∷ (true, k) ∷ [])) o
unfolding first and_then
last_line true q k o = refl
last_line false q k o = refl

no_line : (t : Bool) (q k : Refusal) (l : List Line) (o : Outcome) → and_then (first ((t, q) ∷ (false, k) ∷ [])) (and_then (first ((t, q) ∷ l)) o) ≡ and_then (first ((t, q) ∷ l)) o
unfolding first and_then
no_line true q k l o = refl
no_line false q k l o = refl

-- what is printed of a text, and how many bytes of it there are
record Printed (o : Outcome) (s : List ℕ) (room count r : ℕ) (out bytes : List ℕ) : Type 0 where
  answer : r ≡ number_in o
  out_is : out ≡ laid 0 o room s
  bytes_are : bytes ≡ laid 0 o count (length s ∷ [])

module _ (text : List ℕ) (f : Form) (room count : ℕ) where
  abbrev said_of : Outcome
  said_of = and_then (first (byte_lines (length text) count)) (job_outcome text f room)

  placed : 1 ≤ count → said_of ≡ job_outcome text f room
  unfolding byte_lines job_outcome text_table
  placed h = rw (le-ltb count 1 h) (no_line _ _ _ _ _)

  none_placed : ltb count 1 ≡ true → first (byte_lines (length text) count) ≡ said_of
  unfolding byte_lines
  none_placed t = rw t (last_line _ _ _ _)

  refused_by_lem : ltb count 1 ≡ true → (k : Refusal) × (first (byte_lines (length text) count) ≡ Err k)
  unfolding byte_lines first
  refused_by_lem t = rw t (go (ltb 65536 (length text)))
    where
      go : (b : Bool) → (k : Refusal) × (first ((b, OverLimit) ∷ (true, ShortBuffer) ∷ []) ≡ Err k)
      go true = (OverLimit, refl)
      go false = (ShortBuffer, refl)

  module _ (s blank : List ℕ) (z : blank ≡ noughts count) where
    print_none : length blank < 1 → (said : Outcome) → said ≡ first (byte_lines (length text) (length blank)) → (r : ℕ) → r ≡ number_in said → (out : List ℕ) → out ≡ noughts room
        → Printed said_of s room count r out blank
    print_none h said e r a out y =
        let n = blank_length count blank z in
        let t : ltb count 1 ≡ true = lt-ltb count 1 (omega (arith, h, n)) in
        let f : first (byte_lines (length text) (length blank)) ≡ said_of = ap (λ (k : ℕ). first (byte_lines (length text) k)) n ∙ none_placed t in
        let k = refused_by_lem t in
        let o : said_of ≡ Err k.0 = sym f ∙ ap (λ (m : ℕ). first (byte_lines (length text) m)) n ∙ k.1 in
        record { answer = a ∙ ap number_in (e ∙ f); out_is = y ∙ laid_refused 0 _ k.0 _ _ o; bytes_are = z ∙ laid_refused 0 _ k.0 _ _ o }

    print_made : 1 ≤ length blank → (l : Listed) (out : List ℕ) → ListingMade (job_outcome text f room) s room l out → (k : ℕ) → k ≡ bytes_in l → (r : ℕ) → r ≡ (listed_tells l).number
        → Printed said_of s room count r out (set blank 0 k)
    print_made h l out m k ek r a =
        let long : 1 ≤ count = omega (arith, h, blank_length count blank z) in
        let o = placed long in
        record {
          answer = number_told _ _ room count blank z l out m r a ∙ ap number_in (sym o);
          out_is = m.bytes_are ∙ ap (λ (x : Outcome). laid 0 x room s) (sym o);
          bytes_are = bytes_put _ _ room count blank z l out m long k ek ∙ ap (λ (x : Outcome). laid 0 x count (length s ∷ [])) (sym o);
        }

listing_as : (text : List ℕ) (room count r : ℕ) (listing bytes : List ℕ) → Printed (said_of text form.Listing room count) (listing_of text) room count r listing bytes → ListingAnswer text room count r listing bytes
unfolding listing_outcome
listing_as text room count r listing bytes p = record { answer = p.answer; listing_is = p.out_is; bytes_are = p.bytes_are }

module _ (text : List ℕ) (room count : ℕ) (blank : List ℕ) (z : blank ≡ noughts count) where
  pub listing_none : length blank < 1 → (said : Outcome) → said ≡ first (byte_lines (length text) (length blank)) → (r : ℕ) → r ≡ number_in said → (listing : List ℕ) → listing ≡ noughts room
      → ListingAnswer text room count r listing blank
  listing_none h said e r a listing y = listing_as text room count r listing blank (print_none text form.Listing room count (listing_of text) blank z h said e r a listing y)

  pub listing_made : 1 ≤ length blank → (l : Listed) (listing : List ℕ) → TextListed text room l listing → (k : ℕ) → k ≡ bytes_in l → (r : ℕ) → r ≡ (listed_tells l).number
      → ListingAnswer text room count r listing (set blank 0 k)
  listing_made h l listing y k ek r a = listing_as text room count r listing (set blank 0 k) (print_made text form.Listing room count (listing_of text) blank z h l listing y.made k ek r a)

sheet_as : (text : List ℕ) (named room count r : ℕ) (sheet bytes : List ℕ) → Printed (said_of text (form.Sheet (is_set named)) room count) (sheet_of text (is_set named)) room count r sheet bytes
    → SheetAnswer text named room count r sheet bytes
unfolding sheeted_outcome
sheet_as text named room count r sheet bytes p = record { answer = p.answer; sheet_is = p.out_is; bytes_are = p.bytes_are }

module _ (text : List ℕ) (named room count : ℕ) (blank : List ℕ) (z : blank ≡ noughts count) where
  pub sheet_none : length blank < 1 → (said : Outcome) → said ≡ first (byte_lines (length text) (length blank)) → (r : ℕ) → r ≡ number_in said → (sheet : List ℕ) → sheet ≡ noughts room
      → SheetAnswer text named room count r sheet blank
  sheet_none h said e r a sheet y = sheet_as text named room count r sheet blank (print_none text (form.Sheet (is_set named)) room count (sheet_of text (is_set named)) blank z h said e r a sheet y)

  pub sheet_made : 1 ≤ length blank → (l : Listed) (sheet : List ℕ) → TextSheeted text (is_set named) room l sheet → (k : ℕ) → k ≡ bytes_in l → (r : ℕ) → r ≡ (listed_tells l).number
      → SheetAnswer text named room count r sheet (set blank 0 k)
  sheet_made h l sheet y k ek r a =
      sheet_as text named room count r sheet (set blank 0 k) (print_made text (form.Sheet (is_set named)) room count (sheet_of text (is_set named)) blank z h l sheet y.made k ek r a)

module _ (number room count : ℕ) (blank : List ℕ) (z : blank ≡ noughts count) where
  pub line_none : length blank < 1 → (r : ℕ) → r ≡ 11 → (line : List ℕ) → line ≡ noughts room → LineAnswer number room count r line blank
  unfolding line_outcome count_lines
  line_none h r a line y =
      let t : ltb count 1 ≡ true = lt-ltb count 1 (omega (arith, h, blank_length count blank z)) in
      let o : line_outcome number room count ≡ Err ShortBuffer = then_refused _ _ ShortBuffer (table_hit _ ShortBuffer [] t) in
      record { answer = a ∙ ap number_in (sym o); line_is = y ∙ laid_refused 0 _ ShortBuffer _ _ o; bytes_are = z ∙ laid_refused 0 _ ShortBuffer _ _ o }

  pub line_made : 1 ≤ length blank → (l : Listed) (line : List ℕ) → ListingMade (refusal_outcome number room) (refusal_line number) room l line → (k : ℕ) → k ≡ bytes_in l → (r : ℕ) → r ≡ (listed_tells l).number
      → LineAnswer number room count r line (set blank 0 k)
  unfolding line_outcome count_lines first
  line_made h l line m k ek r a =
      let long : 1 ≤ count = omega (arith, h, blank_length count blank z) in
      let o : line_outcome number room count ≡ refusal_outcome number room = then_done _ _ (table_pass _ ShortBuffer [] (le-ltb count 1 long)) in
      record {
        answer = number_told _ _ room count blank z l line m r a ∙ ap number_in (sym o);
        line_is = m.bytes_are ∙ ap (λ (x : Outcome). laid 0 x room (refusal_line number)) (sym o);
        bytes_are = bytes_put _ _ room count blank z l line m long k ek ∙ ap (λ (x : Outcome). laid 0 x count (length (refusal_line number) ∷ [])) (sym o);
      }
