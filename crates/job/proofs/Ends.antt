-- How the call ends: by what the text, the allocator and the figures say. Assumes nothing.
use Prim.Native.Nat.{ℕ, suc, ◌-◌, ◌*◌, ◌≤◌, ◌<◌}
use mathlib.Core.Path.{◌≡◌, refl, sym, ap, ◌∙◌, subst}
use mathlib.Core.Bool.{Bool, true, false, not, cond}
use mathlib.Core.List.{List, [], ◌∷◌}
use native.Mathlib.Omega.{arith}
use borrow.Author.Tests.{lt-ltb, le-ltb, le-leb, eq-eqb, ne_eqb}
use lib.Dec.{ltb}
use lib.ListN.{length, take, get_or, length-take}
use lib.Ieee.{Float}
use Rattle.refusal.specs.Table.{Line, first, or_else, and_then, Outcome}
use Rattle.refusal.specs.declared.Refusal.{Refusal}
use Rattle.refusal.specs.declared.Refusal.TheVariants.{NoData, DimensionMismatch, OverLimit, ShortBuffer, NoTree, MalformedText}
use Rattle.refusal.proofs.Tables.{table, table_hit, table_pass, table_end, then_done, then_refused, both_done}
use Rattle.lent.specs.Grid.{noughts}
use Rattle.lent.proofs.Laws.{length_tab}
use Rattle.fields.specs.Split.{all}
use Rattle.tree.specs.Rows.{is_tree, is_order}
use Rattle.tree.proofs.Rows.{is_tree_lem, is_order_lem}
use Rattle.ceilings.specs.Figures.{are_unlike, figures_in, figures_lines}
use Rattle.reading.specs.Reading.{assets, name_of, name_start, starts_in, ceilings_in, text_lines, read_table, read_outcome, job_in}
use Rattle.reading.proofs.Answer.{outcome_done}
use Rattle.reading.proofs.Accepted.{Accepted, accepted, name_short, name_at, start_kept, ceilings_like}
use Rattle.listing.specs.Listing.{listing, name_in, is_short, sheet_lines, sheet_outcome, ListingMade}
use Rattle.listing.proofs.Lines.{listing_ext}
use Rattle.listing.proofs.Sheets.{made_refused}
use Rattle.groups.specs.Groups.{least_sheet, group_lines, group_outcome, group_sheet}
use Rattle.groups.proofs.Names.{sheet_ext}
use Rattle.job.specs.declared.Allotment.{Allotment}
use Rattle.job.specs.declared.Form.{Form}
use Rattle.job.specs.declared.Form.TheVariants as form
use Rattle.job.specs.Inner.{BlankListing, Placed, text_says, Allotted, Told}
use Rattle.job.specs.Job.{room_of_reader, allocator_says, job_weights, job_order, job_rows, figures_of, text_table, job_outcome, least_for, listing_of, sheet_of, printed_of}
use Rattle.job.proofs.Built.{built}
use Rattle.std.specs.Prelude.{Ok, Err}
use Rattle.listing.specs.Outcomes.{Listed}

-- ---- the definitions, one step at a time

-- stages, whichever two go together
then_then : (a b c : Outcome) → and_then a (and_then b c) ≡ and_then (and_then a b) c
unfolding and_then
then_then (Ok _) b c = refl
then_then (Err r) b c = refl

-- 13, 18 and 20
abbrev figured : List ℕ → Outcome
figured text = first (figures_lines (job_weights text (job_in text)) (ceilings_in text))

module _ (text : List ℕ) (f : Form) (room : ℕ) where
  abbrev lines : List Line
  lines = (ltb 65536 (length text), OverLimit) ∷ (ltb room (least_for f), ShortBuffer) ∷ text_lines text

  job_is : job_outcome text f room ≡ and_then (first lines) (and_then (allocator_says text (job_in text)) (figured text))
  unfolding job_outcome text_table
  job_is = refl

read_is : (text : List ℕ) → read_outcome text room_of_reader ≡ first ((ltb 65536 (length text), OverLimit) ∷ text_lines text)
unfolding read_outcome read_table
read_is text =
    table (ltb 65536 (length text)) OverLimit _
    ∙ ap (or_else (ltb 65536 (length text)) OverLimit)
    (table_pass (ltb 4096 4096) ShortBuffer _ refl ∙ table_pass (ltb 64 64) ShortBuffer _ refl ∙ table_pass (ltb 64 64) ShortBuffer _ refl)
    ∙ sym (table (ltb 65536 (length text)) OverLimit _)

-- ---- a buffer that holds everything of a form

module _ (text : List ℕ) (f : Form) (room : ℕ) (h : least_for f ≤ room) where
  table_said : first (lines text f room) ≡ read_outcome text room_of_reader
  table_said =
      table (ltb 65536 (length text)) OverLimit ((ltb room (least_for f), ShortBuffer) ∷ text_lines text)
      ∙ ap (or_else (ltb 65536 (length text)) OverLimit) (table_pass (ltb room (least_for f)) ShortBuffer (text_lines text) (le-ltb room (least_for f) h))
      ∙ sym (table (ltb 65536 (length text)) OverLimit (text_lines text))
      ∙ sym (read_is text)

  -- what the reader and the allocator say, then 13, 18 and 20
  job_told : job_outcome text f room ≡ and_then (text_says text) (figured text)
  unfolding text_says
  job_told =
      job_is text f room
      ∙ ap (λ (o : Outcome). and_then o (and_then (allocator_says text (job_in text)) (figured text))) table_said
      ∙ then_then (read_outcome text room_of_reader) (allocator_says text (job_in text)) (figured text)

told_refused : (text : List ℕ) (f : Form) (room : ℕ) (k : Refusal) (out : List ℕ) → job_outcome text f room ≡ Err k → out ≡ noughts room → Told text f room (Err k) out
told_refused text f room k out e z = made_refused (job_outcome text f room) (printed_of text f) room out k e z

-- a room by another name
pub told_room : (text : List ℕ) (f : Form) (m room : ℕ) (r : Listed) (out : List ℕ) → m ≡ room → Told text f m r out → Told text f room r out
told_room text f m room r out e t = subst (λ (k : ℕ). Told text f k r out) e t

pub cleared : (f : Form) (room : ℕ) (out : List ℕ) → out ≡ noughts room → length out ≡ room → least_for f ≤ length out → BlankListing f out
cleared f room out e k h = record { room = h; zero = e ∙ ap noughts (sym k) }

-- ---- a buffer that does not

module _ (text : List ℕ) (f : Form) (room : ℕ) (h : room < least_for f) where
  table_short : first (lines text f room) ≡ Err (cond (ltb 65536 (length text)) OverLimit ShortBuffer)
  unfolding or_else
  table_short =
      table (ltb 65536 (length text)) OverLimit ((ltb room (least_for f), ShortBuffer) ∷ text_lines text)
      ∙ ap (or_else (ltb 65536 (length text)) OverLimit) (table_hit (ltb room (least_for f)) ShortBuffer (text_lines text) (lt-ltb room (least_for f) h))
      ∙ go (ltb 65536 (length text))
    where
      go : (b : Bool) → or_else b OverLimit (Err ShortBuffer) ≡ Err (cond b OverLimit ShortBuffer)
      go true = refl
      go false = refl

  pub told_short : (k : Refusal) (out : List ℕ) → out ≡ noughts room → k ≡ cond (ltb 65536 (length text)) OverLimit ShortBuffer → Told text f room (Err k) out
  told_short k out z e = told_refused text f room k out (job_is text f room ∙ then_refused (first (lines text f room)) _ k (table_short ∙ ap Err (sym e))) z

-- a text that is printed has an allocator that accepts it
pub allocator_done : (text : List ℕ) (f : Form) (room : ℕ) → job_outcome text f room ≡ Ok tt → allocator_says text (job_in text) ≡ Ok tt
allocator_done text f room e = (both_done _ _ (both_done (first (lines text f room)) _ (sym (job_is text f room) ∙ e)).1).0

-- and figures that 13, 18 and 20 let pass
pub figures_done : (text : List ℕ) (f : Form) (room : ℕ) → job_outcome text f room ≡ Ok tt → first (figures_lines (job_weights text (job_in text)) (ceilings_in text)) ≡ Ok tt
figures_done text f room e = (both_done _ _ (both_done (first (lines text f room)) _ (sym (job_is text f room) ∙ e)).1).1

-- every entry passes
every : {A : Type 0} (f : A → Bool) (l : List A) (d : A) → ((i : ℕ) → i < length l → f (get_or l i d) ≡ true) → all f l ≡ true
unfolding all
every f [] d h = refl
every f (a ∷ l) d h = rw (h 0 (omega arith)) (every f l d (λ i g. h (suc i) (omega arith)))

-- a list has what was taken of it
taken : {A : Type 0} (n : ℕ) (l : List A) → length (take n l) ≡ n → n ≤ length l
taken n l e = let z = length-take n l in omega arith

-- ---- a job that was read: its names

module _ (text starts : List ℕ) (done : read_outcome text room_of_reader ≡ Ok tt) (places : starts ≡ starts_in text) where
  good : Accepted text
  good = accepted text room_of_reader done

  counted : length starts ≡ assets text
  unfolding starts_in
  counted = ap length places ∙ length_tab (assets text) (name_start text)

  few : length starts ≤ 64
  few = omega (arith, counted, good.few)

  name_is : (i : ℕ) → i < assets text → name_in text starts i ≡ name_of text i
  unfolding name_in
  name_is i h = rw (places, start_kept text i good.job h) (name_at text i good.job h)

  short_names : all (is_short text) starts ≡ true
  unfolding is_short name_in
  short_names = every (is_short text) starts 0 (λ i h.
      let g : i < assets text = omega (arith, counted) in
      le-leb (length (name_in text starts i)) 16 (omega (arith, ap length (name_is i g), (name_short text i good.job g).1)))

-- ---- how it ends, by what was said and what the allocator left

module _ (text : List ℕ) (found : Allotment) (q : Allotted text found) where
  said_told : (f : Form) (room : ℕ) → least_for f ≤ room → job_outcome text f room ≡ and_then found.said (figured text)
  said_told f room h = job_told text f room h ∙ ap (λ (s : Outcome). and_then s (figured text)) (sym q.is)

  pub ends_refused : (f : Form) (out : List ℕ) → BlankListing f out → (k : Refusal) → found.said ≡ Err k → Told text f (length out) (Err k) out
  ends_refused f out blank k e = told_refused text f (length out) k out (said_told f (length out) blank.room ∙ then_refused found.said _ k e) blank.zero

  module _ (starts ceilings : List ℕ) (p : Placed text starts ceilings) (e : found.said ≡ Ok tt) where
    both : (read_outcome text room_of_reader ≡ Ok tt) × (allocator_says text (job_in text) ≡ Ok tt)
    unfolding text_says
    both = both_done _ _ (sym q.is ∙ e)

    abbrev places : starts ≡ starts_in text
    places = p.places both.0

    count : length starts ≡ assets text
    count = counted text starts both.0 places

    pub few_starts : length starts ≤ 64
    few_starts = few text starts both.0 places

    abbrev ws : List Float
    ws = take (length starts) found.weights

    ws_are : ws ≡ job_weights text (job_in text)
    ws_are = ap (λ (k : ℕ). take k found.weights) count ∙ (q.answer e).weights_are

    pub ws_size : length ws ≡ length starts
    ws_size = ap length ws_are ∙ (built text both.1).weighed ∙ sym count

    pub ws_fit : length starts ≤ length found.weights
    ws_fit = taken (length starts) found.weights ws_size

    cs_are : ceilings ≡ ceilings_in text
    cs_are = p.limits both.0

    cs_like : are_unlike ceilings (length starts) ≡ false
    cs_like = rw (cs_are, count) (ceilings_like text)

    -- the 13, 18 and 20 of the two printers are the job's
    weighed : (f : Form) (room : ℕ) → least_for f ≤ room → first (figures_lines ws ceilings) ≡ job_outcome text f room
    weighed f room h =
        ap (λ (x : List Float). first (figures_lines x ceilings)) ws_are
        ∙ ap (λ (x : List ℕ). first (figures_lines (job_weights text (job_in text)) x)) cs_are
        ∙ sym (said_told f room h ∙ then_done found.said _ e)

    -- ---- a listing

    abbrev os : List ℕ
    os = take (length starts) found.order

    os_are : os ≡ job_order text (job_in text)
    os_are = ap (λ (k : ℕ). take k found.order) count ∙ (q.answer e).order_is

    os_each : is_order os (length starts) ≡ true
    os_each = rw (os_are, count) (built text both.1).each_once

    pub os_size : length os ≡ length starts
    os_size = (is_order_lem os (length starts) os_each).size

    pub os_fit : length starts ≤ length found.order
    os_fit = taken (length starts) found.order os_size

    module _ (room : ℕ) (h : least_for form.Listing ≤ room) where
      passed : first (sheet_lines text starts (length ws) ceilings os room) ≡ Ok tt
      unfolding sheet_lines least_for
      passed =
          table_pass _ OverLimit _ (le-ltb 65536 (length text) (outcome_done text room_of_reader both.0).0.short)
          ∙ table_pass _ OverLimit _ (le-ltb 64 (length starts) few_starts)
          ∙ table_pass _ ShortBuffer _ (le-ltb room 8192 h)
          ∙ table_pass _ DimensionMismatch _ (ap not (eq-eqb (length ws) (length starts) ws_size))
          ∙ table_pass _ DimensionMismatch _ cs_like
          ∙ table_pass _ NoTree _ (ap not os_each)
          ∙ table_pass _ MalformedText _ (ap not (short_names text starts both.0 places))
          ∙ table_end

      listing_said : sheet_outcome text starts ws ceilings os room ≡ job_outcome text form.Listing room
      unfolding sheet_outcome
      listing_said = then_done _ _ passed ∙ weighed form.Listing room h

      listing_is : listing (name_in text starts) ws ceilings os ≡ printed_of text form.Listing
      unfolding printed_of listing_of
      listing_is =
          let o = is_order_lem os (length starts) os_each in
          listing_ext (name_in text starts) (name_of text) ws ceilings os (λ i g. name_is text starts both.0 places i (omega (arith, count, ws_size)))
          (λ k g. omega (arith, o.low k (omega (arith, o.size)), ws_size))
          ∙ rw (ws_are, cs_are, os_are)

      told_listed : (r : Listed) (out : List ℕ) → ListingMade (sheet_outcome text starts ws ceilings os room) (listing (name_in text starts) ws ceilings os) room r out → Told text form.Listing room r out
      told_listed r out y =
          subst (λ (s : List ℕ). ListingMade (job_outcome text form.Listing room) s room r out) listing_is
          (subst (λ (o : Outcome). ListingMade o (listing (name_in text starts) ws ceilings os) room r out) listing_said y)

    pub ends_listed : (f : Form) → f ≡ form.Listing → (room : ℕ) → least_for f ≤ room → (r : Listed) (out : List ℕ)
        → ListingMade (sheet_outcome text starts ws ceilings os room) (listing (name_in text starts) ws ceilings os) room r out → Told text f room r out
    ends_listed f g room h r out y = subst (λ (x : Form). Told text x room r out) (sym g) (told_listed room (subst (λ (x : Form). least_for x ≤ room) g h) r out y)

    -- ---- a sheet

    abbrev rs : List ℕ
    rs = take (2 * (length starts - 1)) found.rows

    rs_are : rs ≡ job_rows text (job_in text)
    rs_are = ap (λ (k : ℕ). take (2 * (k - 1)) found.rows) count ∙ (q.answer e).rows_are

    rs_tree : is_tree rs (length starts) ≡ true
    rs_tree = rw (rs_are, count) (built text both.1).tree

    pub rs_size : length rs ≡ 2 * (length starts - 1)
    rs_size = (is_tree_lem rs (length starts) rs_tree).size

    pub rs_fit : 2 * (length starts - 1) ≤ length found.rows
    rs_fit = taken (2 * (length starts - 1)) found.rows rs_size

    pub some : 0 < length starts
    some = omega (arith, count, (built text both.1).some)

    module _ (named : Bool) (room : ℕ) (h : least_for (form.Sheet named) ≤ room) where
      grouped : first (group_lines text starts (length ws) ceilings rs named room) ≡ Ok tt
      unfolding group_lines least_for
      grouped =
          table_pass _ OverLimit _ (le-ltb 65536 (length text) (outcome_done text room_of_reader both.0).0.short)
          ∙ table_pass _ OverLimit _ (le-ltb 64 (length starts) few_starts)
          ∙ table_pass _ ShortBuffer _ (le-ltb room (least_sheet named) h)
          ∙ table_pass _ DimensionMismatch _ (ap not (eq-eqb (length ws) (length starts) ws_size))
          ∙ table_pass _ DimensionMismatch _ cs_like
          ∙ table_pass _ NoData _ (ne_eqb (length starts) 0 (λ z. omega (arith, some)))
          ∙ table_pass _ NoTree _ (ap not rs_tree)
          ∙ table_pass _ MalformedText _ (ap not (short_names text starts both.0 places))
          ∙ table_end

      sheet_said : group_outcome text starts ws ceilings rs named room ≡ job_outcome text (form.Sheet named) room
      unfolding group_outcome
      sheet_said = then_done _ _ grouped ∙ weighed (form.Sheet named) room h

      sheet_is : group_sheet named (name_in text starts) rs (figures_in ws ceilings) (length starts) ≡ printed_of text (form.Sheet named)
      unfolding printed_of sheet_of figures_of
      sheet_is =
          sheet_ext (name_in text starts) (name_of text) (length starts) (λ i g. name_is text starts both.0 places i (omega (arith, count))) named rs (figures_in ws ceilings)
          ∙ rw (ws_are, cs_are, rs_are, count)

      told_sheeted : (r : Listed) (out : List ℕ)
          → ListingMade (group_outcome text starts ws ceilings rs named room) (group_sheet named (name_in text starts) rs (figures_in ws ceilings) (length starts)) room r out
          → Told text (form.Sheet named) room r out
      told_sheeted r out y =
          subst (λ (s : List ℕ). ListingMade (job_outcome text (form.Sheet named) room) s room r out) sheet_is
          (subst (λ (o : Outcome). ListingMade o (group_sheet named (name_in text starts) rs (figures_in ws ceilings) (length starts)) room r out) sheet_said y)

    pub ends_sheeted : (f : Form) (named : Bool) → f ≡ form.Sheet named → (room : ℕ) → least_for f ≤ room → (r : Listed) (out : List ℕ)
        → ListingMade (group_outcome text starts ws ceilings rs named room) (group_sheet named (name_in text starts) rs (figures_in ws ceilings) (length starts)) room r out → Told text f room r out
    ends_sheeted f named g room h r out y = subst (λ (x : Form). Told text x room r out) (sym g) (told_sheeted named room (subst (λ (x : Form). least_for x ≤ room) g h) r out y)
