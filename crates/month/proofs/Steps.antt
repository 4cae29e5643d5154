-- What the code does with a line is what the definition says: the answer, and the table where the report goes on. Assumes nothing.
use Prim.Native.Nat.{ℕ, ◌+◌, ◌-◌, ◌*◌, ◌≤◌}
use mathlib.Core.Path.{◌≡◌, refl, sym, ap, subst, ◌∙◌}
use mathlib.Core.Bool.{false, ◌||◌}
use mathlib.Core.List.{List, ◌++◌}
use mathlib.Core.Logic.{⊎_elim}
use native.Mathlib.Omega.{arith}
use borrow.Author.Tests.{ltb-false, lt-ltb, le-ltb, eq-eqb, ne_eqb, leb-true, leb-false}
use lib.Dec.{ltb, leb}
use lib.ListN.{length, take, drop, take-append-drop}
use lib.Seq.{length-take-le, take_at}
use Rattle.refusal.specs.Table.{first, Outcome}
use Rattle.refusal.specs.declared.Refusal.{Refusal}
use Rattle.refusal.specs.declared.Refusal.TheVariants.{MalformedText}
use Rattle.refusal.proofs.Tables.{none, first_done, first_refused}
use Rattle.lent.specs.Grid.{noughts, over}
use Rattle.lent.specs.Lent.{laid}
use Rattle.lent.proofs.Laws.{either}
use Rattle.lent.proofs.Sums.{no_or}
use Rattle.fields.specs.Split.{tabulator, piece}
use Rattle.keys.specs.Keys.{key_of}
use Rattle.keys.specs.declared.Key.{Key}
use Rattle.ledger.specs.Ledger.{entered, positions, first_ones, table_of, most_added, entered_lines, table_lines, enter_outcome, entered_as, cleared_past, LotEntered}
use Rattle.ledger.specs.declared.Position.{Position}
use Rattle.ledger.specs.declared.Lot.{Lot}
use Rattle.ledger.proofs.Storing.{length_positions}
use Rattle.ledger.proofs.Tables.{table_over, table_length}
use Rattle.ledger.proofs.Outcomes.{judged_done, past_laid, past_none}
use Rattle.slips.specs.Slips.{slip_of}
use Rattle.slips.specs.declared.Slip.{Slip}
use Rattle.slips.specs.declared.Slip.TheVariants as slip
use Rattle.slips.proofs.Meaning.{held_small}
use Rattle.month.specs.Month.{Books, most_jobs, job_number, lot_in, after_held, after_order, after_refused, after_slip, over_counted, slip_lines, Report, at, refused_by, go_on, book_line, line_taken}
use Rattle.month.specs.Calls.{at_line, names_held, books_of, standing, tally_of, progress_of, table_left, TookLine}
use Rattle.month.specs.Inner.{limit_lines, book_slip, Stepped, Fits, SmallSlip}
use Rattle.month.specs.declared.Tally.{Tally}
use Rattle.month.proofs.Totals.{OfBooks, job_le}
use Rattle.month.proofs.Standing.{Fitting, table_passes, standing_fits, line_fits, stands_after}
use Rattle.std.specs.Prelude.{Ok, Err, Result}
use Rattle.month.specs.declared.Fault.{Fault}
use Rattle.ledger.specs.Outcomes.{Entered}
use Rattle.month.specs.Outcomes.{Progress, fault}

-- ---- a refusal with its line

module _ {A : Type 0} where
  pub ok_at_line : (o : Result A Refusal) (k : ℕ) (s : Result A Fault) (x : A) → s ≡ at_line o k → s ≡ Ok x → o ≡ Ok x
  ok_at_line (Ok y) k s x is e = cc
  ok_at_line (Err r) k s x is e = absurd (let z : ◌≡◌ {A = ℕ} 0 1 = cc in omega arith)

  pub err_at_line : (o : Result A Refusal) (k : ℕ) (s : Result A Fault) (f : Fault) → s ≡ at_line o k → s ≡ Err f → (o ≡ Err f.refusal) × (f ≡ fault f.refusal k)
  err_at_line (Ok y) k s f is e = absurd (let z : ◌≡◌ {A = ℕ} 0 1 = cc in omega arith)
  err_at_line (Err r) k s f is e = let q : fault r k ≡ f = cc in (ap (λ (g : Fault). Err g.refusal) q, sym q ∙ ap (λ (g : Fault). fault g.refusal k) q)

-- ---- the counts

pub counts_fit : (y : Tally) (t : List ℕ) → over_counted (books_of y t) ≡ false
    → (y.accepted ≤ most_added) × (y.lines ≤ most_added) × (y.sum ≤ most_added) × (y.line ≤ most_added)
unfolding over_counted books_of
counts_fit y t e =
    let a = no_or (ltb most_added y.accepted) (ltb most_added y.lines || (ltb most_added y.sum || ltb most_added y.line)) e in
    let b = no_or (ltb most_added y.lines) (ltb most_added y.sum || ltb most_added y.line) a.1 in
    let d = no_or (ltb most_added y.sum) (ltb most_added y.line) b.1 in (
      ltb-false most_added y.accepted a.0,
      ltb-false most_added y.lines b.0,
      ltb-false most_added y.sum d.0,
      ltb-false most_added y.line d.1,
    )

-- one more job is a job too many
pub one_more : (j : ℕ) → leb 200 j ≡ ltb 200 (j + 1)
one_more j =
    ⊎_elim
    (λ e. let h = leb-true 200 j e in e ∙ sym (lt-ltb 200 (j + 1) (omega arith)))
    (λ e. let h = leb-false 200 j e in e ∙ sym (le-ltb 200 (j + 1) (omega arith)))
    (either (leb 200 j))

pub job_next : (y : Tally) (t : List ℕ) → y.lines ≡ 0 → y.jobs + 1 ≡ job_number (books_of y t)
unfolding job_number books_of
job_next y t e = rw (eq-eqb y.lines 0 e)

pub job_open : (y : Tally) (t : List ℕ) → (y.lines ≡ 0 → ⊥) → y.jobs ≡ job_number (books_of y t)
unfolding job_number books_of
job_open y t n = rw (ne_eqb y.lines 0 n)

-- as many positions as the counts say
pub names_are : (y : Tally) (t : List ℕ) → y.names ≤ 256 → length (books_of y t).positions ≡ y.names
unfolding books_of first_ones
names_are y t h = length-take-le y.names (positions t) (omega (arith, length_positions t))

-- ---- the table

-- its first positions are at its front
pub table_kept : (n : ℕ) (t : List ℕ) → length t ≡ 1792 → n ≤ 256 → t ≡ over (table_of (first_ones n t)) t
unfolding first_ones over
table_kept n t long h =
    let w : length (take n (positions t)) ≡ n = length-take-le n (positions t) (omega (arith, length_positions t)) in
    table_over t t (take n (positions t)) long long (sym (ap (λ (k : ℕ). take n (positions t) ++ drop k (positions t)) w ∙ take-append-drop n (positions t)))

pub table_front : (n : ℕ) (t : List ℕ) → length t ≡ 1792 → n ≤ 256 → take (length (first_ones n t) * 7) t ≡ table_of (first_ones n t)
unfolding over
table_front n t long h =
    let l = first_ones n t in
    ap (take (length l * 7)) (table_kept n t long h) ∙ take_at (table_of l) (drop (length (table_of l)) t) (length l * 7) (table_length l)

-- ---- a line that was read

slip_refused : (s : Books) (w : List ℕ) (k : Slip) (r : Refusal) → first (slip_lines s w k) ≡ Err r → book_slip s w k ≡ refused_by r s.line
unfolding book_slip
slip_refused s w k r e = rw e

slip_on : (s : Books) (w : List ℕ) (k : Slip) → first (slip_lines s w k) ≡ Ok tt → book_slip s w k ≡ at (after_slip s w k)
unfolding book_slip
slip_on s w k e = rw e

abbrev report_number : Report → ℕ
report_number (at s) = 0
report_number (refused_by r k) = 1

pub at_refused : {A : Type 0} (s : Books) (r : Refusal) (k : ℕ) → refused_by r k ≡ at s → A
at_refused s r k e = absurd (let z : ◌≡◌ {A = ℕ} 1 0 = ap report_number e in omega arith)

same_books : (s s' : Books) → at s ≡ at s' → s ≡ s'
same_books s s' e = cc

-- ---- a step

pub stepped_refused : (R : Report) (t t' : List ℕ) (r : Refusal) (k : ℕ) → R ≡ refused_by r k → length t' ≡ length t → Stepped R t (Err (fault r k)) t'
unfolding progress_of
stepped_refused R t t' r k e same = record { answer = rw e; table_is = λ s q. at_refused s r k (sym e ∙ q); same = same }

stepped_on : (R : Report) (t t' : List ℕ) (s : Books) (v : Tally) → R ≡ at s → v ≡ tally_of s → take (length s.positions * 7) t' ≡ table_of s.positions → length t' ≡ length t → Stepped R t (Ok v) t'
unfolding progress_of
stepped_on R t t' s v e f g same =
    record {
      answer = rw e (ap Ok f);
      table_is = λ s' q. subst (λ (z : Books). take (length z.positions * 7) t' ≡ table_of z.positions) (same_books s s' (sym e ∙ q)) g;
      same = same;
    }

-- ---- a holding

module _ (t : List ℕ) (y : Tally) (w : List ℕ) (m : ℕ) (o : Outcome) (said : (u : List ℕ) → o ≡ first (limit_lines (books_of y u))) where
  pub held_refused : (r : Refusal) → o ≡ Err r → Stepped (book_slip (books_of y t) w (slip.Held m)) t (Err (fault r y.line)) t
  unfolding slip_lines limit_lines books_of
  held_refused r e =
      let s = books_of y t in
      stepped_refused (book_slip s w (slip.Held m)) t t r y.line
      (slip_refused s w (slip.Held m) r (first_refused (limit_lines s) (entered_lines s.positions (lot_in s w m)) r (sym (said t) ∙ e)))
      refl

  pub held_few : o ≡ Ok tt → y.jobs ≤ 200
  unfolding limit_lines books_of
  held_few e =
      let f = ltb-false most_jobs (job_number (books_of y t)) (none (limit_lines (books_of y t)) (sym (said t) ∙ e)).0 in
      let g : y.jobs ≤ job_number (books_of y t) = job_le (books_of y t) in
      omega arith

  pub held_counts : o ≡ Ok tt → (y.accepted ≤ most_added) × (y.lines ≤ most_added) × (y.sum ≤ most_added) × (y.line ≤ most_added)
  unfolding limit_lines
  held_counts e = counts_fit y t (none (limit_lines (books_of y t)) (sym (said t) ∙ e)).1.0

-- the answer says which outcome it was
abbrev answer_number : Entered → ℕ
answer_number (Ok n) = 0
answer_number (Err r) = 1

refused_outcome : (o : Outcome) (l : List Position) (x : Refusal) → Err x ≡ entered_as o l → o ≡ Err x
unfolding entered_as
refused_outcome (Ok _) l x e = absurd (let z : ◌≡◌ {A = ℕ} 1 0 = ap answer_number e in omega arith)
refused_outcome (Err r) l x e = cc

done_outcome : (o : Outcome) (l : List Position) (n : ℕ) → Ok n ≡ entered_as o l → (o ≡ Ok tt) × (n ≡ length l)
unfolding entered_as
done_outcome (Ok _) l n e = (refl, cc)
done_outcome (Err r) l n e = absurd (let z : ◌≡◌ {A = ℕ} 0 1 = ap answer_number e in omega arith)

module _ (t : List ℕ) (y : Tally) (w : List ℕ) (m : ℕ) (fits : Fits t y) (o : Outcome) (said : (u : List ℕ) → o ≡ first (limit_lines (books_of y u))) (done : o ≡ Ok tt)
    (job : ℕ) (is_job_lem : (u : List ℕ) → job ≡ job_number (books_of y u)) (key : Key) (is_key : key ≡ key_of w)
    (a : Entered) (t' : List ℕ) (told : LotEntered t y.names (record { name = key; millionths = m; job = job }) a t') (same : length t' ≡ length t) where
  same_lot : record { name = key; millionths = m; job = job } ≡ lot_in (books_of y t) w m
  unfolding lot_in
  same_lot = let e = is_job_lem t in rw (is_key, e)

  -- the ledger's outcome is that of the lines that are left
  same_outcome : enter_outcome t y.names (lot_in (books_of y t) w m) ≡ first (slip_lines (books_of y t) w (slip.Held m))
  unfolding enter_outcome slip_lines limit_lines books_of
  same_outcome =
      let s = books_of y t in
      first_done (table_lines (length t) y.names) (entered_lines s.positions (lot_in s w m)) (table_passes (length t) y.names fits.long fits.few)
      ∙ sym (first_done (limit_lines s) (entered_lines s.positions (lot_in s w m)) (sym (said t) ∙ done))

  told_here : LotEntered t y.names (lot_in (books_of y t) w m) a t'
  told_here = subst (λ (h : Lot). LotEntered t y.names h a t') same_lot told

  pub enter_refused : (r : Refusal) → a ≡ Err r → Stepped (book_slip (books_of y t) w (slip.Held m)) t (Err (fault r y.line)) t'
  unfolding books_of
  enter_refused r e =
      let s = books_of y t in
      let h = lot_in s w m in
      stepped_refused (book_slip s w (slip.Held m)) t t' r y.line
      (slip_refused s w (slip.Held m) r (sym same_outcome ∙ refused_outcome (enter_outcome t y.names h) (entered (first_ones y.names t) h) r (sym e ∙ told_here.answer)))
      same

  pub enter_on : (n : ℕ) → a ≡ Ok n
      → Stepped (book_slip (books_of y t) w (slip.Held m)) t (Ok (record { names = n; jobs = job; accepted = y.accepted; lines = y.lines + 1; sum = y.sum + m; line = y.line + 1 })) t'
  unfolding books_of tally_of after_slip after_held laid
  enter_on n e =
      let s = books_of y t in
      let h = lot_in s w m in
      let q = done_outcome (enter_outcome t y.names h) (entered (first_ones y.names t) h) n (sym e ∙ told_here.answer) in
      let i : n ≡ length (entered s.positions h) = q.1 in
      let j : job ≡ job_number s = is_job_lem t in
      stepped_on (book_slip s w (slip.Held m)) t t' (after_slip s w (slip.Held m)) (record { names = n; jobs = job; accepted = y.accepted; lines = y.lines + 1; sum = y.sum + m; line = y.line + 1 })
      (slip_on s w (slip.Held m) (sym same_outcome ∙ q.0))
      (λ k. record { names = i k; jobs = j k; accepted = y.accepted; lines = y.lines + 1; sum = y.sum + m; line = y.line + 1 })
      (let l = entered (first_ones y.names t) h in ap (take (length l * 7)) (told_here.table_is ∙ ap (λ (z : Outcome). laid 0 z (length t) (table_of l)) q.0) ∙ take_at (table_of l) (noughts (length t - length (table_of l))) (length l * 7) (table_length l))
      same

-- ---- a line that leaves the table as it was

module _ (y : Tally) (k : Slip) (o : Outcome) (said : (t w : List ℕ) → o ≡ first (slip_lines (books_of y t) w k)) where
  pub told_refused : (r : Refusal) → o ≡ Err r → (t w : List ℕ) → Err (fault r y.line) ≡ progress_of (book_slip (books_of y t) w k)
  unfolding progress_of books_of
  told_refused r e t w = sym (ap progress_of (slip_refused (books_of y t) w k r (sym (said t w) ∙ e)))

  told_on : o ≡ Ok tt → (t w : List ℕ) (v : Tally) → v ≡ tally_of (after_slip (books_of y t) w k) → Ok v ≡ progress_of (book_slip (books_of y t) w k)
  unfolding progress_of
  told_on e t w v f = ap Ok f ∙ sym (ap progress_of (slip_on (books_of y t) w k (sym (said t w) ∙ e)))

module _ (y : Tally) (k : ℕ) (few : y.names ≤ 256) (o : Outcome) (said : (t w : List ℕ) → o ≡ first (slip_lines (books_of y t) w (slip.Order k))) (done : o ≡ Ok tt) where
  pub order_counts : (t : List ℕ) → (y.accepted ≤ most_added) × (y.lines ≤ most_added) × (y.sum ≤ most_added) × (y.line ≤ most_added)
  unfolding slip_lines
  order_counts t = counts_fit y t (none (slip_lines (books_of y t) t (slip.Order k)) (sym (said t t) ∙ done)).1.1.0

  pub order_on : (t w : List ℕ)
      → Ok (record { names = y.names; jobs = y.jobs; accepted = y.accepted + 1; lines = 0; sum = 0; line = y.line + 1 }) ≡ progress_of (book_slip (books_of y t) w (slip.Order k))
  unfolding after_slip after_order tally_of books_of
  order_on t w =
      let i : y.names ≡ length (first_ones y.names t) = sym (names_are y t few) in
      told_on y (slip.Order k) o said done t w (record { names = y.names; jobs = y.jobs; accepted = y.accepted + 1; lines = 0; sum = 0; line = y.line + 1 })
      (λ j. record { names = i j; jobs = y.jobs; accepted = y.accepted + 1; lines = 0; sum = 0; line = y.line + 1 })

module _ (y : Tally) (few : y.names ≤ 256) (o : Outcome) (said : (t w : List ℕ) → o ≡ first (slip_lines (books_of y t) w slip.Refused)) (done : o ≡ Ok tt) where
  pub refused_counts : (t : List ℕ) → (y.accepted ≤ most_added) × (y.lines ≤ most_added) × (y.sum ≤ most_added) × (y.line ≤ most_added)
  unfolding slip_lines
  refused_counts t = counts_fit y t (none (slip_lines (books_of y t) t slip.Refused) (sym (said t t) ∙ done)).1.1.0

  pub refused_few : (t : List ℕ) → y.jobs + 1 ≤ 200
  unfolding slip_lines books_of
  refused_few t = ltb-false 200 (y.jobs + 1) (none (slip_lines (books_of y t) t slip.Refused) (sym (said t t) ∙ done)).1.0

  pub refused_on : (t w : List ℕ)
      → Ok (record { names = y.names; jobs = y.jobs + 1; accepted = y.accepted; lines = y.lines; sum = y.sum; line = y.line + 1 }) ≡ progress_of (book_slip (books_of y t) w slip.Refused)
  unfolding after_slip after_refused tally_of books_of
  refused_on t w =
      let i : y.names ≡ length (first_ones y.names t) = sym (names_are y t few) in
      told_on y slip.Refused o said done t w (record { names = y.names; jobs = y.jobs + 1; accepted = y.accepted; lines = y.lines; sum = y.sum; line = y.line + 1 })
      (λ j. record { names = i j; jobs = y.jobs + 1; accepted = y.accepted; lines = y.lines; sum = y.sum; line = y.line + 1 })

-- ---- a line by its form

pub go_on_at : (o : Outcome) (k : ℕ) (s s' : Books) → go_on o k s ≡ at s' → (o ≡ Ok tt) × (s ≡ s')
go_on_at (Ok _) k s s' e = (refl, same_books s s' e)
go_on_at (Err r) k s s' e = at_refused s' r k e

module _ (t : List ℕ) (y : Tally) (w : List ℕ) (k : Slip) where
  pub slip_other : k ≡ slip.Other → Stepped (book_slip (books_of y t) w k) t (Err (fault MalformedText y.line)) t
  unfolding slip_lines first books_of
  slip_other e = stepped_refused (book_slip (books_of y t) w k) t t MalformedText y.line (slip_refused (books_of y t) w k MalformedText (rw e)) refl

  pub slip_held : (m : ℕ) → k ≡ slip.Held m → SmallSlip k → m ≤ 1000000
  slip_held m e h = subst SmallSlip e h

  pub slip_as : (j : Slip) (r : Progress) (t' : List ℕ) → k ≡ j → Stepped (book_slip (books_of y t) w j) t r t' → Stepped (book_slip (books_of y t) w k) t r t'
  slip_as j r t' e h = rw e h

  slip_same : (r : Progress) → Fits t y → (after_slip (books_of y t) w k).positions ≡ (books_of y t).positions → r ≡ progress_of (book_slip (books_of y t) w k)
      → Stepped (book_slip (books_of y t) w k) t r t
  unfolding book_slip books_of
  slip_same r f e g =
      let s = books_of y t in
      record {
        answer = g;
        table_is =
            λ s' q.
            subst (λ (l : List Position). take (length l * 7) t ≡ table_of l) (sym e ∙ ap (λ (z : Books). z.positions) (go_on_at (first (slip_lines s w k)) s.line (after_slip s w k) s' q).1)
            (table_front y.names t f.long f.few);
        same = refl;
      }

pub slip_order : (t : List ℕ) (y : Tally) (w : List ℕ) (k : Slip) (n : ℕ) (r : Progress) → k ≡ slip.Order n → Fits t y
    → ((t w : List ℕ) → r ≡ progress_of (book_slip (books_of y t) w (slip.Order n))) → Stepped (book_slip (books_of y t) w k) t r t
unfolding after_slip after_order
slip_order t y w k n r e f g = slip_as t y w k (slip.Order n) r t e (slip_same t y w (slip.Order n) r f refl (g t w))

pub slip_broken : (t : List ℕ) (y : Tally) (w : List ℕ) (k : Slip) (r : Progress) → k ≡ slip.Refused → Fits t y
    → ((t w : List ℕ) → r ≡ progress_of (book_slip (books_of y t) w slip.Refused)) → Stepped (book_slip (books_of y t) w k) t r t
unfolding after_slip after_refused
slip_broken t y w k r e f g = slip_as t y w k slip.Refused r t e (slip_same t y w slip.Refused r f refl (g t w))

pub slip_small : (l : List ℕ) (k : Slip) → k ≡ slip_of l → SmallSlip k
slip_small l slip.Other e = tt
slip_small l (slip.Held m) e = held_small l m (sym e)
slip_small l (slip.Order n) e = tt
slip_small l slip.Refused e = tt

-- ---- the next line

pub next_refused : (t l : List ℕ) (p : Progress) (r : Refusal) (k : ℕ) → p ≡ Err (fault r k) → Stepped (line_taken (standing p t) l) t p t
unfolding standing
next_refused t l p r k e = rw e (stepped_refused (refused_by r k) t t r k refl refl)

module _ (t l : List ℕ) (p : Progress) (y : Tally) (is : p ≡ Ok y) (o : Outcome) (said : o ≡ first (table_lines (length t) y.names)) where
  pub next_misfit : (r : Refusal) → o ≡ Err r → Stepped (line_taken (standing p t) l) t (Err (fault r y.line)) t
  unfolding standing
  next_misfit r e = let q = sym said ∙ e in rw is (rw q (stepped_refused (refused_by r y.line) t t r y.line refl refl))

  pub next_fits : o ≡ Ok tt → Fits t y
  next_fits e = let f = judged_done (length t) y.names (sym said ∙ e) in record { long = f.0; few = f.1 }

  pub next_on : o ≡ Ok tt → (w : List ℕ) (k : Slip) (r : Progress) (t' : List ℕ) → w ≡ piece tabulator l 0 → k ≡ slip_of l → Stepped (book_slip (books_of y t) w k) t r t'
      → Stepped (line_taken (standing p t) l) t r t'
  unfolding standing book_line book_slip
  next_on e w k r t' f g h =
      let q = sym said ∙ e in
      let h' = subst (λ (z : Slip). Stepped (book_slip (books_of y t) (piece tabulator l 0) z) t r t') g (subst (λ (v : List ℕ). Stepped (book_slip (books_of y t) v k) t r t') f h) in
      rw is (rw q h')

-- ---- a line taken

took : (t l : List ℕ) (p r : Progress) (u : List ℕ) → r ≡ progress_of (line_taken (standing p t) l) → u ≡ table_left (line_taken (standing p t) l) t → TookLine t p l r u
took t l p r u e f =
    let R = line_taken (standing p t) l in
    record { answer = e; table_is = f; stands = ap (λ (z : Progress). standing z u) e ∙ ap (standing (progress_of R)) f ∙ stands_after p t l }

-- what stands past the names is cleared
left_past : (R : Report) (t t' u : List ℕ) (k : ℕ) → OfBooks (Fitting (length t)) R → ((s : Books) → R ≡ at s → take (length s.positions * 7) t' ≡ table_of s.positions) → length t' ≡ length t
    → k ≡ names_held (progress_of R) → u ≡ cleared_past k t' → u ≡ table_left R t
unfolding progress_of tally_of table_left
left_past (at s) t t' u k f h e g c =
    past_laid s.positions t' u f.1 (h s refl) (c ∙ ap (λ (z : ℕ). cleared_past z t') g) ∙ ap (λ (z : ℕ). laid 0 (Ok tt) z (table_of s.positions)) e
left_past (refused_by x j) t t' u k f h e g c = past_none t' u (c ∙ ap (λ (z : ℕ). cleared_past z t') g) ∙ ap noughts e

pub took_line : (t l : List ℕ) (p r : Progress) (t' u : List ℕ) (k : ℕ) → Stepped (line_taken (standing p t) l) t r t' → k ≡ names_held r → u ≡ cleared_past k t' → TookLine t p l r u
took_line t l p r t' u k h e c =
    let R = line_taken (standing p t) l in
    took t l p r u h.answer (left_past R t t' u k (line_fits (length t) (standing p t) l (standing_fits p t)) h.table_is h.same (e ∙ ap names_held h.answer) c)
