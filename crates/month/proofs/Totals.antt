-- "The totals over all names equal 1,000,000 times the accepted jobs", in every report; and no report of up to 10^12 lines meets a number that is
-- past what can be added. Assumes nothing.
use Prim.Native.Nat.{ℕ, suc, ◌+◌, ◌*◌, ◌<◌, ◌≤◌}
use mathlib.Core.Path.{◌≡◌, refl, sym, ap, subst, ◌∙◌}
use mathlib.Core.Bool.{false}
use mathlib.Core.List.{List, [], ◌∷◌}
use mathlib.Core.Logic.{⊎_elim}
use native.Mathlib.Nat.{add-zero, zero-add}
use native.Mathlib.Omega.{arith}
use borrow.Author.Tests.{ltb-false, le-ltb, eqb-true, eqb-false, not-false, not-true}
use lib.Dec.{eqb}
use lib.ListN.{length}
use Rattle.refusal.specs.Table.{first, Outcome}
use Rattle.refusal.proofs.Tables.{none}
use Rattle.lent.proofs.Laws.{either}
use Rattle.fields.specs.Split.{newline, tabulator, piece, last_piece}
use Rattle.ledger.specs.Ledger.{entered, most_added, most_names, too_much, entered_lines}
use Rattle.ledger.specs.Meaning.{InOrder, Dated, totals}
use Rattle.ledger.proofs.Laws.{entered_in_order, entered_totals, entered_dated, dated_more, not_too_much}
use Rattle.slips.specs.Slips.{slip_of}
use Rattle.slips.specs.declared.Slip.{Slip}
use Rattle.slips.specs.declared.Slip.TheVariants as slip
use Rattle.slips.proofs.Meaning.{held_small}
use Rattle.month.specs.Month.{Books, opening, is_open, most_jobs, million, job_number, lot_in, after_held, after_order, after_refused, after_slip, over_counted, slip_lines, Report, at, refused_by, go_on, book_line, line_taken, lines_taken, broken_off, closed, whole_lines, report_on, report_of}
use Rattle.month.specs.Meaning.{Sound}
use Rattle.std.specs.Prelude.{Ok, Err}

-- ---- the books that lines lead to are sound

-- of a report: where it has books, P holds of them
abbrev pub OfBooks : (Books → Type 0) → Report → Type 0
OfBooks P (at s) = P s
OfBooks P (refused_by r k) = Unit

pub of_done : (P : Books → Type 0) (o : Outcome) (k : ℕ) (s : Books) → (o ≡ Ok tt → P s) → OfBooks P (go_on o k s)
of_done P (Ok _) k s f = f refl
of_done P (Err r) k s f = tt

pub sound_opening : Sound opening
unfolding opening totals
sound_opening = record { summed = omega arith; closed = λ _. refl; in_order = tt; names = omega arith; few = omega arith; counted = omega arith; begun = λ n. absurd (n refl); dated = tt }

pub job_le : (s : Books) → s.jobs ≤ job_number s
unfolding job_number
job_le s = ⊎_elim (λ t. rw t (omega arith)) (λ t. rw t (omega arith)) (either (is_open s))

job_more : (s : Books) → s.accepted ≤ s.jobs → ((s.lines ≡ 0 → ⊥) → s.accepted < s.jobs) → s.accepted < job_number s
unfolding job_number
job_more s a f =
    ⊎_elim
    (λ t. rw t (f (eqb-false s.lines 0 (not-true (eqb s.lines 0) t))))
    (λ t. rw t (omega arith))
    (either (is_open s))

held_total : (s : Books) (w : List ℕ) (m : ℕ) → totals (entered s.positions (lot_in s w m)) ≡ totals s.positions + m
unfolding lot_in
held_total s w m = entered_totals (lot_in s w m) s.positions

held_dated : (s : Books) (w : List ℕ) (m : ℕ) → Sound s → Dated (job_number s) (entered s.positions (lot_in s w m))
unfolding lot_in
held_dated s w m i =
    let g = job_more s i.counted i.begun in
    entered_dated (lot_in s w m) s.jobs s.positions (job_le s) (omega arith) i.dated

sound_held : (s : Books) (w : List ℕ) (m : ℕ) → Sound s → first (slip_lines s w (slip.Held m)) ≡ Ok tt → Sound (after_held s w m)
unfolding slip_lines entered_lines after_held
sound_held s w m i e =
    let f = none (slip_lines s w (slip.Held m)) e in
    let a = held_total s w m in
    let b = i.summed in
    record {
      summed = omega arith;
      closed = λ z. absurd (omega arith);
      in_order = entered_in_order (lot_in s w m) s.positions i.in_order;
      names = ltb-false most_names (length (entered s.positions (lot_in s w m))) f.1.1.0;
      few = ltb-false most_jobs (job_number s) f.0;
      counted = omega (arith, job_le s, i.counted);
      begun = λ _. job_more s i.counted i.begun;
      dated = held_dated s w m i;
    }

sound_order : (s : Books) (w : List ℕ) (k : ℕ) → Sound s → first (slip_lines s w (slip.Order k)) ≡ Ok tt → Sound (after_order s)
unfolding slip_lines after_order
sound_order s w k i e =
    let f = none (slip_lines s w (slip.Order k)) e in
    let a : s.sum ≡ million = eqb-true s.sum million (not-false (eqb s.sum million) f.1.0) in
    let b = i.summed in
    record {
      summed = omega arith;
      closed = λ _. refl;
      in_order = i.in_order;
      names = i.names;
      few = i.few;
      counted = let g = i.begun (λ z. let q = i.closed z in omega arith) in omega arith;
      begun = λ n. absurd (n refl);
      dated = i.dated;
    }

sound_refused : (s : Books) (w : List ℕ) → Sound s → first (slip_lines s w slip.Refused) ≡ Ok tt → Sound (after_refused s)
unfolding slip_lines after_refused
sound_refused s w i e =
    let f = none (slip_lines s w slip.Refused) e in
    record {
      summed = i.summed;
      closed = i.closed;
      in_order = i.in_order;
      names = i.names;
      few = ltb-false most_jobs (s.jobs + 1) f.1.0;
      counted = omega (arith, i.counted);
      begun = λ n. omega (arith, i.counted);
      dated = dated_more s.jobs (s.jobs + 1) s.positions (omega arith) i.dated;
    }

sound_slip : (s : Books) (w : List ℕ) (k : Slip) → Sound s → first (slip_lines s w k) ≡ Ok tt → Sound (after_slip s w k)
unfolding after_slip
sound_slip s w slip.Other i e = i
sound_slip s w (slip.Held m) i e = sound_held s w m i e
sound_slip s w (slip.Order k) i e = sound_order s w k i e
sound_slip s w slip.Refused i e = sound_refused s w i e

pub sound_line : (r : Report) (l : List ℕ) → OfBooks Sound r → OfBooks Sound (line_taken r l)
unfolding book_line
sound_line (refused_by r k) l i = tt
sound_line (at s) l i =
    of_done Sound (first (slip_lines s (piece tabulator l 0) (slip_of l))) s.line (after_slip s (piece tabulator l 0) (slip_of l))
    (λ e. sound_slip s (piece tabulator l 0) (slip_of l) i e)

pub sound_lines : (r : Report) (ls : List (List ℕ)) → OfBooks Sound r → OfBooks Sound (lines_taken r ls)
unfolding lines_taken
sound_lines r [] i = i
sound_lines r (l ∷ ls) i = sound_lines (line_taken r l) ls (sound_line r l i)

-- ---- "The totals over all names equal 1,000,000 times the accepted jobs."

-- a report that is closed with books had those books, and no job open
closed_at : (r : Report) (s : Books) → closed r ≡ at s → (r ≡ at s) × (s.lines ≡ 0)
unfolding closed
closed_at (refused_by q k) s e = absurd (let z : ◌≡◌ {A = ℕ} 0 1 = cc in omega arith)
closed_at (at u) s e =
    ⊎_elim
    (λ t. let f = rw t at e in absurd (let z : ◌≡◌ {A = ℕ} 0 1 = cc in omega arith))
    (λ t. let f = rw t at e in let g : u ≡ s = cc in (f, eqb-true s.lines 0 (not-false (eqb s.lines 0) (ap is_open (sym g) ∙ t))))
    (either (is_open u))

whole_at_lem : (r : Report) (w : List ℕ) (s : Books) → broken_off r w ≡ at s → r ≡ at s
unfolding broken_off
whole_at_lem (at u) [] s e = e
whole_at_lem (at u) (b ∷ w) s e = absurd (let z : ◌≡◌ {A = ℕ} 0 1 = cc in omega arith)
whole_at_lem (refused_by q k) w s e = absurd (let z : ◌≡◌ {A = ℕ} 0 1 = cc in omega arith)

pub report_totals : (text : List ℕ) (s : Books) → report_of text ≡ at s
    → (totals s.positions ≡ million * s.accepted) × InOrder s.positions × (length s.positions ≤ 256) × (s.jobs ≤ 200) × (s.accepted ≤ s.jobs) × (s.lines ≡ 0)
unfolding report_of report_on
report_totals text s e =
    let ls = whole_lines text in
    let c = closed_at (broken_off (lines_taken (at opening) ls) (last_piece newline text)) s e in
    let q = whole_at_lem (lines_taken (at opening) ls) (last_piece newline text) s c.0 in
    let i : Sound s = subst (OfBooks Sound) q (sound_lines (at opening) ls sound_opening) in
    let a = i.summed in
    let b = i.closed c.1 in
    (omega arith, i.in_order, i.names, i.few, i.counted, c.1)

-- ---- numbers that stay small

-- after n lines
record Small (n : ℕ) (s : Books) : Type 0 where
  numbered : s.line ≡ n + 1
  short : s.lines ≤ n
  light : s.sum ≤ million * s.lines

small_slip : (n : ℕ) (s : Books) (w : List ℕ) (k : Slip) → ((m : ℕ) → k ≡ slip.Held m → m ≤ million) → Small n s → first (slip_lines s w k) ≡ Ok tt → Small (n + 1) (after_slip s w k)
unfolding slip_lines after_slip after_held after_order after_refused
small_slip n s w slip.Other h i e = absurd (let f = (none (slip_lines s w slip.Other) e).0 in let z : ◌≡◌ {A = ℕ} 0 1 = cc in omega arith)
small_slip n s w (slip.Held m) h i e = let q = h m refl in let a = i.numbered in let b : s.lines ≤ n = i.short in let c = i.light in record { numbered = omega arith; short = omega arith; light = omega arith }
small_slip n s w (slip.Order k) h i e = let a = i.numbered in record { numbered = omega arith; short = omega arith; light = omega arith }
small_slip n s w slip.Refused h i e = let a = i.numbered in let b : s.lines ≤ n = i.short in record { numbered = omega arith; short = omega arith; light = i.light }

small_line : (n : ℕ) (r : Report) (l : List ℕ) → OfBooks (Small n) r → OfBooks (Small (n + 1)) (line_taken r l)
unfolding book_line
small_line n (refused_by r k) l i = tt
small_line n (at s) l i =
    of_done (Small (n + 1)) (first (slip_lines s (piece tabulator l 0) (slip_of l))) s.line (after_slip s (piece tabulator l 0) (slip_of l))
    (λ e. small_slip n s (piece tabulator l 0) (slip_of l) (held_small l) i e)

small_lines : (n : ℕ) (r : Report) (ls : List (List ℕ)) → OfBooks (Small n) r → OfBooks (Small (n + length ls)) (lines_taken r ls)
unfolding lines_taken
small_lines n r [] i = rw add-zero i
small_lines n r (l ∷ ls) i = let q : n + 1 + length ls ≡ n + suc (length ls) = omega arith in subst (λ (k : ℕ). OfBooks (Small k) (lines_taken (line_taken r l) ls)) q (small_lines (n + 1) (line_taken r l) ls (small_line n r l i))

small_opening : Small 0 opening
unfolding opening
small_opening = record { numbered = refl; short = omega arith; light = omega arith }

-- up to 10^12 lines do not reach the tests for numbers past what can be added: the counts ..
module _ (ls : List (List ℕ)) (s : Books) (e : lines_taken (at opening) ls ≡ at s) (h : length ls ≤ 1000000000000) where
  sound_here : Sound s
  sound_here = subst (OfBooks Sound) e (sound_lines (at opening) ls sound_opening)

  small_here : Small (length ls) s
  small_here = subst (OfBooks (Small (length ls))) e (rw zero-add at (small_lines 0 (at opening) ls small_opening))

  pub never_over : over_counted s ≡ false
  unfolding over_counted
  never_over =
      let i = sound_here in
      let j = small_here in
      let a : s.accepted ≤ s.jobs = i.counted in
      let b : s.jobs ≤ 200 = i.few in
      let c = j.numbered in
      let d : s.lines ≤ length ls = j.short in
      let f = j.light in
      rw (le-ltb most_added s.accepted (omega arith), le-ltb most_added s.lines (omega arith), le-ltb most_added s.sum (omega arith), le-ltb most_added s.line (omega arith))

  -- .. and the ledger's
  pub held_fits : (w : List ℕ) (m : ℕ) → m ≤ 1000000 → too_much s.positions (lot_in s w m) ≡ false
  unfolding lot_in
  held_fits w m k =
      let i = sound_here in
      let j = small_here in
      let p = i.summed in
      let a : s.accepted ≤ s.jobs = i.counted in
      let b : s.jobs ≤ 200 = i.few in
      let d : s.lines ≤ length ls = j.short in
      let f = j.light in
      not_too_much (lot_in s w m) s.jobs s.positions i.dated (omega arith) (omega arith) (omega arith)
