-- A report written into counts and a table, and read again, is the same report. Assumes nothing.
use Prim.Native.Nat.{ℕ, ◌≤◌}
use mathlib.Core.Path.{◌≡◌, refl, sym, ap, ◌∙◌}
use mathlib.Core.List.{List}
use native.Mathlib.Omega.{arith}
use borrow.Author.Tests.{ltb-false, le-ltb, eqb-true, eq-eqb, not-false}
use lib.Dec.{eqb}
use lib.ListN.{length, length-replicate}
use lib.Seq.{length-take-le}
use Rattle.refusal.specs.Table.{first}
use Rattle.refusal.proofs.Tables.{none}
use Rattle.lent.specs.Grid.{noughts, over}
use Rattle.lent.proofs.Laws.{length_over}
use Rattle.lent.proofs.Sizes.{laid_done}
use Rattle.fields.specs.Split.{tabulator, piece}
use Rattle.ledger.specs.Ledger.{most_names, table_cells, entered, entered_lines, first_ones, positions, table_of, table_lines}
use Rattle.ledger.proofs.Storing.{length_positions}
use Rattle.ledger.proofs.Tables.{table_length, table_first}
use Rattle.slips.specs.Slips.{slip_of}
use Rattle.slips.specs.declared.Slip.{Slip}
use Rattle.slips.specs.declared.Slip.TheVariants as slip
use Rattle.month.specs.Month.{Books, lot_in, after_held, after_order, after_refused, after_slip, slip_lines, Report, at, refused_by, book_line, line_taken}
use Rattle.month.specs.Calls.{books_of, standing, tally_of, progress_of, table_left}
use Rattle.month.proofs.Totals.{OfBooks, of_done}
use Rattle.std.specs.Prelude.{Ok, Err}
use Rattle.month.specs.Outcomes.{Progress}

-- ---- a report that fits its table

-- 256 positions of seven numbers, and no more names
abbrev pub Fitting : ℕ → Books → Type 0
Fitting cells s = (cells ≡ table_cells) × (length s.positions ≤ most_names)

pub table_passes : (cells names : ℕ) → cells ≡ table_cells → names ≤ most_names → first (table_lines cells names) ≡ Ok tt
unfolding table_lines first
table_passes cells names e h = rw (le-ltb most_names names h, eq-eqb cells table_cells e)

books_again : (s : Books) (t : List ℕ) → length s.positions ≤ most_names → books_of (tally_of s) (over (table_of s.positions) t) ≡ s
unfolding books_of tally_of
books_again s t h =
    let e : first_ones (length s.positions) (over (table_of s.positions) t) ≡ s.positions = table_first s.positions t h in
    λ i. record { positions = e i; jobs = s.jobs; accepted = s.accepted; lines = s.lines; sum = s.sum; line = s.line }

-- the positions over a table of zeros
left_over : (s : Books) (t : List ℕ) → table_left (at s) t ≡ over (table_of s.positions) (noughts (length t))
unfolding table_left
left_over s t = sym (laid_done 0 (Ok tt) (length t) (table_of s.positions) refl)

pub stands_fitting : (R : Report) (t : List ℕ) → OfBooks (Fitting (length t)) R → standing (progress_of R) (table_left R t) ≡ R
unfolding standing progress_of tally_of
stands_fitting (refused_by r k) t f = refl
stands_fitting (at s) t f =
    let z = noughts (length t) in
    let n : length z ≡ length t = length-replicate {A = ℕ} (length t) 0 in
    let w : length (over (table_of s.positions) z) ≡ table_cells = length_over (table_of s.positions) z (omega (arith, n, f.0, f.1, table_length s.positions)) ∙ n ∙ f.0 in
    rw (left_over s t) (rw (table_passes (length (over (table_of s.positions) z)) (length s.positions) w f.1) (ap at (books_again s z f.1)))

pub stands : (R : Report) (t : List ℕ) → length t ≡ 1792 → ((s : Books) → R ≡ at s → length s.positions ≤ 256) → standing (progress_of R) (table_left R t) ≡ R
stands (refused_by r k) t e f = stands_fitting (refused_by r k) t tt
stands (at s) t e f = stands_fitting (at s) t (e, f s refl)

-- ---- so what a call leaves after a line stands for the report after it, whatever it was given

pub standing_fits : (p : Progress) (t : List ℕ) → OfBooks (Fitting (length t)) (standing p t)
unfolding standing books_of first_ones table_lines
standing_fits (Err s) t = tt
standing_fits (Ok y) t =
    of_done (Fitting (length t)) (first (table_lines (length t) y.names)) y.line (books_of y t)
    (λ e.
    let f = none (table_lines (length t) y.names) e in
    let n : y.names ≤ most_names = ltb-false most_names y.names f.0 in
    let w : length (first_ones y.names t) ≡ y.names = length-take-le y.names (positions t) (omega (arith, length_positions t)) in
    (eqb-true (length t) table_cells (not-false (eqb (length t) table_cells) f.1.0), omega arith))

slip_fits : (s : Books) (w : List ℕ) (k : Slip) → length s.positions ≤ most_names → first (slip_lines s w k) ≡ Ok tt → length (after_slip s w k).positions ≤ most_names
unfolding slip_lines entered_lines after_slip after_held after_order after_refused
slip_fits s w slip.Other h e = h
slip_fits s w (slip.Held m) h e = ltb-false most_names (length (entered s.positions (lot_in s w m))) (none (slip_lines s w (slip.Held m)) e).1.1.0
slip_fits s w (slip.Order k) h e = h
slip_fits s w slip.Refused h e = h

pub line_fits : (n : ℕ) (r : Report) (l : List ℕ) → OfBooks (Fitting n) r → OfBooks (Fitting n) (line_taken r l)
unfolding book_line
line_fits n (refused_by r k) l f = tt
line_fits n (at s) l f =
    of_done (Fitting n) (first (slip_lines s (piece tabulator l 0) (slip_of l))) s.line (after_slip s (piece tabulator l 0) (slip_of l))
    (λ e. (f.0, slip_fits s (piece tabulator l 0) (slip_of l) f.1 e))

pub stands_after : (p : Progress) (t l : List ℕ) → standing (progress_of (line_taken (standing p t) l)) (table_left (line_taken (standing p t) l) t) ≡ line_taken (standing p t) l
stands_after p t l = stands_fitting (line_taken (standing p t) l) t (line_fits (length t) (standing p t) l (standing_fits p t))
