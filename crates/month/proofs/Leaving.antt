-- What a call leaves in the table, and what counts and a table have that stand for books. Assumes nothing.
use Prim.Native.Nat.{ℕ, ◌*◌, ◌≤◌}
use mathlib.Core.Path.{◌≡◌, sym, ap, subst}
use mathlib.Core.List.{List, [], ◌∷◌}
use lib.ListN.{length, take}
use Rattle.refusal.specs.Table.{first}
use Rattle.lent.specs.Grid.{noughts}
use Rattle.lent.specs.Lent.{laid}
use Rattle.ledger.specs.Ledger.{first_ones, table_of, table_lines}
use Rattle.ledger.proofs.Outcomes.{judged_done}
use Rattle.month.specs.Month.{Books, Report, at, refused_by, line_taken, lines_taken}
use Rattle.month.specs.Calls.{books_of, standing, tally_of, progress_of, table_left}
use Rattle.month.specs.declared.Tally.{Tally}
use Rattle.month.proofs.Totals.{OfBooks}
use Rattle.month.proofs.Standing.{Fitting, line_fits}
use Rattle.month.proofs.Steps.{names_are, table_front, at_refused, go_on_at}
use Rattle.std.specs.Prelude.{Ok, Err}
use Rattle.month.specs.Outcomes.{Progress}

-- every report that lines lead to from one that fits its table fits it too
pub lines_fit : (n : ℕ) (R : Report) (ls : List (List ℕ)) → OfBooks (Fitting n) R → OfBooks (Fitting n) (lines_taken R ls)
unfolding lines_taken
lines_fit n R [] f = f
lines_fit n R (l ∷ ls) f = lines_fit n (line_taken R l) ls (line_fits n R l f)

-- of the table at the beginning nothing but its length is left
pub left_length : (R : Report) (t t₀ : List ℕ) → length t ≡ length t₀ → table_left R t ≡ table_left R t₀
unfolding table_left
left_length (at s) t t₀ e = ap (λ (n : ℕ). laid 0 (Ok tt) n (table_of s.positions)) e
left_length (refused_by r k) t t₀ e = ap noughts e

-- ---- counts and a table that stand for books: the counts are the books', and their positions are at the table's front

again_counts : (y : Tally) (t : List ℕ) → y.names ≤ 256 → Ok y ≡ progress_of (at (books_of y t))
unfolding progress_of tally_of books_of
again_counts y t h =
    let i : y.names ≡ length (first_ones y.names t) = sym (names_are y t h) in
    λ j. Ok (record { names = i j; jobs = y.jobs; accepted = y.accepted; lines = y.lines; sum = y.sum; line = y.line })

again_front : (y : Tally) (t : List ℕ) → length t ≡ 1792 → y.names ≤ 256 → take (length (books_of y t).positions * 7) t ≡ table_of (books_of y t).positions
unfolding books_of
again_front y t long h = table_front y.names t long h

again_at : (y : Tally) (t : List ℕ) (s : Books) → first (table_lines (length t) y.names) ≡ Ok tt → books_of y t ≡ s
    → (Ok y ≡ progress_of (at s)) × (take (length s.positions * 7) t ≡ table_of s.positions)
again_at y t s d e =
    let f = judged_done (length t) y.names d in
    subst (λ (z : Books). (Ok y ≡ progress_of (at z)) × (take (length z.positions * 7) t ≡ table_of z.positions)) e (again_counts y t f.1, again_front y t f.0 f.1)

pub begun_again : (p : Progress) (t : List ℕ) (s : Books) → standing p t ≡ at s → (p ≡ progress_of (at s)) × (take (length s.positions * 7) t ≡ table_of s.positions)
unfolding standing
begun_again (Err z) t s e = at_refused s z.refusal z.line e
begun_again (Ok y) t s e =
    let q = go_on_at (first (table_lines (length t) y.names)) y.line (books_of y t) s e in
    again_at y t s q.0 q.1
