-- The definitions worked out on small reports: document 01's listing, a name met twice in a job, and input at fault. Assumes nothing.
use Prim.Native.Nat.{ℕ}
use mathlib.Core.Path.{◌≡◌, refl}
use mathlib.Core.Bool.{Bool, true, false, ◌&&◌}
use mathlib.Core.List.{List, [], ◌∷◌, ◌++◌}
use lib.Dec.{eqb}
use lib.ListN.{length, get_or}
use Rattle.refusal.specs.Refusal.{number_of}
use Rattle.refusal.specs.Table.{first}
use Rattle.text.specs.Bytes.{bytes, same}
use Rattle.fields.specs.Split.{newline, tabulator, onto, split, all}
use Rattle.fields.specs.Numerals.{digit, number, is_bits, is_numeral}
use Rattle.names.specs.Names.{is_name}
use Rattle.keys.specs.Keys.{word_from, key_of, key_same, key_before}
use Rattle.ledger.specs.Ledger.{opened, jobs_after, added, entered, beyond, too_much, entered_lines}
use Rattle.ledger.specs.Meaning.{totals}
use Rattle.ledger.specs.declared.Position.{Position}
use Rattle.slips.specs.Slips.{is_trim, is_amount, is_given, is_held, held_in, order_in, refused_in, slip_in, slip_of}
use Rattle.month.specs.Month.{opening, job_number, lot_in, after_held, after_order, after_refused, after_slip, over_counted, slip_lines, Report, at, refused_by, book_line, lines_taken, broken_off, closed, whole_lines, report_on, report_of}

-- fields after the first, a line of a listing, and lines as a text
abbrev tabbed : List (List ℕ) → List ℕ
tabbed [] = []
tabbed (w ∷ ws) = tabulator ∷ (w ++ tabbed ws)

abbrev held : List ℕ → List ℕ → List ℕ
held name m = name ++ tabbed (bytes "3fd0000000000000" ∷ m ∷ [])

abbrev ordered : List (List ℕ) → List ℕ
ordered names = bytes "order" ++ tabbed names

abbrev texted : List (List ℕ) → List ℕ
texted [] = []
texted (l ∷ ls) = l ++ newline ∷ texted ls

abbrev A : List ℕ
A = bytes "A"

abbrev B : List ℕ
B = bytes "B"

abbrev C : List ℕ
C = bytes "C"

abbrev whole : List ℕ
whole = bytes "1000000"

-- document 01's job with C first, a refused job, and a job that has A twice, once with a ceiling
abbrev two_jobs : List (List ℕ)
two_jobs =
    held C (bytes "500000") ∷ held A (bytes "250000") ∷ held B (bytes "250000") ∷ ordered (C ∷ A ∷ B ∷ [])
    ∷ (bytes "refused" ++ tabbed (bytes "15" ∷ []))
    ∷ (held A (bytes "600000") ++ tabbed (whole ∷ [])) ∷ held A (bytes "400000") ∷ ordered (A ∷ A ∷ [])
    ∷ []

-- jobs, smallest, largest and total of a position
abbrev tells : Position → ℕ → ℕ → ℕ → ℕ → Bool
tells p j s l t = eqb p.jobs j && (eqb p.smallest s && (eqb p.largest l && eqb p.total t))

abbrev nowhere : Position
nowhere = record { name = record { high = 0; low = 0 }; jobs = 0; last = 0; smallest = 0; largest = 0; total = 0 }

abbrev right : Report → Bool
right (refused_by r k) = false
right (at s) =
    eqb s.jobs 3 && (eqb s.accepted 2 && (eqb (totals s.positions) 2000000 && (eqb (length s.positions) 3 && (eqb s.line 9
    && (tells (get_or s.positions 0 nowhere) 2 250000 600000 1250000
    && (tells (get_or s.positions 1 nowhere) 1 250000 250000 250000 && tells (get_or s.positions 2 nowhere) 1 500000 500000 500000))))))

-- refused by 15 at a line
abbrev malformed : Report → ℕ → Bool
malformed (at s) n = false
malformed (refused_by r k) n = eqb (number_of r) 15 && eqb k n

abbrev lines : List (List ℕ) → Report
lines ls = closed (lines_taken (at opening) ls)

pub figures : (right (report_of (texted two_jobs))
    -- a line of another form after them
    && (malformed (report_of (texted two_jobs ++ texted ((bytes "order" ++ tabbed ([] ∷ [])) ∷ []))) 9
    -- the last line has no newline
    && (malformed (report_of (texted (held A whole ∷ []) ++ ordered (A ∷ []))) 2
    -- a job broken off by the end, and by `refused`
    && (malformed (lines (held A whole ∷ [])) 2
    && (malformed (lines (held A whole ∷ (bytes "refused" ++ tabbed (bytes "1" ∷ [])) ∷ [])) 2
    -- a job of 999,999 millionths
    && (malformed (lines (held A (bytes "999999") ∷ ordered (A ∷ []) ∷ [])) 2
    -- two names for one line
    && malformed (lines (held A whole ∷ ordered (A ∷ A ∷ []) ∷ [])) 2)))))) ≡ true
unfolding onto split all same digit number is_bits is_numeral first word_from key_of key_same key_before opened jobs_after added entered totals beyond too_much entered_lines is_name is_trim is_amount is_given is_held held_in order_in refused_in slip_in slip_of opening job_number lot_in after_held after_order after_refused after_slip over_counted slip_lines book_line lines_taken broken_off closed whole_lines report_on report_of
figures = refl
