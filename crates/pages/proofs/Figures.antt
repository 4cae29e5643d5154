-- The page of nothing, and of document 01's listing, a refused job and a second job, worked out from the text. Assumes nothing.
use Prim.Native.Nat.{ℕ}
use mathlib.Core.Path.{◌≡◌, refl}
use mathlib.Core.Bool.{true, ◌&&◌}
use mathlib.Core.List.{List, [], ◌∷◌, ◌++◌}
use Rattle.refusal.specs.Table.{first}
use Rattle.text.specs.Bytes.{bytes, same}
use Rattle.lent.specs.Grid.{tab}
use Rattle.fields.specs.Split.{newline, tabulator, onto, split, first_piece, all}
use Rattle.fields.specs.Numerals.{digit, number, is_bits, is_numeral}
use Rattle.names.specs.Names.{is_name}
use Rattle.writing.specs.Writing.{digit_byte, digits, places, decimal, joined}
use Rattle.keys.specs.Keys.{word_from, key_of, key_same, key_before, shortened, key_byte, key_bytes}
use Rattle.ledger.specs.Ledger.{opened, jobs_after, added, entered, beyond, too_much, entered_lines}
use Rattle.slips.specs.Slips.{is_trim, is_amount, is_given, is_held, held_in, order_in, refused_in, slip_in, slip_of}
use Rattle.month.specs.Month.{opening, job_number, lot_in, after_held, after_order, after_refused, after_slip, over_counted, slip_lines, book_line, lines_taken, broken_off, closed, whole_lines, report_on, report_of}
use Rattle.pages.specs.Pages.{figure, jobs_line, position_line, page_of, page_in}

-- fields with tabs between them, a newline after the last
abbrev line : List (List ℕ) → List ℕ
line [] = newline ∷ []
line (w ∷ []) = w ++ newline ∷ []
line (w ∷ v ∷ ws) = w ++ tabulator ∷ line (v ∷ ws)

abbrev A : List ℕ
A = bytes "A"

abbrev B : List ℕ
B = bytes "B"

abbrev C : List ℕ
C = bytes "C"

abbrev quarter : List ℕ
quarter = bytes "250000"

abbrev half : List ℕ
half = bytes "500000"

abbrev whole : List ℕ
whole = bytes "1000000"

-- document 01's listing, a refused job, and a job that holds B alone, with a ceiling
abbrev input : List ℕ
input =
    line (A ∷ bytes "3fd0000000000000" ∷ quarter ∷ [])
    ++ line (B ∷ bytes "3fd0000000000000" ∷ quarter ∷ [])
    ++ line (C ∷ bytes "3fe0000000000000" ∷ half ∷ [])
    ++ line (bytes "order" ∷ C ∷ A ∷ B ∷ [])
    ++ line (bytes "refused" ∷ bytes "15" ∷ [])
    ++ line (B ∷ bytes "3ff0000000000000" ∷ whole ∷ whole ∷ [])
    ++ line (bytes "order" ∷ B ∷ [])

-- its page: name, jobs, smallest, largest, total
abbrev page : List ℕ
page =
    line (bytes "jobs" ∷ bytes "2" ∷ bytes "1" ∷ [])
    ++ line (A ∷ bytes "1" ∷ quarter ∷ quarter ∷ quarter ∷ [])
    ++ line (B ∷ bytes "2" ∷ quarter ∷ whole ∷ bytes "1250000" ∷ [])
    ++ line (C ∷ bytes "1" ∷ half ∷ half ∷ half ∷ [])

pub figures : (same (page_in (report_of [])) (line (bytes "jobs" ∷ bytes "0" ∷ bytes "0" ∷ [])) && same (page_in (report_of input)) page) ≡ true
unfolding onto split first_piece all same digit number is_bits is_numeral first tab digit_byte digits places decimal joined word_from key_of key_same key_before shortened key_byte key_bytes opened jobs_after added entered beyond too_much entered_lines is_name is_trim is_amount is_given is_held held_in order_in refused_in slip_in slip_of opening job_number lot_in after_held after_order after_refused after_slip over_counted slip_lines book_line lines_taken broken_off closed whole_lines report_on report_of figure jobs_line position_line page_of page_in
figures = refl
