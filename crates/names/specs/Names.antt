-- Document 01, "Millionths and the job program": the names of assets. Definitions only.
use Rattle.std.specs.Prelude.{ℕ, Bool, not, ◌&&◌, List, leb, length, drop}
use Rattle.text.specs.Bytes.{bytes, same}
use Rattle.fields.specs.Split.{newline, tabulator, first_piece, all}

-- "a name of 1 to 16 bytes 21 to 7e hex, not `order` or `refused`"
abbrev pub in_name : ℕ → Bool
in_name b = leb 0x21 b && leb b 0x7e

unfoldable pub is_name : List ℕ → Bool
unfolding all same
is_name w =
    leb 1 (length w)
    && (leb (length w) 16
    && (all in_name w
    && (not (same w (bytes "order")) && not (same w (bytes "refused")))))

-- the name that begins at a place: what stands from there to the first tab or the line's end
abbrev pub name_from : List ℕ → ℕ → List ℕ
name_from text start = first_piece tabulator (first_piece newline (drop start text))
