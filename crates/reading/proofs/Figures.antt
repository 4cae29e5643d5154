-- Small job texts, computed by antt as one table: each line is an answer beside the one that it must be. Assumes nothing.
use Prim.Native.Nat.{ℕ, ◌+◌, ◌*◌}
use mathlib.Core.Path.{◌≡◌, refl}
use mathlib.Core.Bool.{Bool, true, cond, ◌&&◌}
use mathlib.Core.List.{List, [], ◌∷◌, ◌++◌}
use lib.Dec.{eqb}
use lib.ListN.{take, drop}
use lib.Count.{count_trailing_zeros}
use lib.Ieee.{Float, binary64, size, span, climb, odd, units, round, neg, div, of_int, of_fields, of_bits, to_bits}
use Rattle.refusal.specs.Refusal.{number_of}
use Rattle.refusal.specs.Table.{first}
use Rattle.lent.specs.Grid.{tab, grid}
use Rattle.text.specs.Bytes.{bytes, same, lower, lowered, is_word}
use Rattle.fields.specs.Split.{onto, split, first_piece, end_of, all as every}
use Rattle.fields.specs.Numerals.{digit, number, is_bits, is_numeral, numeral_read}
use Rattle.decimals.specs.Decimal.{signed, bare, shaped, is_bare, digits_of, over_tens, signed_by, is_decimal, decimal_of, is_cell, cell_of}
use Rattle.ceilings.specs.Written.{ceiling_of, is_ceiling}
use Rattle.heading.specs.Heading.{clusters_of, prices_after, ceilings_after, is_of, is_hrp, is_hcaa, own_fields, is_priced, is_ceiled, distance_field, unknown_lines, head_of}
use Rattle.linkage.specs.Names.{distance_named, linkage_named}
use Rattle.linkage.specs.declared.Distance.{Distance}
use Rattle.linkage.specs.declared.Distance.TheVariants.{Correlation, DistanceOfDistances}
use Rattle.names.specs.Names.{is_name}
use Rattle.reading.specs.Reading.{priced, ceiled, head_in, rows_in, assets, is_row, row_fields, is_asset, is_day, is_names, is_ceilings, is_covariance, is_prices, is_block, is_job, text_cell, cells_in, name_of, start_of, name_start, starts_in, text_ceiling, ceilings_in, is_over, text_lines, ReadRoom, read_table, read_outcome, block_in, job_in, read_of}
use Rattle.reading.specs.declared.Block.{Block}
use Rattle.std.specs.Prelude.{Ok, Err}
use Rattle.reading.specs.Outcomes.{Reading}
use Rattle.reading.specs.declared.Job.TheVariants as kinds

abbrev all : List Bool → Bool
all [] = true
all (b ∷ bs) = b && all bs

-- the refusal's number; 100, 200 and so on for a job, with its assets added; with ceilings 20,000 more; where prices follow 10,000 more, and as many hundred thousands as days
abbrev metric : Distance → ℕ
metric Correlation = 100
metric DistanceOfDistances = 200

abbrev blocked : Block → ℕ
blocked b = b.assets + cond b.ceiled 20000 0 + cond b.priced (10000 + b.rows * 100000) 0

abbrev told : Reading → ℕ
told (Err r) = number_of r
told (Ok (kinds.Hrp b d)) = blocked b + metric d
told (Ok (kinds.Hcaa b m d)) = blocked b + metric d + 1000

abbrev within : ℕ → ℕ → ℕ → ReadRoom
within c s l = record { cells = c; starts = s; ceilings = l }

abbrev read : List ℕ → ℕ
read text = told (read_of text (within 4096 64 64))

-- an `hrp` text of one asset
abbrev alone : List ℕ → List ℕ → List ℕ
alone name cell = bytes "hrp\tcorrelation\n" ++ name ++ (9 ∷ cell) ++ (10 ∷ [])

-- a first line with no assets
abbrev hcaa : List ℕ → List ℕ → List ℕ → List ℕ
hcaa linkage distance clusters = bytes "hcaa\tequal_weighting\t" ++ linkage ++ (9 ∷ distance) ++ (9 ∷ clusters) ++ (10 ∷ [])

-- document 01's
abbrev three : List ℕ
three =
    bytes "hcaa\tequal_weighting\tsingle\tcorrelation\t-\n"
    ++ bytes "A\t3ff0000000000000\t3fe0000000000000\t0000000000000000\n"
    ++ bytes "B\t3fe0000000000000\t3ff0000000000000\t0000000000000000\n"
    ++ bytes "C\t0000000000000000\t0000000000000000\t3ff0000000000000\n"

-- 1, 2 and a half
abbrev one : ℕ
one = 0x3ff0_0000_0000_0000

abbrev two : ℕ
two = 0x4000_0000_0000_0000

abbrev half : ℕ
half = 0x3fe0_0000_0000_0000

abbrev days : List ℕ
days = bytes "hrp\tcorrelation\tprices\n" ++ bytes "AA\tBB\n" ++ bytes "1\t2.0\n" ++ bytes "002\t1.00\n" ++ bytes "0.5\t2\n"

-- document 01's with ceilings, the first with a zero more in front
abbrev capped : List ℕ
capped =
    bytes "hcaa\tequal_weighting\tsingle\tcorrelation\t-\tceilings\n"
    ++ bytes "A\t3ff0000000000000\t3fe0000000000000\t0000000000000000\t0600000\n"
    ++ bytes "B\t3fe0000000000000\t3ff0000000000000\t0000000000000000\t500000\n"
    ++ bytes "C\t0000000000000000\t0000000000000000\t3ff0000000000000\t1000000\n"

abbrev capped_days : List ℕ
capped_days = bytes "hrp\tcorrelation\tprices\tceilings\n" ++ bytes "AA\tBB\n" ++ bytes "0600000\t1000000\n" ++ bytes "1\t2.0\n" ++ bytes "002\t1.00\n"

-- an `hrp` text of one asset with a ceiling
abbrev under : List ℕ → List ℕ
under ceiling = bytes "hrp\tcorrelation\tceilings\nA\t1\t" ++ ceiling ++ (10 ∷ [])

abbrev bits : List Float → List ℕ
bits [] = []
bits (x ∷ xs) = to_bits binary64 x ∷ bits xs

abbrev unit : List ℕ
unit = bytes "3ff0000000000000"

abbrev jobs : List Bool
jobs =
    eqb (read (alone (bytes "A") unit)) 101
    ∷ same (bits (cells_in (alone (bytes "A") unit))) (0x3ff0_0000_0000_0000 ∷ [])
    ∷ eqb (read three) 1103
    ∷ same (bits (take 4 (cells_in three))) (0x3ff0_0000_0000_0000 ∷ 0x3fe0_0000_0000_0000 ∷ 0 ∷ 0x3fe0_0000_0000_0000 ∷ [])
    ∷ same (starts_in three) (42 ∷ 95 ∷ 148 ∷ [])
    ∷ same (name_of three 1) (bytes "B")
    ∷ same (first_piece 9 (first_piece 10 (drop 95 three))) (bytes "B")
    ∷ eqb (read (bytes "hrp\tdistance_of_distances\n")) 200
    -- a covariance in decimals, beside hex digits
    ∷ same (bits (cells_in (bytes "hrp\tcorrelation\nA\t4\t-0.0\nB\t3ff0000000000000\t0.25\n"))) (0x4010_0000_0000_0000 ∷ 0x8000_0000_0000_0000 ∷ 0x3ff0_0000_0000_0000 ∷ 0x3fd0_0000_0000_0000 ∷ [])
    -- prices: two names, three days
    ∷ eqb (read days) 310102
    ∷ same (bits (cells_in days)) (one ∷ two ∷ two ∷ one ∷ half ∷ two ∷ [])
    ∷ same (starts_in days) (23 ∷ 26 ∷ [])
    ∷ same (name_of days 1) (bytes "BB")
    ∷ same (first_piece 9 (first_piece 10 (drop 26 days))) (bytes "BB")
    -- names and no days; one asset's days; "`hrp`, tab, `prices`"
    ∷ eqb (read (bytes "hrp\tcorrelation\tprices\nA\tB\n")) 10102
    ∷ eqb (read (bytes "hcaa\tx\tsingle\tcorrelation\t1\tprices\nA\n1\n-2\n")) 211101
    ∷ eqb (read (bytes "hrp\tprices\n")) 7
    ∷ eqb (read (bytes "hrp\tnone\tprices\nA\n1\n")) 7
    ∷ eqb (read (bytes "hcaa\tx\tnone\tnone\t-\tprices\nA\n1\n")) 8
    -- ceilings at the ends of the assets' lines, and on a line of their own
    ∷ eqb (read capped) 21103
    ∷ same (bits (cells_in capped)) (bits (cells_in three))
    ∷ same (starts_in capped) (51 ∷ 112 ∷ 172 ∷ [])
    ∷ same (ceilings_in capped) (600000 ∷ 500000 ∷ 1000000 ∷ [])
    ∷ eqb (read capped_days) 230102
    ∷ same (bits (cells_in capped_days)) (one ∷ two ∷ two ∷ one ∷ [])
    ∷ same (starts_in capped_days) (32 ∷ 35 ∷ [])
    ∷ same (ceilings_in capped_days) (600000 ∷ 1000000 ∷ [])
    ∷ same (ceilings_in three) []
    ∷ eqb (read (under (bytes "0"))) 20101
    ∷ eqb (read (bytes "hrp\tcorrelation\tceilings\n")) 20100
    -- the line after the names is one of ceilings, and no day
    ∷ eqb (read (bytes "hrp\tcorrelation\tprices\tceilings\nA\n7\n")) 30101
    -- the buffers' 11 before a malformed text's 15
    ∷ eqb (told (read_of [] (within 4095 64 64))) 11
    ∷ eqb (told (read_of [] (within 4096 63 64))) 11
    ∷ eqb (told (read_of [] (within 4096 64 63))) 11
    -- in order: 15, 8, 7
    ∷ eqb (read (hcaa (bytes "none") (bytes "none") (bytes "x"))) 15
    ∷ eqb (read (hcaa (bytes "none") (bytes "none") (bytes "-"))) 8
    ∷ eqb (read (hcaa (bytes "WARD") (bytes "none") (bytes "-"))) 7
    ∷ eqb (read (hcaa (bytes "WARD") (bytes "Correlation") (bytes "-"))) 1100
    ∷ eqb (read (bytes "hrp\tnone\n")) 7
    ∷ []

abbrev malformed : List ℕ → Bool
malformed text = eqb (read text) 15

abbrev refused : List Bool
refused =
    malformed []
    ∷ malformed (bytes "\n")
    ∷ malformed (bytes "HRP\tcorrelation\n")
    ∷ malformed (bytes "hrp\tcorrelation")
    ∷ malformed (bytes "hrp\tcorrelation\n\n")
    ∷ malformed (bytes "hrp\tcorrelation\t\n")
    ∷ malformed (alone (bytes "A") unit ++ bytes "B")
    ∷ malformed (alone [] unit)
    ∷ malformed (alone (bytes "order") unit)
    ∷ malformed (alone (bytes "refused") unit)
    ∷ malformed (alone (bytes "A B") unit)
    ∷ malformed (alone (bytes "seventeen_letters") unit)
    ∷ eqb (read (alone (bytes "sixteen__letters") unit)) 101
    ∷ eqb (read (alone (bytes "Order") unit)) 101
    ∷ malformed (alone (bytes "A") (bytes "3FF0000000000000"))
    ∷ malformed (alone (bytes "A") (bytes "3ff000000000000"))
    ∷ malformed (alone (bytes "A") (bytes "3ff00000000000000"))
    ∷ malformed (alone (bytes "A") (bytes "3ff0000000000000\r"))
    ∷ malformed (alone (bytes "A") (bytes "3ff0000000000000\t3ff0000000000000"))
    -- a prices job with no names, an empty line of them, one that is none; a day's line too short, too long, empty, not ended, with no cell
    ∷ malformed (bytes "hrp\tcorrelation\tprices\n")
    ∷ malformed (bytes "hrp\tcorrelation\tprices\n\n")
    ∷ malformed (bytes "hrp\tcorrelation\tprices\nA\torder\n")
    ∷ malformed (bytes "hrp\tcorrelation\tprices\nA\tB\n1\n")
    ∷ malformed (bytes "hrp\tcorrelation\tprices\nA\tB\n1\t2\t3\n")
    ∷ malformed (bytes "hrp\tcorrelation\tprices\nA\n\n")
    ∷ malformed (bytes "hrp\tcorrelation\tprices\nA\n1\n2")
    ∷ malformed (bytes "hrp\tcorrelation\tprices\nA\n1\nx\n")
    -- 15 before 8 and 7
    ∷ malformed (bytes "hcaa\tx\tnone\tnone\t-\tprices\nA\n1\n.5\n")
    -- a covariance's line after `prices` has names, and no days; prices without `prices`
    ∷ eqb (read (bytes "hrp\tcorrelation\tprices\nA\t1\n")) 10102
    ∷ malformed (bytes "hrp\tcorrelation\nA\n1\n")
    -- a ceiling of 8 digits, above 1,000,000, empty, no digits; on one line none; where the first line says none
    ∷ malformed (under (bytes "00600000"))
    ∷ malformed (under (bytes "1000001"))
    ∷ malformed (under [])
    ∷ malformed (under (bytes "0.5"))
    ∷ malformed (bytes "hrp\tcorrelation\tceilings\nA\t1\t0\t7\nB\t0\t1\n")
    ∷ malformed (bytes "hrp\tcorrelation\nA\t1\t600000\n")
    -- a line of ceilings with one too few, one too many, missing
    ∷ malformed (bytes "hrp\tcorrelation\tprices\tceilings\nA\tB\n7\n1\t2\n")
    ∷ malformed (bytes "hrp\tcorrelation\tprices\tceilings\nA\tB\n7\t8\t9\n1\t2\n")
    ∷ malformed (bytes "hrp\tcorrelation\tprices\tceilings\nA\tB\n")
    ∷ malformed (bytes "hrp\tcorrelation\tprices\tceilings\nA\tB\n1\t2.0\n")
    ∷ []

pub figures : all jobs && all refused ≡ true
unfolding first tab grid same lower lowered is_word onto split first_piece end_of every digit number is_bits is_numeral numeral_read signed bare shaped is_bare digits_of over_tens signed_by is_decimal decimal_of is_cell cell_of distance_named linkage_named clusters_of prices_after ceilings_after is_of is_hrp is_hcaa own_fields is_priced is_ceiled distance_field unknown_lines head_of ceiling_of is_ceiling priced ceiled head_in rows_in assets is_name is_row row_fields is_asset is_day is_names is_ceilings is_covariance is_prices is_block is_job text_cell cells_in name_of start_of name_start starts_in text_ceiling ceilings_in is_over text_lines read_table read_outcome block_in job_in read_of neg div of_int round units size span climb odd count_trailing_zeros of_fields of_bits to_bits
figures = refl
