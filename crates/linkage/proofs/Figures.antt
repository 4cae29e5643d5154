-- Figures of merge rows and of names, computed by antt as one table: each line is an answer beside the one that it must be. Assumes nothing.
use mathlib.Core.Path.{◌≡◌, refl}
use mathlib.Core.Bool.{Bool, true, ◌&&◌}
use mathlib.Core.List.{List, [], ◌∷◌}
use Prim.Native.Nat.{ℕ}
use lib.Count.{count_trailing_zeros}
use lib.Dec.{eqb}
use lib.ListN.{take, replicate}
use lib.Ieee.{Float, nan, binary64, size, span as ieee-span, climb, odd, units, round, neg, add, sum, sub, mul, div, lt, le, eq, is_nan, of_fields, of_bits, to_bits}
use Rattle.text.specs.Bytes.{bytes, same, lower, lowered, is_word}
use Rattle.arithmetic.specs.Constants.{pz, unit, two}
use Rattle.arithmetic.specs.Arithmetic.{min_of, max_of, abs_of}
use Rattle.arithmetic.specs.Root.{isqrt, root}
use Rattle.refusal.specs.Refusal.{number_of}
use Rattle.refusal.specs.Table.{first, Outcome}
use Rattle.lent.specs.Range.{span, range}
use Rattle.lent.specs.Lent.{over_limit, other_length, sizes, laid}
use Rattle.linkage.specs.declared.Distance.TheVariants.{Correlation, DistanceOfDistances}
use Rattle.linkage.specs.declared.Linkage.TheVariants.{Single, Complete, Average, Ward}
use Rattle.linkage.specs.Names.{distance_named, linkage_named}
use Rattle.linkage.specs.Merge.{ward_f, update_f, pair_before, near, better, offer, look, scan_row, scan_from, scan_all, both, movable, moved, moved_all, merged, step, copied, start, state_at, merge_rows}
use Rattle.linkage.specs.Pairs.{count_one, count_row, count_from, count_all, pairs_at, pairs_visited}
use Rattle.linkage.specs.Children.{children_table, children_outcome, joined_of, children_answer, pairs_of, children_rows}
use Rattle.std.specs.Prelude.{Ok, Err}
use Rattle.linkage.specs.Outcomes.{NamedDistance, NamedLinkage}

abbrev all : List Bool → Bool
all [] = true
all (b ∷ bs) = b && all bs

abbrev at : ℕ → Float
at b = of_bits binary64 b

-- 1 − 2^-40 and 1 − 2^-39
abbrev below40 : Float
below40 = at 0x3fef_ffff_ffff_e000

abbrev below39 : Float
below39 = at 0x3fef_ffff_ffff_c000

-- 1e-12 and the double after it
abbrev width : Float
width = at 0x3d71_9799_812d_ea11

abbrev wider : Float
wider = at 0x3d71_9799_812d_ea12

-- symmetric, with a diagonal of 0
abbrev three : (d01 d02 d12 : Float) → List Float
three x y z = pz ∷ x ∷ y ∷ x ∷ pz ∷ z ∷ y ∷ z ∷ pz ∷ []

abbrev four : (d01 d02 d03 d12 d13 d23 : Float) → List Float
four a b c d e f = pz ∷ a ∷ b ∷ c ∷ a ∷ pz ∷ d ∷ e ∷ b ∷ d ∷ pz ∷ f ∷ c ∷ e ∷ f ∷ pz ∷ []

-- of points on a line: 0, 2, 5 and 9.5, or 9.75
abbrev line : List Float
line = four two (at 0x4014_0000_0000_0000) (at 0x4023_0000_0000_0000) (at 0x4008_0000_0000_0000) (at 0x401e_0000_0000_0000) (at 0x4012_0000_0000_0000)

abbrev longer : List Float
longer = four two (at 0x4014_0000_0000_0000) (at 0x4023_8000_0000_0000) (at 0x4008_0000_0000_0000) (at 0x401f_0000_0000_0000) (at 0x4013_0000_0000_0000)

-- 10 from 0 to 1, but 3 from 1 to 0
abbrev lopsided : List Float
lopsided =
    pz ∷ at 0x4024_0000_0000_0000 ∷ at 0x4024_0000_0000_0000 ∷ at 0x4014_0000_0000_0000
    ∷ at 0x4008_0000_0000_0000 ∷ pz ∷ unit ∷ at 0x4034_0000_0000_0000
    ∷ at 0x4024_0000_0000_0000 ∷ unit ∷ pz ∷ at 0x4034_0000_0000_0000
    ∷ at 0x4014_0000_0000_0000 ∷ at 0x4034_0000_0000_0000 ∷ at 0x4034_0000_0000_0000 ∷ pz ∷ []

-- document 01's
abbrev of_scope : List Bool
of_scope =
    same (merge_rows Single 3 (replicate 9 nan)) (0 ∷ 1 ∷ 2 ∷ 3 ∷ [])
    ∷ same (merge_rows Single 4 (four unit unit unit unit unit unit)) (0 ∷ 1 ∷ 2 ∷ 3 ∷ 4 ∷ 5 ∷ [])
    ∷ same (take 2 (merge_rows Single 3 (three unit below40 below40))) (0 ∷ 1 ∷ [])
    ∷ same (take 2 (merge_rows Single 3 (three unit unit below39))) (1 ∷ 2 ∷ [])
    ∷ []

-- 1e-12 itself is a tie, and the double after it isn't: of a pair that is nearer, and of one whose ids come first (2, 3 before 2, 4)
abbrev ties : List Bool
ties =
    same (take 2 (merge_rows Single 3 (three width pz unit))) (0 ∷ 1 ∷ [])
    ∷ same (take 2 (merge_rows Single 3 (three wider pz unit))) (0 ∷ 2 ∷ [])
    ∷ same (merge_rows Single 4 (four pz pz unit pz unit width)) (0 ∷ 1 ∷ 2 ∷ 3 ∷ 4 ∷ 5 ∷ [])
    ∷ same (merge_rows Single 4 (four pz pz unit pz unit wider)) (0 ∷ 1 ∷ 2 ∷ 4 ∷ 3 ∷ 5 ∷ [])
    ∷ []

abbrev methods : List Bool
methods =
    same (merge_rows Complete 3 (replicate 9 nan)) (0 ∷ 1 ∷ 2 ∷ 3 ∷ [])
    ∷ same (merge_rows Average 3 (replicate 9 nan)) (0 ∷ 1 ∷ 2 ∷ 3 ∷ [])
    ∷ same (merge_rows Ward 3 (replicate 9 nan)) (0 ∷ 1 ∷ 2 ∷ 3 ∷ [])
    -- once 0 and 1 are merged, 2 goes to 3 at 4.5 or to them: at 3, 5, 4, and √(64/3)
    ∷ same (merge_rows Single 4 line) (0 ∷ 1 ∷ 2 ∷ 4 ∷ 3 ∷ 5 ∷ [])
    ∷ same (merge_rows Complete 4 line) (0 ∷ 1 ∷ 2 ∷ 3 ∷ 4 ∷ 5 ∷ [])
    ∷ same (merge_rows Average 4 line) (0 ∷ 1 ∷ 2 ∷ 4 ∷ 3 ∷ 5 ∷ [])
    ∷ same (merge_rows Ward 4 line) (0 ∷ 1 ∷ 2 ∷ 3 ∷ 4 ∷ 5 ∷ [])
    -- and to 3 at 4.75
    ∷ same (merge_rows Complete 4 longer) (0 ∷ 1 ∷ 2 ∷ 3 ∷ 4 ∷ 5 ∷ [])
    ∷ same (merge_rows Ward 4 longer) (0 ∷ 1 ∷ 2 ∷ 4 ∷ 3 ∷ 5 ∷ [])
    -- "in its order of operations": 5.6, 9.9, 1.7 by sizes 8.9, 2.2, 5.8, and 6.4, 7.5 by sizes 2, 8, where another order or grouping ends in other bits
    ∷ eqb (to_bits binary64 (update_f Ward (at 0x4016_6666_6666_6666) (at 0x4023_cccc_cccc_cccd) (at 0x3ffb_3333_3333_3333) (at 0x4021_cccc_cccc_cccd) (at 0x4001_9999_9999_999a) (at 0x4017_3333_3333_3333)))
    0x4021_0cf6_9eb4_5ce4
    ∷ eqb (to_bits binary64 (update_f Average (at 0x4019_9999_9999_999a) (at 0x401e_0000_0000_0000) unit two (at 0x4020_0000_0000_0000) unit)) 0x401d_1eb8_51eb_851e
    -- rows 1 and 2 are read, not columns: 0 is 3 from them, nearer than the 5 to asset 3
    ∷ same (merge_rows Single 4 lopsided) (1 ∷ 2 ∷ 0 ∷ 4 ∷ 3 ∷ 5 ∷ [])
    ∷ []

-- 0 where a call went through, else the refusal's number
abbrev told : Outcome → ℕ
told (Ok _) = 0
told (Err r) = number_of r

abbrev calls : List Bool
calls =
    same (children_rows Single [] 0 0 3) (0 ∷ 0 ∷ 0 ∷ [])
    ∷ eqb (told (children_outcome [] 0 0 0)) 0
    ∷ eqb (told (children_outcome (nan ∷ []) 1 1 0)) 0
    ∷ same (children_rows Single (three unit unit below39) 3 3 5) (1 ∷ 2 ∷ 0 ∷ 3 ∷ 0 ∷ [])
    -- in order: 9, 10, 11, then 3
    ∷ eqb (told (children_outcome [] 0 65 0)) 9
    ∷ eqb (told (children_outcome [] 2 3 0)) 10
    ∷ eqb (told (children_outcome (replicate 6 nan) 2 3 3)) 11
    ∷ eqb (told (children_outcome (replicate 6 nan) 2 3 4)) 3
    ∷ same (children_rows Ward (replicate 6 nan) 2 3 4) (0 ∷ 0 ∷ 0 ∷ 0 ∷ [])
    ∷ []

-- document 02: "(n³ − n)/6 pairs in all for n ≥ 1", "zero on refusal"
abbrev counts : List Bool
counts =
    eqb (pairs_visited Single 0 []) 0
    ∷ eqb (pairs_visited Single 1 (nan ∷ [])) 0
    ∷ eqb (pairs_visited Ward 3 (replicate 9 nan)) 4
    ∷ eqb (pairs_visited Single 4 lopsided) 10
    ∷ eqb (pairs_of (children_answer Single lopsided 4 4 6)) 10
    ∷ eqb (pairs_of (children_answer Single lopsided 4 4 5)) 0
    ∷ []

abbrev is_linkage : NamedLinkage → ℕ
is_linkage (Ok Single) = 100
is_linkage (Ok Complete) = 101
is_linkage (Ok Average) = 102
is_linkage (Ok Ward) = 103
is_linkage (Err r) = number_of r

abbrev is_distance : NamedDistance → ℕ
is_distance (Ok Correlation) = 100
is_distance (Ok DistanceOfDistances) = 101
is_distance (Err r) = number_of r

abbrev names : List Bool
names =
    eqb (is_linkage (linkage_named (bytes "Single"))) 100
    ∷ eqb (is_linkage (linkage_named (bytes "complete"))) 101
    ∷ eqb (is_linkage (linkage_named (bytes "avErage"))) 102
    ∷ eqb (is_linkage (linkage_named (bytes "WARD"))) 103
    ∷ eqb (is_linkage (linkage_named (bytes "ward "))) 8
    ∷ eqb (is_linkage (linkage_named (bytes ""))) 8
    ∷ eqb (is_distance (distance_named (bytes "CORRELATION"))) 100
    ∷ eqb (is_distance (distance_named (bytes "Distance_of_Distances"))) 101
    ∷ eqb (is_distance (distance_named (bytes "distance-of-distances"))) 7
    ∷ eqb (is_distance (distance_named (bytes ""))) 7
    ∷ []

pub figures : all of_scope && all ties && all methods && all calls && all counts && all names ≡ true
unfolding ward_f update_f pair_before near better offer look scan_row scan_from scan_all both movable moved moved_all merged step copied start state_at merge_rows count_one count_row count_from count_all pairs_at pairs_visited children_table children_outcome joined_of children_answer pairs_of children_rows distance_named linkage_named same lower lowered is_word first over_limit other_length sizes laid range span min_of max_of abs_of root isqrt lt le eq is_nan neg add sum sub mul div round units odd count_trailing_zeros size ieee-span climb of_fields of_bits to_bits
figures = refl
