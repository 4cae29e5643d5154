-- Each line that `weights` prints is read as what it was printed for. Assumes nothing.
use Prim.Native.Nat.{ℕ, zero, suc, ◌-◌, ◌*◌, ◌%◌, ◌≤◌, ◌<◌}
use mathlib.Core.Path.{◌≡◌, refl, sym, ap, ◌∙◌}
use mathlib.Core.Bool.{Bool, true, false, not, ◌&&◌, ◌||◌}
use mathlib.Core.List.{List, [], ◌∷◌, ◌++◌, append_assoc, append-nil}
use native.Mathlib.Nat.{mod-lt, mul-suc}
use native.Mathlib.Omega.{arith}
use borrow.Author.Tests.{le-leb, leb-true, lt-ltb, eq-eqb, ne_eqb, not-true}
use lib.Dec.{leb, eqb}
use lib.ListN.{length, get_or, length-append}
use lib.Ieee.{binary64, to_bits}
use Rattle.refusal.specs.Refusal.{number_of}
use Rattle.refusal.specs.declared.Refusal.{Refusal}
use Rattle.refusal.specs.declared.Refusal.TheVariants.{
  NoData,
  UnknownAllocationMetric,
  DimensionMismatch,
  MissingExpectedReturnsForSharpe,
  UnknownReturns,
  InvalidNumClusters,
  UnknownDistance,
  UnknownLinkage,
  OverLimit,
  SliceLength,
  ShortBuffer,
  WeightOutOfRange,
  NoTree,
  MalformedText,
  MissingReturnsForTailRisk,
  ConfidenceOutOfRange,
  TotalOutOfReach,
  CeilingsTooLow,
}
use Rattle.text.specs.Bytes.{bytes, same}
use Rattle.fields.specs.Split.{newline, tabulator, split, all}
use Rattle.fields.specs.Numerals.{digit, in_base, number, is_bits, is_numeral}
use Rattle.fields.proofs.Every.{both_left, both_right, three_yes}
use Rattle.names.specs.Names.{in_name, is_name}
use Rattle.writing.specs.Writing.{digit_byte, digits, places, decimal, hex_of}
use Rattle.writing.proofs.Digits.{hex_length, decimal_short}
use Rattle.writing.proofs.Meaning.{digits_worth, decimal_worth, decimal_front}
use Rattle.slips.specs.Slips.{is_trim, is_amount, is_given, is_held, held_in, order_in, refused_in, slip_in, slip_of}
use Rattle.slips.specs.declared.Slip.TheVariants as slip
use Rattle.listing.specs.Listing.{ceiling_field, holding_line, refusal_line}
use Rattle.listing.specs.declared.Holding.{Holding}
use Rattle.claims.proofs.Parted.{Free, AllFree, free_append, free_by, parted, split_parted, parted_free}
use Rattle.std.specs.Prelude.{Some, None}
use Rattle.listing.specs.Outcomes.{Ceiling}

-- ---- digits

-- a test of every entry, of two lists one after the other
pub all_append : {A : Type 0} (f : A → Bool) (v w : List A) → all f v ≡ true → all f w ≡ true → all f (v ++ w) ≡ true
unfolding all
all_append f [] w g h = h
all_append f (b ∷ v) w g h = rw (both_left (f b) (all f v) g) (all_append f v w (both_right (f b) (all f v) g) h)

-- a digit that is written is worth itself
digit_back : (d : ℕ) → d < 16 → digit (digit_byte d) ≡ d
unfolding digits number
digit_back d h =
    let e : d % 16 ≡ d = omega arith in
    let z = digits_worth 16 1 d (omega arith) (omega arith) h in
    let y : digit (digit_byte (d % 16)) ≡ d = omega (arith, z) in
    ap (λ (k : ℕ). digit (digit_byte k)) (sym e) ∙ y

-- what is written in a base up to 16 are digits of the base
pub digits_in : (base k n : ℕ) → 0 < base → base ≤ 16 → all (in_base base) (digits base k n) ≡ true
unfolding digits all
digits_in base zero n z h = refl
digits_in base (suc k) n z h =
    let m = mod-lt n z in
    let e = digit_back (n % base) (omega arith) in
    all_append (in_base base) (digits base k _) (digit_byte (n % base) ∷ []) (digits_in base k _ z h) (rw (e, lt-ltb (n % base) base m))

-- a number is printed in digits of base 10
pub decimal_in : (n : ℕ) → all (in_base 10) (decimal n) ≡ true
unfolding decimal
decimal_in n = digits_in 10 (places 19 n) n (omega arith) (omega arith)

-- bits are printed in digits of base 16
pub hex_in : (n : ℕ) → all (in_base 16) (hex_of n) ≡ true
unfolding hex_of
hex_in n = digits_in 16 16 n (omega arith) (omega arith)

-- the bits of a double, as they are printed, are bits
pub hex_bits : (n : ℕ) → is_bits (hex_of n) ≡ true
unfolding is_bits
hex_bits n = rw (eq-eqb (length (hex_of n)) 16 (hex_length n)) (hex_in n)

-- digits that do not begin with 0
trim_of : (w : List ℕ) → length w ≤ 9 → all (in_base 10) w ≡ true → 48 < get_or w 0 0 → is_trim w ≡ true
unfolding is_trim is_numeral
trim_of [] l h f = absurd (omega arith)
trim_of (b ∷ w) l h f =
    rw (le-leb 1 (length (b ∷ w)) (omega arith), le-leb (length (b ∷ w)) 9 l, h, ne_eqb b 48 (λ e. omega arith)) (or_true (eqb (length (b ∷ w)) 1))
  where
    or_true : (t : Bool) → (t || true) ≡ true
    or_true true = refl
    or_true false = refl

-- 0 itself is one digit
trim_zero : is_trim (decimal 0) ≡ true
unfolding is_trim is_numeral digit all decimal places digits digit_byte
trim_zero = refl

-- a number up to 9,999,999, as it is printed, has no leading zeros
pub decimal_trim : (n : ℕ) → n < 10000000 → is_trim (decimal n) ≡ true
decimal_trim zero h = trim_zero
decimal_trim (suc n) h = trim_of (decimal (suc n)) (omega (arith, decimal_short (suc n) h)) (decimal_in (suc n)) (decimal_front (suc n) (omega arith) (omega arith))

-- millionths, or a ceiling, as they are printed
pub decimal_amount : (n : ℕ) → n ≤ 1000000 → is_amount (decimal n) ≡ true
unfolding is_amount
decimal_amount n h = rw (decimal_trim n (omega arith), decimal_worth n (omega arith)) (le-leb n 1000000 h)

-- the number of a refusal, as it is printed
pub decimal_given : (n : ℕ) → 1 ≤ n → n ≤ 20 → is_given (decimal n) ≡ true
unfolding is_given
decimal_given n g h = rw (decimal_trim n (omega arith), decimal_worth n (omega arith), le-leb 1 n g) (le-leb n 20 h)

-- ---- no tab and no newline in a field

-- a name has only bytes of names
pub name_free : (d : ℕ) (w : List ℕ) → in_name d ≡ false → is_name w ≡ true → Free d w
unfolding is_name
name_free d w e h =
    let y = three_yes (leb 1 (length w)) (leb (length w) 16) (all in_name w && (not (same w (bytes "order")) && not (same w (bytes "refused")))) h in
    free_by in_name d w e (both_left (all in_name w) _ y.2)

-- and at most 16 of them
name_short : (w : List ℕ) → is_name w ≡ true → length w ≤ 16
unfolding is_name
name_short w h =
    let y = three_yes (leb 1 (length w)) (leb (length w) 16) (all in_name w && (not (same w (bytes "order")) && not (same w (bytes "refused")))) h in
    leb-true (length w) 16 y.1

-- a name is no `order` and no `refused`
name_other : (w : List ℕ) → is_name w ≡ true → (same w (bytes "order") ≡ false) × (same w (bytes "refused") ≡ false)
unfolding is_name
name_other w h =
    let y = three_yes (leb 1 (length w)) (leb (length w) 16) (all in_name w && (not (same w (bytes "order")) && not (same w (bytes "refused")))) h in
    let n = both_right (all in_name w) _ y.2 in
    (not-true _ (both_left (not (same w (bytes "order"))) _ n), not-true _ (both_right (not (same w (bytes "order"))) _ n))

-- the same of each of several names
names_free : (d : ℕ) (ws : List (List ℕ)) → in_name d ≡ false → all is_name ws ≡ true → AllFree d ws
unfolding all
names_free d [] e h = tt
names_free d (w ∷ ws) e h = (name_free d w e (both_left (is_name w) (all is_name ws) h), names_free d ws e (both_right (is_name w) (all is_name ws) h))

-- a printed number has only digits
decimal_free : (d n : ℕ) → in_base 10 d ≡ false → Free d (decimal n)
decimal_free d n e = free_by (in_base 10) d (decimal n) e (decimal_in n)

-- printed bits have only digits
hex_free : (d n : ℕ) → in_base 16 d ≡ false → Free d (hex_of n)
hex_free d n e = free_by (in_base 16) d (hex_of n) e (hex_in n)

-- bytes that are in no field: neither in a name nor a digit
record Between (d : ℕ) : Type 0 where
  names : in_name d ≡ false
  tens : in_base 10 d ≡ false
  sixteens : in_base 16 d ≡ false

-- a tab and a newline are such bytes
tab_between : Between tabulator
unfolding digit
tab_between = record { names = refl; tens = refl; sixteens = refl }

line_between : Between newline
unfolding digit
line_between = record { names = refl; tens = refl; sixteens = refl }

-- ---- an asset's line

-- a ceiling is at most a million, where there is one
abbrev pub Limited : Ceiling → Type 0
Limited None = Unit
Limited (Some c) = c ≤ 1000000

-- the fields after the name: bits, millionths, and a ceiling where there is one
abbrev ceiling_fields : Ceiling → List (List ℕ)
ceiling_fields None = []
ceiling_fields (Some c) = decimal c ∷ []

abbrev held_fields : Holding → List (List ℕ)
held_fields h = hex_of (to_bits binary64 h.weight) ∷ decimal h.millionths ∷ ceiling_fields h.ceiling

-- the line of a holding, without its newline
unfoldable pub held_line : List ℕ → Holding → List ℕ
unfolding decimal hex_of
held_line w h = w ++ parted tabulator (held_fields h)

-- the ceiling as `weights` prints it is that field, after its tab
ceiling_fields_lem : (c : Ceiling) → ceiling_field c ≡ parted tabulator (ceiling_fields c)
unfolding ceiling_field
ceiling_fields_lem None = refl
ceiling_fields_lem (Some c) = ap (λ (l : List ℕ). tabulator ∷ l) (sym (append-nil (decimal c)))

-- what `weights` prints of a holding is that line and a newline
pub holding_line_lem : (w : List ℕ) (h : Holding) → holding_line w h ≡ held_line w h ++ (newline ∷ [])
unfolding holding_line held_line
holding_line_lem w h = rw (ceiling_fields_lem h.ceiling) (simp append_assoc)

-- a byte between fields is in none of them
fields_free : (d : ℕ) (h : Holding) → Between d → AllFree d (held_fields h)
fields_free d h b = (hex_free d (to_bits binary64 h.weight) b.sixteens, (decimal_free d h.millionths b.tens, go h.ceiling))
  where
    go : (c : Ceiling) → AllFree d (ceiling_fields c)
    go None = tt
    go (Some c) = (decimal_free d c b.tens, tt)

-- no byte of the line is a newline
pub held_free : (w : List ℕ) (h : Holding) → is_name w ≡ true → Free newline (held_line w h)
unfolding held_line
held_free w h n = free_append newline w (parted tabulator (held_fields h)) (name_free newline w refl n) (parted_free newline tabulator (held_fields h) (λ e. omega arith) (fields_free newline h line_between))

-- cut at its tabs it is the name and those fields
pub held_split : (w : List ℕ) (h : Holding) → is_name w ≡ true → split tabulator (held_line w h) ≡ w ∷ held_fields h
unfolding held_line
held_split w h n = split_parted tabulator w (held_fields h) (name_free tabulator w refl n) (fields_free tabulator h tab_between)

-- a ceiling takes at most 8 bytes with its tab
ceiling_short : (c : Ceiling) → Limited c → length (parted tabulator (ceiling_fields c)) ≤ 8
ceiling_short None l = omega arith
ceiling_short (Some c) l = rw (append-nil (decimal c)) (omega (arith, decimal_short c (omega arith)))

-- the line has at most 49 bytes
held_short : (w : List ℕ) (h : Holding) → is_name w ≡ true → h.millionths ≤ 1000000 → Limited h.ceiling → length (held_line w h) ≤ 49
unfolding held_line
held_short w h n m l =
    simp length-append (omega (arith, name_short w n, hex_length (to_bits binary64 h.weight), decimal_short h.millionths (omega arith), ceiling_short h.ceiling l))

-- three fields, or four, the last an amount
held_in_lem : (w b m : List ℕ) (c : Ceiling) → is_name w ≡ true → is_bits b ≡ true → is_amount m ≡ true → Limited c → is_held (w ∷ b ∷ m ∷ ceiling_fields c) ≡ true
unfolding is_held
held_in_lem w b m None n h a l = rw (n, h, a)
held_in_lem w b m (Some c) n h a l = rw (n, h, a, decimal_amount c l)

-- a short line whose first field is neither word is a holding or none
slip_held : (l w : List ℕ) (ws : List (List ℕ)) → length l ≤ 4357 → split tabulator l ≡ w ∷ ws → same w (bytes "order") ≡ false → same w (bytes "refused") ≡ false → slip_of l ≡ held_in (w ∷ ws)
unfolding slip_of slip_in
slip_held l w ws h e o r = rw (le-leb (length l) 4357 h, e, o, r)

-- an asset's line is read as its millionths
pub holding_read : (w : List ℕ) (h : Holding) → is_name w ≡ true → h.millionths ≤ 1000000 → Limited h.ceiling → slip_of (held_line w h) ≡ slip.Held h.millionths
unfolding held_in
holding_read w h n m l =
    let o = name_other w n in
    slip_held (held_line w h) w (held_fields h) (omega (arith, held_short w h n m l)) (held_split w h n) o.0 o.1
    ∙ rw (held_in_lem w (hex_of (to_bits binary64 h.weight)) (decimal h.millionths) h.ceiling n (hex_bits (to_bits binary64 h.weight)) (decimal_amount h.millionths m) l)
    (ap slip.Held (decimal_worth h.millionths (omega arith)))

-- ---- the leaf order's line

-- the order's line, without its newline
unfoldable pub order_line : List (List ℕ) → List ℕ
order_line ws = bytes "order" ++ parted tabulator ws

-- no byte of it is a newline
pub order_free : (ws : List (List ℕ)) → all is_name ws ≡ true → Free newline (order_line ws)
unfolding order_line all
order_free ws h = free_append newline (bytes "order") (parted tabulator ws) (free_by in_name newline (bytes "order") refl refl) (parted_free newline tabulator ws (λ e. omega arith) (names_free newline ws refl h))

-- a name takes at most 17 bytes with its tab
parted_le : (ws : List (List ℕ)) → all is_name ws ≡ true → length (parted tabulator ws) ≤ 17 * length ws
unfolding all
parted_le [] h = omega arith
parted_le (w ∷ ws) h =
    simp length-append (omega (arith, name_short w (both_left (is_name w) (all is_name ws) h), parted_le ws (both_right (is_name w) (all is_name ws) h), mul-suc 17 (length ws)))

-- a short line whose first field is `order` and whose others are names
slip_order : (l : List ℕ) (ws : List (List ℕ)) → length l ≤ 4357 → split tabulator l ≡ bytes "order" ∷ ws → all is_name ws ≡ true → slip_of l ≡ slip.Order (length ws)
unfolding slip_of slip_in order_in same
slip_order l ws h e n = let m : suc (length ws) - 1 ≡ length ws = omega arith in rw (le-leb (length l) 4357 h, e, n) (ap slip.Order m)

-- the order's line is read as so many names
pub order_read : (ws : List (List ℕ)) → all is_name ws ≡ true → length ws ≤ 256 → slip_of (order_line ws) ≡ slip.Order (length ws)
unfolding order_line all
order_read ws n h =
    slip_order (bytes "order" ++ parted tabulator ws) ws (simp length-append (omega (arith, parted_le ws n)))
    (split_parted tabulator (bytes "order") ws (free_by in_name tabulator (bytes "order") refl refl) (names_free tabulator ws refl n)) n

-- ---- a refusal's line

-- a refusal's line, without its newline
unfoldable pub refused_line : ℕ → List ℕ
unfolding decimal
refused_line k = bytes "refused" ++ parted tabulator (decimal k ∷ [])

-- what `weights` prints of a refusal is that line and a newline
pub refusal_line_lem : (k : ℕ) → refusal_line k ≡ refused_line k ++ (newline ∷ [])
unfolding refusal_line refused_line
refusal_line_lem k = rw (append-nil (decimal k)) (simp append_assoc)

-- no byte of it is a newline
pub refused_free : (k : ℕ) → Free newline (refused_line k)
unfolding refused_line all
refused_free k =
    free_append newline (bytes "refused") (parted tabulator (decimal k ∷ [])) (free_by in_name newline (bytes "refused") refl refl)
    (parted_free newline tabulator (decimal k ∷ []) (λ e. omega arith) (decimal_free newline k line_between.tens, tt))

-- a short line of two fields, `refused` and a number that is given
slip_refused : (l w : List ℕ) → length l ≤ 4357 → split tabulator l ≡ bytes "refused" ∷ w ∷ [] → is_given w ≡ true → slip_of l ≡ slip.Refused
unfolding slip_of slip_in refused_in same
slip_refused l w h e g = rw (le-leb (length l) 4357 h, e, g)

-- a refusal's number is one that the documents give
pub number_given : (r : Refusal) → (1 ≤ number_of r) × (number_of r ≤ 20)
number_given NoData = (omega arith, omega arith)
number_given UnknownAllocationMetric = (omega arith, omega arith)
number_given DimensionMismatch = (omega arith, omega arith)
number_given MissingExpectedReturnsForSharpe = (omega arith, omega arith)
number_given UnknownReturns = (omega arith, omega arith)
number_given (InvalidNumClusters requested assets) = (omega arith, omega arith)
number_given UnknownDistance = (omega arith, omega arith)
number_given UnknownLinkage = (omega arith, omega arith)
number_given OverLimit = (omega arith, omega arith)
number_given SliceLength = (omega arith, omega arith)
number_given ShortBuffer = (omega arith, omega arith)
number_given WeightOutOfRange = (omega arith, omega arith)
number_given NoTree = (omega arith, omega arith)
number_given MalformedText = (omega arith, omega arith)
number_given MissingReturnsForTailRisk = (omega arith, omega arith)
number_given ConfidenceOutOfRange = (omega arith, omega arith)
number_given TotalOutOfReach = (omega arith, omega arith)
number_given CeilingsTooLow = (omega arith, omega arith)

-- the line of a number from 1 to 20 is read as a refusal
pub refused_read : (k : ℕ) → 1 ≤ k → k ≤ 20 → slip_of (refused_line k) ≡ slip.Refused
unfolding refused_line all
refused_read k g h =
    slip_refused (bytes "refused" ++ parted tabulator (decimal k ∷ [])) (decimal k) (rw (append-nil (decimal k)) (omega (arith, decimal_short k (omega arith))))
    (split_parted tabulator (bytes "refused") (decimal k ∷ []) (free_by in_name tabulator (bytes "refused") refl refl) (decimal_free tabulator k tab_between.tens, tt))
    (decimal_given k g h)

-- every refusal's line is read as one
pub refusal_read : (r : Refusal) → slip_of (refused_line (number_of r)) ≡ slip.Refused
refusal_read r = let n = number_given r in refused_read (number_of r) n.0 n.1
