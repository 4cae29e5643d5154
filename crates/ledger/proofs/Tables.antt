-- The lent table as numbers: positions and their numbers say the same. Assumes nothing.
use Prim.Native.Nat.{ℕ, zero, suc, ◌+◌, ◌*◌, ◌<◌, ◌≤◌}
use mathlib.Core.Path.{◌≡◌, refl, sym, ap, ◌∙◌}
use mathlib.Core.List.{List, [], ◌∷◌, ◌++◌, append_assoc, append-nil}
use native.Mathlib.Nat.{add-zero, suc-mul, add_comm}
use native.Mathlib.Numerals.{towards_suc}
use native.Mathlib.Omega.{arith}
use lib.ListN.{length, get_or, take, drop}
use lib.Seq.{take-add, take_all, drop-nil, drop-cons, drop-append-add, get_or-append-add, get_or-take, ext_get_or, length-take-le}
use Rattle.lent.specs.Grid.{tab, over}
use Rattle.ledger.specs.Ledger.{position_at, positions, first_ones, numbers_of, table_of}
use Rattle.ledger.specs.declared.Position.{Position}
use Rattle.ledger.proofs.Storing.{length_positions, position_there}

-- ---- positions one after the other

pub table_append : (a b : List Position) → table_of (a ++ b) ≡ table_of a ++ table_of b
unfolding table_of
table_append [] b = refl
table_append (p ∷ a) b = ap (λ (z : List ℕ). numbers_of p ++ z) (table_append a b) ∙ sym (append_assoc (numbers_of p) (table_of a) (table_of b))

pub table_length : (l : List Position) → length (table_of l) ≡ length l * 7
unfolding table_of numbers_of
table_length [] = refl
table_length (p ∷ l) = omega (arith, table_length l, suc-mul (length l) 7)

pub table_drop : (k : ℕ) (l : List Position) → table_of (drop k l) ≡ drop (k * 7) (table_of l)
unfolding table_of numbers_of
table_drop zero l = refl
table_drop (suc k) [] = sym (drop-nil (suc k * 7))
table_drop (suc k) (p ∷ l) =
    table_drop k l
    ∙ sym (ap (λ (n : ℕ). drop n (numbers_of p ++ table_of l)) (suc-mul k 7 ∙ add_comm (k * 7) 7) ∙ drop-append-add (numbers_of p) (table_of l) (k * 7))

-- ---- a table of numbers, read as positions and written again

-- seven numbers from a place on
seven : (t : List ℕ) (k : ℕ) → k + 7 ≤ length t
    → take 7 (drop k t) ≡ get_or t k 0 ∷ get_or t (k + 1) 0 ∷ get_or t (k + 2) 0 ∷ get_or t (k + 3) 0 ∷ get_or t (k + 4) 0 ∷ get_or t (k + 5) 0 ∷ get_or t (k + 6) 0 ∷ []
seven t k h =
    simp towards_suc
    (rw (
      drop-cons t k 0 (omega arith),
      drop-cons t (suc k) 0 (omega arith),
      drop-cons t (suc (suc k)) 0 (omega arith),
      drop-cons t (suc (suc (suc k))) 0 (omega arith),
      drop-cons t (suc (suc (suc (suc k)))) 0 (omega arith),
      drop-cons t (suc (suc (suc (suc (suc k))))) 0 (omega arith),
      drop-cons t (suc (suc (suc (suc (suc (suc k)))))) 0 (omega arith),
    ))

read_numbers : (t : List ℕ) (n : ℕ) → n * 7 + 7 ≤ length t → numbers_of (position_at t n) ≡ take 7 (drop (n * 7) t)
unfolding numbers_of position_at
read_numbers t n h = sym (seven t (n * 7) h)

pub table_read : (t : List ℕ) (n : ℕ) → n * 7 ≤ length t → table_of (tab n (position_at t)) ≡ take (n * 7) t
unfolding tab table_of
table_read t zero h = refl
table_read t (suc n) h =
    let g = suc-mul n 7 in
    table_append (tab n (position_at t)) (position_at t n ∷ [])
    ∙ ap (λ (z : List ℕ). z ++ (numbers_of (position_at t n) ++ [])) (table_read t n (omega arith))
    ∙ ap (λ (z : List ℕ). take (n * 7) t ++ z) (append-nil (numbers_of (position_at t n)) ∙ read_numbers t n (omega arith))
    ∙ sym (ap (λ (k : ℕ). take k t) g ∙ take-add (n * 7) 7 t)

-- the table's numbers are those of its positions
pub table_same : (t : List ℕ) → length t ≡ 1792 → table_of (positions t) ≡ t
unfolding positions
table_same t long = table_read t 256 (omega arith) ∙ take_all 1792 t (omega arith)

-- positions written over the front of a table are their numbers written over its front
pub table_over : (t t' : List ℕ) (l : List Position) → length t ≡ 1792 → length t' ≡ 1792 → positions t' ≡ over l (positions t) → t' ≡ over (table_of l) t
unfolding over
table_over t t' l long long' e =
    sym (table_same t' long')
    ∙ ap table_of e
    ∙ table_append l (drop (length l) (positions t))
    ∙ ap (λ (z : List ℕ). table_of l ++ z) (table_drop (length l) (positions t) ∙ ap (drop (length l * 7)) (table_same t long) ∙ ap (λ (k : ℕ). drop k t) (sym (table_length l)))

-- ---- positions written down and read again

number_at : (p : Position) (l : List Position) (rest : List ℕ) (i c : ℕ) → get_or (table_of (p ∷ l) ++ rest) (suc i * 7 + c) 0 ≡ get_or (table_of l ++ rest) (i * 7 + c) 0
unfolding table_of numbers_of
number_at p l rest i c =
    let e : suc i * 7 + c ≡ 7 + (i * 7 + c) = omega (arith, suc-mul i 7) in
    ap (λ (k : ℕ). get_or (table_of (p ∷ l) ++ rest) k 0) e ∙ get_or-append-add (numbers_of p) (table_of l ++ rest) (i * 7 + c) 0

number_first : (p : Position) (l : List Position) (rest : List ℕ) (i : ℕ) → get_or (table_of (p ∷ l) ++ rest) (suc i * 7) 0 ≡ get_or (table_of l ++ rest) (i * 7) 0
number_first p l rest i =
    ap (λ (k : ℕ). get_or (table_of (p ∷ l) ++ rest) k 0) (sym (add-zero (suc i * 7)))
    ∙ number_at p l rest i 0
    ∙ ap (λ (k : ℕ). get_or (table_of l ++ rest) k 0) (add-zero (i * 7))

next_position : (p : Position) (l : List Position) (rest : List ℕ) (i : ℕ) → position_at (table_of (p ∷ l) ++ rest) (suc i) ≡ position_at (table_of l ++ rest) i
unfolding position_at
next_position p l rest i =
    rw (
      number_first p l rest i,
      number_at p l rest i 1,
      number_at p l rest i 2,
      number_at p l rest i 3,
      number_at p l rest i 4,
      number_at p l rest i 5,
      number_at p l rest i 6,
    )

pub table_at : (l : List Position) (rest : List ℕ) (i : ℕ) (d : Position) → i < length l → position_at (table_of l ++ rest) i ≡ get_or l i d
unfolding table_of numbers_of position_at
table_at [] rest i d h = absurd (omega arith)
table_at (p ∷ l) rest zero d h = refl
table_at (p ∷ l) rest (suc i) d h = next_position p l rest i ∙ table_at l rest i d (omega arith)

-- the positions at the front of a table are those that were written there
pub table_first : (l : List Position) (t : List ℕ) → length l ≤ 256 → first_ones (length l) (over (table_of l) t) ≡ l
unfolding first_ones over
table_first [] t h = refl
table_first (d ∷ l) t h =
    let m = d ∷ l in
    let u = over (table_of m) t in
    let w : length (take (length m) (positions u)) ≡ length m = length-take-le (length m) (positions u) (omega (arith, length_positions u)) in
    ext_get_or d (take (length m) (positions u)) m w
    (λ i g.
    let k : i < length m = omega arith in
    get_or-take (length m) (positions u) i d k ∙ position_there u i d (omega arith) ∙ table_at m (drop (length (table_of m)) t) i d k)
