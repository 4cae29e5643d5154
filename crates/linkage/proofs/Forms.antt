-- In either form the scan and the update are those of the square form, which specs/Merge.antt has: what is held at the start, and what stays held. Assumes nothing.
use Prim.Native.Nat.{ℕ, zero, suc, ◌+◌, ◌-◌, ◌*◌, ◌≤◌, ◌<◌, zero-le}
use mathlib.Core.Path.{◌≡◌, refl, sym, ap, ◌∙◌, subst}
use mathlib.Core.Logic.{⊎_elim}
use mathlib.Core.Bool.{Bool, true, false, not, ◌&&◌, cond, false≢true}
use mathlib.Core.List.{List}
use native.Mathlib.Nat.{eq-or-lt_of_le, le_of_suc-le-suc, lt_irrefl, lt_of_lt_of_le}
use native.Mathlib.Omega.{arith}
use lib.ListN.{length, get_or, set, take, drop, length-drop, length-set, length-replicate}
use lib.Seq.{take-length, get_or-drop, get_or-set_same, get_or-set_other}
use lib.Dec.{T, eqb}
use lib.Ieee.{Float, nan, binary64, fits}
use borrow.Author.Tests.{le-leb, eq-eqb, ne_eqb}
use Rattle.arithmetic.specs.Constants.{pz}
use Rattle.lent.specs.Grid.{cell, zeros}
use Rattle.lent.specs.Range.{range}
use Rattle.lent.proofs.Laws.{either, same_or_not, cell_lt, square_in}
use Rattle.lent.proofs.Range.{range_suc, range_keeps, range_same, range_two}
use Rattle.pairing.specs.declared.Best.{Best}
use Rattle.slots.specs.Inner.{Below, Rising}
use Rattle.triangle.specs.declared.Form.{Form}
use Rattle.triangle.specs.declared.Form.TheVariants.{Square, Triangle}
use Rattle.triangle.specs.Triangle.{met, place_of, has_room, mirrored, upper_of}
use Rattle.triangle.specs.Inner.{room_of, held_at, write_of, Lined, Holds}
use Rattle.triangle.proofs.Places.{less_off}
use Rattle.triangle.proofs.Within.{place_right, place_left, within}
use Rattle.triangle.proofs.Written.{length_write, square_read, holds_write, holds_upper, holds_square}
use Rattle.triangle.proofs.Meaning.{mirrored_cells}
use Rattle.linkage.specs.declared.Linkage.{Linkage}
use Rattle.linkage.specs.declared.Merging.{Merging}
use Rattle.linkage.specs.Merge.{nothing, offer, update_f, copied}
use Rattle.linkage.specs.Inner.{meet, meet_row, meet_all, Merges, drawn, drawn_at, tried_of}
use Rattle.std.specs.Prelude.{Some, None}
use Rattle.linkage.specs.Outcomes.{Tried}

-- ---- the accessor

pub lower : (r c : ℕ) → (r ≡ c → ⊥) → c ≤ r → c < r
lower r c ne l = ⊎_elim (λ q. absurd (ne (sym q))) (λ z. z) (eq-or-lt_of_le l)

pub below_place : (form : Form) (n r c k : ℕ) (shifts : List ℕ) → form ≡ Triangle → c ≤ r → (r ≡ c → ⊥) → r < n → Lined form n shifts → k ≡ get_or shifts c 0
    → k + (r - 1) ≡ place_of form n r c
below_place form n r c k shifts t l ne hr lined e =
    place_left n r c k shifts (lower r c ne l) hr (subst (λ (f : Form). Lined f n shifts) t lined) e ∙ ap (λ (f : Form). place_of f n r c) (sym t)

-- what is written: both cells of the square, the one place of the triangle
pub square_cell : (form : Form) (n i x room : ℕ) → form ≡ Square → i < n → x < n → room_of form n ≤ room → i * n + x < room
unfolding room_of
square_cell form n i x room t hi hx fit =
    let f : n * n ≤ room = subst (λ (g : Form). room_of g n ≤ room) t fit in
    lt_of_lt_of_le (cell_lt n n i x hi hx) f

pub wrote_square : (form : Form) (n x i k : ℕ) (v : Float) (d : List Float) → form ≡ Square → k ≡ place_of form n x i → set (set d k v) (i * n + x) v ≡ write_of form n x i v d
unfolding write_of place_of
wrote_square form n x i k v d t e = rw (e, t) refl

pub wrote_triangle : (form : Form) (n x i k : ℕ) (v : Float) (d : List Float) → form ≡ Triangle → k ≡ place_of form n x i → set d k v ≡ write_of form n x i v d
unfolding write_of
wrote_triangle form n x i k v d t e = rw (e, t) refl

-- ---- the scan: right of the diagonal alone, so that no slot meets itself

pub scan_same : (form : Form) (n m : ℕ) (d cells : List Float) (ids slots : List ℕ) → Below n m slots → Rising m slots → Holds form n d cells
    → meet_all (held_at form n d) ids slots m ≡ meet_all (cell cells n) ids slots m
unfolding meet_all meet_row meet
scan_same form n m d cells ids slots below rising h =
    range_same (meet_row (held_at form n d) ids slots m) (meet_row (cell cells n) ids slots m) 0 m nothing
    (λ i t l r.
    let a = get_or slots i 0 in
    range_same (meet (held_at form n d) ids slots a) (meet (cell cells n) ids slots a) (i + 1) m t
    (λ j u l' r'.
    let b = get_or slots j 0 in
    let lt : a < b = rising i j (omega arith) r' in
    ap (λ (z : Float). offer a b z (get_or ids a 0) (get_or ids b 0) u) (h.same a b (below i r) (below j r') (less_off a b lt))))

-- one row, cut off at its shift: the slots of its pairs rise, so that each stands right of the diagonal
abbrev pub along : List Float → ℕ → ℕ → Float
along row a b = get_or row (b - 1) nan

pub cut_off : (d : List Float) (k : ℕ) → take (length d - k) (drop k d) ≡ drop k d
cut_off d k = ap (λ (j : ℕ). take j (drop k d)) (sym (length-drop k d)) ∙ take-length (drop k d)

module _ (form : Form) (n m : ℕ) (d : List Float) (slots shifts : List ℕ) (i from shift : ℕ) (row : List Float) (h : n ≤ 64) (l : i < from) (below : Below n m slots) (rising : Rising m slots)
    (lined : Lined form n shifts) (fit : room_of form n ≤ length d) (e : shift ≡ get_or shifts (get_or slots i 0) 0) (cut : row ≡ drop shift d) where
  at_slot : (j : ℕ) → from ≤ j → j < m → shift + (get_or slots j 0 - 1) ≡ place_of form n (get_or slots i 0) (get_or slots j 0)
  at_slot j x y = place_right form n (get_or slots i 0) (get_or slots j 0) shift shifts (rising i j (omega arith) y) (below j y) lined e

  pub row_long : (j : ℕ) → from ≤ j → j < m → (0 < get_or slots j 0) × (get_or slots j 0 - 1 < length row)
  row_long j x y =
      let a : get_or slots i 0 < get_or slots j 0 = rising i j (omega arith) y in
      let b = below j y in
      let c : get_or slots i 0 < n = omega arith in
      let w = within form n (get_or slots i 0) (get_or slots j 0) (length d) _ h c b (less_off (get_or slots i 0) (get_or slots j 0) a) fit (at_slot j x y) in
      (omega arith, omega (arith, ap length cut, length-drop shift d, w.0))

  pub row_same : (ids : List ℕ) (first : Best)
      → range (meet (along row) ids slots (get_or slots i 0)) from m first ≡ range (meet (held_at form n d) ids slots (get_or slots i 0)) from m first
  unfolding meet
  row_same ids first =
      let a = get_or slots i 0 in
      range_same (meet (along row) ids slots a) (meet (held_at form n d) ids slots a) from m first
      (λ j t x y.
      let b = get_or slots j 0 in
      ap (λ (z : Float). offer a b z (get_or ids a 0) (get_or ids b 0) t)
      (ap (λ (q : List Float). get_or q (b - 1) nan) cut ∙ get_or-drop shift d (b - 1) nan ∙ ap (λ (k : ℕ). get_or d k nan) (at_slot j x y)))

-- ---- the update

-- one slot's, from what the code reads: the distance at its place k, and the sizes that go with the pair
pub drawn_by : (l : Linkage) (form : Form) (n : ℕ) (sizes : List Float) (pair : Merging) (i k : ℕ) (d d' : List Float) (z v : Float) → Merges n sizes pair → (i ≡ pair.x.0 → ⊥) → (i ≡ pair.y.0 → ⊥)
    → k ≡ place_of form n pair.x.0 i → z ≡ held_at form n d pair.y.0 i → v ≡ update_f l (get_or d k nan) z pair.dxy pair.nx pair.ny (get_or sizes i nan)
    → d' ≡ write_of form n pair.x.0 i v d → d' ≡ drawn l form n sizes pair.x.0 pair.y.0 pair.dxy i d
unfolding drawn
drawn_by l form n sizes pair i k d d' z v m p q e f is made =
    rw (ne_eqb i pair.x.0 p, ne_eqb i pair.y.0 q, ← e, ← f, ← m.of_first, ← m.of_second)
    (made ∙ ap (λ (u : Float). write_of form n pair.x.0 i u d) is)

pub length_drawn : (l : Linkage) (form : Form) (n : ℕ) (sizes : List Float) (x y : ℕ) (dxy : Float) (i : ℕ) (d : List Float)
    → length (drawn l form n sizes x y dxy i d) ≡ length d
unfolding drawn
length_drawn l form n sizes x y dxy i d =
    ⊎_elim (λ e. rw e (length_write form n x i _ d)) (λ e. rw e refl) (either (not (eqb i x) && not (eqb i y)))

holds_drawn : (l : Linkage) (form : Form) (n : ℕ) (sizes : List Float) (x y : ℕ) (dxy : Float) (i : ℕ) (d cells : List Float) → x < n → y < n → i < n
    → Holds form n d cells → Holds form n (drawn l form n sizes x y dxy i d) (drawn l Square n sizes x y dxy i cells)
unfolding drawn
holds_drawn l form n sizes x y dxy i d cells hx hy hi h =
    ⊎_elim
    (λ p. rw (eq-eqb i x p) h)
    (λ p.
    ⊎_elim
    (λ q. rw (ne_eqb i x p, eq-eqb i y q) h)
    (λ q.
    let nx : x ≡ i → ⊥ = λ z. p (sym z) in
    let ny : y ≡ i → ⊥ = λ z. q (sym z) in
    let a : held_at form n d x i ≡ held_at Square n cells x i = h.same x i hx hi nx ∙ sym (square_read n cells x i) in
    let b : held_at form n d y i ≡ held_at Square n cells y i = h.same y i hy hi ny ∙ sym (square_read n cells y i) in
    rw (ne_eqb i x p, ne_eqb i y q, a, b) (holds_write form n x i _ d cells hx hi nx h))
    (same_or_not i y))
    (same_or_not i x)

pub holds_moved : (l : Linkage) (form : Form) (n : ℕ) (sizes : List Float) (slots : List ℕ) (m x y : ℕ) (dxy : Float) (d cells : List Float) → x < n → y < n → Below n m slots
    → Holds form n d cells → Holds form n (range (drawn_at l form n sizes slots x y dxy) 0 m d) (range (drawn_at l Square n sizes slots x y dxy) 0 m cells)
unfolding drawn_at
holds_moved l form n sizes slots m x y dxy d cells hx hy b h =
    range_two (Holds form n) (drawn_at l form n sizes slots x y dxy) (drawn_at l Square n sizes slots x y dxy) 0 m d cells h
    (λ j a c low lt p. holds_drawn l form n sizes x y dxy (get_or slots j 0) a c hx hy (b j lt) p)

-- ---- the start

copied_length : (xs : List Float) (k : ℕ) → length (range (copied xs) 0 k (zeros 4096)) ≡ 4096
unfolding copied
copied_length xs k = range_keeps (λ t. length t ≡ 4096) (copied xs) 0 k (zeros 4096) (length-replicate 4096 pz) (λ i t a b p. length-set t i (get_or xs i nan) ∙ p)

copied_here : (xs : List Float) (k : ℕ) (t : List Float) → k < length t → get_or (copied xs k t) k nan ≡ get_or xs k nan
unfolding copied
copied_here xs k t h = get_or-set_same t k (get_or xs k nan) nan h

copied_there : (xs : List Float) (k : ℕ) (t : List Float) (j : ℕ) → (j ≡ k → ⊥) → get_or (copied xs k t) j nan ≡ get_or t j nan
unfolding copied
copied_there xs k t j h = get_or-set_other t k j (get_or xs k nan) nan h

copied_at : (xs : List Float) (k : ℕ) → k ≤ 4096 → (j : ℕ) → j < k → get_or (range (copied xs) 0 k (zeros 4096)) j nan ≡ get_or xs j nan
copied_at xs zero h j l = absurd (omega arith)
copied_at xs (suc k) h j l =
    let t = range (copied xs) 0 k (zeros 4096) in
    ap (λ (u : List Float). get_or u j nan) (range_suc (copied xs) 0 k (zeros 4096) zero-le)
    ∙ ⊎_elim
    (λ e. ap (λ (i : ℕ). get_or (copied xs k t) i nan) e ∙ copied_here xs k t (omega (arith, copied_length xs k)) ∙ ap (λ (i : ℕ). get_or xs i nan) (sym e))
    (λ lt. copied_there xs k t j (λ q. lt_irrefl _ (subst (λ (z : ℕ). j < z) (sym q) lt)) ∙ copied_at xs k (omega arith) j lt)
    (eq-or-lt_of_le (le_of_suc-le-suc l))

start_full : (n : ℕ) (xs : List Float) → n ≤ 64 → n * n ≤ length (range (copied xs) 0 (n * n) (zeros 4096))
start_full n xs h = rw (copied_length xs (n * n)) (square_in n h)

-- every cell, copied
pub start_square : (n : ℕ) (xs d : List Float) → n ≤ 64 → d ≡ range (copied xs) 0 (n * n) (zeros 4096)
    → (length d ≡ 4096) × Holds Square n d (range (copied xs) 0 (n * n) (zeros 4096))
start_square n xs d h e = (ap length e ∙ copied_length xs (n * n), holds_square n d _ e (start_full n xs h))

-- the cells above the diagonal, of a matrix of doubles in which each is its mirror
pub start_triangle : (n : ℕ) (xs d e : List Float) → n ≤ 64 → ((k : ℕ) → T (fits binary64 (get_or xs k nan))) → mirrored n xs ≡ true → d ≡ upper_of n xs e → met n n ≤ length e
    → Holds Triangle n d (range (copied xs) 0 (n * n) (zeros 4096))
unfolding room_of
start_triangle n xs d e h f m made fit =
    holds_upper n xs (range (copied xs) 0 (n * n) (zeros 4096)) d e (mirrored_cells n xs f m)
    (λ r c hr hc. copied_at xs (n * n) (square_in n h) (r * n + c) (cell_lt n n r c hr hc))
    (start_full n xs h) made fit

-- ---- what the filling tells of an n by n matrix of at most 64 for which there is room, and what the triangle gave

room_for : (n : ℕ) (xs d : List Float) → n ≤ 64 → length xs ≡ n * n → met n n ≤ length d → has_room n xs d ≡ true
unfolding has_room
room_for n xs d h e fit = rw (le-leb n 64 h, eq-eqb (length xs) (n * n) e, le-leb (met n n) (length d) fit) refl

pub told_mirrored : (n : ℕ) (xs d : List Float) (z : Bool) → n ≤ 64 → length xs ≡ n * n → met n n ≤ length d → z ≡ (has_room n xs d && mirrored n xs) → z ≡ mirrored n xs
told_mirrored n xs d z h e fit t = t ∙ rw (room_for n xs d h e fit) refl

pub told_upper : (n : ℕ) (xs d e : List Float) → n ≤ 64 → length xs ≡ n * n → met n n ≤ length e → d ≡ cond (has_room n xs e) (upper_of n xs e) e → d ≡ upper_of n xs e
told_upper n xs d e h l fit t = t ∙ rw (room_for n xs e h l fit) refl

is_made : Tried → Bool
is_made (Some pairs) = true
is_made None = false

pairs_made : Tried → ℕ
pairs_made (Some pairs) = pairs
pairs_made None = 0

pub tried_made : (m : Bool) (p q : ℕ) (a b r : List ℕ) (t : Tried) → t ≡ tried_of m p → t ≡ Some q → r ≡ cond m a b → (r ≡ a) × (q ≡ p)
unfolding tried_of is_made pairs_made
tried_made true p q a b r t e f g = (g, ap pairs_made (sym f ∙ e))
tried_made false p q a b r t e f g = absurd (false≢true (ap is_made (sym e ∙ f)))

pub tried_lopsided : (m : Bool) (p : ℕ) (a b r : List ℕ) (t : Tried) → t ≡ tried_of m p → t ≡ None → r ≡ cond m a b → r ≡ b
unfolding tried_of is_made
tried_lopsided true p a b r t e f g = absurd (false≢true (ap is_made (sym f ∙ e)))
tried_lopsided false p a b r t e f g = g
