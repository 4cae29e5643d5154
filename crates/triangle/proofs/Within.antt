-- Where the table of shifts says that a distance stands, in the shape of the merge step's needs: that is its place, and within the room. Assumes nothing.
use Prim.Native.Nat.{ℕ, zero, suc, ◌+◌, ◌-◌, ◌≤◌, ◌<◌, zero-le}
use mathlib.Core.Path.{◌≡◌, sym, ◌∙◌}
use mathlib.Core.Logic.{⊎_elim}
use mathlib.Core.List.{List}
use native.Mathlib.Nat.{lt_of_lt_of_le}
use native.Mathlib.Numerals.{add-one}
use native.Mathlib.Omega.{arith}
use mathlib.Core.Bool.{cond}
use borrow.Author.Tests.{le-leb}
use lib.Dec.{leb}
use lib.ListN.{length, get_or, replicate, length-set, length-replicate}
use lib.Seq.{get_or-set_same, get_or-set_other}
use Rattle.lent.specs.Range.{range}
use Rattle.lent.proofs.Laws.{same_or_not, cell_lt}
use Rattle.lent.proofs.Range.{range_keeps, range_hits}
use Rattle.triangle.specs.declared.Form.{Form}
use Rattle.triangle.specs.declared.Form.TheVariants.{Square, Triangle}
use Rattle.triangle.specs.Triangle.{met, row_of, place_of, shift_at, shifted}
use Rattle.triangle.specs.Inner.{room_of, Lined}
use Rattle.triangle.proofs.Places.{met_more, met_mono, less_off, place_in, place_small, right_place, mirror_place}

-- ---- the shift of a row

-- r pairs or more
met_own : (n r : ℕ) → r < n → r ≤ met n r
met_own n zero h = omega arith
met_own n (suc r) h = let e = met_more n r in let p = met_own n r (omega arith) in rw (← add-one r) (omega arith)

row_least : (form : Form) (n r : ℕ) → r < n → r ≤ row_of form n r
unfolding row_of
row_least Square n r h = omega arith
row_least Triangle n r h = met_own n r h

-- so that r can be taken off
pub row_enough : (form : Form) (n r k : ℕ) → k ≡ row_of form n r → r < n → r ≤ k
row_enough form n r k e h = rw e (row_least form n r h)

row_in : (form : Form) (n r : ℕ) → r < n → row_of form n r ≤ room_of form n
unfolding row_of room_of
row_in Square n r h = omega (arith, cell_lt n n r r h h)
row_in Triangle n r h = met_mono n r n (omega arith)

shift_is : (form : Form) (n r : ℕ) → r < n → shift_at form n r + r ≡ row_of form n r
unfolding shift_at
shift_is form n r h = omega (arith, row_least form n r h)

-- ---- places by the table

-- right of the diagonal
pub place_right : (form : Form) (n r c k : ℕ) (shifts : List ℕ) → r < c → c < n → Lined form n shifts → k ≡ get_or shifts r 0 → k + (c - 1) ≡ place_of form n r c
place_right form n r c k shifts l hc lined e =
    let hr : r < n = omega arith in
    let p : k ≡ shift_at form n r = e ∙ lined r hr in
    omega (arith, shift_is form n r hr, right_place form n r c l)

-- left of it, in the triangle
pub place_left : (n r c k : ℕ) (shifts : List ℕ) → c < r → r < n → Lined Triangle n shifts → k ≡ get_or shifts c 0 → k + (r - 1) ≡ place_of Triangle n r c
place_left n r c k shifts l hr lined e =
    place_right Triangle n c r k shifts l hr lined e ∙ mirror_place n c r (less_off c r l)

-- a shift is within the room
pub shift_in : (form : Form) (n r : ℕ) (shifts : List ℕ) (room : ℕ) → r < n → Lined form n shifts → room_of form n ≤ room → get_or shifts r 0 ≤ room
shift_in form n r shifts room hr lined fit = omega (arith, lined r hr, shift_is form n r hr, row_in form n r hr)

-- a place is within the room
pub within : (form : Form) (n r c room k : ℕ) → n ≤ 64 → r < n → c < n → (r ≡ c → ⊥) → room_of form n ≤ room → k ≡ place_of form n r c → (k < room) × (k < 4096)
within form n r c room k h hr hc ne fit e =
    (lt_of_lt_of_le (rw e (place_in form n r c hr hc ne)) fit, rw e (place_small form n r c h hr hc ne))

-- ---- the table, filled

-- the shift of row r, once it is set, whatever is set after it
module _ (form : Form) (n r : ℕ) (h : r < 64) where
  abbrev There : List ℕ → Type 0
  There t = length t ≡ 64 → get_or t r 0 ≡ shift_at form n r

  put_here : (t : List ℕ) → There (shifted form n r t)
  unfolding shifted
  put_here t e = get_or-set_same t r (shift_at form n r) 0 (omega (arith, length-set t r (shift_at form n r)))

  put_there : (i : ℕ) (t : List ℕ) → There t → There (shifted form n i t)
  unfolding shifted
  put_there i t p e =
      ⊎_elim
      (λ q. rw (← q) (put_here t (rw q e)))
      (λ q. get_or-set_other t i r (shift_at form n i) 0 q ∙ p (sym (length-set t i (shift_at form n i)) ∙ e))
      (same_or_not r i)

pub shifted_lined : (form : Form) (n : ℕ) (shifts l : List ℕ) → n ≤ 64 → l ≡ replicate 64 0 → shifts ≡ cond (leb n 64) (range (shifted form n) 0 n l) l → Lined form n shifts
unfolding shifted
shifted_lined form n shifts l h e made r hr =
    let hs : r < 64 = omega arith in
    let long : length (range (shifted form n) 0 n l) ≡ 64 =
    range_keeps (λ t. length t ≡ 64) (shifted form n) 0 n l (rw e (length-replicate {A = ℕ} 64 0))
    (λ i t a b p. length-set t i (shift_at form n i) ∙ p) in
    rw (made, le-leb n 64 h) (range_hits (There form n r hs) (shifted form n) 0 n l r zero-le hr (put_here form n r hs) (λ i t a b p. put_there form n r hs i t p) long)
