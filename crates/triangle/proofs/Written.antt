-- What a write leaves, and what stands in the triangle once it is filled: so the square form and the triangle hold the same distances, from the start and after every write. Assumes nothing.
use Prim.Native.Nat.{ℕ, ◌+◌, ◌*◌, ◌≤◌, ◌<◌, zero-le}
use mathlib.Core.Path.{◌≡◌, refl, sym, ap, ◌∙◌, subst}
use mathlib.Core.Logic.{◌⊎◌, inl, inr, ⊎_elim}
use mathlib.Core.List.{List}
use native.Mathlib.Nat.{lt_irrefl, lt_of_lt_of_le}
use native.Mathlib.Omega.{arith}
use lib.ListN.{length, get_or, set, length-set}
use lib.Seq.{get_or-set_same, get_or-set_other}
use lib.Ieee.{Float, nan}
use Rattle.lent.specs.Grid.{cell}
use Rattle.lent.proofs.Laws.{same_or_not}
use Rattle.lent.proofs.Range.{range_keeps, range_hits}
use Rattle.triangle.specs.declared.Form.{Form}
use Rattle.triangle.specs.declared.Form.TheVariants.{Square, Triangle}
use Rattle.triangle.specs.Triangle.{place_of, upper_row, upper_of}
use Rattle.triangle.specs.Inner.{room_of, held_at, write_of, Holds}
use Rattle.triangle.proofs.Places.{place_in, place_one, square_one, mirror_place, tri_one, tri_up, order}

-- ---- a write

pub length_write : (form : Form) (n x i : ℕ) (v : Float) (d : List Float) → length (write_of form n x i v d) ≡ length d
unfolding write_of
length_write Square n x i v d = length-set (set d (place_of Square n x i) v) (place_of Square n i x) v ∙ length-set d (place_of Square n x i) v
length_write Triangle n x i v d = length-set d (place_of Triangle n x i) v

-- what is written stands where it was put
put_read : (form : Form) (n x i : ℕ) (v : Float) (d : List Float) → x < n → i < n → (x ≡ i → ⊥) → room_of form n ≤ length d
    → held_at form n (set d (place_of form n x i) v) x i ≡ v
put_read form n x i v d hx hi ne fit = get_or-set_same d (place_of form n x i) v nan (lt_of_lt_of_le (place_in form n x i hx hi ne) fit)

-- and everywhere else what stood there
put_keeps : (form : Form) (n x i : ℕ) (v : Float) (d : List Float) → x < n → i < n → (x ≡ i → ⊥)
    → (r c : ℕ) → r < n → c < n → (r ≡ c → ⊥) → (r ≡ x → c ≡ i → ⊥) → (r ≡ i → c ≡ x → ⊥) → held_at form n (set d (place_of form n x i) v) r c ≡ held_at form n d r c
put_keeps form n x i v d hx hi ne r c hr hc nd p q =
    get_or-set_other d (place_of form n x i) (place_of form n r c) v nan
    (λ e. ⊎_elim (λ w. p w.0 w.1) (λ w. q w.0 w.1) (place_one form n r c x i hr hc nd hx hi ne e))

module _ (n x i : ℕ) (v : Float) (hx : x < n) (hi : i < n) (ne : x ≡ i → ⊥) where
  write_second : (form : Form) (d : List Float) → room_of form n ≤ length d → held_at form n (write_of form n x i v d) i x ≡ v
  unfolding write_of
  write_second Square d fit =
      put_read Square n i x v (set d (place_of Square n x i) v) hi hx (λ q. ne (sym q)) (rw (length-set d (place_of Square n x i) v) fit)
  write_second Triangle d fit =
      ap (λ (k : ℕ). get_or (set d (place_of Triangle n x i) v) k nan) (mirror_place n i x (λ q. ne (sym q))) ∙ put_read Triangle n x i v d hx hi ne fit

  write_first : (form : Form) (d : List Float) → room_of form n ≤ length d → held_at form n (write_of form n x i v d) x i ≡ v
  unfolding write_of
  write_first Square d fit =
      get_or-set_other (set d (place_of Square n x i) v) (place_of Square n i x) (place_of Square n x i) v nan (λ e. ne (square_one n x i i x hi hx e).0)
      ∙ put_read Square n x i v d hx hi ne fit
  write_first Triangle d fit = put_read Triangle n x i v d hx hi ne fit

  write_other : (form : Form) (d : List Float) (r c : ℕ) → r < n → c < n → (r ≡ c → ⊥) → (r ≡ x → c ≡ i → ⊥) → (r ≡ i → c ≡ x → ⊥)
      → held_at form n (write_of form n x i v d) r c ≡ held_at form n d r c
  unfolding write_of
  write_other Square d r c hr hc nd p q =
      put_keeps Square n i x v (set d (place_of Square n x i) v) hi hx (λ z. ne (sym z)) r c hr hc nd q p
      ∙ put_keeps Square n x i v d hx hi ne r c hr hc nd p q
  write_other Triangle d r c hr hc nd p q = put_keeps Triangle n x i v d hx hi ne r c hr hc nd p q

pub square_read : (n : ℕ) (d : List Float) (r c : ℕ) → held_at Square n d r c ≡ cell d n r c
unfolding place_of
square_read n d r c = refl

square_room : (n k : ℕ) → n * n ≤ k → room_of Square n ≤ k
unfolding room_of
square_room n k h = h

pub holds_write : (form : Form) (n x i : ℕ) (v : Float) (d cells : List Float) → x < n → i < n → (x ≡ i → ⊥) → Holds form n d cells
    → Holds form n (write_of form n x i v d) (write_of Square n x i v cells)
holds_write form n x i v d cells hx hi ne h =
    let f = square_room n (length cells) h.full in
    record {
      same = λ r c hr hc nd.
          ⊎_elim
          (λ w. rw (w.0, w.1) (write_first n x i v hx hi ne form d h.room ∙ sym (write_first n x i v hx hi ne Square cells f) ∙ square_read n (write_of Square n x i v cells) x i))
          (λ p.
          ⊎_elim
          (λ w. rw (w.0, w.1) (write_second n x i v hx hi ne form d h.room ∙ sym (write_second n x i v hx hi ne Square cells f) ∙ square_read n (write_of Square n x i v cells) i x))
          (λ q.
          write_other n x i v hx hi ne form d r c hr hc nd (λ a b. p (a, b)) (λ a b. q (a, b))
          ∙ h.same r c hr hc nd
          ∙ sym (square_read n cells r c)
          ∙ sym (write_other n x i v hx hi ne Square cells r c hr hc nd (λ a b. p (a, b)) (λ a b. q (a, b)))
          ∙ square_read n (write_of Square n x i v cells) r c)
          (both_or_not r c i x))
          (both_or_not r c x i);
      room = rw (length_write form n x i v d) h.room;
      full = rw (length_write Square n x i v cells) h.full;
    }
  where
    both_or_not : (r c x i : ℕ) → ((r ≡ x) × (c ≡ i)) ⊎ ((r ≡ x) × (c ≡ i) → ⊥)
    both_or_not r c x i =
        ⊎_elim (λ p. ⊎_elim (λ q. inl (p, q)) (λ q. inr (λ w. q w.1)) (same_or_not c i)) (λ p. inr (λ w. p w.0)) (same_or_not r x)

-- the cells above the diagonal, each at its place whatever is copied after it
module _ (n : ℕ) (xs : List Float) (r c : ℕ) (h : r < c) (hc : c < n) where
  off : r ≡ c → ⊥
  off q = lt_irrefl _ (subst (λ (z : ℕ). r < z) (sym q) h)

  abbrev There : List Float → Type 0
  There t = room_of Triangle n ≤ length t → held_at Triangle n t r c ≡ cell xs n r c

  put_here : (t : List Float) → There (set t (place_of Triangle n r c) (cell xs n r c))
  put_here t fit =
      get_or-set_same t (place_of Triangle n r c) (cell xs n r c) nan
      (lt_of_lt_of_le (place_in Triangle n r c (omega arith) hc off) (rw (length-set t (place_of Triangle n r c) (cell xs n r c)) at fit))

  put_there : (x i : ℕ) (t : List Float) → x < i → i < n → There t → There (set t (place_of Triangle n x i) (cell xs n x i))
  put_there x i t l k p fit =
      let f : room_of Triangle n ≤ length t = rw (length-set t (place_of Triangle n x i) (cell xs n x i)) at fit in
      ⊎_elim
      (λ e.
      let w = tri_one n r c x i h hc l k (sym (tri_up n r c h) ∙ e ∙ tri_up n x i l) in
      ap (λ (z : ℕ). get_or (set t (place_of Triangle n x i) (cell xs n x i)) z nan) e
      ∙ get_or-set_same t (place_of Triangle n x i) (cell xs n x i) nan (subst (λ (z : ℕ). z < length t) e (lt_of_lt_of_le (place_in Triangle n r c (omega arith) hc off) f))
      ∙ rw (w.0, w.1) refl)
      (λ e. get_or-set_other t (place_of Triangle n x i) (place_of Triangle n r c) (cell xs n x i) nan e ∙ p f)
      (same_or_not (place_of Triangle n r c) (place_of Triangle n x i))

  row_there : (x : ℕ) (t : List Float) → There t → There (upper_row n xs x t)
  unfolding upper_row
  row_there x t p =
      range_keeps There (λ i u. set u (place_of Triangle n x i) (cell xs n x i)) (x + 1) n t p (λ i u a b q. put_there x i u (omega arith) b q)

  row_here : (t : List Float) → There (upper_row n xs r t)
  unfolding upper_row
  row_here t =
      range_hits There (λ i u. set u (place_of Triangle n r i) (cell xs n r i)) (r + 1) n t c (omega arith) hc
      (λ u. put_here u) (λ i u a b q. put_there r i u (omega arith) b q)

  upper_at : (d : List Float) → There (upper_of n xs d)
  unfolding upper_of
  upper_at d = range_hits There (upper_row n xs) 0 n d r zero-le (omega arith) row_here (λ x t a b q. row_there x t q)

upper_length : (n : ℕ) (xs d : List Float) → length (upper_of n xs d) ≡ length d
unfolding upper_of upper_row
upper_length n xs d =
    range_keeps (λ t. length t ≡ length d) (upper_row n xs) 0 n d refl
    (λ r t a b p.
    range_keeps (λ u. length u ≡ length d) (λ i u. set u (place_of Triangle n r i) (cell xs n r i)) (r + 1) n t p
    (λ i u a b q. length-set u (place_of Triangle n r i) (cell xs n r i) ∙ q))

-- a triangle filled from a matrix whose cells are their mirrors holds what the matrix is
pub holds_upper : (n : ℕ) (xs cells d e : List Float) → ((r c : ℕ) → r < n → c < n → cell xs n r c ≡ cell xs n c r)
    → ((r c : ℕ) → r < n → c < n → cell cells n r c ≡ cell xs n r c) → n * n ≤ length cells → d ≡ upper_of n xs e → room_of Triangle n ≤ length e
    → Holds Triangle n d cells
holds_upper n xs cells d e m is full made fit =
    let f : room_of Triangle n ≤ length (upper_of n xs e) = rw (upper_length n xs e) fit in
    record {
      same = λ r c hr hc ne.
          ap (λ (t : List Float). held_at Triangle n t r c) made
          ∙ ⊎_elim
          (λ l. upper_at n xs r c l hc e f)
          (λ l. ap (λ (k : ℕ). get_or (upper_of n xs e) k nan) (mirror_place n r c ne) ∙ upper_at n xs c r l hr e f ∙ m c r hc hr)
          (order r c ne)
          ∙ sym (is r c hr hc);
      room = rw made f;
      full = full;
    }

-- a copy holds what it is
pub holds_square : (n : ℕ) (d cells : List Float) → d ≡ cells → n * n ≤ length cells → Holds Square n d cells
unfolding room_of
holds_square n d cells e h =
    record {
      same = λ r c hr hc ne. square_read n d r c ∙ ap (λ (t : List Float). cell t n r c) e;
      room = rw e h;
      full = h;
    }
