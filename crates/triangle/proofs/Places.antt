-- Where the distances stand: each off the diagonal within the room, and two at one place only where they are one cell or its mirror. Assumes nothing.
use Prim.Native.Nat.{ℕ, zero, suc, ◌+◌, ◌-◌, ◌*◌, ◌/◌, ◌≤◌, ◌<◌, zero-le}
use mathlib.Core.Path.{◌≡◌, refl, sym, ap, ◌∙◌, subst}
use mathlib.Core.Logic.{◌⊎◌, inl, inr, ⊎_elim}
use native.Mathlib.Nat.{eq-or-lt_of_le, le_of_suc-le-suc, mul-add, add-mul, mul-one, one-mul, mul-zero, mul_comm, mul_assoc, lt_irrefl, lt_of_lt_of_le, mul-le-mul}
use native.Mathlib.Numerals.{add-one}
use native.Mathlib.Omega.{arith}
use lib.Dec.{ltb}
use borrow.Author.Tests.{lt-ltb, le-ltb, ltb-true, ltb-false}
use Rattle.lent.specs.Range.{range}
use Rattle.lent.proofs.Laws.{either, same_or_not, cell_lt, cell_inj, square_in}
use Rattle.lent.proofs.Range.{range_none, range_suc}
use Rattle.triangle.specs.declared.Form.{Form}
use Rattle.triangle.specs.declared.Form.TheVariants.{Square, Triangle}
use Rattle.triangle.specs.Triangle.{met, row_of, place_of}
use Rattle.triangle.specs.Inner.{room_of}

-- ---- the pairs of the first i of m

-- (r + 1)²
pub square : (r : ℕ) → (r + 1) * (r + 1) ≡ r * r + 2 * r + 1
square r = add-mul r 1 (r + 1) ∙ omega (arith, mul-add r r 1, mul-one r, one-mul (r + 1))

-- the pairs of the first i places of m: m - 1, m - 2, ..
pub met_more : (m i : ℕ) → met m (i + 1) ≡ met m i + (m - (i + 1))
unfolding met
met_more m i = ap (λ (k : ℕ). range (λ j c. c + (m - (j + 1))) 0 k 0) (add-one i) ∙ range_suc (λ j c. c + (m - (j + 1))) 0 i 0 zero-le

pub met_none : (m : ℕ) → met m 0 ≡ 0
unfolding met
met_none m = range_none (λ j c. c + (m - (j + 1))) 0 0 0 zero-le

-- no more than 64 for each place
pub met_least : (m i : ℕ) → m ≤ 64 → met m i ≤ 64 * i
met_least m zero h = omega (arith, met_none m)
met_least m (suc i) h = let e = met_more m i in let r = met_least m i h in rw (← add-one i) (omega arith)

met_sum : (m i : ℕ) → i ≤ m → 2 * met m i + i * i + i ≡ 2 * (m * i)
met_sum m zero h = omega (arith, met_none m, mul-zero m)
met_sum m (suc i) h =
    let r = met_sum m i (omega arith) in
    let e = met_more m i in
    let q = square i in
    let p : m * (i + 1) ≡ m * i + m = mul-add m i 1 ∙ ap (λ (k : ℕ). m * i + k) (mul-one m) in
    rw (← add-one i) (omega arith)

pub met_all : (m : ℕ) → 2 * met m m + m ≡ m * m
met_all m = omega (arith, met_sum m m (omega arith))

pub met_mono : (m i j : ℕ) → i ≤ j → met m i ≤ met m j
met_mono m i zero h = let z : i ≡ 0 = omega arith in rw z (omega arith)
met_mono m i (suc j) h =
    ⊎_elim (λ e. rw e (omega arith))
    (λ l. let r = met_mono m i j (le_of_suc-le-suc l) in let e = met_more m j in rw (← add-one j) (omega arith))
    (eq-or-lt_of_le h)

-- n(n − 1)/2 places, for n or fewer
met_most : (n k : ℕ) → n ≤ k + 1 → 2 * met n n ≤ (k + 1) * k
met_most zero k h = omega (arith, met_none 0)
met_most (suc i) k h =
    let e = met_all (suc i) in
    let z : suc i * suc i ≡ suc i * i + suc i = ap (λ (j : ℕ). suc i * j) (sym (add-one i)) ∙ mul-add (suc i) i 1 ∙ ap (λ (j : ℕ). suc i * i + j) (mul-one (suc i)) in
    let j : i ≤ k = omega arith in
    let l : suc i * i ≤ (k + 1) * k = mul-le-mul h j in
    omega arith

-- 2,016 are enough for 64, and 496 for 32
pub met_room : (n : ℕ) → n ≤ 64 → met n n ≤ 2016
met_room n h = let l = met_most n 63 h in omega arith

pub met_few : (n : ℕ) → n ≤ 32 → met n n ≤ 496
met_few n h = let l = met_most n 31 h in omega arith

-- ---- rows and places

pub row_code : (n r : ℕ) → r < n → r * (2 * n - r - 1) / 2 ≡ met n r
row_code n r h =
    let q = 2 * n - r - 1 in
    let z : q + (r + 1) ≡ 2 * n = omega arith in
    let a : r * (2 * n) ≡ r * q + (r * r + r) =
    ap (λ (k : ℕ). r * k) (sym z) ∙ mul-add r q (r + 1) ∙ ap (λ (k : ℕ). r * q + k) (mul-add r r 1 ∙ ap (λ (k : ℕ). r * r + k) (mul-one r)) in
    let b : r * (2 * n) ≡ 2 * (n * r) = mul_comm r (2 * n) ∙ mul_assoc 2 n r in
    let e = met_sum n r (omega arith) in
    let w : r * q ≡ 2 * met n r = omega arith in
    omega arith

pub tri_in : (n r c : ℕ) → r < c → c < n → met n r + (c - r - 1) < met n (r + 1)
tri_in n r c h l = let e = met_more n r in omega arith

pub right_place : (form : Form) (n a b : ℕ) → a < b → place_of form n a b ≡ row_of form n a + (b - a - 1)
unfolding place_of row_of
right_place Square n a b h = omega arith
right_place Triangle n a b h = rw (lt-ltb a b h) refl

pub place_in : (form : Form) (n r c : ℕ) → r < n → c < n → (r ≡ c → ⊥) → place_of form n r c < room_of form n
unfolding place_of room_of
place_in Square n r c hr hc ne = cell_lt n n r c hr hc
place_in Triangle n r c hr hc ne =
    ⊎_elim
    (λ e. let l = ltb-true r c e in rw e (omega (arith, tri_in n r c l hc, met_mono n (r + 1) n (omega arith))))
    (λ e.
    let l : c < r = above (ltb-false r c e) in
    rw e (omega (arith, tri_in n c r l hr, met_mono n (c + 1) n (omega arith))))
    (either (ltb r c))
  where
    above : c ≤ r → c < r
    above l = ⊎_elim (λ q. absurd (ne (sym q))) (λ k. k) (eq-or-lt_of_le l)

-- one row is over before the next begins
tri_less : (n r c x i : ℕ) → r < c → c < n → r < x → met n r + (c - r - 1) ≡ met n x + (i - x - 1) → ⊥
tri_less n r c x i h l k e = let a = tri_in n r c h l in let b = met_mono n (r + 1) x (omega arith) in omega arith

pub tri_one : (n r c x i : ℕ) → r < c → c < n → x < i → i < n → met n r + (c - r - 1) ≡ met n x + (i - x - 1) → (r ≡ x) × (c ≡ i)
tri_one n r c x i h l k o e =
    ⊎_elim
    (λ q. (q, (let z : met n r ≡ met n x = ap (met n) q in omega arith)))
    (λ ne.
    ⊎_elim
    (λ t. absurd (tri_less n r c x i h l (ltb-true r x t) e))
    (λ t. absurd (tri_less n x i r c k o (⊎_elim (λ q. absurd (ne (sym q))) (λ z. z) (eq-or-lt_of_le (ltb-false r x t))) (sym e)))
    (either (ltb r x)))
    (same_or_not r x)

-- the lower and the higher of two that differ
pub order : (r c : ℕ) → (r ≡ c → ⊥) → (r < c) ⊎ (c < r)
order r c ne =
    ⊎_elim (λ e. inl (ltb-true r c e)) (λ e. inr (⊎_elim (λ q. absurd (ne (sym q))) (λ k. k) (eq-or-lt_of_le (ltb-false r c e)))) (either (ltb r c))

pub tri_up : (n r c : ℕ) → r < c → place_of Triangle n r c ≡ met n r + (c - r - 1)
unfolding place_of
tri_up n r c h = rw (lt-ltb r c h) refl

pub tri_down : (n r c : ℕ) → c < r → place_of Triangle n r c ≡ met n c + (r - c - 1)
unfolding place_of
tri_down n r c h = rw (le-ltb r c (omega arith)) refl

-- the triangle has one place for a cell and its mirror
pub mirror_place : (n r c : ℕ) → (r ≡ c → ⊥) → place_of Triangle n r c ≡ place_of Triangle n c r
mirror_place n r c ne =
    ⊎_elim (λ l. tri_up n r c l ∙ sym (tri_down n c r l)) (λ l. tri_down n r c l ∙ sym (tri_up n c r l)) (order r c ne)

pub square_one : (n r c x i : ℕ) → c < n → i < n → place_of Square n r c ≡ place_of Square n x i → (r ≡ x) × (c ≡ i)
unfolding place_of
square_one n r c x i hc hi e = cell_inj n r c x i hc hi e

pub place_one : (form : Form) (n r c x i : ℕ) → r < n → c < n → (r ≡ c → ⊥) → x < n → i < n → (x ≡ i → ⊥)
    → place_of form n r c ≡ place_of form n x i → ((r ≡ x) × (c ≡ i)) ⊎ ((r ≡ i) × (c ≡ x))
place_one Square n r c x i hr hc ne hx hi nf e = inl (square_one n r c x i hc hi e)
place_one Triangle n r c x i hr hc ne hx hi nf e =
    ⊎_elim
    (λ l.
    ⊎_elim
    (λ k. inl (tri_one n r c x i l hc k hi (sym (tri_up n r c l) ∙ e ∙ tri_up n x i k)))
    (λ k. inr (tri_one n r c i x l hc k hx (sym (tri_up n r c l) ∙ e ∙ tri_down n x i k)))
    (order x i nf))
    (λ l.
    ⊎_elim
    (λ k. let q = tri_one n c r x i l hr k hi (sym (tri_down n r c l) ∙ e ∙ tri_up n x i k) in inr (q.1, q.0))
    (λ k. let q = tri_one n c r i x l hr k hx (sym (tri_down n r c l) ∙ e ∙ tri_down n x i k) in inl (q.1, q.0))
    (order x i nf))
    (order r c ne)

-- ---- in the shape of the needs

pub less_off : (a b : ℕ) → a < b → a ≡ b → ⊥
less_off a b h q = lt_irrefl _ (subst (λ (z : ℕ). a < z) (sym q) h)

triangle_room : (n : ℕ) → n ≤ 64 → room_of Triangle n ≤ 2016
unfolding room_of
triangle_room n h = met_room n h

pub square_fits : (n : ℕ) → n ≤ 64 → room_of Square n ≤ 4096
unfolding room_of
square_fits n h = square_in n h

pub place_small : (form : Form) (n r c : ℕ) → n ≤ 64 → r < n → c < n → (r ≡ c → ⊥) → place_of form n r c < 4096
place_small Square n r c h hr hc ne = lt_of_lt_of_le (place_in Square n r c hr hc ne) (square_fits n h)
place_small Triangle n r c h hr hc ne = let l = place_in Triangle n r c hr hc ne in let m = triangle_room n h in omega arith

-- what is halved for a row of the triangle
pub row_small : (r k : ℕ) → r ≤ 64 → k ≤ 128 → r * k < 8193
row_small r k h l = omega (arith, mul-le-mul h l)

-- in a square of at most 64 by 64
pub cell_below : (n r c : ℕ) → n ≤ 64 → r < n → c < n → r * n + c < 4096
cell_below n r c h hr hc = omega (arith, cell_lt n n r c hr hc, square_in n h)

pub right_at : (form : Form) (n base a b : ℕ) → a < b → base ≡ row_of form n a → base + (b - a - 1) ≡ place_of form n a b
right_at form n base a b h e = ap (λ (k : ℕ). k + (b - a - 1)) e ∙ sym (right_place form n a b h)

-- how many cells are above the diagonal, as the code counts them
pub room_code : (n : ℕ) → (n * n - n) / 2 ≡ met n n
room_code n = let e = met_all n in omega arith

-- within the room of a triangle, and small
pub write_in : (n base a b room : ℕ) → n ≤ 64 → a < b → b < n → met n n ≤ room → base ≡ row_of Triangle n a → (base + (b - a - 1) < room) × (base + (b - a - 1) < 2016)
unfolding room_of
write_in n base a b room h l k fit e =
    let q = right_at Triangle n base a b l e in
    let p = place_in Triangle n a b (omega arith) k (less_off a b l) in
    let m = met_room n h in
    (omega arith, omega arith)
