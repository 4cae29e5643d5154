-- What a passed test of merge rows, and of an order, says of them.
--     is_tree_lem, tree_holds      is_tree and its record
--     is_order_lem, order_holds    `is_order` and its record
-- and the steps of the loops that test them: `count` and `below` at what is left.
-- Assumes nothing.
use mathlib.Core.Path.{◌≡◌, refl, sym, ap, ◌∙◌}
use mathlib.Core.Bool.{Bool, true, false, ◌&&◌}
use Rattle.std.specs.Prelude.{IsTrue, ◌↔◌, ◌==◌, cond, count_by}
use mathlib.Core.Logic.{⊎_elim}
use mathlib.Core.List.{List, [], ◌∷◌}
use Prim.Native.Nat.{ℕ, zero, suc, ◌+◌, ◌-◌, ◌*◌, ◌/◌, ◌≤◌, ◌<◌}
use native.Mathlib.Nat.{eq-or-lt_of_le}
use native.Mathlib.Numerals.{add-one}
use native.Mathlib.Omega.{arith}
use lib.Dec.{ltb, eqb}
use lib.ListN.{length, get_or, drop, drop_of_length-le}
use lib.Seq.{drop-cons}
use borrow.Author.Tests.{ltb-true, eqb-true, eq-eqb, ne_eqb, lt-ltb, le-ltb}
use Rattle.std.proofs.lemmas.List.Recursion.{is_count_by}
use Rattle.lent.specs.Count.{one, count, upto, over_all}
use Rattle.lent.proofs.Laws.{either, and_left, and_right}
use Rattle.lent.proofs.Counting.{one_le, one_false, upto_zero, upto_ones, upto_add, upto_is}
use Rattle.tree.specs.Rows.{below, once, is_tree, is_order}

-- ---- what `below` says of the entry at j, and back

below_at : (n i : ℕ) (rows : List ℕ) → below n i rows ≡ true → (j : ℕ) → j < length rows → get_or rows j 0 < n + (i + j) / 2
unfolding below
below_at n i [] h j lt = absurd (omega arith)
below_at n i (x ∷ xs) h zero lt = let l : x < n + i / 2 = ltb-true x (n + i / 2) (and_left (ltb x (n + i / 2)) (below n (suc i) xs) h) in omega arith
below_at n i (x ∷ xs) h (suc j) lt =
    let ih : get_or xs j 0 < n + (suc i + j) / 2 = below_at n (suc i) xs (and_right (ltb x (n + i / 2)) (below n (suc i) xs) h) j (omega arith) in
    omega arith

below_holds : (n i : ℕ) (rows : List ℕ) → ((j : ℕ) → j < length rows → get_or rows j 0 < n + (i + j) / 2) → below n i rows ≡ true
unfolding below
below_holds n i [] h = refl
below_holds n i (x ∷ xs) h =
    let l : x < n + i / 2 = omega (arith, h 0 (omega arith)) in
    rw (lt-ltb x (n + i / 2) l) (below_holds n (suc i) xs (λ j lt. omega (arith, h (suc j) (omega arith))))

-- ---- what `once` says of the number x, and back

once_at : (l : List ℕ) (m : ℕ) → once l m ≡ true → (x : ℕ) → x < m → count x l ≡ 1
unfolding once
once_at l zero h x lt = absurd (omega arith)
once_at l (suc m) h x lt =
    ⊎_elim (λ e. rw e (eqb-true (count m l) 1 (and_left (eqb (count m l) 1) (once l m) h)))
    (λ k. once_at l m (and_right (eqb (count m l) 1) (once l m) h) x (omega arith))
    (eq-or-lt_of_le {n = x} {m = m} (omega arith))

once_holds : (l : List ℕ) (m : ℕ) → ((x : ℕ) → x < m → count x l ≡ 1) → once l m ≡ true
unfolding once
once_holds l zero h = refl
once_holds l (suc m) h = rw (eq-eqb (count m l) 1 (h m (omega arith))) (once_holds l m (λ x lt. h x (omega arith)))

-- what a test of each number says
pub once_told : (l : List ℕ) (m : ℕ) (r : Bool) → (IsTrue r ↔ ((k : ℕ) → k < m → count k l ≡ 1)) → r ≡ once l m
once_told l m true e = sym (once_holds l m (e.0 refl))
once_told l m false e = ⊎_elim (λ h. e.1 (once_at l m h) ∙ sym h) (λ h. sym h) (either (once l m))

-- ---- a tree

-- the three parts of is_tree
pub record IsTree (rows : List ℕ) (n : ℕ) : Type 0 where
  pub size : length rows ≡ 2 * (n - 1)
  pub low : (j : ℕ) → j < length rows → get_or rows j 0 < n + j / 2
  pub each : (x : ℕ) → x < 2 * (n - 1) → count x rows ≡ 1

pub is_tree_lem : (rows : List ℕ) (n : ℕ) → is_tree rows n ≡ true → IsTree rows n
unfolding is_tree
is_tree_lem rows n h =
    let m = 2 * (n - 1) in
    let rest : (below n 0 rows && once rows m) ≡ true = and_right (eqb (length rows) m) (below n 0 rows && once rows m) h in
    record {
      size = eqb-true (length rows) m (and_left (eqb (length rows) m) (below n 0 rows && once rows m) h);
      low = λ j lt. (let l : get_or rows j 0 < n + (0 + j) / 2 = below_at n 0 rows (and_left (below n 0 rows) (once rows m) rest) j lt in omega arith);
      each = once_at rows m (and_right (below n 0 rows) (once rows m) rest);
    }

pub tree_holds : (rows : List ℕ) (n : ℕ) → IsTree rows n → is_tree rows n ≡ true
unfolding is_tree
tree_holds rows n t =
    let low : below n 0 rows ≡ true = below_holds n 0 rows (λ j lt. omega (arith, t.low j lt)) in
    let each : once rows (2 * (n - 1)) ≡ true = once_holds rows (2 * (n - 1)) t.each in
    rw (eq-eqb (length rows) (2 * (n - 1)) t.size, low, each)

-- the last test goes by the length
pub tree_once : (rows : List ℕ) (n : ℕ) → eqb (length rows) (2 * (n - 1)) ≡ true → below n 0 rows ≡ true → is_tree rows n ≡ once rows (length rows)
unfolding is_tree
tree_once rows n e h = rw (e, h) (ap (once rows) (sym (eqb-true (length rows) (2 * (n - 1)) e)))

-- ---- an order

-- the two parts of `is_order`, and that it has nothing else
pub record IsOrder (order : List ℕ) (n : ℕ) : Type 0 where
  pub size : length order ≡ n
  pub each : (a : ℕ) → a < n → count a order ≡ 1
  pub low : (j : ℕ) → j < n → get_or order j 0 < n

-- how many entries are below n, counted number by number
counted : (n : ℕ) (l : List ℕ) → upto (λ a. count a l) n ≡ over_all (λ y. one (ltb y n)) l
unfolding count over_all
counted n [] = upto_zero (λ a. 0) n (λ a lt. refl)
counted n (y ∷ ys) = omega (arith, upto_add (λ a. one (eqb y a)) (λ a. count a ys) n, upto_is y n, counted n ys)

some_below : (n : ℕ) (l : List ℕ) → over_all (λ y. one (ltb y n)) l ≤ length l
unfolding over_all
some_below n [] = omega arith
some_below n (y ∷ ys) = omega (arith, one_le (ltb y n), some_below n ys)

-- where as many are below n as there are, each is
all_below : (n : ℕ) (l : List ℕ) → over_all (λ y. one (ltb y n)) l ≡ length l → (j : ℕ) → j < length l → get_or l j 0 < n
unfolding over_all
all_below n [] e j lt = absurd (omega arith)
all_below n (y ∷ ys) e zero lt =
    ⊎_elim (λ p. ltb-true y n p) (λ p. absurd (omega (arith, one_false _ p, some_below n ys))) (either (ltb y n))
all_below n (y ∷ ys) e (suc j) lt = all_below n ys (omega (arith, one_le (ltb y n), some_below n ys)) j (omega arith)

pub is_order_lem : (order : List ℕ) (n : ℕ) → is_order order n ≡ true → IsOrder order n
unfolding is_order
is_order_lem order n h =
    let size : length order ≡ n = eqb-true (length order) n (and_left (eqb (length order) n) (once order n) h) in
    let each : (a : ℕ) → a < n → count a order ≡ 1 = once_at order n (and_right (eqb (length order) n) (once order n) h) in
    record {
      size = size;
      each = each;
      low = λ j lt. all_below n order (sym (counted n order) ∙ upto_ones (λ a. count a order) n each ∙ sym size) j (omega arith);
    }

pub order_holds : (order : List ℕ) (n : ℕ) → length order ≡ n → ((a : ℕ) → a < n → count a order ≡ 1) → is_order order n ≡ true
unfolding is_order
order_holds order n size each = rw (eq-eqb (length order) n size) (once_holds order n each)

-- ---- a count, as it is made

one_more : (b : Bool) (n : ℕ) → one b + n ≡ cond b (1 + n) n
one_more true n = refl
one_more false n = omega arith

pub count_is : (x : ℕ) (l : List ℕ) → count_by (λ y. y == x) l ≡ count x l
unfolding count
count_is x l = sym (is_count_by (count x) (λ y. y == x) refl (λ y ys. one_more (eqb y x) (count x ys)) l)

-- ---- `count` and `below` at what is left of the list

pub count_hit : (x : ℕ) (l : List ℕ) (i : ℕ) → i < length l → get_or l i 0 ≡ x → count x (drop i l) ≡ 1 + count x (drop (i + 1) l)
unfolding count
count_hit x l i h e = rw (add-one, drop-cons l i 0, eq-eqb (get_or l i 0) x e)

pub count_miss : (x : ℕ) (l : List ℕ) (i : ℕ) → i < length l → (get_or l i 0 ≡ x → ⊥) → count x (drop i l) ≡ 0 + count x (drop (i + 1) l)
unfolding count
count_miss x l i h e = rw (add-one, drop-cons l i 0, ne_eqb (get_or l i 0) x e)

pub count_end : (x : ℕ) (l : List ℕ) (i : ℕ) → length l ≤ i → count x (drop i l) ≡ 0
unfolding count
count_end x l i h = rw (drop_of_length-le l h)

pub below_good : (n : ℕ) (rows : List ℕ) (i : ℕ) → i < length rows → get_or rows i 0 < n + i / 2 → below n i (drop i rows) ≡ below n (i + 1) (drop (i + 1) rows)
unfolding below
below_good n rows i h e = rw (add-one, drop-cons rows i 0, lt-ltb (get_or rows i 0) (n + i / 2) e)

pub below_bad : (n : ℕ) (rows : List ℕ) (i : ℕ) → i < length rows → n + i / 2 ≤ get_or rows i 0 → below n i (drop i rows) ≡ false
unfolding below
below_bad n rows i h e = rw (drop-cons rows i 0, le-ltb (get_or rows i 0) (n + i / 2) e)

pub below_end : (n : ℕ) (rows : List ℕ) (i : ℕ) → length rows ≤ i → below n i (drop i rows) ≡ true
unfolding below
below_end n rows i h = rw (drop_of_length-le rows h)

-- ---- `once`, from the largest number down

pub once_good : (l : List ℕ) (m : ℕ) → 0 < m → count (m - 1) l ≡ 1 → once l m ≡ once l (m - 1)
unfolding once
once_good l zero h e = absurd (omega arith)
once_good l (suc m) h e =
    let s : suc m - 1 ≡ m = omega arith in
    rw (s, eq-eqb (count m l) 1 (rw s at e))

pub once_bad : (l : List ℕ) (m : ℕ) → 0 < m → (count (m - 1) l ≡ 1 → ⊥) → once l m ≡ false
unfolding once
once_bad l zero h e = absurd (omega arith)
once_bad l (suc m) h e =
    let s : suc m - 1 ≡ m = omega arith in
    rw (ne_eqb (count m l) 1 (rw s at e))

pub once_end : (l : List ℕ) (m : ℕ) → m ≤ 0 → once l m ≡ true
unfolding once
once_end l zero h = refl
once_end l (suc m) h = absurd (omega arith)
