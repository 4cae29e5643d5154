-- The laws of counting: sums over the numbers below n and over a list, and how often a number stands there.
-- Where each number below m stands in a list once and no other does, the two sums agree. Assumes nothing.
use mathlib.Core.Path.{◌≡◌, refl, sym, ap, subst, ◌∙◌}
use mathlib.Core.Bool.{Bool, true, false}
use mathlib.Core.Logic.{⊎_elim}
use mathlib.Core.List.{List, [], ◌∷◌, ◌++◌}
use Prim.Native.Nat.{ℕ, zero, suc, ◌+◌, ◌*◌, ◌≤◌, ◌<◌, zero-le}
use native.Mathlib.Nat.{add-mul, one-mul, zero-mul, eq-or-lt_of_le, le_of_suc-le-suc, lt_irrefl, mul-le-mul_right}
use native.Mathlib.Numerals.{add-one}
use native.Mathlib.Omega.{arith}
use lib.Dec.{eqb, ltb}
use lib.ListN.{length, get_or}
use borrow.Author.Tests.{eq-eqb, ne_eqb, lt-ltb, le-ltb, ltb-true, ltb-false}
use Rattle.lent.specs.Count.{one, count, upto, over_all}
use Rattle.lent.specs.Grid.{tab}
use Rattle.lent.proofs.Laws.{either, same_or_not, tab_of}

-- ---- a test as a number

pub one_true : (b : Bool) → b ≡ true → one b ≡ 1
one_true b e = rw e

pub one_false : (b : Bool) → b ≡ false → one b ≡ 0
one_false b e = rw e

pub one_le : (b : Bool) → one b ≤ 1
one_le true = omega arith
one_le false = omega arith

-- v below m, or m itself
pub one_lt : (v m : ℕ) → one (ltb v m) + one (eqb v m) ≡ one (ltb v (m + 1))
one_lt v m =
    ⊎_elim
    (λ e.
    let p : ltb v m ≡ false = le-ltb v m (omega arith) in
    let q : ltb v (m + 1) ≡ true = lt-ltb v (m + 1) (omega arith) in
    omega (arith, one_false _ p, one_true _ q, one_true _ (eq-eqb v m e)))
    (λ h.
    ⊎_elim
    (λ p.
    let l : v < m = ltb-true v m p in
    let q : ltb v (m + 1) ≡ true = lt-ltb v (m + 1) (omega arith) in
    omega (arith, one_true _ p, one_true _ q, one_false _ (ne_eqb v m h)))
    (λ p.
    let l : m ≤ v = ltb-false v m p in
    let k : m < v = above l h in
    let q : ltb v (m + 1) ≡ false = le-ltb v (m + 1) (omega arith) in
    omega (arith, one_false _ p, one_false _ q, one_false _ (ne_eqb v m h)))
    (either (ltb v m)))
    (same_or_not v m)
  where
    above : m ≤ v → (v ≡ m → ⊥) → m < v
    above l h = ⊎_elim (λ e. absurd (h (sym e))) (λ k. k) (eq-or-lt_of_le l)

-- ---- sums over the numbers below n

pub upto_same : (f g : ℕ → ℕ) (n : ℕ) → ((a : ℕ) → a < n → f a ≡ g a) → upto f n ≡ upto g n
unfolding upto
upto_same f g zero e = refl
upto_same f g (suc n) e = omega (arith, upto_same f g n (λ x lt. e x (omega arith)), e n (omega arith))

pub upto_add : (f g : ℕ → ℕ) (n : ℕ) → upto (λ x. f x + g x) n ≡ upto f n + upto g n
unfolding upto
upto_add f g zero = refl
upto_add f g (suc n) = omega (arith, upto_add f g n)

pub upto_le : (f g : ℕ → ℕ) (n : ℕ) → ((a : ℕ) → a < n → f a ≤ g a) → upto f n ≤ upto g n
unfolding upto
upto_le f g zero e = zero-le
upto_le f g (suc n) e = omega (arith, upto_le f g n (λ x lt. e x (omega arith)), e n (omega arith))

pub upto_zero : (f : ℕ → ℕ) (n : ℕ) → ((a : ℕ) → a < n → f a ≡ 0) → upto f n ≡ 0
unfolding upto
upto_zero f zero e = refl
upto_zero f (suc n) e = omega (arith, upto_zero f n (λ x lt. e x (omega arith)), e n (omega arith))

pub upto_ones : (f : ℕ → ℕ) (n : ℕ) → ((a : ℕ) → a < n → f a ≡ 1) → upto f n ≡ n
unfolding upto
upto_ones f zero e = refl
upto_ones f (suc n) e = omega (arith, upto_ones f n (λ x lt. e x (omega arith)), e n (omega arith))

-- one term is at most the sum
pub upto_term : (f : ℕ → ℕ) (n j : ℕ) → j < n → f j ≤ upto f n
unfolding upto
upto_term f zero j l = absurd (omega arith)
upto_term f (suc n) j l =
    ⊎_elim (λ e. rw e (omega arith)) (λ k. omega (arith, upto_term f n j k)) (eq-or-lt_of_le (le_of_suc-le-suc l))

-- only the number y counts
pub upto_hit : (f : ℕ → ℕ) (y n : ℕ) → y < n → ((x : ℕ) → x < n → (x ≡ y → ⊥) → f x ≡ 0) → upto f n ≡ f y
unfolding upto
upto_hit f y zero lt e = absurd (omega arith)
upto_hit f y (suc n) lt e =
    ⊎_elim (λ q. rw q (omega (arith, upto_zero f n (λ x l. e x (omega arith) (omega arith)))))
    (λ l. omega (arith, upto_hit f y n (omega arith) (λ x k. e x (omega arith)), e n (omega arith) (omega arith)))
    (eq-or-lt_of_le {n = y} {m = n} (omega arith))

-- f and g differ at j alone
pub upto_swap : (f g : ℕ → ℕ) (n j : ℕ) → j < n → ((a : ℕ) → a < n → (a ≡ j → ⊥) → f a ≡ g a) → upto g n + f j ≡ upto f n + g j
unfolding upto
upto_swap f g zero j l h = absurd (omega arith)
upto_swap f g (suc n) j l h =
    ⊎_elim
    (λ e.
    let s : upto f n ≡ upto g n = upto_same f g n (λ a k. h a (omega arith) (λ q. lt_irrefl _ (subst (λ (z : ℕ). a < z) (sym e ∙ sym q) k))) in
    rw e (omega arith))
    (λ k.
    let s : upto g n + f j ≡ upto f n + g j = upto_swap f g n j k (λ a q. h a (omega arith)) in
    let t : f n ≡ g n = h n (omega arith) (λ q. lt_irrefl _ (subst (λ (z : ℕ). j < z) q k)) in
    omega arith)
    (eq-or-lt_of_le (le_of_suc-le-suc l))

-- of the numbers below n, v is one just where it is below n
pub upto_is : (v n : ℕ) → upto (λ a. one (eqb v a)) n ≡ one (ltb v n)
unfolding upto
upto_is v zero = sym (one_false _ (le-ltb v 0 zero-le))
upto_is v (suc n) = ap (λ (z : ℕ). z + one (eqb v n)) (upto_is v n) ∙ one_lt v n ∙ ap (λ (z : ℕ). one (ltb v z)) (add-one n)

-- ---- how often a number stands in a list

pub count_append : (v : ℕ) (xs ys : List ℕ) → count v (xs ++ ys) ≡ count v xs + count v ys
unfolding count
count_append v [] ys = omega arith
count_append v (x ∷ xs) ys = omega (arith, count_append v xs ys)

-- ---- sums over a list

pub over_all_snoc : (f : ℕ → ℕ) (xs : List ℕ) (y : ℕ) → over_all f (xs ++ (y ∷ [])) ≡ over_all f xs + f y
unfolding over_all
over_all_snoc f [] y = omega arith
over_all_snoc f (x ∷ xs) y = omega (arith, over_all_snoc f xs y)

pub over_all_append : (f : ℕ → ℕ) (xs ys : List ℕ) → over_all f (xs ++ ys) ≡ over_all f xs + over_all f ys
unfolding over_all
over_all_append f [] ys = omega arith
over_all_append f (x ∷ xs) ys = omega (arith, over_all_append f xs ys)

-- the entries of a list added up, by their places
pub over_all_tab : (n : ℕ) (f : ℕ → ℕ) → over_all (λ x. x) (tab n f) ≡ upto f n
unfolding tab upto over_all
over_all_tab zero f = refl
over_all_tab (suc n) f = over_all_snoc (λ x. x) (tab n f) (f n) ∙ ap (λ (s : ℕ). s + f n) (over_all_tab n f)

pub over_all_places : (l : List ℕ) (n : ℕ) (f : ℕ → ℕ) → length l ≡ n → ((k : ℕ) → k < n → get_or l k 0 ≡ f k) → over_all (λ x. x) l ≡ upto f n
over_all_places l n f e h = ap (over_all (λ x. x)) (tab_of n f l 0 e h) ∙ over_all_tab n f

-- a sum over a list goes by how often each number stands there
weigh : (f : ℕ → ℕ) (m : ℕ) (xs : List ℕ) → ((j : ℕ) → j < length xs → get_or xs j 0 < m) → over_all f xs ≡ upto (λ x. count x xs * f x) m
unfolding over_all count
weigh f m [] low = sym (upto_zero (λ x. 0 * f x) m (λ x lt. zero-mul (f x)))
weigh f m (y ∷ ys) low =
    let hit : upto (λ x. one (eqb y x) * f x) m ≡ one (eqb y y) * f y = upto_hit (λ x. one (eqb y x) * f x) y m (low 0 (omega arith)) (λ x lt ne. rw (ne_eqb y x (λ q. ne (sym q))) (zero-mul (f x))) in
    let mine : one (eqb y y) * f y ≡ f y = rw (eq-eqb y y refl) (one-mul (f y)) in
    let parts : upto (λ x. (one (eqb y x) + count x ys) * f x) m ≡ upto (λ x. one (eqb y x) * f x + count x ys * f x) m =
    upto_same (λ x. (one (eqb y x) + count x ys) * f x) (λ x. one (eqb y x) * f x + count x ys * f x) m (λ x lt. add-mul (one (eqb y x)) (count x ys) (f x)) in
    omega (arith, hit, mine, parts, upto_add (λ x. one (eqb y x) * f x) (λ x. count x ys * f x) m, weigh f m ys (λ j lt. low (suc j) (omega arith)))

pub over_all_upto : (f : ℕ → ℕ) (m : ℕ) (xs : List ℕ) → ((j : ℕ) → j < length xs → get_or xs j 0 < m) → ((x : ℕ) → x < m → count x xs ≡ 1) → over_all f xs ≡ upto f m
over_all_upto f m xs low each =
    weigh f m xs low ∙ upto_same (λ x. count x xs * f x) f m (λ x lt. rw (each x lt) (one-mul (f x)))

-- where none stands in the list twice
pub over_all_le : (f : ℕ → ℕ) (m : ℕ) (xs : List ℕ) → ((j : ℕ) → j < length xs → get_or xs j 0 < m) → ((x : ℕ) → x < m → count x xs ≤ 1) → over_all f xs ≤ upto f m
over_all_le f m xs low each =
    omega (arith, weigh f m xs low, upto_le (λ x. count x xs * f x) f m (λ x lt. omega (arith, mul-le-mul_right (f x) (each x lt), one-mul (f x))))
