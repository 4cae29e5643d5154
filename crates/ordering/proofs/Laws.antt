-- The tests that the code makes, and the steps of its loops. Assumes nothing.
use Rattle.std.proofs.Common.{◌≡◌, ℕ, suc, ◌+◌, ◌<◌, ◌≤◌, Bool, true, false, not, ◌&&◌, ◌||◌, T, List, [], ◌∷◌, ◌++◌, length, get_or, take, drop, set, sym, refl, ap, ◌∙◌, subst, add-one, arith, length-append, drop_of_length-le, take_all, drop-cons, take-suc-set, take_at, drop-set-lt, drop_at, length-set}
use mathlib.Core.Bool.{false≢true}
use lib.Seq.{append_snoc, set_at, set-get_or}
use lib.Ieee.{Float, nan, inf, fin, lt, eq, is_nan}
use Rattle.std.specs.Float.{is_sign_negative}
use Rattle.ordering.specs.Order.{has_minus, before, insert, insert_all, sorted, earlier, later}

-- ---- the sign

pub sign_of : (x : Float) → has_minus x ≡ is_sign_negative x
unfolding has_minus is_sign_negative
sign_of nan = refl
sign_of (inf s) = refl
sign_of (fin s m e) = refl

pub is_number : (x : Float) → is_nan x ≡ false → T (not (is_nan x))
is_number x e = subst (λ (b : Bool). T (not b)) (sym e) tt

-- ---- what a comparison tells

pub lt_left : (x y : Float) → lt x y ≡ true → is_nan x ≡ false
unfolding lt is_nan
lt_left nan y e = absurd (false≢true e)
lt_left (inf s) y e = refl
lt_left (fin s m d) y e = refl

pub eq_left : (x y : Float) → eq x y ≡ true → is_nan x ≡ false
unfolding eq is_nan
eq_left nan y e = absurd (false≢true e)
eq_left (inf s) y e = refl
eq_left (fin s m d) y e = refl

pub eq_right : (x y : Float) → eq x y ≡ true → is_nan y ≡ false
unfolding eq is_nan
eq_right nan y e = absurd (false≢true e)
eq_right (inf s) nan e = absurd (false≢true e)
eq_right (inf s) (inf t) e = refl
eq_right (inf s) (fin t n d) e = refl
eq_right (fin s m c) nan e = absurd (false≢true e)
eq_right (fin s m c) (inf t) e = refl
eq_right (fin s m c) (fin t n d) e = refl

or_true : (b : Bool) → (b || true) ≡ true
or_true true = refl
or_true false = refl

or_false : (b : Bool) → (b || false) ≡ b
or_false true = refl
or_false false = refl

pub before_less : (x y : Float) → lt x y ≡ true → true ≡ before x y
unfolding before
before_less x y h = rw (lt_left x y h, h) (sym (or_true (is_nan y)))

pub before_equal : (x y : Float) → lt x y ≡ false → eq x y ≡ true → before x y ≡ (has_minus x && not (has_minus y))
unfolding before
before_equal x y h e = rw (eq_left x y e, eq_right x y e, h, e)

pub before_apart : (x y : Float) → lt x y ≡ false → eq x y ≡ false → before x y ≡ (not (is_nan x) && is_nan y)
unfolding before
before_apart x y h e = rw (h, e, or_false (is_nan y))

-- ---- a pass: what is done, and what is left

pub pass_step : (l : List Float) (x : Float) (k : ℕ) → k < length l
    → take (k + 1) (set l k (earlier x (get_or l k nan))) ++ insert (later x (get_or l k nan)) (drop (k + 1) (set l k (earlier x (get_or l k nan)))) ≡ take k l ++ insert x (drop k l)
unfolding insert
pass_step l x k h =
    let y = get_or l k nan in
    let a = earlier x y in
    rw (add-one, take-suc-set l k a h, drop-set-lt (suc k) l k a (omega arith), drop-cons l k nan h) (append_snoc (take k l) a (insert (later x y) (drop (suc k) l)))

-- the two ways of a turn: x is put down at k and the entry there taken up, or not
module _ (l xs : List Float) (x h : Float) (k : ℕ) (lt-k : k < length l) where
  pub pass_swap : true ≡ before x (get_or l k nan) → xs ≡ set l k x → h ≡ get_or l k nan
      → (length xs ≡ length l) × (take (k + 1) xs ++ insert h (drop (k + 1) xs) ≡ take k l ++ insert x (drop k l))
  pass_swap b e g = (ap length e ∙ simp length-set, rw (e, g) (rw (← b) at (pass_step l x k lt-k)))

  pub pass_keep : false ≡ before x (get_or l k nan) → xs ≡ l → h ≡ x
      → (length xs ≡ length l) × (take (k + 1) xs ++ insert h (drop (k + 1) xs) ≡ take k l ++ insert x (drop k l))
  pass_keep b e g = (ap length e, rw (e, g) (rw (← b, set-get_or) at (pass_step l x k lt-k)))

pub pass_end : (l : List Float) (x : Float) (k : ℕ) → length l ≤ k → take k l ++ insert x (drop k l) ≡ l ++ (x ∷ [])
unfolding insert
pass_end l x k h = rw (take_all k l h, drop_of_length-le l h)

-- ---- the sort: what is in order, and what is left

pub length_insert : (x : Float) (l : List Float) → length (insert x l) ≡ suc (length l)
unfolding insert
length_insert x [] = refl
length_insert x (y ∷ l) = ap suc (length_insert (later x y) l)

pub sort_start : (l : List Float) → insert_all (take 0 l) (drop 0 l) ≡ sorted l
unfolding sorted
sort_start l = refl

-- after a pass over the first i entries, whose last is stored at i
pub sort_step : (l p : List Float) (r : Float) (i : ℕ) → i < length l → p ++ (r ∷ []) ≡ insert (get_or l i nan) (take i l) → length p ≡ i
    → insert_all (take (i + 1) (set (p ++ drop i l) i r)) (drop (i + 1) (set (p ++ drop i l) i r)) ≡ insert_all (take i l) (drop i l)
unfolding insert_all
sort_step l p r i h e n =
    let x = get_or l i nan in
    let d : drop i l ≡ x ∷ drop (suc i) l = drop-cons l i nan h in
    let s : set (p ++ drop i l) i r ≡ (p ++ (r ∷ [])) ++ drop (suc i) l = rw d (set_at p x (drop (suc i) l) r i n ∙ sym (append_snoc p r (drop (suc i) l))) in
    let k : length (p ++ (r ∷ [])) ≡ i + 1 = length-append p (r ∷ []) ∙ ap (λ (m : ℕ). m + 1) n in
    rw (s, take_at (p ++ (r ∷ [])) (drop (suc i) l) (i + 1) k, drop_at (p ++ (r ∷ [])) (drop (suc i) l) (i + 1) k, d, e)

pub sort_end : (l : List Float) (i : ℕ) → length l ≤ i → insert_all (take i l) (drop i l) ≡ l
unfolding insert_all
sort_end l i h = rw (take_all i l h, drop_of_length-le l h)
