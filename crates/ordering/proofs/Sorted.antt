-- `sorted l` has the entries of l, is in order, and is the only such list. Assumes nothing.
use Rattle.std.proofs.Common.{◌≡◌, ℕ, ◌+◌, ◌<◌, ◌≤◌, Bool, true, false, cond, eqb, List, [], ◌∷◌, sym, refl, ap, ◌∙◌, subst, le_trans, le_refl, le_antisymm, arith, eq-eqb, eqb-true}
use lib.Ieee.{Float, binary64, to_bits}
use Rattle.ordering.specs.Order.{before, insert, insert_all, sorted}
use Rattle.ordering.specs.Meaning.{Each, Double, Ordered, count_bits, Same}
use Rattle.ordering.proofs.Rank.{rank, by_bits, rank_one, not_before, is_before, no_before}

-- ---- what holds of every entry holds after an insertion

each_insert : (P : Float → Type 0) (x : Float) (l : List Float) → P x → Each P l → Each P (insert x l)
unfolding insert
each_insert P x [] p q = (p, tt)
each_insert P x (y ∷ l) p q = go (before x y) (λ z r. each_insert P z l r q.1)
  where
    go : (b : Bool) → ((z : Float) → P z → Each P (insert z l)) → P (cond b x y) × Each P (insert (cond b y x) l)
    go true ih = (p, ih y q.0)
    go false ih = (q.0, ih x p)

each_all : (P : Float → Type 0) (d l : List Float) → Each P d → Each P l → Each P (insert_all d l)
unfolding insert_all
each_all P d [] p q = p
each_all P d (x ∷ l) p q = each_all P (insert x d) l (each_insert P x d q.0 p) q.1

-- ---- an insertion keeps the order

-- what no entry of l stands before, x stands before: so none stands before x
pub further : (x y : Float) → Double x → Double y → rank x ≤ rank y → (l : List Float) → Each Double l → Each (λ z. before z y ≡ false) l → Each (λ z. before z x ≡ false) l
further x y f g h [] p q = tt
further x y f g h (z ∷ l) p q =
    (no_before z x p.0 f (le_trans h (not_before z y p.0 g q.0)), further x y f g h l p.1 q.1)

pub less_le : (a b : ℕ) → a < b → a ≤ b
less_le a b h = omega arith

ordered_insert : (x : Float) (l : List Float) → Double x → Each Double l → Ordered l → Ordered (insert x l)
unfolding insert
ordered_insert x [] f p o = (tt, tt)
ordered_insert x (y ∷ l) f p o = go (before x y) (λ z g. ordered_insert z l g p.1 o.1) refl
  where
    go : (b : Bool) → ((z : Float) → Double z → Ordered (insert z l)) → before x y ≡ b → Each (λ z. before z (cond b x y) ≡ false) (insert (cond b y x) l) × Ordered (insert (cond b y x) l)
    go true ih e =
        let h : rank x ≤ rank y = less_le (rank x) (rank y) (is_before x y f p.0 e) in
        (each_insert (λ z. before z x ≡ false) y l (no_before y x p.0 f h) (further x y f p.0 h l p.1 o.0), ih y p.0)
    go false ih e = (each_insert (λ z. before z y ≡ false) x l e o.0, ih x f)

ordered_all : (d l : List Float) → Each Double d → Each Double l → Ordered d → Ordered (insert_all d l)
unfolding insert_all
ordered_all d [] p q o = o
ordered_all d (x ∷ l) p q o = ordered_all (insert x d) l (each_insert Double x d q.0 p) q.1 (ordered_insert x d q.0 p o)

-- ---- an insertion adds one entry

one : ℕ → Float → ℕ
one b x = cond (eqb (to_bits binary64 x) b) 1 0

swap : (a b c : ℕ) → a + (b + c) ≡ b + (a + c)
swap a b c = omega arith

count_insert : (b : ℕ) (x : Float) (l : List Float) → count_bits b (insert x l) ≡ one b x + count_bits b l
unfolding insert count_bits one
count_insert b x [] = refl
count_insert b x (y ∷ l) = go (before x y) (λ z. count_insert b z l)
  where
    go : (t : Bool) → ((z : Float) → count_bits b (insert z l) ≡ one b z + count_bits b l) → one b (cond t x y) + count_bits b (insert (cond t y x) l) ≡ one b x + (one b y + count_bits b l)
    go true ih = ap (λ (n : ℕ). one b x + n) (ih y)
    go false ih = ap (λ (n : ℕ). one b y + n) (ih x) ∙ swap (one b y) (one b x) (count_bits b l)

count_all_lem : (b : ℕ) (d l : List Float) → count_bits b (insert_all d l) ≡ count_bits b d + count_bits b l
unfolding insert_all count_bits one
count_all_lem b d [] = omega arith
count_all_lem b d (x ∷ l) = count_all_lem b (insert x d) l ∙ ap (λ (n : ℕ). n + count_bits b l) (count_insert b x d) ∙ regroup (one b x) (count_bits b d) (count_bits b l)
  where
    regroup : (a c e : ℕ) → a + c + e ≡ c + (a + e)
    regroup a c e = omega arith

-- ---- the three claims

pub sorted_doubles : (l : List Float) → Each Double l → Each Double (sorted l)
unfolding sorted
sorted_doubles l p = each_all Double [] l tt p

pub sorted_ordered : (l : List Float) → Each Double l → Ordered (sorted l)
unfolding sorted
sorted_ordered l p = ordered_all [] l tt p tt

pub sorted_same : (l : List Float) → Same (sorted l) l
unfolding sorted count_bits
sorted_same l b = count_all_lem b [] l ∙ zero_plus (count_bits b l)
  where
    zero_plus : (n : ℕ) → 0 + n ≡ n
    zero_plus n = omega arith

-- ---- two lists in order with the same entries

own : (x : Float) (l : List Float) → 0 < count_bits (to_bits binary64 x) (x ∷ l)
unfolding count_bits
own x l = rw (eq-eqb (to_bits binary64 x) (to_bits binary64 x) refl) (omega arith)

-- an entry with given bits is found, with what is known of every entry
found : (P : Float → Type 0) (x : Float) (l : List Float) → Double x → Each Double l → Each P l → 0 < count_bits (to_bits binary64 x) l → P x
unfolding count_bits
found P x [] f p q h = absurd (omega arith)
found P x (z ∷ l) f p q h = go (eqb (to_bits binary64 z) (to_bits binary64 x)) (found P x l f p.1 q.1) refl h
  where
    go : (b : Bool) → (0 < count_bits (to_bits binary64 x) l → P x) → eqb (to_bits binary64 z) (to_bits binary64 x) ≡ b → 0 < cond b 1 0 + count_bits (to_bits binary64 x) l → P x
    go true ih e k = subst P (by_bits z x p.0 f (eqb-true (to_bits binary64 z) (to_bits binary64 x) e)) q.0
    go false ih e k = ih (omega arith)

cancel : (a b c : ℕ) → a + b ≡ a + c → b ≡ c
cancel a b c e = omega arith

no_self : (x : Float) → Double x → before x x ≡ false
no_self x f = no_before x x f f (le_refl (rank x))

pub ordered_one : (a b : List Float) → Each Double a → Each Double b → Ordered a → Ordered b → Same a b → a ≡ b
unfolding count_bits
ordered_one [] [] p q o r s = refl
ordered_one [] (y ∷ b) p q o r s = absurd (let h = own y b in let e = s (to_bits binary64 y) in omega arith)
ordered_one (x ∷ a) [] p q o r s = absurd (let h = own x a in let e = s (to_bits binary64 x) in omega arith)
ordered_one (x ∷ a) (y ∷ b) p q o r s =
    let hx : 0 < count_bits (to_bits binary64 x) (y ∷ b) = subst (λ (n : ℕ). 0 < n) (s (to_bits binary64 x)) (own x a) in
    let hy : 0 < count_bits (to_bits binary64 y) (x ∷ a) = subst (λ (n : ℕ). 0 < n) (sym (s (to_bits binary64 y))) (own y b) in
    let bx : before x y ≡ false = found (λ z. before z y ≡ false) x (y ∷ b) p.0 q (no_self y q.0, r.0) hx in
    let by : before y x ≡ false = found (λ z. before z x ≡ false) y (x ∷ a) q.0 p (no_self x p.0, o.0) hy in
    let e : x ≡ y = rank_one x y p.0 q.0 (le_antisymm (not_before y x q.0 p.0 by) (not_before x y p.0 q.0 bx)) in
    let t : a ≡ b = ordered_one a b p.1 q.1 o.1 r.1 (λ k. cancel (cond (eqb (to_bits binary64 x) k) 1 0) (count_bits k a) (count_bits k b) (s k ∙ ap (λ (z : Float). cond (eqb (to_bits binary64 z) k) 1 0 + count_bits k b) (sym e))) in
    cc

-- so no second list fits
pub sorted_only : (l r : List Float) → Each Double l → Each Double r → Ordered r → Same r l → r ≡ sorted l
sorted_only l r p q o s = ordered_one r (sorted l) q (sorted_doubles l p) o (sorted_ordered l p) (λ b. s b ∙ sym (sorted_same l b))
