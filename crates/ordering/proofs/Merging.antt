-- Two ordered lists merged: what the merge of a list's ordered halves is, and the steps of the loop that merges. Assumes nothing.
use Rattle.std.proofs.Common.{◌≡◌, ℕ, zero, suc, ◌+◌, ◌-◌, ◌/◌, ◌<◌, ◌≤◌, Bool, true, false, cond, eqb, List, [], ◌∷◌, ◌++◌, length, get_or, take, drop, set, sym, refl, ap, ◌∙◌, true≢false, append-nil, add-one, arith, length-append, length-drop, length-set, take-append-drop, drop_of_length-le, length-take-le, take_all, drop-cons, take-suc-set, take_at, drop-set-lt, drop_at}
use native.Mathlib.Decide.{dec_lt}
use lib.Seq.{append_snoc}
use lib.Ieee.{Float, nan, binary64, to_bits}
use Rattle.lent.specs.Grid.{over}
use Rattle.lent.proofs.Laws.{over_all_lem}
use Rattle.ordering.specs.Order.{before, sorted}
use Rattle.ordering.specs.Inner.{leads, through, interleaved}
use Rattle.ordering.specs.Meaning.{Each, Double, Ordered, count_bits}
use Rattle.ordering.proofs.Rank.{rank, not_before, is_before, no_before}
use Rattle.ordering.proofs.Sorted.{further, less_le, sorted_doubles, sorted_ordered, sorted_same, sorted_only}

-- ---- what holds of every entry holds after a merge

each_through : (P : Float → Type 0) (x : Float) (a b : List Float) → P x → ((d : List Float) → Each P d → Each P (interleaved a d)) → Each P b → Each P (through x (interleaved a) b)
unfolding through
each_through P x a [] p ih q = (p, ih [] tt)
each_through P x a (y ∷ b) p ih q = go (before y x) (each_through P x a b p ih q.1)
  where
    go : (t : Bool) → Each P (through x (interleaved a) b) → Each P (cond t (y ∷ through x (interleaved a) b) (x ∷ interleaved a (y ∷ b)))
    go true r = (q.0, r)
    go false r = (p, ih (y ∷ b) q)

each_merged : (P : Float → Type 0) (a b : List Float) → Each P a → Each P b → Each P (interleaved a b)
unfolding interleaved
each_merged P [] b p q = q
each_merged P (x ∷ a) b p q = each_through P x a b p.0 (λ d r. each_merged P a d p.1 r) q

-- ---- a merge keeps the order

ordered_through : (x : Float) (a b : List Float) → Double x → Each Double a → Each (λ z. before z x ≡ false) a
    → ((d : List Float) → Each Double d → Ordered d → Ordered (interleaved a d)) → Each Double b → Ordered b → Ordered (through x (interleaved a) b)
unfolding through
ordered_through x a [] f p l ih q o = (each_merged (λ z. before z x ≡ false) a [] l tt, ih [] tt tt)
ordered_through x a (y ∷ b) f p l ih q o = go (before y x) (ordered_through x a b f p l ih q.1 o.1) refl
  where
    go : (t : Bool) → Ordered (through x (interleaved a) b) → before y x ≡ t → Ordered (cond t (y ∷ through x (interleaved a) b) (x ∷ interleaved a (y ∷ b)))
    go true r e =
        let h : rank y ≤ rank x = less_le (rank y) (rank x) (is_before y x q.0 f e) in
        let la : Each (λ z. before z y ≡ false) a = further y x q.0 f h a p l in
        (each_through (λ z. before z y ≡ false) x a b (no_before x y f q.0 h) (λ d s. each_merged (λ z. before z y ≡ false) a d la s) o.0, r)
    go false r e =
        let h : rank x ≤ rank y = not_before y x q.0 f e in
        (each_merged (λ z. before z x ≡ false) a (y ∷ b) l (e, further x y f q.0 h b q.1 o.0), ih (y ∷ b) q o)

ordered_merged : (a b : List Float) → Each Double a → Each Double b → Ordered a → Ordered b → Ordered (interleaved a b)
unfolding interleaved
ordered_merged [] b p q o r = r
ordered_merged (x ∷ a) b p q o r = ordered_through x a b p.0 p.1 o.0 (λ d s t. ordered_merged a d p.1 s o.1 t) q r

-- ---- a merge has the entries of both

none_first : (n : ℕ) → n ≡ 0 + n
none_first n = omega arith

none_more : (u n : ℕ) → u + (n + 0) ≡ u + n + 0
none_more u n = omega arith

past : (u v n m : ℕ) → v + (u + n + m) ≡ u + n + (v + m)
past u v n m = omega arith

on : (u n m : ℕ) → u + (n + m) ≡ u + n + m
on u n m = omega arith

count_through : (k : ℕ) (x : Float) (a b : List Float) → ((d : List Float) → count_bits k (interleaved a d) ≡ count_bits k a + count_bits k d) → count_bits k (through x (interleaved a) b) ≡ count_bits k (x ∷ a) + count_bits k b
unfolding through count_bits
count_through k x a [] ih = ap (λ (n : ℕ). cond (eqb (to_bits binary64 x) k) 1 0 + n) (ih []) ∙ none_more (cond (eqb (to_bits binary64 x) k) 1 0) (count_bits k a)
count_through k x a (y ∷ b) ih = go (before y x) (count_through k x a b ih)
  where
    go : (t : Bool) → count_bits k (through x (interleaved a) b) ≡ count_bits k (x ∷ a) + count_bits k b → count_bits k (cond t (y ∷ through x (interleaved a) b) (x ∷ interleaved a (y ∷ b))) ≡ count_bits k (x ∷ a) + count_bits k (y ∷ b)
    go true r = ap (λ (n : ℕ). cond (eqb (to_bits binary64 y) k) 1 0 + n) r ∙ past (cond (eqb (to_bits binary64 x) k) 1 0) (cond (eqb (to_bits binary64 y) k) 1 0) (count_bits k a) (count_bits k b)
    go false r = ap (λ (n : ℕ). cond (eqb (to_bits binary64 x) k) 1 0 + n) (ih (y ∷ b)) ∙ on (cond (eqb (to_bits binary64 x) k) 1 0) (count_bits k a) (count_bits k (y ∷ b))

count_merged : (k : ℕ) (a b : List Float) → count_bits k (interleaved a b) ≡ count_bits k a + count_bits k b
unfolding interleaved count_bits
count_merged k [] b = none_first (count_bits k b)
count_merged k (x ∷ a) b = count_through k x a b (λ d. count_merged k a d)

count_append : (k : ℕ) (a b : List Float) → count_bits k (a ++ b) ≡ count_bits k a + count_bits k b
unfolding count_bits
count_append k [] b = none_first (count_bits k b)
count_append k (x ∷ a) b = ap (λ (n : ℕ). cond (eqb (to_bits binary64 x) k) 1 0 + n) (count_append k a b) ∙ on (cond (eqb (to_bits binary64 x) k) 1 0) (count_bits k a) (count_bits k b)

-- ---- the ordered parts of a list, merged

each_append : (P : Float → Type 0) (a b : List Float) → Each P a → Each P b → Each P (a ++ b)
each_append P [] b p q = q
each_append P (x ∷ a) b p q = (p.0, each_append P a b p.1 q)

each_take : (P : Float → Type 0) (n : ℕ) (l : List Float) → Each P l → Each P (take n l)
each_take P zero l p = tt
each_take P (suc n) [] p = tt
each_take P (suc n) (x ∷ l) p = (p.0, each_take P n l p.1)

each_drop : (P : Float → Type 0) (n : ℕ) (l : List Float) → Each P l → Each P (drop n l)
each_drop P zero l p = p
each_drop P (suc n) [] p = tt
each_drop P (suc n) (x ∷ l) p = each_drop P n l p.1

merged_sorted : (a b : List Float) → Each Double a → Each Double b → interleaved (sorted a) (sorted b) ≡ sorted (a ++ b)
merged_sorted a b p q =
    let u = sorted_doubles a p in
    let v = sorted_doubles b q in
    sorted_only (a ++ b) (interleaved (sorted a) (sorted b)) (each_append Double a b p q) (each_merged Double (sorted a) (sorted b) u v)
    (ordered_merged (sorted a) (sorted b) u v (sorted_ordered a p) (sorted_ordered b q))
    (λ k. count_merged k (sorted a) (sorted b) ∙ ap (λ (n : ℕ). n + count_bits k (sorted b)) (sorted_same a k) ∙ ap (λ (n : ℕ). count_bits k a + n) (sorted_same b k) ∙ sym (count_append k a b))

pub merged_halves : (l : List Float) (n : ℕ) → Each Double l → interleaved (sorted (take n l)) (sorted (drop n l)) ≡ sorted l
merged_halves l n p = merged_sorted (take n l) (drop n l) (each_take Double n l p) (each_drop Double n l p) ∙ ap sorted (take-append-drop n l)

-- a slice's entries are doubles
pub all_doubles : (l : List Float) → ((i : ℕ) → Double (get_or l i nan)) → Each Double l
all_doubles [] h = tt
all_doubles (x ∷ l) h = (h 0, all_doubles l (λ i. h (suc i)))

-- ---- the next entry of the second list

pub leads_some : (l : List Float) (j : ℕ) (x : Float) → j < length l → before (get_or l j nan) x ≡ leads (drop j l) x
unfolding leads
leads_some l j x h = rw (drop-cons l j nan h)

pub leads_none : (l : List Float) (j : ℕ) (x : Float) → length l ≤ j → false ≡ leads (drop j l) x
unfolding leads
leads_none l j x h = rw (drop_of_length-le l h)

leads_in : (l : List Float) (j : ℕ) (x : Float) → true ≡ leads (drop j l) x → j < length l
leads_in l j x e = go (dec_lt j (length l))
  where
    go : Dec (j < length l) → j < length l
    go (yes h) = h
    go (no n) = absurd (true≢false (e ∙ sym (leads_none l j x (omega arith))))

-- ---- the loop that merges

merged_second : (x y : Float) (a b : List Float) → true ≡ before y x → interleaved (x ∷ a) (y ∷ b) ≡ y ∷ interleaved (x ∷ a) b
unfolding interleaved through
merged_second x y a b h = rw (← h)

merged_first : (x : Float) (a b : List Float) → false ≡ leads b x → interleaved (x ∷ a) b ≡ x ∷ interleaved a b
unfolding interleaved through leads
merged_first x a [] h = refl
merged_first x a (y ∷ b) h = rw (← h)

-- of the entries past the room's and of the room's, k are in place; i of the room's are taken, and xs is not yet read from j on
pub record Woven (room l xs : List Float) (i j k : ℕ) : Type 0 where
  pub long : length xs ≡ length l
  pub some : i ≤ length room
  pub within : j ≤ length xs
  pub even : k + length room ≡ i + j
  pub made : take k xs ++ interleaved (drop i room) (drop j xs) ≡ interleaved room (drop (length room) l)

module _ (room l xs : List Float) (i j k : ℕ) (w : Woven room l xs i j k) (h : i < length room) where
  pub second_in : true ≡ leads (drop j xs) (get_or room i nan) → j < length xs
  second_in e = leads_in xs j (get_or room i nan) e

  pub place_in : (k < j) × (k < length xs)
  place_in = (omega (arith, w.even), omega (arith, w.even, w.within))

  woven_second : true ≡ leads (drop j xs) (get_or room i nan) → Woven room l (set xs k (get_or xs j nan)) i (j + 1) (k + 1)
  woven_second e =
      let x = get_or room i nan in
      let y = get_or xs j nan in
      let s = leads_in xs j x e in
      let g = place_in in
      let n = length-set xs k y in
      let b : true ≡ before y x = e ∙ sym (leads_some xs j x s) in
      record {
        long = n ∙ w.long;
        some = w.some;
        within = omega arith;
        even = omega (arith, w.even);
        made =
            rw (add-one k, add-one j, take-suc-set xs k y g.1, drop-set-lt (suc j) xs k y (omega (arith, g.0)))
            (append_snoc (take k xs) y (interleaved (drop i room) (drop (suc j) xs))
            ∙ ap (λ (z : List Float). take k xs ++ z)
            (ap (λ (z : List Float). y ∷ interleaved z (drop (suc j) xs)) (drop-cons room i nan h)
            ∙ sym (merged_second x y (drop (suc i) room) (drop (suc j) xs) b)
            ∙ ap (λ (z : List Float). interleaved z (y ∷ drop (suc j) xs)) (sym (drop-cons room i nan h))
            ∙ ap (λ (z : List Float). interleaved (drop i room) z) (sym (drop-cons xs j nan s)))
            ∙ w.made);
      }

  woven_first : false ≡ leads (drop j xs) (get_or room i nan) → Woven room l (set xs k (get_or room i nan)) (i + 1) j (k + 1)
  woven_first e =
      let x = get_or room i nan in
      let g = place_in in
      let n = length-set xs k x in
      record {
        long = n ∙ w.long;
        some = omega arith;
        within = omega (arith, w.within);
        even = omega (arith, w.even);
        made =
            rw (add-one k, add-one i, take-suc-set xs k x g.1, drop-set-lt j xs k x g.0)
            (append_snoc (take k xs) x (interleaved (drop (suc i) room) (drop j xs))
            ∙ ap (λ (z : List Float). take k xs ++ z)
            (sym (merged_first x (drop (suc i) room) (drop j xs) e)
            ∙ ap (λ (z : List Float). interleaved z (drop j xs)) (sym (drop-cons room i nan h)))
            ∙ w.made);
      }

  -- the two ways of a turn
  module _ (xs' : List Float) (i' j' : ℕ) where
    pub turn_second : true ≡ leads (drop j xs) (get_or room i nan) → xs' ≡ set xs k (get_or xs j nan) → i' ≡ i → j' ≡ j + 1 → Woven room l xs' i' j' (k + 1)
    turn_second e p q r = rw (p, q, r) (woven_second e)

    pub turn_first : false ≡ leads (drop j xs) (get_or room i nan) → xs' ≡ set xs k (get_or room i nan) → i' ≡ i + 1 → j' ≡ j → Woven room l xs' i' j' (k + 1)
    turn_first e p q r = rw (p, q, r) (woven_first e)

pub woven_end : (room l xs : List Float) (i j k : ℕ) → Woven room l xs i j k → length room ≤ i → xs ≡ interleaved room (drop (length room) l)
unfolding interleaved
woven_end room l xs i j k w h =
    let e : k ≡ j = omega (arith, w.even, w.some) in
    let d : drop i room ≡ [] = drop_of_length-le room h in
    let m : take k xs ++ interleaved (drop i room) (drop j xs) ≡ take j xs ++ drop j xs = rw (e, d) in
    sym (take-append-drop j xs) ∙ sym m ∙ w.made

-- ---- the copy: as many cells as there is room lent

pub copied : (xs room p : List Float) (m : ℕ) → m ≤ length xs → m ≤ length room → p ≡ over (take (length (take m room)) (take m xs)) (take m room) → p ≡ take m xs
copied xs room p m h g e =
    let r : length (take m room) ≡ m = length-take-le m room g in
    let x : length (take m xs) ≡ m = length-take-le m xs h in
    let w : take (length (take m room)) (take m xs) ≡ take m xs = take_all (length (take m room)) (take m xs) (omega arith) in
    e ∙ ap (λ (l : List Float). over l (take m room)) w ∙ over_all_lem (take m xs) (take m room) (x ∙ sym r)

pub half_le : (n : ℕ) → n / 2 ≤ n
half_le n = omega arith

-- ---- the first part's copy, merged back

module _ (xs room p : List Float) (m : ℕ) (h : m ≤ length xs) (e : p ≡ take m xs) where
  front : take m (p ++ drop m room) ≡ take m xs
  front = take_at p (drop m room) m (ap length e ∙ length-take-le m xs h) ∙ e

  pub front_length : length (take m (p ++ drop m room)) ≡ m
  front_length = ap length front ∙ length-take-le m xs h

  pub merge_made : (out : List Float) → out ≡ interleaved (take m (p ++ drop m room)) (drop (length (take m (p ++ drop m room))) xs) → out ≡ interleaved (take m xs) (drop m xs)
  merge_made out o = o ∙ ap (λ (n : ℕ). interleaved (take m (p ++ drop m room)) (drop n xs)) front_length ∙ ap (λ (a : List Float). interleaved a (drop m xs)) front

-- ---- a list whose first m entries were put in order, to p, and then the others, to q

module _ (l p : List Float) (m : ℕ) (h : m ≤ length l) (n : length p ≡ m) where
  pub first_length : length (p ++ drop m l) ≡ length l
  first_length = let e = length-append p (drop m l) in let d = length-drop m l in omega arith

  pub second_part : take (length (p ++ drop m l) - m) (drop m (p ++ drop m l)) ≡ drop m l
  second_part =
      ap (λ (a : List Float). take (length (p ++ drop m l) - m) a) (drop_at p (drop m l) m n)
      ∙ take_all (length (p ++ drop m l) - m) (drop m l) (let e = first_length in let d = length-drop m l in omega arith)

  pub second_length : length (take (length (p ++ drop m l) - m) (drop m (p ++ drop m l))) ≡ length l - m
  second_length = ap length second_part ∙ length-drop m l

  both_parts : (q : List Float) → take m (p ++ drop m l) ++ (q ++ drop (length (p ++ drop m l) - m) (drop m (p ++ drop m l))) ≡ p ++ q
  both_parts q =
      let e = first_length in
      let d = length-drop m l in
      let k : length (drop m l) ≤ length (p ++ drop m l) - m = omega arith in
      ap (λ (a : List Float). a ++ (q ++ drop (length (p ++ drop m l) - m) (drop m (p ++ drop m l)))) (take_at p (drop m l) m n)
      ∙ ap (λ (a : List Float). p ++ (q ++ drop (length (p ++ drop m l) - m) a)) (drop_at p (drop m l) m n)
      ∙ ap (λ (a : List Float). p ++ (q ++ a)) (drop_of_length-le (drop m l) k)
      ∙ ap (λ (a : List Float). p ++ a) (append-nil q)

  module _ (q : List Float) (g : length q ≡ length l - m) where
    -- and both merged, to out
    pub sort_made : (out : List Float) → Each Double l → p ≡ sorted (take m l) → q ≡ sorted (take (length (p ++ drop m l) - m) (drop m (p ++ drop m l)))
        → out ≡ interleaved (take m (take m (p ++ drop m l) ++ (q ++ drop (length (p ++ drop m l) - m) (drop m (p ++ drop m l))))) (drop m (take m (p ++ drop m l) ++ (q ++ drop (length (p ++ drop m l) - m) (drop m (p ++ drop m l)))))
        → out ≡ sorted l
    sort_made out d u v o =
        o
        ∙ ap (λ (a : List Float). interleaved (take m a) (drop m a)) (both_parts q)
        ∙ ap (λ (a : List Float). interleaved a (drop m (p ++ q))) (take_at p q m n)
        ∙ ap (λ (a : List Float). interleaved p a) (drop_at p q m n)
        ∙ ap (λ (a : List Float). interleaved a q) u
        ∙ ap (λ (a : List Float). interleaved (sorted (take m l)) a) (v ∙ ap sorted second_part)
        ∙ merged_halves l m d
