-- The packed live slots: a loop over all slots that does something at the live ones alone is the loop over their places; and what a death leaves. Assumes nothing.
use Prim.Native.Nat.{ℕ, zero, suc, ◌+◌, ◌-◌, ◌≤◌, ◌<◌, zero-le}
use mathlib.Core.Path.{◌≡◌, refl, sym, ap, ◌∙◌, subst}
use mathlib.Core.Logic.{⊎_elim}
use mathlib.Core.Bool.{Bool, true, false, cond}
use mathlib.Core.List.{List, [], ◌∷◌, ◌++◌, append-nil}
use native.Mathlib.Nat.{eq-or-lt_of_le, le_of_suc-le-suc, add-zero}
use native.Mathlib.Numerals.{add-one}
use native.Mathlib.Omega.{arith}
use lib.ListN.{length, get_or, set, take, length-append, get_or-append}
use lib.Seq.{get_or-take, get_or-set_same, get_or-set_other, get_or-append_seam, length-take-le}
use lib.Dec.{eqb}
use borrow.Author.Tests.{eq-eqb, ne_eqb}
use Rattle.lent.specs.Count.{one, upto}
use Rattle.lent.specs.Range.{span, range}
use Rattle.lent.proofs.Laws.{either, same_or_not}
use Rattle.lent.proofs.Range.{range_none, range_more, range_suc, range_same}
use Rattle.slots.specs.Slots.{without}
use Rattle.slots.specs.Inner.{packed, Below, Rising}

-- the slot at each place, one after the other
abbrev pub placed : {S : Type 0} → (ℕ → S → S) → List ℕ → ℕ → S → S
placed g l j t = g (get_or l j 0) t

pushed : {S : Type 0} (g : ℕ → S → S) (l : List ℕ) (n lo : ℕ) (s : S) → lo ≤ length l
    → range (placed g (l ++ (n ∷ []))) lo (length l + 1) s ≡ g n (range (placed g l) lo (length l) s)
pushed g l n lo s h =
    let r = l ++ (n ∷ []) in
    range_more (placed g r) lo (length l) s h
    ∙ ap (λ (a : ℕ). g a (range (placed g r) lo (length l) s)) (get_or-append_seam l n [] 0)
    ∙ ap (g n) (range_same (placed g r) (placed g l) lo (length l) s (λ i t a b. ap (λ (z : ℕ). g z t) (get_or-append l (n ∷ []) 0 i b)))

packed_none : (live : List Bool) → packed 0 live ≡ []
unfolding packed
packed_none live = refl

pub packed_live : (n : ℕ) (live : List Bool) → get_or live n false ≡ true → packed (suc n) live ≡ packed n live ++ (n ∷ [])
unfolding packed
packed_live n live e = rw e

packed_dead : (n : ℕ) (live : List Bool) → get_or live n false ≡ false → packed (suc n) live ≡ packed n live
unfolding packed
packed_dead n live e = rw e (append-nil (packed n live))

-- the flags below n alone are looked at
pub packed_same : (n : ℕ) (live live' : List Bool) → ((c : ℕ) → c < n → get_or live c false ≡ get_or live' c false) → packed n live ≡ packed n live'
unfolding packed
packed_same zero live live' h = refl
packed_same (suc n) live live' h = rw (packed_same n live live' (λ c l. h c (omega arith)), h n (omega arith)) refl

-- how many are live
unfoldable pub lives : ℕ → List Bool → ℕ
lives n live = upto (λ a. one (get_or live a false)) n

pub packed_length : (n : ℕ) (live : List Bool) → length (packed n live) ≡ lives n live
unfolding packed lives upto
packed_length zero live = refl
packed_length (suc n) live =
    ⊎_elim
    (λ e. rw e (length-append (packed n live) (n ∷ []) ∙ ap (λ (k : ℕ). k + 1) (packed_length n live)))
    (λ e. rw e (ap length (append-nil (packed n live)) ∙ packed_length n live ∙ sym (add-zero (lives n live))))
    (either (get_or live n false))

pub packed_below : (n : ℕ) (live : List Bool) (j : ℕ) → j < length (packed n live) → get_or (packed n live) j 0 < n
packed_below zero live j h = absurd (no j (subst (λ (l : List ℕ). j < length l) (packed_none live) h))
  where
    no : (j : ℕ) → j < 0 → ⊥
    no j l = omega arith
packed_below (suc n) live j h =
    ⊎_elim
    (λ e.
    let q = packed_live n live e in
    let b : j < length (packed n live) + 1 = subst (λ (k : ℕ). j < k) (ap length q ∙ length-append (packed n live) (n ∷ [])) h in
    subst (λ (l : List ℕ). get_or l j 0 < suc n) (sym q)
    (⊎_elim
    (λ z. subst (λ (a : ℕ). a < suc n) (sym (ap (λ (i : ℕ). get_or (packed n live ++ (n ∷ [])) i 0) z ∙ get_or-append_seam (packed n live) n [] 0)) (omega arith))
    (λ l. let r = packed_below n live j l in subst (λ (a : ℕ). a < suc n) (sym (get_or-append (packed n live) (n ∷ []) 0 j l)) (omega arith))
    (eq-or-lt_of_le (le_of_suc-le-suc (subst (λ (k : ℕ). j < k) (add-one (length (packed n live))) b)))))
    (λ e.
    let q = packed_dead n live e in
    let r = packed_below n live j (subst (λ (l : List ℕ). j < length l) q h) in
    subst (λ (l : List ℕ). get_or l j 0 < suc n) (sym q) (omega arith))
    (either (get_or live n false))

-- they rise
packed_rising : (n : ℕ) (live : List Bool) (i j : ℕ) → i < j → j < length (packed n live) → get_or (packed n live) i 0 < get_or (packed n live) j 0
packed_rising zero live i j l h = absurd (no j (subst (λ (p : List ℕ). j < length p) (packed_none live) h))
  where
    no : (j : ℕ) → j < 0 → ⊥
    no j l = omega arith
packed_rising (suc n) live i j l h =
    let p = packed n live in
    ⊎_elim
    (λ e.
    let q = packed_live n live e in
    let b : j < length p + 1 = subst (λ (k : ℕ). j < k) (ap length q ∙ length-append p (n ∷ [])) h in
    subst (λ (s : List ℕ). get_or s i 0 < get_or s j 0) (sym q)
    (⊎_elim
    (λ z.
    let lt : i < length p = omega arith in
    let a : get_or (p ++ (n ∷ [])) j 0 ≡ n = ap (λ (k : ℕ). get_or (p ++ (n ∷ [])) k 0) z ∙ get_or-append_seam p n [] 0 in
    rw (get_or-append p (n ∷ []) 0 i lt, a) (packed_below n live i lt))
    (λ k.
    let lt : i < length p = omega arith in
    rw (get_or-append p (n ∷ []) 0 i lt, get_or-append p (n ∷ []) 0 j k) (packed_rising n live i j l k))
    (eq-or-lt_of_le (le_of_suc-le-suc (subst (λ (k : ℕ). j < k) (add-one (length p)) b)))))
    (λ e.
    let q = packed_dead n live e in
    subst (λ (s : List ℕ). get_or s i 0 < get_or s j 0) (sym q) (packed_rising n live i j l (subst (λ (s : List ℕ). j < length s) q h)))
    (either (get_or live n false))

-- a loop over all slots that does something at the live ones alone, by places
module _ {S : Type 0} (g f : ℕ → S → S) (live : List Bool) (is : (a : ℕ) (t : S) → f a t ≡ cond (get_or live a false) (g a t) t) where
  at_live : (a : ℕ) (t : S) → get_or live a false ≡ true → f a t ≡ g a t
  at_live a t e = is a t ∙ rw e

  at_dead : (a : ℕ) (t : S) → get_or live a false ≡ false → f a t ≡ t
  at_dead a t e = is a t ∙ rw e

  all_places : (n : ℕ) (s : S) → range (placed g (packed n live)) 0 (length (packed n live)) s ≡ range f 0 n s
  all_places zero s = range_none (placed g (packed 0 live)) 0 (length (packed 0 live)) s (unfold packed in zero-le) ∙ sym (range_none f 0 0 s zero-le)
  all_places (suc n) s =
      ⊎_elim
      (λ e.
      let q = packed_live n live e in
      let z : length (packed (suc n) live) ≡ length (packed n live) + 1 = ap length q ∙ length-append (packed n live) (n ∷ []) in
      ap (λ (l : List ℕ). range (placed g l) 0 (length (packed (suc n) live)) s) q
      ∙ ap (λ (k : ℕ). range (placed g (packed n live ++ (n ∷ []))) 0 k s) z
      ∙ pushed g (packed n live) n 0 s zero-le
      ∙ ap (g n) (all_places n s)
      ∙ sym (at_live n (range f 0 n s) e)
      ∙ sym (range_suc f 0 n s zero-le))
      (λ e.
      ap (λ (l : List ℕ). range (placed g l) 0 (length l) s) (packed_dead n live e)
      ∙ all_places n s
      ∙ sym (at_dead n (range f 0 n s) e)
      ∙ sym (range_suc f 0 n s zero-le))
      (either (get_or live n false))

  -- from the slot after the one at place i
  later_places : (n i : ℕ) (s : S) → i < length (packed n live)
      → range (placed g (packed n live)) (i + 1) (length (packed n live)) s ≡ range f (get_or (packed n live) i 0 + 1) n s
  later_places zero i s h = absurd (no i (subst (λ (l : List ℕ). i < length l) (packed_none live) h))
    where
      no : (j : ℕ) → j < 0 → ⊥
      no j l = omega arith
  later_places (suc n) i s h =
      ⊎_elim
      (λ e.
      let p = packed n live in
      let q = packed_live n live e in
      let z : length (packed (suc n) live) ≡ length p + 1 = ap length q ∙ length-append p (n ∷ []) in
      let b : i < length p + 1 = subst (λ (k : ℕ). i < k) z h in
      subst (λ (l : List ℕ). range (placed g l) (i + 1) (length l) s ≡ range f (get_or l i 0 + 1) (suc n) s) (sym q)
      (subst (λ (k : ℕ). range (placed g (p ++ (n ∷ []))) (i + 1) k s ≡ range f (get_or (p ++ (n ∷ [])) i 0 + 1) (suc n) s) (sym (length-append p (n ∷ [])))
      (⊎_elim
      (λ w.
      let a : get_or (p ++ (n ∷ [])) i 0 ≡ n = ap (λ (k : ℕ). get_or (p ++ (n ∷ [])) k 0) w ∙ get_or-append_seam p n [] 0 in
      range_none (placed g (p ++ (n ∷ []))) (i + 1) (length p + 1) s (omega arith) ∙ sym (range_none f _ (suc n) s (omega arith)))
      (λ l.
      let a : get_or (p ++ (n ∷ [])) i 0 ≡ get_or p i 0 = get_or-append p (n ∷ []) 0 i l in
      let c = packed_below n live i l in
      pushed g p n (i + 1) s (omega arith)
      ∙ ap (g n) (later_places n i s l)
      ∙ sym (at_live n (range f (get_or p i 0 + 1) n s) e)
      ∙ sym (range_suc f (get_or p i 0 + 1) n s (omega arith))
      ∙ ap (λ (k : ℕ). range f (k + 1) (suc n) s) (sym a))
      (eq-or-lt_of_le (le_of_suc-le-suc (subst (λ (k : ℕ). i < k) (add-one (length p)) b))))))
      (λ e.
      let p = packed n live in
      let q = packed_dead n live e in
      let l : i < length p = subst (λ (l : List ℕ). i < length l) q h in
      let c = packed_below n live i l in
      subst (λ (l : List ℕ). range (placed g l) (i + 1) (length l) s ≡ range f (get_or l i 0 + 1) (suc n) s) (sym q)
      (later_places n i s l ∙ sym (at_dead n (range f (get_or p i 0 + 1) n s) e) ∙ sym (range_suc f (get_or p i 0 + 1) n s (omega arith))))
      (either (get_or live n false))

-- 1 for each turn
ones_more : (lo k c : ℕ) → span (λ j u. u + 1) lo k c ≡ c + k
unfolding span
ones_more lo zero c = sym (add-zero c)
ones_more lo (suc k) c = let e = ones_more lo k c in omega arith

pub ones : (lo hi c : ℕ) → range (λ j u. u + 1) lo hi c ≡ c + (hi - lo)
unfolding range
ones lo hi c = ones_more lo (hi - lo) c

-- ---- the first m entries of an array are the packed slots

module _ (n m : ℕ) (slots : List ℕ) (live : List Bool) (fit : m ≤ length slots) (e : take m slots ≡ packed n live) where
  pub as_many : m ≡ length (packed n live)
  as_many = sym (length-take-le m slots fit) ∙ ap length e

  pub slot_at : (j : ℕ) → j < m → get_or slots j 0 ≡ get_or (packed n live) j 0
  slot_at j h = sym (get_or-take m slots j 0 h) ∙ ap (λ (l : List ℕ). get_or l j 0) e

  pub slots_below : Below n m slots
  slots_below j h = rw (slot_at j h) (packed_below n live j (subst (λ (k : ℕ). j < k) as_many h))

  pub slots_rising : Rising m slots
  slots_rising i j l h =
      let k : i < m = omega arith in
      rw (slot_at i k, slot_at j h) (packed_rising n live i j l (subst (λ (k : ℕ). j < k) as_many h))

  pub by_places : {S : Type 0} (g f : ℕ → S → S) → ((a : ℕ) (t : S) → f a t ≡ cond (get_or live a false) (g a t) t) → (s : S)
      → range (placed g slots) 0 m s ≡ range f 0 n s
  by_places g f is s =
      range_same (placed g slots) (placed g (packed n live)) 0 m s (λ j t a b. ap (λ (z : ℕ). g z t) (slot_at j b))
      ∙ ap (λ (k : ℕ). range (placed g (packed n live)) 0 k s) as_many
      ∙ all_places g f live is n s

  pub by_later : {S : Type 0} (g f : ℕ → S → S) → ((a : ℕ) (t : S) → f a t ≡ cond (get_or live a false) (g a t) t) → (i : ℕ) (s : S) → i < m
      → range (placed g slots) (i + 1) m s ≡ range f (get_or slots i 0 + 1) n s
  by_later g f is i s h =
      range_same (placed g slots) (placed g (packed n live)) (i + 1) m s (λ j t a b. ap (λ (z : ℕ). g z t) (slot_at j b))
      ∙ ap (λ (k : ℕ). range (placed g (packed n live)) (i + 1) k s) as_many
      ∙ later_places g f live is n i s (subst (λ (k : ℕ). i < k) as_many h)
      ∙ ap (λ (k : ℕ). range f (k + 1) n s) (sym (slot_at i h))

-- ---- a slot dies

without_append : (y : ℕ) (xs ys : List ℕ) → without y (xs ++ ys) ≡ without y xs ++ without y ys
unfolding without
without_append y [] ys = refl
without_append y (x ∷ xs) ys =
    ⊎_elim (λ e. rw e (without_append y xs ys)) (λ e. rw e (ap (λ (l : List ℕ). x ∷ l) (without_append y xs ys))) (either (eqb x y))

-- one entry more, which stays or goes
without_one : (y x : ℕ) → (x ≡ y → ⊥) → without y (x ∷ []) ≡ x ∷ []
unfolding without
without_one y x h = rw (ne_eqb x y h) refl

without_none : (y x : ℕ) → x ≡ y → without y (x ∷ []) ≡ []
unfolding without
without_none y x h = rw (eq-eqb x y h) refl

pub without_stays : (y : ℕ) (xs : List ℕ) (x : ℕ) → (x ≡ y → ⊥) → without y (xs ++ (x ∷ [])) ≡ without y xs ++ (x ∷ [])
without_stays y xs x h = without_append y xs (x ∷ []) ∙ ap (λ (l : List ℕ). without y xs ++ l) (without_one y x h)

pub without_goes : (y : ℕ) (xs : List ℕ) (x : ℕ) → x ≡ y → without y (xs ++ (x ∷ [])) ≡ without y xs
without_goes y xs x h = without_append y xs (x ∷ []) ∙ ap (λ (l : List ℕ). without y xs ++ l) (without_none y x h) ∙ append-nil (without y xs)

pub without_packed : (n : ℕ) (live : List Bool) (y : ℕ) → y < length live → without y (packed n live) ≡ packed n (set live y false)
without_packed zero live y h = unfold packed without in refl
without_packed (suc n) live y h =
    ⊎_elim
    (λ q.
    let z : get_or (set live y false) n false ≡ false = ap (λ (k : ℕ). get_or (set live y false) k false) q ∙ get_or-set_same live y false false h in
    ⊎_elim
    (λ e. ap (without y) (packed_live n live e) ∙ without_goes y (packed n live) n q ∙ without_packed n live y h ∙ sym (packed_dead n (set live y false) z))
    (λ e. ap (without y) (packed_dead n live e) ∙ without_packed n live y h ∙ sym (packed_dead n (set live y false) z))
    (either (get_or live n false)))
    (λ q.
    let z : get_or (set live y false) n false ≡ get_or live n false = get_or-set_other live y n false false q in
    ⊎_elim
    (λ e.
    ap (without y) (packed_live n live e) ∙ without_stays y (packed n live) n q ∙ ap (λ (l : List ℕ). l ++ (n ∷ [])) (without_packed n live y h)
    ∙ sym (packed_live n (set live y false) (z ∙ e)))
    (λ e. ap (without y) (packed_dead n live e) ∙ without_packed n live y h ∙ sym (packed_dead n (set live y false) (z ∙ e)))
    (either (get_or live n false)))
    (same_or_not n y)
