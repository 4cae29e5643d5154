-- The rows that merge_rows gives are a tree: n - 1 rows, row k names only ids below n + k, and each id from 0 to 2n - 3 occurs once.
-- On the way each id below n + k stands in a row or is the id of a live slot, and n - k slots are live. Assumes nothing.
use Prim.Native.Nat.{ℕ, zero, suc, ◌+◌, ◌-◌, ◌*◌, ◌/◌, ◌%◌, ◌≤◌, ◌<◌, zero-le, min, max}
use mathlib.Core.Path.{◌≡◌, refl, sym, ap, ◌∙◌, subst}
use mathlib.Core.Logic.{⊎_elim}
use mathlib.Core.Bool.{Bool, true, false, ◌&&◌}
use mathlib.Core.List.{List, [], ◌∷◌, ◌++◌}
use native.Mathlib.Nat.{eq-or-lt_of_le, le_of_suc-le-suc, lt_irrefl, mod-lt, min-eq_left, min-eq_right, max-eq_left, max-eq_right}
use native.Mathlib.Numerals.{add-one}
use native.Mathlib.Omega.{arith}
use lib.ListN.{length, get_or, set, replicate, length-set, length-append, length-replicate, get_or-replicate, get_or-append}
use lib.Seq.{get_or-set_same, get_or-set_other, get_or-append-add}
use lib.Dec.{ltb, eqb}
use lib.Ieee.{Float}
use borrow.Author.Tests.{eq-eqb, ne_eqb, lt-ltb, ltb-true, ltb-false}
use Rattle.lent.specs.Count.{one, count, upto}
use Rattle.lent.specs.Grid.{tab}
use Rattle.lent.specs.Range.{range}
use Rattle.lent.proofs.Laws.{either, same_or_not, length_tab, get_d_tab}
use Rattle.lent.proofs.Range.{range_none, range_more}
use Rattle.lent.proofs.Counting.{one_true, one_false, one_le, one_lt, upto_same, upto_swap, upto_ones, upto_is, upto_le, upto_add, upto_term, count_append}
use Rattle.tree.specs.Rows.{is_tree}
use Rattle.tree.proofs.Rows.{IsTree, tree_holds}
use Rattle.linkage.specs.declared.Linkage.{Linkage}
use Rattle.pairing.specs.declared.Best.{Best}
use Rattle.slots.proofs.Packed.{lives}
use Rattle.linkage.specs.Merge.{State, scan_all, merged, step, start, state_at, merge_rows}
use Rattle.linkage.proofs.Scan.{Good, scan_good}

-- ---- the counts

-- slot a is live and has the id v; how many such slots there are
unfoldable pub holds : ℕ → List ℕ → List Bool → ℕ → ℕ
holds v ids live a = one (get_or live a false && eqb v (get_or ids a 0))

unfoldable pub held : ℕ → ℕ → List ℕ → List Bool → ℕ
held n v ids live = upto (holds v ids live) n

-- two live slots, where the count is at least two
pub record Two (n : ℕ) (live : List Bool) : Type 0 where
  pub x : ℕ
  pub y : ℕ
  pub order : x < y
  pub inside : y < n
  pub first : get_or live x false ≡ true
  pub second : get_or live y false ≡ true

pub record One (n : ℕ) (live : List Bool) : Type 0 where
  pub x : ℕ
  pub inside : x < n
  pub first : get_or live x false ≡ true

find_one : (n : ℕ) (live : List Bool) → 1 ≤ lives n live → One n live
unfolding lives upto
find_one zero live h = absurd (omega arith)
find_one (suc n) live h =
    ⊎_elim
    (λ e. record { x = n; inside = omega arith; first = e })
    (λ e.
    let r = find_one n live (omega (arith, one_false (get_or live n false) e)) in
    record { x = r.x; inside = omega arith; first = r.first })
    (either (get_or live n false))

pub find_two : (n : ℕ) (live : List Bool) → 2 ≤ lives n live → Two n live
unfolding lives upto
find_two zero live h = absurd (omega arith)
find_two (suc n) live h =
    ⊎_elim
    (λ e.
    let r = find_one n live (omega (arith, one_true (get_or live n false) e)) in
    record { x = r.x; y = n; order = r.inside; inside = omega arith; first = r.first; second = e })
    (λ e.
    let r = find_two n live (omega (arith, one_false (get_or live n false) e)) in
    record { x = r.x; y = r.y; order = r.order; inside = omega arith; first = r.first; second = r.second })
    (either (get_or live n false))

-- a slot gets a new id
renamed : (n v : ℕ) (ids : List ℕ) (live : List Bool) (a w : ℕ) → a < n → n ≤ length ids → get_or live a false ≡ true
    → held n v (set ids a w) live + one (eqb v (get_or ids a 0)) ≡ held n v ids live + one (eqb v w)
unfolding held holds
renamed n v ids live a w l h va =
    let e : get_or (set ids a w) a 0 ≡ w = get_or-set_same ids a w 0 (omega arith) in
    let p : holds v ids live a ≡ one (eqb v (get_or ids a 0)) = rw va refl in
    let q : holds v (set ids a w) live a ≡ one (eqb v w) = rw (va, e) refl in
    let s : held n v (set ids a w) live + holds v ids live a ≡ held n v ids live + holds v (set ids a w) live a =
    upto_swap (holds v ids live) (holds v (set ids a w) live) n a l
    (λ c k ne. ap (λ (z : ℕ). one (get_or live c false && eqb v z)) (sym (get_or-set_other ids a c w 0 ne))) in
    rw (← p, ← q) s

-- a slot dies
died : (n v : ℕ) (ids : List ℕ) (live : List Bool) (b : ℕ) → b < n → n ≤ length live → get_or live b false ≡ true
    → held n v ids (set live b false) + one (eqb v (get_or ids b 0)) ≡ held n v ids live
unfolding held holds
died n v ids live b l h vb =
    let e : get_or (set live b false) b false ≡ false = get_or-set_same live b false false (omega arith) in
    let p : holds v ids live b ≡ one (eqb v (get_or ids b 0)) = rw vb refl in
    let q : holds v ids (set live b false) b ≡ 0 = rw e refl in
    let s : held n v ids (set live b false) + holds v ids live b ≡ held n v ids live + holds v ids (set live b false) b =
    upto_swap (holds v ids live) (holds v ids (set live b false)) n b l
    (λ c k ne. ap (λ (z : Bool). one (z && eqb v (get_or ids c 0))) (sym (get_or-set_other live b c false false ne))) in
    omega arith

pub lost : (n : ℕ) (live : List Bool) (b : ℕ) → b < n → n ≤ length live → get_or live b false ≡ true → lives n (set live b false) + 1 ≡ lives n live
unfolding lives
lost n live b l h vb =
    let e : get_or (set live b false) b false ≡ false = get_or-set_same live b false false (omega arith) in
    let s : lives n (set live b false) + one (get_or live b false) ≡ lives n live + one (get_or (set live b false) b false) =
    upto_swap (λ a. one (get_or live a false)) (λ a. one (get_or (set live b false) a false)) n b l
    (λ c k ne. ap one (sym (get_or-set_other live b c false false ne))) in
    omega (arith, one_true _ vb, one_false _ e)

-- the smaller and the larger of two are the two
one_sym : (x y : ℕ) → one (eqb x y) ≡ one (eqb y x)
one_sym x y =
    ⊎_elim (λ e. rw (eq-eqb x y e, eq-eqb y x (sym e))) (λ n. rw (ne_eqb x y n, ne_eqb y x (λ e. n (sym e)))) (same_or_not x y)

both_ids : (v p q : ℕ) → one (eqb (min p q) v) + one (eqb (max p q) v) ≡ one (eqb v p) + one (eqb v q)
both_ids v p q =
    let a = one_sym p v in
    let b = one_sym q v in
    ⊎_elim
    (λ e. let h : q ≤ p = omega (arith, ltb-true q p e) in let x : min p q ≡ q = min-eq_right h in let y : max p q ≡ p = max-eq_left h in rw (x, y) (omega arith))
    (λ e. let h : p ≤ q = ltb-false q p e in let x : min p q ≡ p = min-eq_left h in let y : max p q ≡ q = max-eq_right h in rw (x, y) (omega arith))
    (either (ltb q p))

both_below : (p q m : ℕ) → p < m → q < m → (min p q < m) × (max p q < m)
both_below p q m hp hq =
    ⊎_elim
    (λ e. let h : q ≤ p = omega (arith, ltb-true q p e) in let x : min p q ≡ q = min-eq_right h in let y : max p q ≡ p = max-eq_left h in rw (x, y) (hq, hp))
    (λ e. let h : p ≤ q = ltb-false q p e in let x : min p q ≡ p = min-eq_left h in let y : max p q ≡ q = max-eq_right h in rw (x, y) (hp, hq))
    (either (ltb q p))

-- ---- the state before row k

pub record Inv (n k : ℕ) (s : State) : Type 0 where
  pub len_ids : length s.ids ≡ n
  pub len_live : length s.live ≡ n
  pub len_rows : length s.rows ≡ 2 * k
  pub left : lives n s.live + k ≡ n
  pub each : (v : ℕ) → count v s.rows + held n v s.ids s.live ≡ one (ltb v (n + k))
  pub below : (j : ℕ) → j < k → (get_or s.rows (2 * j) 0 < n + j) × (get_or s.rows (2 * j + 1) 0 < n + j)
  pub last : 0 < k → 1 ≤ held n (n + k - 1) s.ids s.live

one_pos : (b : Bool) → 1 ≤ one b → b ≡ true
one_pos true h = refl
one_pos false h = absurd (omega arith)

-- a live slot's id is held
held_one : (n : ℕ) (ids : List ℕ) (live : List Bool) (a v : ℕ) → a < n → get_or live a false ≡ true → get_or ids a 0 ≡ v → 1 ≤ held n v ids live
unfolding held holds
held_one n ids live a v l va e =
    let p : holds v ids live a ≡ one (eqb v v) = rw (va, e) refl in
    omega (arith, upto_term (holds v ids live) n a l, one_true (eqb v v) (eq-eqb v v refl))

live_below : (n k : ℕ) (s : State) → Inv n k s → (a : ℕ) → a < n → get_or s.live a false ≡ true → get_or s.ids a 0 < n + k
live_below n k s i a l va =
    let v = get_or s.ids a 0 in
    let h = held_one n s.ids s.live a v l va refl in
    ltb-true v (n + k) (one_pos (ltb v (n + k)) (omega (arith, i.each v)))

module _ (n k : ℕ) (s : State) (i : Inv n k s) (best : Best) (g : Good n s.ids s.live best) (fits : n ≤ 64) where
  abbrev ids' : List ℕ
  ids' = set s.ids best.a.0 (n + k)

  abbrev live' : List Bool
  live' = set s.live best.b.0 false

  abbrev rows' : List ℕ
  rows' = s.rows ++ (best.low.0 ∷ best.high.0 ∷ [])

  apart_ba : best.b.0 ≡ best.a.0 → ⊥
  apart_ba e = lt_irrefl _ (subst (λ (z : ℕ). best.a.0 < z) e g.order)

  apart_ab : best.a.0 ≡ best.b.0 → ⊥
  apart_ab e = apart_ba (sym e)

  rows_two : (v : ℕ) → count v rows' ≡ count v s.rows + (one (eqb v (get_or s.ids best.a.0 0)) + one (eqb v (get_or s.ids best.b.0 0)))
  unfolding count
  rows_two v =
      let e = count_append v s.rows (best.low.0 ∷ best.high.0 ∷ []) in
      let t = both_ids v (get_or s.ids best.a.0 0) (get_or s.ids best.b.0 0) in
      let u : one (eqb best.low.0 v) + one (eqb best.high.0 v)
      ≡ one (eqb v (get_or s.ids best.a.0 0)) + one (eqb v (get_or s.ids best.b.0 0)) = rw (g.lo, g.hi) t in
      omega arith

  each' : (v : ℕ) → count v rows' + held n v ids' live' ≡ one (ltb v (n + (k + 1)))
  each' v =
      let a = best.a.0 in
      let b = best.b.0 in
      let la : a < n = omega (arith, g.order, g.inside) in
      let p = renamed n v s.ids s.live a (n + k) la (omega (arith, i.len_ids)) g.first in
      let q = died n v ids' s.live b g.inside (omega (arith, i.len_live)) g.second in
      let r : get_or ids' b 0 ≡ get_or s.ids b 0 = get_or-set_other s.ids a b (n + k) 0 apart_ba in
      let q' : held n v ids' live' + one (eqb v (get_or s.ids b 0)) ≡ held n v ids' s.live = rw r at q in
      let m : n + (k + 1) ≡ n + k + 1 = omega arith in
      rw m (omega (arith, p, q', rows_two v, i.each v, one_lt v (n + k)))

  below' : (j : ℕ) → j < k + 1 → (get_or rows' (2 * j) 0 < n + j) × (get_or rows' (2 * j + 1) 0 < n + j)
  below' j l =
      ⊎_elim
      (λ e.
      let h : (min (get_or s.ids best.a.0 0) (get_or s.ids best.b.0 0) < n + k)
      × (max (get_or s.ids best.a.0 0) (get_or s.ids best.b.0 0) < n + k) =
      both_below (get_or s.ids best.a.0 0) (get_or s.ids best.b.0 0) (n + k)
      (live_below n k s i best.a.0 (omega (arith, g.order, g.inside)) g.first)
      (live_below n k s i best.b.0 g.inside g.second) in
      let x : 2 * k ≡ length s.rows + 0 = omega (arith, i.len_rows) in
      let y : 2 * k + 1 ≡ length s.rows + 1 = omega (arith, i.len_rows) in
      let u : get_or rows' (2 * k) 0 ≡ best.low.0 = ap (λ (z : ℕ). get_or rows' z 0) x ∙ get_or-append-add s.rows _ 0 0 in
      let v : get_or rows' (2 * k + 1) 0 ≡ best.high.0 = ap (λ (z : ℕ). get_or rows' z 0) y ∙ get_or-append-add s.rows _ 1 0 in
      subst (λ (z : ℕ). (get_or rows' (2 * z) 0 < n + z) × (get_or rows' (2 * z + 1) 0 < n + z)) (sym e)
      (rw (u, g.lo) h.0, rw (v, g.hi) h.1))
      (λ m.
      let u : get_or rows' (2 * j) 0 ≡ get_or s.rows (2 * j) 0 = get_or-append s.rows _ 0 (2 * j) (omega (arith, i.len_rows)) in
      let v : get_or rows' (2 * j + 1) 0 ≡ get_or s.rows (2 * j + 1) 0 = get_or-append s.rows _ 0 (2 * j + 1) (omega (arith, i.len_rows)) in
      (rw u (i.below j m).0, rw v (i.below j m).1))
      (eq-or-lt_of_le (le_of_suc-le-suc (subst (λ (z : ℕ). j < z) (add-one k) l)))

  last' : 1 ≤ held n (n + (k + 1) - 1) ids' live'
  last' =
      let a = best.a.0 in
      let la : a < n = omega (arith, g.order, g.inside) in
      let m : n + (k + 1) - 1 ≡ n + k = omega arith in
      rw m
      (held_one n ids' live' a (n + k) la (get_or-set_other s.live best.b.0 a false false apart_ab ∙ g.first)
      (get_or-set_same s.ids a (n + k) 0 (omega (arith, i.len_ids))))

  merged_inv : (l : Linkage) → Inv n (k + 1) (merged l n k s best)
  unfolding merged
  merged_inv l = record {
    len_ids = length-set s.ids best.a.0 (n + k) ∙ i.len_ids;
    len_live = length-set s.live best.b.0 false ∙ i.len_live;
    len_rows = length-append s.rows (best.low.0 ∷ best.high.0 ∷ []) ∙ omega (arith, i.len_rows);
    left = omega (arith, lost n s.live best.b.0 g.inside (omega (arith, i.len_live)) g.second, i.left);
    each = each';
    below = below';
    last = λ h. last';
  }

step_inv : (l : Linkage) (n k : ℕ) (s : State) → n ≤ 64 → k + 2 ≤ n → Inv n k s → Inv n (k + 1) (step l n k s)
unfolding step
step_inv l n k s h m i =
    let t = find_two n s.live (omega (arith, i.left)) in
    let g = scan_good n s.cells s.ids s.live t.x t.y t.order t.inside t.first t.second in
    merged_inv n k s i (scan_all n s.cells s.ids s.live) g h l

-- ---- the start, and every state

all_live : (n : ℕ) → lives n (replicate n true) ≡ n
unfolding lives
all_live n = upto_ones (λ a. one (get_or (replicate n true) a false)) n (λ a l. one_true _ (get_or-replicate n a true false l))

each₀ : (n v : ℕ) → count v [] + held n v (tab n (λ k. k)) (replicate n true) ≡ one (ltb v (n + 0))
unfolding count held holds
each₀ n v =
    let e : held n v (tab n (λ k. k)) (replicate n true) ≡ upto (λ a. one (eqb v a)) n =
    upto_same (holds v (tab n (λ k. k)) (replicate n true)) (λ a. one (eqb v a)) n
    (λ a l. rw (get_or-replicate n a true false l, get_d_tab n (λ k. k) a 0 l) refl) in
    let z : n + 0 ≡ n = omega arith in
    rw z (omega (arith, e, upto_is v n))

start_inv : (n : ℕ) (xs : List Float) → Inv n 0 (start n xs)
unfolding start
start_inv n xs =
    record {
      len_ids = length_tab n (λ k. k);
      len_live = length-replicate n true;
      len_rows = refl;
      left = omega (arith, all_live n);
      each = λ v. each₀ n v;
      below = λ j l. absurd (none j l);
      last = λ l. absurd (none 0 l);
    }
  where
    none : (j : ℕ) → j < 0 → ⊥
    none j l = omega arith

-- ---- the rows are a tree

-- a slot holds at most one of two ids
holds_two : (v w : ℕ) (ids : List ℕ) (live : List Bool) → (v ≡ w → ⊥) → (a : ℕ) → holds v ids live a + holds w ids live a ≤ one (get_or live a false)
unfolding holds
holds_two v w ids live ne a =
    ⊎_elim
    (λ e.
    rw e
    (⊎_elim
    (λ q.
    let z : eqb w (get_or ids a 0) ≡ false = ne_eqb w (get_or ids a 0) (λ p. ne (q ∙ sym p)) in
    omega (arith, one_false _ z, one_le (eqb v (get_or ids a 0)), one_true true refl))
    (λ q. omega (arith, one_false _ (ne_eqb v (get_or ids a 0) q), one_le (eqb w (get_or ids a 0)), one_true true refl))
    (same_or_not v (get_or ids a 0))))
    (λ e. rw e (omega (arith, one_false false refl)))
    (either (get_or live a false))

held_two : (n v w : ℕ) (ids : List ℕ) (live : List Bool) → (v ≡ w → ⊥) → held n v ids live + held n w ids live ≤ lives n live
unfolding held lives
held_two n v w ids live ne =
    let e = upto_add (holds v ids live) (holds w ids live) n in
    let m = upto_le (λ a. holds v ids live a + holds w ids live a) (λ a. one (get_or live a false)) n (λ a l. holds_two v w ids live ne a) in
    omega arith

-- every state on the way
pub state_inv : (l : Linkage) (n : ℕ) (xs : List Float) → n ≤ 64 → (k : ℕ) → k + 1 ≤ n → Inv n k (state_at l n xs k)
unfolding state_at
state_inv l n xs h zero m = subst (Inv n 0) (sym (range_none (step l n) 0 0 (start n xs) zero-le)) (start_inv n xs)
state_inv l n xs h (suc k) m =
    let e : range (step l n) 0 (suc k) (start n xs) ≡ step l n k (range (step l n) 0 k (start n xs)) =
    ap (λ (j : ℕ). range (step l n) 0 j (start n xs)) (sym (add-one k)) ∙ range_more (step l n) 0 k (start n xs) zero-le in
    let r = step_inv l n k (range (step l n) 0 k (start n xs)) h (omega arith) (state_inv l n xs h k (omega arith)) in
    rw (e, ← add-one k) r

-- row k is the entries 2k and 2k + 1
half_at : (n : ℕ) (rows : List ℕ) → length rows ≡ 2 * (n - 1)
    → ((k : ℕ) → k < n - 1 → (get_or rows (2 * k) 0 < n + k) × (get_or rows (2 * k + 1) 0 < n + k))
    → (j : ℕ) → j < length rows → get_or rows j 0 < n + j / 2
half_at n rows e h j lt =
    let k = j / 2 in
    let b = h k (omega arith) in
    ⊎_elim
    (λ z. let q : 2 * k ≡ j = omega arith in subst (λ (m : ℕ). get_or rows m 0 < n + k) q b.0)
    (λ z. let q : 2 * k + 1 ≡ j = let l : j % 2 < 2 = mod-lt j (omega arith) in omega arith in subst (λ (m : ℕ). get_or rows m 0 < n + k) q b.1)
    (same_or_not (j % 2) 0)

tree : (l : Linkage) (n : ℕ) (xs : List Float) → 0 < n → n ≤ 64 → IsTree (merge_rows l n xs) n
unfolding merge_rows
tree l n xs p h =
    let s = state_at l n xs (n - 1) in
    let i : Inv n (n - 1) s = state_inv l n xs h (n - 1) (omega arith) in
    record {
      size = i.len_rows;
      low = half_at n s.rows i.len_rows i.below;
      each = λ v m.
          let w = n + (n - 1) - 1 in
          let last = i.last (omega arith) in
          let two = held_two n v w s.ids s.live (λ e. lt_irrefl _ (subst (λ (z : ℕ). z < w) e (omega arith))) in
          let up = one_true _ (lt-ltb v (n + (n - 1)) (omega arith)) in
          omega (arith, last, two, up, i.each v, i.left);
    }

pub rows_tree : (l : Linkage) (n : ℕ) (xs : List Float) → 0 < n → n ≤ 64 → is_tree (merge_rows l n xs) n ≡ true
rows_tree l n xs p h = tree_holds (merge_rows l n xs) n (tree l n xs p h)

-- no assets: no rows
rows_none : (l : Linkage) (xs : List Float) → length (merge_rows l 0 xs) ≡ 0
unfolding merge_rows state_at start
rows_none l xs = ap (λ (s : State). length s.rows) (range_none (step l 0) 0 0 (start 0 xs) zero-le)

pub rows_length : (l : Linkage) (n : ℕ) (xs : List Float) → n ≤ 64 → length (merge_rows l n xs) ≡ 2 * (n - 1)
rows_length l zero xs h = rows_none l xs
rows_length l (suc n) xs h = (tree l (suc n) xs (omega arith) h).size
