-- The code keeps 64 slots and the definition n: the n first are all that a step reads, so that the steps are the same. Assumes nothing.
use Prim.Native.Nat.{ℕ, zero, suc, ◌+◌, ◌*◌, ◌≤◌, ◌<◌, zero-le}
use mathlib.Core.Path.{◌≡◌, refl, sym, ap, subst, ◌∙◌}
use mathlib.Core.Logic.{⊎_elim}
use mathlib.Core.Bool.{Bool, true, false, cond}
use mathlib.Core.List.{List, [], ◌∷◌, ◌++◌}
use native.Mathlib.Nat.{eq-or-lt_of_le, le_of_suc-le-suc, lt_irrefl}
use native.Mathlib.Numerals.{add-one}
use native.Mathlib.Omega.{arith}
use lib.ListN.{length, get_or, set, replicate, length-set, length-replicate, get_or-replicate}
use lib.Seq.{get_or-set_same, get_or-set_other}
use lib.Ieee.{Float, nan}
use Rattle.arithmetic.specs.Constants.{unit}
use Rattle.lent.specs.Grid.{zeros}
use Rattle.lent.specs.Range.{range}
use Rattle.lent.proofs.Laws.{same_or_not, length_tab, get_d_tab}
use Rattle.lent.proofs.Range.{range_none, range_more, range_same}
use Rattle.linkage.specs.declared.Linkage.{Linkage}
use Rattle.pairing.specs.declared.Best.{Best}
use Rattle.linkage.specs.Merge.{State, nothing, look, scan_row, scan_from, scan_all, movable, moved, moved_all, merged, step, copied, start}
use Rattle.linkage.specs.Inner.{state, numbered}
use Rattle.linkage.proofs.Scan.{In, scan_in}

-- two lists of n entries or more, the same in the n first
pub record Agree {A : Type 0} (d : A) (n : ℕ) (l m : List A) : Type 0 where
  pub long : n ≤ length l
  pub wide : n ≤ length m
  pub same : (c : ℕ) → c < n → get_or l c d ≡ get_or m c d

-- and so after a store
agree_set : {A : Type 0} (d : A) (n : ℕ) (l m : List A) (i : ℕ) (v w : A) → Agree d n l m → i < n → v ≡ w → Agree d n (set l i v) (set m i w)
agree_set {A} d n l m i v w a h e =
    let long : n ≤ length l = a.long in
    let wide : n ≤ length m = a.wide in
    record {
      long = rw (length-set l i v) long;
      wide = rw (length-set m i w) wide;
      same = λ c k.
          ⊎_elim
          (λ q.
          rw q (get_or-set_same l i v d (omega arith) ∙ e ∙ sym (get_or-set_same m i w d (omega arith))))
          (λ q. get_or-set_other l i c v d q ∙ a.same c k ∙ sym (get_or-set_other m i c w d q))
          (same_or_not c i);
    }

pub record Front (n : ℕ) (s t : State) : Type 0 where
  pub cells : s.cells ≡ t.cells
  pub ids : Agree 0 n s.ids t.ids
  pub live : Agree false n s.live t.live
  pub sizes : Agree nan n s.sizes t.sizes
  pub rows : s.rows ≡ t.rows

module _ (n : ℕ) (d : List Float) (ids ids' : List ℕ) (live live' : List Bool) (p : Agree 0 n ids ids') (q : Agree false n live live') where
  look_front : (a b : ℕ) (best : Best) → a < n → b < n → look n d ids live a b best ≡ look n d ids' live' a b best
  unfolding look
  look_front a b best ha hb = rw (q.same b hb, p.same a ha, p.same b hb)

  from_front : (a : ℕ) (best : Best) → a < n → scan_from n d ids live a best ≡ scan_from n d ids' live' a best
  unfolding scan_from scan_row
  from_front a best ha =
      rw (q.same a ha)
      (ap (λ (b : Best). cond (get_or live' a false) b best)
      (range_same (look n d ids live a) (look n d ids' live' a) (a + 1) n best (λ b t l r. look_front a b t ha r)))

  scan_front : scan_all n d ids live ≡ scan_all n d ids' live'
  unfolding scan_all
  scan_front = range_same (scan_from n d ids live) (scan_from n d ids' live') 0 n nothing (λ a t l r. from_front a t r)

module _ (l : Linkage) (n : ℕ) (sizes sizes' : List Float) (live live' : List Bool) (p : Agree nan n sizes sizes') (q : Agree false n live live') (x y : ℕ) (z : Float) (hx : x < n) (hy : y < n) where
  moved_front : (i : ℕ) (d : List Float) → i < n → moved l n sizes live x y z i d ≡ moved l n sizes' live' x y z i d
  unfolding moved movable
  moved_front i d hi = rw (q.same i hi, p.same x hx, p.same y hy, p.same i hi)

  all_front : (d : List Float) → moved_all l n sizes live x y z d ≡ moved_all l n sizes' live' x y z d
  unfolding moved_all
  all_front d = range_same (moved l n sizes live x y z) (moved l n sizes' live' x y z) 0 n d (λ i t a r. moved_front i t r)

merged_front : (l : Linkage) (n k : ℕ) (s t : State) (best : Best) → In n best → Front n s t → Front n (merged l n k s best) (merged l n k t best)
unfolding merged
merged_front l n k s t best h f =
    let a = best.a.0 in
    let b = best.b.0 in
    let ea = f.sizes.same a h.0 in
    let eb = f.sizes.same b h.1 in
    record {
      cells = all_front l n s.sizes t.sizes s.live t.live f.sizes f.live a b best.dist h.0 h.1 s.cells
          ∙ ap (moved_all l n t.sizes t.live a b best.dist) f.cells;
      ids = agree_set 0 n s.ids t.ids a (n + k) (n + k) f.ids h.0 refl;
      live = agree_set false n s.live t.live b false false f.live h.1 refl;
      sizes = agree_set nan n s.sizes t.sizes a _ _ f.sizes h.0 (rw (ea, eb));
      rows = ap (λ (r : List ℕ). r ++ (best.low.0 ∷ best.high.0 ∷ [])) f.rows;
    }

pub step_front : (l : Linkage) (n k : ℕ) (s t : State) → 0 < n → Front n s t → Front n (step l n k s) (step l n k t)
unfolding step
step_front l n k s t h f =
    let best = scan_all n s.cells s.ids s.live in
    let e : best ≡ scan_all n t.cells t.ids t.live =
    scan_front n s.cells s.ids t.ids s.live t.live f.ids f.live
    ∙ ap (λ (d : List Float). scan_all n d t.ids t.live) f.cells in
    subst (λ (b : Best). Front n (merged l n k s best) (merged l n k t b)) e
    (merged_front l n k s t best (scan_in n s.cells s.ids s.live h) f)

-- ---- the start: below k, slot a has the id a

pub numbered_at : (k : ℕ) → k ≤ 64 → (length (range numbered 0 k (replicate 64 0)) ≡ 64) × ((a : ℕ) → a < k → get_or (range numbered 0 k (replicate 64 0)) a 0 ≡ a)
unfolding numbered
numbered_at zero h = (ap length (range_none numbered 0 0 (replicate 64 0) zero-le), (λ a l. absurd (no a l)))
  where
    no : (a : ℕ) → a < 0 → ⊥
    no a l = omega arith
numbered_at (suc k) h =
    let r = numbered_at k (omega arith) in
    let z = range numbered 0 k (replicate 64 0) in
    let e : range numbered 0 (suc k) (replicate 64 0) ≡ set z k k =
    ap (λ (j : ℕ). range numbered 0 j (replicate 64 0)) (sym (add-one k)) ∙ range_more numbered 0 k (replicate 64 0) zero-le in
    rw e (
      length-set z k k ∙ r.0,
      (λ a l.
          ⊎_elim
          (λ q. rw q (get_or-set_same z k k 0 (omega (arith, r.0))))
          (λ m. get_or-set_other z k a k 0 (λ q. lt_irrefl _ (subst (λ (j : ℕ). a < j) (sym q) m)) ∙ r.1 a m)
          (eq-or-lt_of_le (le_of_suc-le-suc l))),
    )

agree_own : {A : Type 0} (d : A) (n : ℕ) (l : List A) → n ≤ length l → Agree d n l l
agree_own d n l h = record { long = h; wide = h; same = λ c k. refl }

agree_all : {A : Type 0} (d v : A) (n : ℕ) → n ≤ 64 → Agree d n (replicate 64 v) (replicate n v)
agree_all d v n h =
    record {
      long = rw (length-replicate 64 v) h;
      wide = rw (length-replicate n v) (omega arith);
      same = λ c k. get_or-replicate 64 c v d (omega arith) ∙ sym (get_or-replicate n c v d k);
    }

-- the code's arrays at the start
pub start_front : (n : ℕ) (xs : List Float) → n ≤ 64
    → Front n (state (range (copied xs) 0 (n * n) (zeros 4096)) (range numbered 0 n (replicate 64 0)) (replicate n true) (replicate 64 unit) []) (start n xs)
unfolding start
start_front n xs h =
    let r = numbered_at n h in
    record {
      cells = refl;
      ids = record {
        long = rw r.0 h;
        wide = rw (length_tab n (λ k. k)) (omega arith);
        same = λ c k. r.1 c k ∙ sym (get_d_tab n (λ k. k) c 0 k);
      };
      live = agree_own false n (replicate n true) (rw (length-replicate n true) (omega arith));
      sizes = agree_all nan unit n h;
      rows = refl;
    }

-- the flags of the second state stand for those of the first
pub live_front : (n : ℕ) (s t : State) → Front n s t → Front n (state s.cells s.ids t.live s.sizes s.rows) t
live_front n s t f =
    record { cells = f.cells; ids = f.ids; live = agree_own false n t.live f.live.wide; sizes = f.sizes; rows = f.rows }
