-- The steps of the loops, in the shape of the needs. Assumes nothing.
use Prim.Native.Nat.{ℕ, ◌+◌, ◌≤◌, ◌*◌, ◌<◌}
use mathlib.Core.Path.{◌≡◌, refl, sym, ap, ◌∙◌}
use mathlib.Core.Bool.{Bool, true, false, cond}
use mathlib.Core.List.{List}
use native.Mathlib.Nat.{le_antisymm}
use native.Mathlib.Numerals.{add-one}
use native.Mathlib.Omega.{arith}
use lib.ListN.{length, set, get_or}
use lib.Ieee.{Float, binary64, add, sub, mul, neg, le}
use Rattle.lent.specs.Grid.{tab, over}
use Rattle.lent.proofs.Laws.{length_tab, over_all_lem, cell_in}
use Rattle.lent.proofs.Fill.{tab_step}
use Rattle.ordering.specs.Nearest.{quantile}
use Rattle.arithmetic.specs.Constants.{pz, unit}
use Rattle.tails.specs.Tail.{tail_sum, tail_count, mean, shortfall, wealth, higher, peak, fall, drawdown, conditional_drawdown}
use Rattle.tails.specs.Inner.{HeldRows}

-- a cell of an asset listed
pub held_cell : {returns : List Float} {rows n : ℕ} {assets : List ℕ} {w : List Float} → HeldRows returns rows n assets w → (r k : ℕ) → r < rows → k < length assets
    → r * n + get_or assets k 0 < length returns
held_cell {returns} {rows} {n} {assets} p r k hr hk = cell_in returns rows n r (get_or assets k 0) p.cells hr (p.each k hk)

-- ---- a list that is filled from the front, and full

module _ (d l : List Float) (f : ℕ → Float) where
  pub tab_full : (k n : ℕ) → d ≡ over (tab k f) l → length l ≡ n → k ≤ n → n ≤ k → d ≡ tab n f
  tab_full k n e q h g =
      let z : k ≡ n = le_antisymm h g in
      let y = length_tab n f in
      e ∙ ap (λ (m : ℕ). over (tab m f) l) z ∙ over_all_lem (tab n f) l (y ∙ sym q)

  -- the last entry is put after the others
  pub tab_last : (k n : ℕ) (v : Float) → d ≡ over (tab k f) l → v ≡ f k → length l ≡ n + 1 → k ≤ n → n ≤ k → set d n v ≡ tab (n + 1) f
  tab_last k n v e u q h g =
      let z : k ≡ n = le_antisymm h g in
      let y = length_tab (n + 1) f in
      ap (λ (m : ℕ). set d m v) (sym z) ∙ tab_step f d (set d k v) l v k refl e u (omega arith) ∙ ap (λ (m : ℕ). over (tab (m + 1) f) l) z ∙ over_all_lem (tab (n + 1) f) l (y ∙ sym q)

-- ---- the tail

-- s and c are the sum and the number of the entries among f 0, .., f (k - 1) that pass p
pub record Tailed (p : Float → Bool) (f : ℕ → Float) (s : Float) (c k : ℕ) : Type 0 where
  pub sum : s ≡ tail_sum p k f
  pub count : c ≡ tail_count p k f
  pub few : c ≤ k

module _ (p : Float → Bool) (f : ℕ → Float) where
  pub tail_start : Tailed p f pz 0 0
  unfolding tail_sum tail_count
  tail_start = record { sum = refl; count = refl; few = omega arith }

  sum_more : (k : ℕ) → tail_sum p (k + 1) f ≡ cond (p (f k)) (add binary64 (tail_sum p k f) (f k)) (tail_sum p k f)
  unfolding tail_sum
  sum_more k = rw (add-one k)

  count_more : (k : ℕ) → tail_count p (k + 1) f ≡ cond (p (f k)) (tail_count p k f + 1) (tail_count p k f)
  unfolding tail_count
  count_more k = rw (add-one k)

  module _ (s t x : Float) (c d k : ℕ) (h : Tailed p f s c k) (e : x ≡ f k) where
    pub tail_hit : p x ≡ true → t ≡ add binary64 s x → d ≡ c + 1 → Tailed p f t d (k + 1)
    tail_hit q u v = record {
      sum = rw (sum_more k, ← e, q, ← h.sum) u;
      count = rw (count_more k, ← e, q, ← h.count) v;
      few = let g = h.few in omega arith;
    }

    pub tail_miss : p x ≡ false → t ≡ s → d ≡ c → Tailed p f t d (k + 1)
    tail_miss q u v = record {
      sum = rw (sum_more k, ← e, q, ← h.sum) u;
      count = rw (count_more k, ← e, q, ← h.count) v;
      few = let g = h.few in omega arith;
    }

-- ---- the course of wealth

module _ (f : ℕ → Float) where
  pub wealth_next : (v x : Float) (k : ℕ) → v ≡ wealth f k → x ≡ f k → mul binary64 v (add binary64 unit x) ≡ wealth f (k + 1)
  unfolding wealth
  wealth_next v x k e h = rw (add-one, e, h)

  pub peak_next : (p v q : Float) (k : ℕ) → p ≡ peak f k → v ≡ wealth f (k + 1) → q ≡ higher p v → q ≡ peak f (k + 1)
  unfolding peak
  peak_next p v q k e h g = rw (add-one, g, e, h, add-one)

  pub drawdown_at : (p v d : Float) (k : ℕ) → p ≡ peak f k → v ≡ wealth f k → d ≡ fall p v → d ≡ drawdown f k
  unfolding drawdown
  drawdown_at p v d k e h g = rw (g, e, h)

-- ---- the two measures, from their steps

pub shortfall_is : (rows : ℕ) (f : ℕ → Float) (q : Float) (l : List Float) (t s r : Float) (c : ℕ) → l ≡ tab rows f → t ≡ quantile q l
    → s ≡ tail_sum (λ x. le x t) rows f → c ≡ tail_count (λ x. le x t) rows f → r ≡ mean (neg s) c → r ≡ shortfall rows f q
unfolding shortfall
shortfall_is rows f q l t s r c e g hs hc hr =
    hr ∙ rw (hs, hc) (ap (λ (u : Float). mean (neg (tail_sum (λ x. le x u) rows f)) (tail_count (λ x. le x u) rows f)) (g ∙ ap (λ (k : List Float). quantile q k) e))

pub drawdown_is : (rows : ℕ) (f : ℕ → Float) (q : Float) (l : List Float) (t s r : Float) (c : ℕ) → l ≡ tab (rows + 1) (drawdown f) → t ≡ quantile (sub binary64 unit q) l
    → s ≡ tail_sum (λ x. le t x) (rows + 1) (drawdown f) → c ≡ tail_count (λ x. le t x) (rows + 1) (drawdown f) → r ≡ mean s c → r ≡ conditional_drawdown rows f q
unfolding conditional_drawdown
drawdown_is rows f q l t s r c e g hs hc hr =
    hr ∙ rw (hs, hc) (ap (λ (u : Float). mean (tail_sum (λ x. le u x) (rows + 1) (drawdown f)) (tail_count (λ x. le u x) (rows + 1) (drawdown f))) (g ∙ ap (λ (k : List Float). quantile (sub binary64 unit q) k) e))
