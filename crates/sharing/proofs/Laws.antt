-- The laws of a split and of a weight dealt out, in the shape of the needs. Assumes nothing.
use Prim.Native.Nat.{ℕ, zero, suc, ◌+◌, ◌-◌, ◌*◌, ◌<◌, ◌≤◌}
use mathlib.Core.Path.{◌≡◌, refl, sym, ap, ◌∙◌}
use mathlib.Core.Bool.{Bool, true, false}
use mathlib.Core.List.{List, ◌++◌}
use native.Mathlib.Nat.{le_refl}
use native.Mathlib.Numerals.{add-one}
use native.Mathlib.Omega.{arith}
use lib.ListN.{length, get_or, set, take, drop, drop_of_length-le, replicate-append-replicate}
use lib.Seq.{drop-cons, length-take-le}
use lib.Ieee.{Float, nan, binary64, mul}
use Rattle.arithmetic.specs.Constants.{pz}
use Rattle.refusal.specs.declared.Refusal.{Refusal}
use Rattle.lent.specs.Grid.{zeros, over}
use Rattle.lent.specs.Lent.{answer_of, size}
use Rattle.lent.proofs.Laws.{get_d_over, drop_replicate}
use Rattle.lent.proofs.Sizes.{laid_done, within_limit}
use Rattle.tree.specs.Tree.{leaves_of}
use Rattle.tree.specs.Order.{order_laid}
use Rattle.tree.proofs.Order.{leaves_few, leaves_low}
use Rattle.branches.specs.Branch.{first_of, size_of}
use Rattle.branches.specs.Summary.{summary_outcome, summary_laid}
use Rattle.branches.specs.Inner.{Rooted}
use Rattle.branches.proofs.Sheet.{looked_up}
use Rattle.clusters.specs.Clusters.{nth, shares, shares_outcome, shares_answer, shares_laid}
use Rattle.clusters.specs.Shares.{none, some}
use Rattle.clusters.proofs.Laws.{length_shares}
use Rattle.clusters.proofs.Sharing.{shares_as_variance}
use Rattle.metrics.specs.declared.Metric.{Metric}
use Rattle.metrics.specs.declared.Metric.TheVariants.{MinimumVariance, MinimumStandardDeviation, SharpeRatio, EqualWeighting, ExpectedShortfall, ConditionalDrawdownRisk}
use Rattle.metrics.specs.Names.{is_tail_risk}
use Rattle.metrics.specs.Split.{Inputs, split_of, split_answer}
use Rattle.metrics.specs.Inner.{Fed}
use Rattle.metrics.proofs.Laws.{split_known}
use Rattle.sharing.specs.Allot.{spread_of, deal_to, varied_of, inside_of}
use Rattle.sharing.specs.Inner.{Below, Summarized, Dealt, Blank}
use Rattle.std.specs.Prelude.{Ok, Err}
use Rattle.metrics.specs.Outcomes.{Splitting}
use Rattle.refusal.specs.Table.{Outcome}

-- ---- the split of two sides, in the front of a scratch that is zero

pub never_both : {b : Bool} {A : Type 0} → b ≡ false → b ≡ true → A
never_both e h = absurd (let z : ◌≡◌ {A = ℕ} 0 1 = cc in omega arith)

pub few_rows : {metric : Metric} {x : Inputs} {n : ℕ} → Fed metric x n → is_tail_risk metric ≡ true → x.return_rows ≤ 4096
few_rows {x = x} {n = n} f t = (within_limit x.return_rows n (f.tailed t).limits).0

module _ {scratch : List Float} (b : Blank scratch) {m : ℕ} (h : m ≤ 4097) where
  pub series_fits : m ≤ length scratch
  series_fits = omega (arith, h, b.enough)

  pub series_length : length (take m scratch) ≡ m
  series_length = length-take-le m scratch series_fits

  -- scratch whose front was zero and is zero again is as it was
  pub blank_again : {part : List Float} → part ≡ zeros (length (take m scratch)) → part ++ drop m scratch ≡ scratch
  blank_again e =
      let g : m + (length scratch - m) ≡ length scratch = omega (arith, series_fits) in
      ap (λ (l : List Float). l ++ drop m scratch) (e ∙ ap zeros series_length)
      ∙ ap (λ (l : List Float). zeros m ++ drop m l) b.zero
      ∙ ap (λ (l : List Float). zeros m ++ l) (drop_replicate m (length scratch) pz)
      ∙ replicate-append-replicate m (length scratch - m) pz
      ∙ ap zeros g
      ∙ sym b.zero

  pub split_right : {metric : Metric} {x : Inputs} {n : ℕ} → Fed metric x n → (is_tail_risk metric ≡ true → m ≡ x.return_rows + 1) → (cov : List Float) (left right : List ℕ) (s : Splitting)
      → s ≡ split_answer metric x cov n left right (length (take m scratch)) → s ≡ split_of metric x cov n left right
  split_right f g cov left right s e = e ∙ split_known f cov left right (length (take m scratch)) (λ t. omega (arith, g t, series_length))

pub blank_still : {scratch after : List Float} → Blank scratch → after ≡ scratch → Blank after
blank_still b e = rw e b

-- ---- the leaves of a node

module _ {rows : List ℕ} {n v : ℕ} (p : Below rows n v) where
  fits_64 : length (leaves_of rows n v) ≤ 64
  fits_64 = omega (arith, leaves_few rows n p.on.tree p.on.some v p.on.node, p.most)

  pub leaves_dealt : (m : ℕ) → n ≤ m → Dealt (leaves_of rows n v) m
  leaves_dealt m h = record { few = fits_64; each = λ j l. omega (arith, leaves_low rows n p.on.tree p.on.some v p.on.node j l) }

-- ---- the order in a buffer of 64, and the summary in lists of 127

module _ {rows : List ℕ} {n : ℕ} (p : Below rows n (2 * n - 2)) where
  rooted : Rooted rows n
  rooted = record { some = p.on.some; tree = p.on.tree }

  pub summarized : (order firsts sizes : List ℕ) (said : Outcome) (a b c d : ℕ) → a ≡ 64 → b ≡ 127 → c ≡ 127 → d ≡ 127 → order ≡ order_laid rows n (2 * n - 2) a
      → said ≡ summary_outcome rows n b c d → firsts ≡ summary_laid (first_of rows n) said n b → sizes ≡ summary_laid (size_of rows n) said n c → Summarized rows n order firsts sizes
  summarized order firsts sizes said a b c d ea eb ec ed o e f s =
      record { part = looked_up rooted p.most said (rw (eb, ec, ed) at e) order firsts sizes (rw ea at o) (rw eb at f) (rw ec at s) }

-- ---- one weight to each

pub spread_step : (ms : List ℕ) (w : Float) (ws : List Float) (i : ℕ) → i < length ms → spread_of (drop i ms) w ws ≡ spread_of (drop (i + 1) ms) w (set ws (get_or ms i 0) w)
unfolding spread_of
spread_step ms w ws i h = rw (add-one, drop-cons ms i 0)

pub spread_end : (ms : List ℕ) (w : Float) (ws : List Float) (i : ℕ) → length ms ≤ i → spread_of (drop i ms) w ws ≡ ws
unfolding spread_of
spread_end ms w ws i h = rw (drop_of_length-le ms h)

-- ---- a weight dealt out

module _ (ms : List ℕ) (ps : List Float) (w : Float) (ws : List Float) where
  pub deal_start : ws ≡ deal_to 0 ms ps w ws
  unfolding deal_to
  deal_start = refl

  pub deal_step : (d d' : List Float) (k : ℕ) → d' ≡ set d (nth ms k) (mul binary64 w (get_or ps k nan)) → d ≡ deal_to k ms ps w ws → d' ≡ deal_to (k + 1) ms ps w ws
  unfolding deal_to
  deal_step d d' k e h = rw (add-one, e, h)

deal_ext : (n : ℕ) (ms : List ℕ) (ps qs : List Float) (w : Float) (ws : List Float) → ((k : ℕ) → k < n → get_or ps k nan ≡ get_or qs k nan) → deal_to n ms ps w ws ≡ deal_to n ms qs w ws
unfolding deal_to
deal_ext zero ms ps qs w ws h = refl
deal_ext (suc n) ms ps qs w ws h =
    let e : deal_to n ms ps w ws ≡ deal_to n ms qs w ws = deal_ext n ms ps qs w ws (λ k l. h k (omega arith)) in
    let e2 : get_or ps n nan ≡ get_or qs n nan = h n (omega arith) in
    cc

-- ---- by inverse variance, the parts being worked out in a buffer of 64

answer_done : (o : Outcome) (a b i j : ℕ) → answer_of o a b ≡ Ok (size i j) → o ≡ Ok tt
unfolding answer_of
answer_done (Ok _) a b i j e = refl
answer_done (Err r) a b i j e = absurd (let z : ◌≡◌ {A = ℕ} 0 1 = cc in omega arith)

answer_not : (o : Outcome) (a b : ℕ) (r : Refusal) → answer_of o a b ≡ Err r → o ≡ Err r
unfolding answer_of
answer_not (Ok _) a b r e = absurd (let z : ◌≡◌ {A = ℕ} 0 1 = cc in omega arith)
answer_not (Err r') a b r e = cc

module _ (cov : List Float) (n : ℕ) (ms : List ℕ) (w : Float) (ws : List Float) (few : length ms ≤ 64) where
  same_outcome : shares_outcome cov n n ms (length ms) ≡ shares_outcome cov n n ms 64
  same_outcome = shares_as_variance cov n n ms (length ms) (le_refl (length ms)) ∙ sym (shares_as_variance cov n n ms 64 few)

  pub varied_none : (r : Refusal) → shares_answer cov n n ms 64 ≡ Err r → none ≡ varied_of cov n ms w ws
  unfolding varied_of shares_answer
  varied_none r e = rw (same_outcome, answer_not _ _ _ r e)

  pub varied_some : (i j : ℕ) (ps d : List Float) → shares_answer cov n n ms 64 ≡ Ok (size i j) → ps ≡ shares_laid cov n n ms 64 → d ≡ deal_to (length ms) ms ps w ws → some d ≡ varied_of cov n ms w ws
  unfolding varied_of shares_answer shares_laid
  varied_some i j ps d e q h =
      let g : shares_outcome cov n n ms 64 ≡ (Ok tt) = answer_done (shares_outcome cov n n ms 64) 1 (length ms) i j e in
      let o : ps ≡ over (shares cov n ms) (zeros 64) = q ∙ sym (laid_done pz (shares_outcome cov n n ms 64) 64 (shares cov n ms) g) in
      let z = length_shares cov n ms in
      let x = deal_ext (length ms) ms ps (shares cov n ms) w ws (λ k l. ap (λ (t : List Float). get_or t k nan) o ∙ get_d_over (shares cov n ms) (zeros 64) k nan (omega arith)) in
      rw (same_outcome, g, h, x)

-- but for equal weighting, every metric deals by inverse variance
pub inside_varied : (metric : Metric) (cov : List Float) (n : ℕ) (ms : List ℕ) (w : Float) (ws : List Float) → (metric ≡ EqualWeighting → ⊥) → inside_of metric cov n ms w ws ≡ varied_of cov n ms w ws
unfolding inside_of
inside_varied MinimumVariance cov n ms w ws h = refl
inside_varied MinimumStandardDeviation cov n ms w ws h = refl
inside_varied SharpeRatio cov n ms w ws h = refl
inside_varied EqualWeighting cov n ms w ws h = absurd (h refl)
inside_varied ExpectedShortfall cov n ms w ws h = refl
inside_varied ConditionalDrawdownRisk cov n ms w ws h = refl
