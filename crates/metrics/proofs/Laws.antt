-- The laws of a split in the shape of the needs; and, for the crate above, that a split is as split_of says where what the metric reads is given. Assumes nothing.
use Prim.Native.Nat.{ℕ, ◌+◌, ◌≤◌}
use mathlib.Core.Path.{◌≡◌, refl, sym, ap, ◌∙◌}
use mathlib.Core.Bool.{Bool, true, false, cond}
use mathlib.Core.List.{List}
use native.Mathlib.Omega.{arith}
use lib.ListN.{length}
use lib.Ieee.{Float}
use Rattle.refusal.specs.Telling.{accepts, refuses}
use Rattle.refusal.specs.declared.Refusal.{Refusal}
use Rattle.refusal.specs.declared.Refusal.TheVariants.{UnknownAllocationMetric}
use Rattle.text.specs.Bytes.{bytes, same}
use Rattle.clusters.specs.Clusters.{variance_answer, expectation, ratio, ratio_of, sharpe_answer}
use Rattle.clusters.proofs.Sharing.{variance_outcome_lem, variance_value, sharpe_as_variance}
use Rattle.tails.proofs.Known.{shortfall_known, drawdown_known}
use Rattle.metrics.specs.declared.Metric.{Metric}
use Rattle.metrics.specs.declared.Metric.TheVariants.{MinimumVariance, MinimumStandardDeviation, SharpeRatio, EqualWeighting, ExpectedShortfall, ConditionalDrawdownRisk}
use Rattle.metrics.specs.Names.{metric_named, named_metric_tells, is_tail_risk}
use Rattle.metrics.specs.Split.{Inputs, scored, with_risks, split_of_both, split_of, splitting_tells, split_read, read_answer, scored_answer, split_answer}
use Rattle.metrics.specs.Inner.{Fed}
use Rattle.std.specs.Prelude.{Ok, Err}
use Rattle.clusters.specs.Outcomes.{Risk}
use Rattle.metrics.specs.Outcomes.{Splitting}

-- ---- what an answer tells: a name is one of a metric or 2

pick : (a b c d e f : Bool) (r : Refusal)
    → cond a (Ok MinimumVariance) (cond b (Ok MinimumStandardDeviation) (cond c (Ok SharpeRatio) (cond d (Ok EqualWeighting) (cond e (Ok ExpectedShortfall) (cond f (Ok ConditionalDrawdownRisk) (Err UnknownAllocationMetric)))))) ≡ Err r
    → UnknownAllocationMetric ≡ r
pick true b c d e f r g = absurd (let z : ◌≡◌ {A = ℕ} 0 1 = cc in omega arith)
pick false true c d e f r g = absurd (let z : ◌≡◌ {A = ℕ} 0 1 = cc in omega arith)
pick false false true d e f r g = absurd (let z : ◌≡◌ {A = ℕ} 0 1 = cc in omega arith)
pick false false false true e f r g = absurd (let z : ◌≡◌ {A = ℕ} 0 1 = cc in omega arith)
pick false false false false true f r g = absurd (let z : ◌≡◌ {A = ℕ} 0 1 = cc in omega arith)
pick false false false false false true r g = absurd (let z : ◌≡◌ {A = ℕ} 0 1 = cc in omega arith)
pick false false false false false false r g = cc

pub named_tells : (name : List ℕ) (m : Metric) → metric_named name ≡ Ok m → named_metric_tells (metric_named name) ≡ accepts m
named_tells name m e = ap named_metric_tells e

pub unnamed_tells : (name : List ℕ) (r : Refusal) → metric_named name ≡ Err r → named_metric_tells (metric_named name) ≡ refuses UnknownAllocationMetric
unfolding metric_named
unnamed_tells name r e =
    ap named_metric_tells e
    ∙ sym (ap refuses (pick (same name (bytes "minimum_variance")) (same name (bytes "minimum_standard_deviation")) (same name (bytes "sharpe_ratio")) (same name (bytes "equal_weighting")) (same name (bytes "expected_shortfall")) (same name (bytes "conditional_drawdown_risk")) r e))

-- ---- the split of two sides, from what the calls said

module _ (metric : Metric) (x : Inputs) (cov : List Float) (n : ℕ) (a b : List ℕ) (room : ℕ) where
  pub left_none : (r : Refusal) → variance_answer cov n n a ≡ Err r → Err r ≡ split_answer metric x cov n a b room
  unfolding split_answer
  left_none r e = rw e

  pub right_none : (l : Float) (r : Refusal) → variance_answer cov n n a ≡ Ok l → variance_answer cov n n b ≡ Err r → Err r ≡ split_answer metric x cov n a b room
  unfolding split_answer
  right_none l r e h = rw (e, h)

  pub both_fine : (l r : Float) (s : Splitting) (k : ℕ) → variance_answer cov n n a ≡ Ok l → variance_answer cov n n b ≡ Ok r → k ≡ room → s ≡ scored_answer metric x cov n a b k l r
      → s ≡ split_answer metric x cov n a b room
  unfolding split_answer
  both_fine l r s k e h g q = rw (e, h) (q ∙ ap (λ (i : ℕ). scored_answer metric x cov n a b i l r) g)

  -- from what the metric reads of the two sides
  module _ (l r : Float) where
    pub left_read : (k : Refusal) → read_answer metric x cov n room a l ≡ Err k → Err k ≡ scored_answer metric x cov n a b room l r
    unfolding scored_answer
    left_read k g = rw g

    pub right_read : (s : Float) (k : Refusal) → read_answer metric x cov n room a l ≡ Ok s → read_answer metric x cov n room b r ≡ Err k → Err k ≡ scored_answer metric x cov n a b room l r
    unfolding scored_answer
    right_read s k g i = rw (g, i)

    pub both_read : (s t : Float) → read_answer metric x cov n room a l ≡ Ok s → read_answer metric x cov n room b r ≡ Ok t → Ok (split_read metric l r s t) ≡ scored_answer metric x cov n a b room l r
    unfolding scored_answer
    both_read s t g i = rw (g, i)

  -- what it tells: the refusal of the left side's variance, then of the right's; of what the metric reads of the left side, then of the right; else the split by what was read
  pub left_tells : (k : Refusal) → variance_answer cov n n a ≡ Err k → splitting_tells (split_answer metric x cov n a b room) ≡ refuses k
  left_tells k e = ap splitting_tells (sym (left_none k e))

  module _ (l : Float) (e : variance_answer cov n n a ≡ Ok l) where
    pub right_tells : (k : Refusal) → variance_answer cov n n b ≡ Err k → splitting_tells (split_answer metric x cov n a b room) ≡ refuses k
    right_tells k h = ap splitting_tells (sym (right_none l k e h))

    module _ (r : Float) (h : variance_answer cov n n b ≡ Ok r) where
      as_scored : split_answer metric x cov n a b room ≡ scored_answer metric x cov n a b room l r
      as_scored = sym (both_fine l r _ room e h refl refl)

      pub left_read_tells : (k : Refusal) → read_answer metric x cov n room a l ≡ Err k → splitting_tells (split_answer metric x cov n a b room) ≡ refuses k
      left_read_tells k g = ap splitting_tells (as_scored ∙ sym (left_read l r k g))

      pub right_read_tells : (s : Float) (k : Refusal) → read_answer metric x cov n room a l ≡ Ok s → read_answer metric x cov n room b r ≡ Err k
          → splitting_tells (split_answer metric x cov n a b room) ≡ refuses k
      right_read_tells s k g i = ap splitting_tells (as_scored ∙ sym (right_read l r s k g i))

      pub split_tells : (s t : Float) → read_answer metric x cov n room a l ≡ Ok s → read_answer metric x cov n room b r ≡ Ok t
          → splitting_tells (split_answer metric x cov n a b room) ≡ accepts (split_read metric l r s t)
      split_tells s t g i = ap splitting_tells (as_scored ∙ sym (both_read l r s t g i))

-- ---- for the crate above: nothing is refused but a variance, where what the metric reads is given

sharpe_known : (expected cov : List Float) (n : ℕ) (side : List ℕ) (v : Float) → length expected ≡ n → variance_answer cov n n side ≡ Ok v
    → sharpe_answer expected cov n n side ≡ Ok (ratio (expectation expected cov n side) v)
unfolding sharpe_answer ratio_of
sharpe_known expected cov n side v h e = rw (sharpe_as_variance cov n n side expected h, variance_outcome_lem cov n n side v e, variance_value cov n n side v e)

scored_known : (metric : Metric) (x : Inputs) (cov : List Float) (n : ℕ) (a b : List ℕ) (room : ℕ) → Fed metric x n → (is_tail_risk metric ≡ true → x.return_rows + 1 ≤ room) → (l r : Float)
    → variance_answer cov n n a ≡ Ok l → variance_answer cov n n b ≡ Ok r → scored_answer metric x cov n a b room l r ≡ Ok (scored metric x cov n a b l r)
unfolding scored_answer scored is_tail_risk
scored_known MinimumVariance x cov n a b room f g l r e h = refl
scored_known MinimumStandardDeviation x cov n a b room f g l r e h = refl
scored_known SharpeRatio x cov n a b room f g l r e h =
    rw (sharpe_known x.expected cov n a l (f.expects refl) e, sharpe_known x.expected cov n b r (f.expects refl) h)
scored_known EqualWeighting x cov n a b room f g l r e h = refl
scored_known ExpectedShortfall x cov n a b room f g l r e h =
    let p = f.tailed refl in
    rw (shortfall_known x.returns x.return_rows cov n a x.confidence room l p.cells p.limits p.rows p.part (g refl) e, shortfall_known x.returns x.return_rows cov n b x.confidence room r p.cells p.limits p.rows p.part (g refl) h)
scored_known ConditionalDrawdownRisk x cov n a b room f g l r e h =
    let p = f.tailed refl in
    rw (drawdown_known x.returns x.return_rows cov n a x.confidence room l p.cells p.limits p.rows p.part (g refl) e, drawdown_known x.returns x.return_rows cov n b x.confidence room r p.cells p.limits p.rows p.part (g refl) h)

module _ {metric : Metric} {x : Inputs} {n : ℕ} (f : Fed metric x n) (cov : List Float) (a b : List ℕ) (room : ℕ) (g : is_tail_risk metric ≡ true → x.return_rows + 1 ≤ room) where
  by_cases : (v w : Risk) → variance_answer cov n n a ≡ v → variance_answer cov n n b ≡ w → with_risks v w (scored_answer metric x cov n a b room) ≡ split_of_both v w (scored metric x cov n a b)
  by_cases (Err k) w e h = refl
  by_cases (Ok l) (Err k) e h = refl
  by_cases (Ok l) (Ok r) e h = scored_known metric x cov n a b room f g l r e h

  pub split_known : split_answer metric x cov n a b room ≡ split_of metric x cov n a b
  unfolding split_answer split_of
  split_known = by_cases (variance_answer cov n n a) (variance_answer cov n n b) refl refl
