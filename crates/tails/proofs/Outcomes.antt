-- The refusals of a call: in the stages that the code has, and what a call that is not refused knows. Assumes nothing.
use Prim.Native.Nat.{ℕ, ◌+◌, ◌*◌}
use mathlib.Core.Path.{◌≡◌, refl, sym, ap, ◌∙◌}
use mathlib.Core.Bool.{Bool, true, false, not, ◌&&◌}
use mathlib.Core.List.{List, ◌++◌, append_assoc}
use native.Mathlib.Omega.{arith}
use borrow.Author.Tests.{ltb-false, leb-false, lt-ltb, eqb-true, eqb-false}
use native.Mathlib.Numerals.{add-one}
use lib.Dec.{ltb, leb, eqb, leb-suc-suc}
use lib.ListN.{length, take}
use lib.Seq.{take_at}
use lib.Ieee.{Float}
use Rattle.refusal.specs.Table.{Line, first, and_then, Outcome}
use Rattle.refusal.specs.declared.Refusal.{Refusal}
use Rattle.refusal.proofs.Tables.{table_pass, table_end, none, both_done, then_done, then_refused, first_append, first_done}
use Rattle.lent.specs.Lent.{laid, told_of}
use Rattle.lent.specs.declared.Size.{Size}
use Rattle.lent.proofs.Sums.{any_no}
use Rattle.lent.proofs.Sizes.{within_limit, same_length, told_as}
use Rattle.ordering.proofs.Parts.{part_of_lem}
use Rattle.clusters.specs.Clusters.{nth, shares, outside, low_lines, size_table, risk_table, shares_outcome, shares_answer, shares_laid, risk_of}
use Rattle.clusters.proofs.Laws.{length_shares}
use Rattle.tails.specs.Tail.{row_return, shortfall, conditional_drawdown, shortfall_of, drawdown_of}
use Rattle.tails.specs.Measures.{MeasureCall, measure_size_lines, measure_shape_lines, tail_lines, measure_outcome, shortfall_answer, drawdown_answer}
use Rattle.tails.specs.Inner.{TailReady, measure_number, measure_answer}
use Rattle.tails.specs.declared.Measure.{Measure}
use Rattle.tails.specs.declared.Measure.TheVariants.{Shortfall, Drawdown}
use Rattle.std.specs.Prelude.{Ok, Err}
use Rattle.clusters.specs.Outcomes.{Risk}

-- the test for 11 as the code has it, with no sum
pub short_series : (room h : ℕ) → leb room h ≡ ltb room (h + 1)
short_series room h = rw add-one (sym (leb-suc-suc room h))

-- ---- three stages

staged : (a b c d : List Line) → first (a ++ (b ++ (c ++ d))) ≡ and_then (first a) (and_then (first (b ++ c)) (first d))
staged a b c d =
    first_append a (b ++ (c ++ d))
    ∙ ap (λ (l : List Line). and_then (first a) (first l)) (sym (append_assoc b c d))
    ∙ ap (and_then (first a)) (first_append (b ++ c) d)

-- a test of two, of which the first holds
other_no : (b c : Bool) → (b && not c) ≡ false → b ≡ true → c ≡ true
other_no b true e h = refl
other_no b false e h = sym (rw h at e)

-- the number of a call that was refused does not matter
same_risk : (o : Outcome) (x y : Float) → (o ≡ Ok tt → x ≡ y) → risk_of o x ≡ risk_of o y
same_risk (Ok _) x y f = let e = f refl in cc
same_risk (Err r) x y f = refl

module _ (m : MeasureCall) where
  stages : measure_outcome m
      ≡ and_then (first (measure_size_lines m))
      (and_then (first (measure_shape_lines m ++ tail_lines true m.return_rows m.confidence))
      (first (low_lines m.covariance m.covariance_columns m.assets)))
  unfolding measure_outcome
  stages =
      staged (measure_size_lines m) (measure_shape_lines m) (tail_lines true m.return_rows m.confidence)
      (low_lines m.covariance m.covariance_columns m.assets)

  pub sizes_refused : (r : Refusal) → first (measure_size_lines m) ≡ Err r → measure_outcome m ≡ Err r
  sizes_refused r e = stages ∙ then_refused _ _ r e

  pub shape_refused : (r : Refusal) → first (measure_size_lines m) ≡ Ok tt
      → first (measure_shape_lines m ++ tail_lines true m.return_rows m.confidence) ≡ Err r → measure_outcome m ≡ Err r
  shape_refused r s e = stages ∙ then_done _ _ s ∙ then_refused _ _ r e

  -- ---- a call whose first two stages are done

  module _ (s : first (measure_size_lines m) ≡ Ok tt) (t : first (measure_shape_lines m ++ tail_lines true m.return_rows m.confidence) ≡ Ok tt) where
    -- the weights are refused as the third stage is
    shares_low : (room : ℕ) → room ≡ 64 → shares_outcome m.covariance m.covariance_rows m.covariance_columns m.assets room ≡ first (low_lines m.covariance m.covariance_columns m.assets)
    unfolding measure_size_lines size_table measure_shape_lines shares_outcome risk_table
    shares_low room e =
        let a = none (measure_size_lines m) s in
        let b = none (measure_shape_lines m ++ tail_lines true m.return_rows m.confidence) t in
        first_done (size_table m.covariance m.covariance_rows m.covariance_columns m.assets) _
        (table_pass _ _ _ a.1.0 ∙ table_pass _ _ _ a.1.1.0 ∙ table_pass _ _ _ a.1.1.1.0 ∙ table_end)
        ∙ table_pass _ _ _ (rw e a.1.1.0) ∙ table_pass _ _ _ b.0 ∙ table_pass _ _ _ b.1.1.0

    ready_of : (w : List Float) → take (length m.assets) w ≡ shares m.covariance m.covariance_columns m.assets → length w ≡ 64
        → TailReady m.returns m.return_rows m.covariance_columns m.assets w m.confidence m.room
    unfolding measure_size_lines size_table measure_shape_lines outside
    ready_of w e k =
        let a = none (measure_size_lines m) s in
        let b = none (measure_shape_lines m ++ tail_lines true m.return_rows m.confidence) t in
        let l = within_limit m.return_rows m.return_columns a.0 in
        let z : length m.returns ≡ m.return_rows * m.return_columns = same_length _ _ _ a.1.1.1.1.0 in
        let n : m.return_rows ≡ 0 → ⊥ = eqb-false m.return_rows 0 b.1.1.1.0 in
        let c : m.return_columns ≡ m.covariance_columns = eqb-true _ _ (other_no (ltb 0 m.return_rows) (eqb m.return_columns m.covariance_columns) b.1.0 (lt-ltb 0 m.return_rows (omega arith))) in
        let f = ltb-false 64 (length m.assets) a.1.1.0 in
        record {
          held = record {
            few = l.0;
            cells = z ∙ ap (λ (i : ℕ). m.return_rows * i) c;
            each = λ i h. leb-false m.covariance_columns (nth m.assets i) (any_no (λ i. leb m.covariance_columns (nth m.assets i)) (length m.assets) b.1.1.0 i h);
            weights = ap length e ∙ length_shares m.covariance m.covariance_columns m.assets;
          };
          listed = omega arith;
          part = part_of_lem m.confidence b.1.1.1.1.0;
          roomy = ltb-false m.room (m.return_rows + 1) a.1.1.1.1.1.0;
        }

    -- ---- what `weigh` answers, and what it leaves in a buffer of 64

    module _ (room : ℕ) (e : room ≡ 64) where
      as_shares : measure_outcome m ≡ told_of (shares_answer m.covariance m.covariance_rows m.covariance_columns m.assets room)
      unfolding shares_answer
      as_shares = stages ∙ then_done _ _ s ∙ then_done _ _ t ∙ sym (told_as _ _ _ ∙ shares_low room e)

      pub low_refused : (r : Refusal) → shares_answer m.covariance m.covariance_rows m.covariance_columns m.assets room ≡ Err r → measure_outcome m ≡ Err r
      unfolding told_of
      low_refused r h = as_shares ∙ ap told_of h

      pub weighed : (o : Size) → shares_answer m.covariance m.covariance_rows m.covariance_columns m.assets room ≡ Ok o → measure_outcome m ≡ Ok tt
      unfolding told_of
      weighed o h = as_shares ∙ ap told_of h

      pub weights_first : (o : Size) → shares_answer m.covariance m.covariance_rows m.covariance_columns m.assets room ≡ Ok o → (out : List Float)
          → out ≡ shares_laid m.covariance m.covariance_rows m.covariance_columns m.assets room → take (length m.assets) out ≡ shares m.covariance m.covariance_columns m.assets
      unfolding shares_answer shares_laid laid told_of
      weights_first o h out b =
          let d : shares_outcome m.covariance m.covariance_rows m.covariance_columns m.assets room ≡ Ok tt = sym (told_as _ _ _) ∙ ap told_of h in
          rw (b, d) (take_at (shares m.covariance m.covariance_columns m.assets) _ _ (length_shares m.covariance m.covariance_columns m.assets))

  -- ---- what the measures are given, and what they answer, of what `weigh` said and left

  module _ (said : Outcome) (w : List Float) (e : said ≡ measure_outcome m) (f : said ≡ Ok tt → take (length m.assets) w ≡ shares m.covariance m.covariance_columns m.assets) where
    pub ready : length w ≡ 64 → said ≡ Ok tt → TailReady m.returns m.return_rows m.covariance_columns m.assets w m.confidence m.room
    unfolding measure_outcome
    ready k d =
        let p = both_done _ _ (sym stages ∙ sym e ∙ d) in
        ready_of p.0 (both_done _ _ p.1).0 w (f d) k

    pub shortfall_answered : (r : Risk) → r ≡ risk_of said (shortfall m.return_rows (row_return m.returns m.covariance_columns m.assets (take (length m.assets) w)) m.confidence)
        → r ≡ shortfall_answer m
    unfolding shortfall_answer shortfall_of
    shortfall_answered r g =
        g ∙ same_risk said _ _ (λ d. ap (λ (t : List Float). shortfall m.return_rows (row_return m.returns m.covariance_columns m.assets t) m.confidence) (f d))
        ∙ ap (λ (o : Outcome). risk_of o (shortfall m.return_rows (row_return m.returns m.covariance_columns m.assets (shares m.covariance m.covariance_columns m.assets)) m.confidence)) e

    pub drawdown_answered : (r : Risk) → r ≡ risk_of said (conditional_drawdown m.return_rows (row_return m.returns m.covariance_columns m.assets (take (length m.assets) w)) m.confidence)
        → r ≡ drawdown_answer m
    unfolding drawdown_answer drawdown_of
    drawdown_answered r g =
        g ∙ same_risk said _ _ (λ d. ap (λ (t : List Float). conditional_drawdown m.return_rows (row_return m.returns m.covariance_columns m.assets t) m.confidence) (f d))
        ∙ ap (λ (o : Outcome). risk_of o (conditional_drawdown m.return_rows (row_return m.returns m.covariance_columns m.assets (shares m.covariance m.covariance_columns m.assets)) m.confidence)) e

    pub measure_answered : (k : Measure) (r : Risk) → r ≡ risk_of said (measure_number k m.return_rows (row_return m.returns m.covariance_columns m.assets (take (length m.assets) w)) m.confidence)
        → r ≡ measure_answer k m
    measure_answered Shortfall r g = shortfall_answered r g
    measure_answered Drawdown r g = drawdown_answered r g
