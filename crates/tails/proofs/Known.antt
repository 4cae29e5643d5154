-- For the crate above: a measure of assets whose variance was not refused is not refused either, where there are return rows that fit. Assumes nothing.
use Prim.Native.Nat.{ℕ, ◌+◌, ◌*◌, ◌<◌, ◌≤◌}
use mathlib.Core.Path.{◌≡◌, refl, ◌∙◌}
use mathlib.Core.Bool.{Bool, true, false, not, ◌&&◌}
use mathlib.Core.List.{List, ◌∷◌}
use native.Mathlib.Omega.{arith}
use borrow.Author.Tests.{le-ltb, eq-eqb, ne_eqb}
use lib.Dec.{ltb, eqb}
use lib.ListN.{length}
use lib.Ieee.{Float}
use Rattle.refusal.proofs.Tables.{table_pass, table_end, none, first_done, parts_done}
use Rattle.lent.specs.Lent.{over_limit, other_length}
use Rattle.ordering.specs.Nearest.{no_part}
use Rattle.clusters.specs.Clusters.{size_table, risk_table, not_square, variance_outcome, variance_answer}
use Rattle.clusters.proofs.Sharing.{variance_outcome_lem}
use Rattle.tails.specs.Tail.{shortfall_of, drawdown_of}
use Rattle.tails.specs.Measures.{measure_size_lines, measure_shape_lines, tail_lines, measure_outcome, shortfall_answer, drawdown_answer}
use Rattle.tails.specs.Inner.{measure_call}
use Rattle.std.specs.Prelude.{Ok}

no_other : (b c : Bool) → c ≡ true → (b && not c) ≡ false
no_other true c e = rw e
no_other false c e = refl

module _ (returns : List Float) (h : ℕ) (cov : List Float) (n : ℕ) (side : List ℕ) (q : Float) (room : ℕ) where
  measure_known : length returns ≡ h * n → over_limit h n ≡ false → 0 < h → no_part q ≡ false → h + 1 ≤ room → variance_outcome cov n n side ≡ Ok tt
      → measure_outcome (measure_call returns h n cov n n side q room) ≡ Ok tt
  unfolding measure_outcome measure_size_lines measure_shape_lines variance_outcome risk_table other_length
  measure_known len limit some part roomy e =
      let m = measure_call returns h n cov n n side q room in
      let p = parts_done (size_table cov n n side) _ e in
      let a = none (not_square n n ∷ risk_table cov n side) p.1 in
      first_done (measure_size_lines m) _ (table_pass _ _ _ limit ∙ first_done (size_table cov n n side) _ p.0 ∙ table_pass _ _ _ (rw (eq-eqb (length returns) (h * n) len)) ∙ table_pass _ _ _ (le-ltb room (h + 1) roomy) ∙ table_end)
      ∙ first_done (measure_shape_lines m) _ (table_pass _ _ _ a.0 ∙ table_pass _ _ _ (no_other (ltb 0 h) (eqb n n) (eq-eqb n n refl)) ∙ table_pass _ _ _ a.1.0 ∙ table_end)
      ∙ first_done (tail_lines true h q) _ (table_pass _ _ _ (ne_eqb h 0 (λ z. absurd (omega arith))) ∙ table_pass _ _ _ part ∙ table_end)
      ∙ table_pass _ _ _ a.1.1.0 ∙ table_pass _ _ _ a.1.1.1.0 ∙ table_end

  module _ (v : Float) (len : length returns ≡ h * n) (limit : over_limit h n ≡ false) (some : 0 < h) (part : no_part q ≡ false) (roomy : h + 1 ≤ room) (e : variance_answer cov n n side ≡ Ok v) where
    pub shortfall_known : shortfall_answer (measure_call returns h n cov n n side q room) ≡ Ok (shortfall_of returns h cov n side q)
    unfolding shortfall_answer
    shortfall_known = rw (measure_known len limit some part roomy (variance_outcome_lem cov n n side v e))

    pub drawdown_known : drawdown_answer (measure_call returns h n cov n n side q room) ≡ Ok (drawdown_of returns h cov n side q)
    unfolding drawdown_answer
    drawdown_known = rw (measure_known len limit some part roomy (variance_outcome_lem cov n n side v e))
