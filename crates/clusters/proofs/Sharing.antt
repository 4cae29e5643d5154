-- Laws for the allocators above: of specs/Shares.antt, and of what a variance that was not refused says. Assumes nothing.
use Prim.Native.Nat.{ℕ, ◌≤◌}
use mathlib.Core.Path.{◌≡◌, refl, sym, ap, ◌∙◌}
use mathlib.Core.Bool.{true, false, not}
use mathlib.Core.List.{List, [], ◌∷◌, ◌++◌}
use native.Mathlib.Omega.{arith}
use borrow.Author.Tests.{le-ltb, eq-eqb}
use lib.Dec.{eqb}
use lib.ListN.{length}
use lib.Ieee.{Float}
use Rattle.refusal.specs.Table.{Line, first, or_else, and_then, Outcome}
use Rattle.refusal.specs.declared.Refusal.{Refusal}
use Rattle.refusal.specs.declared.Refusal.TheVariants.{DimensionMismatch}
use Rattle.refusal.proofs.Tables.{table, table_pass, first_append}
use Rattle.clusters.specs.Clusters.{variance_of, risk_table, size_table, not_square, shares_outcome, variance_outcome, variance_answer, sharpe_outcome, risk_of}
use Rattle.clusters.specs.Inner.{ListedAssets, told, shared}
use Rattle.clusters.specs.Shares.{none, some, is_none, weights_in}
use Rattle.clusters.proofs.Laws.{variance_accepted}
use Rattle.std.specs.Prelude.{Ok, Err}

-- ---- shares

pub told_yes : (ws : List Float) → told true ws ≡ some ws
unfolding told
told_yes ws = refl

pub told_no : (ws : List Float) → told false ws ≡ none
unfolding told
told_no ws = refl

pub shared_done : (ws : List Float) → shared (Ok tt) ws ≡ some ws
unfolding shared
shared_done ws = refl

pub shared_refused : (r : Refusal) (ws : List Float) → shared (Err r) ws ≡ none
unfolding shared
shared_refused r ws = refl

pub is_none_none : is_none none ≡ true
unfolding is_none
is_none_none = refl

pub is_none_some : (ws : List Float) → is_none (some ws) ≡ false
unfolding is_none
is_none_some ws = refl

pub weights_in_none : weights_in none ≡ []
unfolding weights_in
weights_in_none = refl

pub weights_in_some : (ws : List Float) → weights_in (some ws) ≡ ws
unfolding weights_in
weights_in_some ws = refl

-- ---- a number, or the refusal

risk_of_lem : (o : Outcome) (v x : Float) → risk_of o v ≡ Ok x → (o ≡ Ok tt) × (v ≡ x)
risk_of_lem (Ok _) v x e = (refl, cc)
risk_of_lem (Err r) v x e = absurd (let z : ◌≡◌ {A = ℕ} 0 1 = cc in omega arith)

risk_not : (o : Outcome) (v : Float) (r : Refusal) → risk_of o v ≡ Err r → o ≡ Err r
risk_not (Ok _) v r e = absurd (let z : ◌≡◌ {A = ℕ} 0 1 = cc in omega arith)
risk_not (Err r') v r e = cc

module _ (cov : List Float) (rows w : ℕ) (assets : List ℕ) where
  pub variance_not : (r : Refusal) → variance_answer cov rows w assets ≡ Err r → variance_outcome cov rows w assets ≡ Err r
  unfolding variance_answer
  variance_not r e = risk_not (variance_outcome cov rows w assets) (variance_of cov w assets) r e

  module _ (x : Float) (e : variance_answer cov rows w assets ≡ Ok x) where
    pub variance_outcome_lem : variance_outcome cov rows w assets ≡ Ok tt
    unfolding variance_answer
    variance_outcome_lem = (risk_of_lem (variance_outcome cov rows w assets) (variance_of cov w assets) x e).0

    pub variance_value : variance_of cov w assets ≡ x
    unfolding variance_answer
    variance_value = (risk_of_lem (variance_outcome cov rows w assets) (variance_of cov w assets) x e).1

    pub variance_square : rows ≡ w
    variance_square = (variance_accepted cov rows w assets variance_outcome_lem).0

    pub variance_listed : ListedAssets cov w assets
    variance_listed = (variance_accepted cov rows w assets variance_outcome_lem).1

  -- ---- the weights and the ratio are refused as the variance is, where there is room and an expected return for each asset

  after : (a b : List Line) → first a ≡ first b → first (size_table cov rows w assets ++ a) ≡ first (size_table cov rows w assets ++ b)
  after a b e = first_append (size_table cov rows w assets) a ∙ ap (and_then (first (size_table cov rows w assets))) e ∙ sym (first_append (size_table cov rows w assets) b)

  pub shares_as_variance : (room : ℕ) → length assets ≤ room → shares_outcome cov rows w assets room ≡ variance_outcome cov rows w assets
  unfolding shares_outcome variance_outcome
  shares_as_variance room h = after _ (not_square rows w ∷ risk_table cov w assets) (table_pass _ _ _ (le-ltb room (length assets) h))

  pub sharpe_as_variance : (expected : List Float) → length expected ≡ w → sharpe_outcome expected cov rows w assets ≡ variance_outcome cov rows w assets
  unfolding sharpe_outcome variance_outcome
  sharpe_as_variance expected h =
      after (not_square rows w ∷ (not (eqb (length expected) w), DimensionMismatch) ∷ risk_table cov w assets) (not_square rows w ∷ risk_table cov w assets)
      (table _ _ _ ∙ ap (or_else (not (eqb rows w)) DimensionMismatch) (table_pass _ _ _ (rw (eq-eqb (length expected) w h))) ∙ sym (table _ _ _))
