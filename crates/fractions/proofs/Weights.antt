-- A list of weights: the arrays that hold their fractions, their ranks, and how the call ends. Assumes nothing.
use Prim.Native.Nat.{ℕ, ◌+◌, ◌≤◌, ◌<◌}
use mathlib.Core.Path.{◌≡◌, sym, ap, subst, ◌∙◌}
use mathlib.Core.Logic.{⊎_elim}
use mathlib.Core.List.{List}
use native.Mathlib.Nat.{eq-or-lt_of_le, le_antisymm}
use native.Mathlib.Omega.{arith}
use borrow.Author.Tests.{ltb-false, not-false}
use lib.Ieee.{Float}
use lib.ListN.{length, set, length-set}
use lib.Seq.{get_or-set_same, get_or-set_other}
use Rattle.refusal.specs.declared.Refusal.{Refusal}
use Rattle.refusal.proofs.Tables.{none}
use Rattle.lent.specs.Count.{one}
use Rattle.lent.specs.Grid.{noughts, tab, over}
use Rattle.lent.proofs.Counting.{upto_same}
use Rattle.lent.proofs.Laws.{tab_ext}
use Rattle.lent.proofs.Sizes.{laid_done, laid_refused}
use Rattle.lent.proofs.Sums.{no_or}
use Rattle.fractions.specs.Fractions.{left_at, sooner, rank_of, wholes_in, ranks_in, fractions_table, fractions_outcome, wholes_laid, ranks_laid}
use Rattle.fractions.specs.Inner.{Holds, fraction, fraction_at, value_at, Keyed, AllKeyed, Fillable}
use Rattle.fractions.specs.declared.Fraction.{Fraction}
use Rattle.std.specs.Prelude.{Ok, Err}
use Rattle.refusal.specs.Table.{Outcome}

-- ---- the fractions

-- one fraction more
pub keyed_more : (ws : List Float) (i : ℕ) (left : List Fraction) (x : Fraction) → Keyed ws i left → i < length left → Holds x (left_at ws i) → Keyed ws (i + 1) (set left i x)
keyed_more ws i left x k h v =
    record {
      same_length = length-set left i x ∙ k.same_length;
      held = λ j g. ⊎_elim (λ e. new j e) (λ l. old j l) (eq-or-lt_of_le {n = j} {m = i} (omega arith));
    }
  where
    new : (j : ℕ) → j ≡ i → Holds (fraction_at (set left i x) j) (left_at ws j)
    new j e = rw (e, get_or-set_same left i x (fraction 0 0) h) v

    old : (j : ℕ) → j < i → Holds (fraction_at (set left i x) j) (left_at ws j)
    old j l = rw (get_or-set_other left i j x (fraction 0 0) (λ e. omega arith)) (k.held j l)

pub keyed_end : (ws : List Float) (left : List Fraction) (i n : ℕ) → Keyed ws i left → i ≤ n → n ≤ i → Keyed ws n left
keyed_end ws left i n k h g = subst (λ (m : ℕ). Keyed ws m left) (le_antisymm h g) k

pub all_keyed : {ws : List Float} {left : List Fraction} → Keyed ws (length ws) left → length ws ≤ 64 → AllKeyed left
all_keyed k h = record { few = omega (arith, k.same_length); normal = λ j l. (k.held j (omega (arith, k.same_length))).normal }

-- ranks go by what the fractions are
pub rank_same : (f g : ℕ → ℕ) (n i : ℕ) → ((k : ℕ) → k < n → f k ≡ g k) → i < n → rank_of f n i ≡ rank_of g n i
unfolding rank_of sooner
rank_same f g n i e h = upto_same (λ j. one (sooner f j i)) (λ j. one (sooner g j i)) n (λ j l. rw (e i h, e j l))

pub ranks_are : (ws : List Float) (left : List Fraction) (mid out : List ℕ) → Keyed ws (length ws) left
    → out ≡ over (tab (length left) (rank_of (value_at left) (length left))) mid → out ≡ over (ranks_in ws) mid
unfolding ranks_in
ranks_are ws left mid out k e =
    e ∙ ap (λ (n : ℕ). over (tab n (rank_of (value_at left) n)) mid) k.same_length
    ∙ ap (λ (l : List ℕ). over l mid) (tab_ext (length ws) _ _ (λ i h. rank_same (value_at left) (left_at ws) (length ws) i (λ j l. (k.held j l).value) h))

-- ---- how the call ends

module _ (ws : List Float) (wholes ranks : ℕ) (said : Outcome) (e : said ≡ fractions_outcome ws wholes ranks) where
  pub fillable : said ≡ Ok tt → Fillable ws wholes ranks
  unfolding fractions_outcome fractions_table
  fillable d =
      let a = none (fractions_table ws wholes ranks) (sym e ∙ d) in
      let r = no_or _ _ a.1.0 in
      record {
        few = ltb-false 64 (length ws) a.0;
        wholes_roomy = ltb-false wholes (length ws) r.0;
        ranks_roomy = ltb-false ranks (length ws) r.1;
        ranged = not-false _ a.1.1.0;
      }

  pub wholes_refused : (r : Refusal) (out : List ℕ) → said ≡ Err r → out ≡ noughts wholes → out ≡ wholes_laid ws wholes ranks
  unfolding wholes_laid
  wholes_refused r out h o = o ∙ laid_refused 0 (fractions_outcome ws wholes ranks) r wholes (wholes_in ws) (sym e ∙ h)

  pub ranks_refused : (r : Refusal) (out : List ℕ) → said ≡ Err r → out ≡ noughts ranks → out ≡ ranks_laid ws wholes ranks
  unfolding ranks_laid
  ranks_refused r out h o = o ∙ laid_refused 0 (fractions_outcome ws wholes ranks) r ranks (ranks_in ws) (sym e ∙ h)

  pub wholes_done : (mid out : List ℕ) → said ≡ Ok tt → mid ≡ noughts wholes → out ≡ over (wholes_in ws) mid → out ≡ wholes_laid ws wholes ranks
  unfolding wholes_laid
  wholes_done mid out d m o = rw (o, m) (laid_done 0 (fractions_outcome ws wholes ranks) wholes (wholes_in ws) (sym e ∙ d))

  pub ranks_done : (mid out : List ℕ) → said ≡ Ok tt → mid ≡ noughts ranks → out ≡ over (ranks_in ws) mid → out ≡ ranks_laid ws wholes ranks
  unfolding ranks_laid
  ranks_done mid out d m o = rw (o, m) (laid_done 0 (fractions_outcome ws wholes ranks) ranks (ranks_in ws) (sym e ∙ d))
