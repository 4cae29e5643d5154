-- How the call on a list of millionths and its ceilings ends; what an accepted one has done, and that it gives 20 exactly when no list under the ceilings totals one million. Assumes nothing.
use Prim.Native.Nat.{ℕ, ◌≤◌, ◌<◌}
use mathlib.Core.Path.{◌≡◌, refl, sym, ap, ◌∙◌}
use mathlib.Core.Bool.{Bool, false, not}
use mathlib.Core.Logic.{⊎_elim}
use mathlib.Core.List.{List, []}
use native.Mathlib.Nat.{le_trans, le_of_eq}
use borrow.Author.Tests.{ltb-false, le-ltb, eqb-true, eq-eqb, not-false}
use lib.ListN.{length, get_or, length-replicate}
use Rattle.refusal.specs.Table.{or_else, Outcome}
use Rattle.refusal.specs.declared.Refusal.{Refusal}
use Rattle.refusal.specs.declared.Refusal.TheVariants.{DimensionMismatch, OverLimit, TotalOutOfReach, CeilingsTooLow}
use Rattle.refusal.proofs.Tables.{done_refused, table, table_end, table_pass, none}
use Rattle.lent.specs.Grid.{noughts}
use Rattle.lent.proofs.Laws.{either, over_all_lem}
use Rattle.lent.proofs.Counting.{upto_term}
use Rattle.lent.proofs.Sizes.{laid_done, laid_refused}
use Rattle.millionths.specs.Meaning.{total_of}
use Rattle.ceilings.specs.Ceilings.{capped_in, too_low, capped_table, capped_outcome, capped_laid}
use Rattle.ceilings.specs.Meaning.{Under, Capped}
use Rattle.ceilings.specs.Inner.{Cappable}
use Rattle.ceilings.proofs.Totals.{total_places}
use Rattle.ceilings.proofs.Capped.{length_capped, capped, too_low_exactly}
use Rattle.std.specs.Prelude.{Ok, Err}

-- no entry is more than the total
pub entry_most : (l : List ℕ) (i : ℕ) → i < length l → get_or l i 0 ≤ total_of l
entry_most l i h = rw (total_places l (length l) refl) (upto_term (λ k. get_or l k 0) (length l) i h)

-- what only 20 may still refuse is refused exactly when no list under the ceilings totals one million
pub given_exactly : (cs : List ℕ) (o : Outcome) → o ≡ or_else (too_low cs) CeilingsTooLow (Ok tt)
    → (o ≡ Err CeilingsTooLow → (l : List ℕ) → Under cs l → ⊥) × (((l : List ℕ) → Under cs l → ⊥) → o ≡ Err CeilingsTooLow)
unfolding or_else
given_exactly cs o e = (
  (λ r. (too_low_exactly cs).0 (⊎_elim (λ t. t) (λ t. absurd (done_refused CeilingsTooLow (ap (λ (b : Bool). or_else b CeilingsTooLow (Ok tt)) (sym t) ∙ sym e ∙ r))) (either (too_low cs)))),
  (λ n. e ∙ ap (λ (b : Bool). or_else b CeilingsTooLow (Ok tt)) ((too_low_exactly cs).1 n)),
)

module _ (xs cs : List ℕ) where
  -- what an accepted call knows
  pub record Accepted : Type 0 where
    pub few : length xs ≤ 64
    pub paired : length xs ≡ length cs
    pub total : total_of xs ≡ 1000000
    pub enough : too_low cs ≡ false

  pub accepted : capped_outcome xs cs ≡ Ok tt → Accepted
  unfolding capped_outcome capped_table
  accepted d =
      let a = none (capped_table xs cs) d in
      record {
        few = ltb-false 64 (length xs) a.0;
        paired = sym (eqb-true (length cs) (length xs) (not-false _ a.1.0));
        total = eqb-true (total_of xs) 1000000 (not-false _ a.1.1.0);
        enough = a.1.1.1.0;
      }

  -- request 10, of every accepted call
  pub call_capped : capped_outcome xs cs ≡ Ok tt → Capped xs cs (capped_in xs cs)
  call_capped d = let a = accepted d in capped xs cs a.paired a.total a.enough

  -- ---- how it ends

  module _ (said : Outcome) (e : said ≡ capped_outcome xs cs) where
    pub cappable : said ≡ Ok tt → Cappable xs cs
    cappable d = let a = accepted (sym e ∙ d) in record { same = a.paired; few = a.few; small = λ i h. le_trans (entry_most xs i h) (le_of_eq a.total) }

    pub ends_refused : (r : Refusal) (out : List ℕ) → said ≡ Err r → out ≡ noughts (length xs) → out ≡ capped_laid xs cs
    unfolding capped_laid
    ends_refused r out h o = o ∙ laid_refused 0 (capped_outcome xs cs) r (length xs) (capped_in xs cs) (sym e ∙ h)

    pub ends_done : (out : List ℕ) → said ≡ Ok tt → out ≡ capped_in xs cs → out ≡ capped_laid xs cs
    unfolding capped_laid
    ends_done out d o =
        o ∙ sym (over_all_lem (capped_in xs cs) (noughts (length xs)) (length_capped xs cs ∙ sym (length-replicate (length xs) 0)))
        ∙ laid_done 0 (capped_outcome xs cs) (length xs) (capped_in xs cs) (sym e ∙ d)

  -- ---- 20, exactly: where nothing before it refuses

  module _ (few : length xs ≤ 64) (paired : length xs ≡ length cs) (t : total_of xs ≡ 1000000) where
    pub last_line : capped_outcome xs cs ≡ or_else (too_low cs) CeilingsTooLow (Ok tt)
    unfolding capped_outcome capped_table
    last_line =
        table_pass _ OverLimit _ (le-ltb 64 (length xs) few) ∙ table_pass _ DimensionMismatch _ (ap not (eq-eqb (length cs) (length xs) (sym paired)))
        ∙ table_pass _ TotalOutOfReach _ (ap not (eq-eqb (total_of xs) 1000000 t)) ∙ table (too_low cs) CeilingsTooLow [] ∙ ap (or_else (too_low cs) CeilingsTooLow) table_end

    pub twenty : (capped_outcome xs cs ≡ Err CeilingsTooLow → (l : List ℕ) → Under cs l → ⊥) × (((l : List ℕ) → Under cs l → ⊥) → capped_outcome xs cs ≡ Err CeilingsTooLow)
    twenty = given_exactly cs (capped_outcome xs cs) last_line
