-- Weights in millionths, under ceilings where these are given: what the figures are, what an accepted call has, and that with no ceilings all is as it was. Assumes nothing.
use Prim.Native.Nat.{ℕ, ◌-◌, ◌≤◌, ◌<◌}
use mathlib.Core.Path.{◌≡◌, refl, sym, ap, subst, ◌∙◌}
use mathlib.Core.Bool.{Bool, false, not, cond, ◌&&◌}
use mathlib.Core.Logic.{⊎_elim}
use mathlib.Core.List.{List, [], ◌∷◌, ◌++◌}
use native.Mathlib.Nat.{le_trans, le_of_eq}
use native.Mathlib.Omega.{arith}
use borrow.Author.Tests.{ltb-true, ltb-false, lt-ltb, le-ltb, eqb-true, not-false}
use lib.Dec.{ltb, eqb}
use lib.Ieee.{Float}
use lib.ListN.{length, get_or, get_or-eq_default}
use Rattle.refusal.specs.Table.{Line, first, or_else, Outcome}
use Rattle.refusal.specs.declared.Refusal.TheVariants.{DimensionMismatch, OverLimit, ShortBuffer, CeilingsTooLow}
use Rattle.refusal.proofs.Tables.{table, table_end, table_pass, none, first_done, first_refused, parts_done}
use Rattle.lent.specs.Grid.{noughts}
use Rattle.lent.specs.Lent.{laid}
use Rattle.lent.proofs.Laws.{either, length_tab}
use Rattle.millionths.specs.Meaning.{total_of}
use Rattle.millionths.specs.Millionths.{millionths_at, millionths_in, millionths_lines, millionths_table, millionths_outcome, millionths_laid}
use Rattle.millionths.proofs.AddUp.{adds_up}
use Rattle.ceilings.specs.Ceilings.{capped_in, too_low}
use Rattle.ceilings.specs.Meaning.{Under, Capped}
use Rattle.ceilings.specs.Figures.{are_given, figures_in, figures_lines, are_unlike, figures_table, figures_outcome, figures_laid}
use Rattle.ceilings.specs.Inner.{size_lines}
use Rattle.ceilings.proofs.Capped.{length_capped, capped, capped_alone}
use Rattle.ceilings.proofs.Called.{entry_most, given_exactly}
use Rattle.std.specs.Prelude.{Ok, Err}

-- ---- with no ceilings, all is as it was

module _ (ws : List Float) where
  pub figures_none : figures_in ws [] ≡ millionths_in ws
  unfolding figures_in
  figures_none = refl

  pub lines_none : first (figures_lines ws []) ≡ first (millionths_lines ws)
  unfolding figures_lines
  lines_none = go (first (millionths_lines ws)) refl
    where
      go : (o : Outcome) → first (millionths_lines ws) ≡ o → first (figures_lines ws []) ≡ o
      go (Ok _) d = first_done (millionths_lines ws) _ d ∙ table_pass _ CeilingsTooLow [] refl ∙ table_end
      go (Err r) e = first_refused (millionths_lines ws) _ r e

  pub outcome_none : (room : ℕ) → figures_outcome ws [] room ≡ millionths_outcome ws room
  unfolding figures_outcome figures_table are_unlike millionths_outcome millionths_table
  outcome_none room =
      sizes _ ∙ ap (λ (o : Outcome). or_else (ltb 64 (length ws)) OverLimit (or_else (ltb room (length ws)) ShortBuffer o)) (table_pass _ DimensionMismatch _ refl ∙ lines_none) ∙ sym (sizes (millionths_lines ws))
    where
      sizes : (l : List Line) → first ((ltb 64 (length ws), OverLimit) ∷ (ltb room (length ws), ShortBuffer) ∷ l) ≡ or_else (ltb 64 (length ws)) OverLimit (or_else (ltb room (length ws)) ShortBuffer (first l))
      sizes l = table _ OverLimit _ ∙ ap (or_else (ltb 64 (length ws)) OverLimit) (table _ ShortBuffer l)

  pub laid_none : (room : ℕ) → figures_laid ws [] room ≡ millionths_laid ws room
  unfolding figures_laid millionths_laid
  laid_none room = ap (λ (o : Outcome). laid 0 o room (figures_in ws [])) (outcome_none room) ∙ ap (laid 0 (millionths_outcome ws room) room) figures_none

  pub millionths_length : length (millionths_in ws) ≡ length ws
  unfolding millionths_in
  millionths_length = length_tab (length ws) (millionths_at ws)

-- ---- with ceilings, they are cut and filled

module _ (ws : List Float) (cs : List ℕ) where
  pub figures_lines_done : first (figures_lines ws cs) ≡ Ok tt → first (millionths_lines ws) ≡ Ok tt
  unfolding figures_lines
  figures_lines_done d = (parts_done (millionths_lines ws) _ d).0

  module _ (g : 0 < length cs) where
    pub given_in : figures_in ws cs ≡ capped_in (millionths_in ws) cs
    unfolding figures_in
    given_in = ap (λ (t : Bool). cond t (capped_in (millionths_in ws) cs) (millionths_in ws)) (lt-ltb 0 (length cs) g)

    pub given_lines : first (millionths_lines ws) ≡ Ok tt → first (figures_lines ws cs) ≡ or_else (too_low cs) CeilingsTooLow (Ok tt)
    unfolding figures_lines
    given_lines d =
        first_done (millionths_lines ws) _ d ∙ table (are_given cs && too_low cs) CeilingsTooLow []
        ∙ ap (λ (t : Bool). or_else (t && too_low cs) CeilingsTooLow (first [])) (lt-ltb 0 (length cs) g) ∙ ap (or_else (too_low cs) CeilingsTooLow) table_end

    pub enough : first (figures_lines ws cs) ≡ Ok tt → too_low cs ≡ false
    unfolding figures_lines
    enough d = ap (λ (t : Bool). t && too_low cs) (sym (lt-ltb 0 (length cs) g)) ∙ (none ((are_given cs && too_low cs, CeilingsTooLow) ∷ []) (parts_done (millionths_lines ws) _ d).1).0

  -- request 10, of weights that neither 13 nor 18 nor 20 refuses
  pub figures_capped : length cs ≡ length ws → 0 < length cs → first (figures_lines ws cs) ≡ Ok tt → Capped (millionths_in ws) cs (figures_in ws cs)
  figures_capped e g d =
      subst (Capped (millionths_in ws) cs) (sym (given_in g))
      (capped (millionths_in ws) cs (millionths_length ws ∙ sym e) (adds_up ws (figures_lines_done d)).total (enough g d))

  -- no second list fits
  pub figures_alone : length cs ≡ length ws → 0 < length cs → first (figures_lines ws cs) ≡ Ok tt → (l : List ℕ) → Capped (millionths_in ws) cs l → l ≡ figures_in ws cs
  figures_alone e g d l s = capped_alone (millionths_in ws) cs (millionths_length ws ∙ sym e) (adds_up ws (figures_lines_done d)).total l s ∙ sym (given_in g)

  -- 20, exactly: where request 3's part refuses nothing
  pub figures_twenty : 0 < length cs → first (millionths_lines ws) ≡ Ok tt
      → (first (figures_lines ws cs) ≡ Err CeilingsTooLow → (l : List ℕ) → Under cs l → ⊥) × (((l : List ℕ) → Under cs l → ⊥) → first (figures_lines ws cs) ≡ Err CeilingsTooLow)
  figures_twenty g d = given_exactly cs (first (figures_lines ws cs)) (given_lines g d)

-- ---- with or without

-- ceilings that are given are one for each
pub alike : (cs : List ℕ) (n : ℕ) → are_unlike cs n ≡ false → 0 < length cs → length cs ≡ n
unfolding are_unlike
alike cs n u g = eqb-true (length cs) n (not-false _ (ap (λ (t : Bool). t && not (eqb (length cs) n)) (sym (lt-ltb 0 (length cs) g)) ∙ u))

pub figures_length : (ws : List Float) (cs : List ℕ) → length (figures_in ws cs) ≡ length ws
figures_length ws [] = ap length (figures_none ws) ∙ millionths_length ws
figures_length ws (c ∷ cs) = ap length (given_in ws (c ∷ cs) (omega arith)) ∙ length_capped (millionths_in ws) (c ∷ cs) ∙ millionths_length ws

pub figures_total : (ws : List Float) (cs : List ℕ) → are_unlike cs (length ws) ≡ false → first (figures_lines ws cs) ≡ Ok tt → total_of (figures_in ws cs) ≡ 1000000
figures_total ws [] u d = ap total_of (figures_none ws) ∙ (adds_up ws (figures_lines_done ws [] d)).total
figures_total ws (c ∷ cs) u d = (figures_capped ws (c ∷ cs) (alike (c ∷ cs) (length ws) u (omega arith)) (omega arith) d).under.total

pub figures_small : (ws : List Float) (cs : List ℕ) → are_unlike cs (length ws) ≡ false → first (figures_lines ws cs) ≡ Ok tt → (i : ℕ) → get_or (figures_in ws cs) i 0 ≤ 1000000
figures_small ws cs u d i =
    ⊎_elim
    (λ h. le_trans (entry_most (figures_in ws cs) i (ltb-true i _ h)) (le_of_eq (figures_total ws cs u d)))
    (λ h. le_trans (le_of_eq (get_or-eq_default (figures_in ws cs) 0 (ltb-false i _ h))) (omega arith))
    (either (ltb i (length (figures_in ws cs))))

-- ---- a call

-- sizes that neither 9 nor 11 nor 3 refuses
pub record SizesFit (ws : List Float) (cs : List ℕ) (room : ℕ) : Type 0 where
  pub few : length ws ≤ 64
  pub roomy : length ws ≤ room
  pub like : are_unlike cs (length ws) ≡ false

module _ (ws : List Float) (cs : List ℕ) (room : ℕ) where
  pub fitting : first (size_lines (length ws) cs room) ≡ Ok tt → SizesFit ws cs room
  unfolding size_lines are_unlike
  fitting d =
      let a = none (size_lines (length ws) cs room) d in
      record { few = ltb-false 64 (length ws) a.0; roomy = ltb-false room (length ws) a.1.0; like = a.1.1.0 }

  -- then 13, 18 and 20 decide
  pub figures_said : SizesFit ws cs room → figures_outcome ws cs room ≡ first (figures_lines ws cs)
  unfolding figures_outcome figures_table
  figures_said f = table_pass _ OverLimit _ (le-ltb 64 (length ws) f.few) ∙ table_pass _ ShortBuffer _ (le-ltb room (length ws) f.roomy) ∙ table_pass _ DimensionMismatch _ f.like

  -- what an accepted one has, and what it leaves
  pub figures_done : figures_outcome ws cs room ≡ Ok tt → SizesFit ws cs room × (first (figures_lines ws cs) ≡ Ok tt)
  unfolding figures_outcome figures_table are_unlike size_lines
  figures_done d = let p = parts_done (size_lines (length ws) cs room) (figures_lines ws cs) d in (fitting p.0, p.1)

  pub figures_laid_lem : figures_outcome ws cs room ≡ Ok tt → figures_laid ws cs room ≡ figures_in ws cs ++ noughts (room - length ws)
  unfolding figures_laid laid
  figures_laid_lem d = ap (λ (o : Outcome). laid 0 o room (figures_in ws cs)) d ∙ ap (λ (k : ℕ). figures_in ws cs ++ noughts (room - k)) (figures_length ws cs)
