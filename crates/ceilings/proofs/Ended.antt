-- How the call that weighs in millionths under ceilings ends: the sizes, request 3's part, then the ceilings in the part that it filled. Assumes nothing.
use Prim.Native.Nat.{ℕ, ◌+◌, ◌-◌, ◌≤◌}
use mathlib.Core.Path.{◌≡◌, refl, sym, ap, ◌∙◌}
use mathlib.Core.List.{List, [], ◌∷◌, ◌++◌, append_assoc}
use native.Mathlib.Nat.{le_trans, le_of_eq, pos_of_ne-zero}
use native.Mathlib.Omega.{arith}
use borrow.Author.Tests.{le-ltb}
use lib.Ieee.{Float}
use lib.ListN.{length, take, drop, replicate-append-replicate}
use lib.Seq.{take_at, drop_at}
use Rattle.refusal.specs.Table.{first, Outcome}
use Rattle.refusal.specs.declared.Refusal.{Refusal}
use Rattle.refusal.specs.declared.Refusal.TheVariants.{OverLimit, ShortBuffer}
use Rattle.refusal.proofs.Tables.{table_pass, first_refused}
use Rattle.lent.specs.Grid.{noughts}
use Rattle.lent.specs.Lent.{laid}
use Rattle.lent.proofs.Sizes.{laid_refused}
use Rattle.millionths.specs.Millionths.{millionths_in, millionths_lines, millionths_table, millionths_outcome, millionths_laid}
use Rattle.millionths.proofs.AddUp.{adds_up}
use Rattle.ceilings.specs.Ceilings.{capped_in, capped_outcome, capped_laid}
use Rattle.ceilings.specs.Figures.{figures_in, figures_lines, are_unlike, figures_table, figures_outcome, figures_laid}
use Rattle.ceilings.specs.Inner.{size_lines}
use Rattle.ceilings.proofs.Capped.{length_capped}
use Rattle.ceilings.proofs.Called.{last_line}
use Rattle.ceilings.proofs.Weighed.{outcome_none, laid_none, millionths_length, given_in, given_lines, alike, SizesFit, fitting, figures_said}
use Rattle.std.specs.Prelude.{Ok, Err}

zeros_join : (a b k : ℕ) → a + b ≡ k → noughts a ++ noughts b ≡ noughts k
zeros_join a b k e = replicate-append-replicate a b 0 ∙ ap noughts e

-- what is laid in the first n entries, and zeros after it
laid_longer : (o : Outcome) (n room : ℕ) (cells : List ℕ) → length cells ≤ n → n ≤ room → laid 0 o n cells ++ noughts (room - n) ≡ laid 0 o room cells
unfolding laid
laid_longer (Ok _) n room cells l h =
    append_assoc cells (noughts (n - length cells)) (noughts (room - n)) ∙ ap (λ (x : List ℕ). cells ++ x) (zeros_join (n - length cells) (room - n) (room - length cells) (omega arith))
laid_longer (Err r) n room cells l h = zeros_join n (room - n) room (omega arith)

none_given : (cs : List ℕ) → length cs ≡ 0 → cs ≡ []
none_given [] e = refl
none_given (c ∷ cs) e = absurd (omega arith)

module _ (ws : List Float) (cs : List ℕ) (room : ℕ) where
  pub ends_refused : (said : Outcome) (r : Refusal) (out : List ℕ) → said ≡ figures_outcome ws cs room → said ≡ Err r → out ≡ noughts room → out ≡ figures_laid ws cs room
  unfolding figures_laid
  ends_refused said r out e h o = o ∙ laid_refused 0 (figures_outcome ws cs room) r room (figures_in ws cs) (sym e ∙ h)

  module _ (sized : Outcome) (s : sized ≡ first (size_lines (length ws) cs room)) where
    pub sizes_refused : (r : Refusal) → sized ≡ Err r → sized ≡ figures_outcome ws cs room
    unfolding figures_outcome figures_table are_unlike size_lines
    sizes_refused r e = e ∙ sym (first_refused (size_lines (length ws) cs room) (figures_lines ws cs) r (sym s ∙ e))

    -- ---- sizes that are good

    module _ (d : sized ≡ Ok tt) where
      good : SizesFit ws cs room
      good = fitting ws cs room (sym s ∙ d)

      pub fits : length ws ≤ room
      fits = good.roomy

      said_lines : figures_outcome ws cs room ≡ first (figures_lines ws cs)
      said_lines = figures_said ws cs room good

      part_lines : millionths_outcome ws room ≡ first (millionths_lines ws)
      unfolding millionths_outcome millionths_table
      part_lines = table_pass _ OverLimit _ (le-ltb 64 (length ws) good.few) ∙ table_pass _ ShortBuffer _ (le-ltb room (length ws) fits)

      module _ (parted : Outcome) (mid : List ℕ) (p : parted ≡ millionths_outcome ws room) (m : mid ≡ millionths_laid ws room) where
        -- request 3's part refuses
        module _ (r : Refusal) (e : parted ≡ Err r) where
          pub part_said : parted ≡ figures_outcome ws cs room
          unfolding figures_lines
          part_said = e ∙ sym (said_lines ∙ first_refused (millionths_lines ws) _ r (sym part_lines ∙ sym p ∙ e))

          pub part_laid : mid ≡ figures_laid ws cs room
          unfolding millionths_laid
          part_laid = ends_refused parted r mid part_said e (m ∙ sym (laid_refused 0 (millionths_outcome ws room) r room (millionths_in ws) (sym p ∙ e)))

        -- the ceilings' part
        module _ (e : parted ≡ Ok tt) (g : length cs ≡ 0 → ⊥) where
          whole : mid ≡ millionths_in ws ++ noughts (room - length (millionths_in ws))
          unfolding millionths_laid laid
          whole = m ∙ ap (λ (o : Outcome). laid 0 o room (millionths_in ws)) (sym p ∙ e)

          front : take (length ws) mid ≡ millionths_in ws
          front = ap (take (length ws)) whole ∙ take_at (millionths_in ws) _ (length ws) (millionths_length ws)

          back : drop (length ws) mid ≡ noughts (room - length ws)
          back = ap (drop (length ws)) whole ∙ drop_at (millionths_in ws) _ (length ws) (millionths_length ws) ∙ ap (λ (k : ℕ). noughts (room - k)) (millionths_length ws)

          both_say : capped_outcome (millionths_in ws) cs ≡ figures_outcome ws cs room
          both_say =
              let t : first (millionths_lines ws) ≡ (Ok tt) = sym part_lines ∙ sym p ∙ e in
              last_line (millionths_in ws) cs (le_trans (le_of_eq (millionths_length ws)) good.few) (millionths_length ws ∙ sym (alike cs (length ws) good.like (pos_of_ne-zero g))) (adds_up ws t).total
              ∙ sym (said_lines ∙ given_lines ws cs (pos_of_ne-zero g) t)

          module _ (said : Outcome) (part : List ℕ) (o : said ≡ capped_outcome (take (length ws) mid) cs) (l : part ≡ capped_laid (take (length ws) mid) cs) where
            pub under_said : said ≡ figures_outcome ws cs room
            under_said = o ∙ ap (λ (x : List ℕ). capped_outcome x cs) front ∙ both_say

            pub under_laid : part ++ drop (length ws) mid ≡ figures_laid ws cs room
            unfolding figures_laid capped_laid
            under_laid =
                let old = millionths_in ws in
                let new = capped_in old cs in
                ap (λ (x : List ℕ). x ++ drop (length ws) mid) (l ∙ ap (λ (x : List ℕ). capped_laid x cs) front) ∙ ap (λ (x : List ℕ). capped_laid old cs ++ x) back
                ∙ ap (λ (k : ℕ). laid 0 (capped_outcome old cs) k new ++ noughts (room - length ws)) (millionths_length ws)
                ∙ laid_longer (capped_outcome old cs) (length ws) room new (le_of_eq (length_capped old cs ∙ millionths_length ws)) fits
                ∙ ap (λ (x : Outcome). laid 0 x room new) both_say ∙ ap (laid 0 (figures_outcome ws cs room) room) (sym (given_in ws cs (pos_of_ne-zero g)))

  -- ---- no ceilings: request 3's part is all

  module _ (parted : Outcome) (mid : List ℕ) (p : parted ≡ millionths_outcome ws room) (m : mid ≡ millionths_laid ws room) (e : length cs ≡ 0) where
    pub plain_said : parted ≡ figures_outcome ws cs room
    plain_said = p ∙ sym (ap (λ (l : List ℕ). figures_outcome ws l room) (none_given cs e) ∙ outcome_none ws room)

    pub plain_laid : mid ≡ figures_laid ws cs room
    plain_laid = m ∙ sym (ap (λ (l : List ℕ). figures_laid ws l room) (none_given cs e) ∙ laid_none ws room)
