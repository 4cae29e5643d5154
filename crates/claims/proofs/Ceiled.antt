-- No ceiling of a job text is above a million. Assumes nothing.
use Prim.Native.Nat.{ℕ, ◌+◌, ◌-◌, ◌≤◌, ◌<◌}
use mathlib.Core.Path.{◌≡◌, refl, sym, ap, ◌∙◌}
use mathlib.Core.Bool.{Bool, true, false, not, cond, ◌||◌}
use mathlib.Core.List.{List, []}
use mathlib.Core.Logic.{⊎_elim}
use native.Mathlib.Nat.{le_trans, le_of_eq}
use native.Mathlib.Omega.{arith}
use borrow.Author.Tests.{eqb-true}
use lib.Dec.{leb, eqb}
use lib.ListN.{length, get_or, drop, length-drop}
use lib.Seq.{get_or-drop, get_or-take}
use Rattle.lent.specs.Grid.{tab}
use Rattle.lent.proofs.Laws.{either, get_d_tab}
use Rattle.fields.specs.Split.{newline, tabulator, split, all}
use Rattle.fields.proofs.Every.{both_left, both_right, three_yes, four_yes, all_at}
use Rattle.names.specs.Names.{is_name}
use Rattle.ceilings.specs.Written.{is_ceiling}
use Rattle.ceilings.proofs.Written.{ceiling_is}
use Rattle.heading.specs.Heading.{field, fields_in, last_field}
use Rattle.reading.specs.Reading.{lines, rest, line, priced, ceiled, head_in, assets, is_row, row_fields, is_asset, is_day, is_names, is_ceilings, is_covariance, is_prices, is_block, is_job, text_ceiling, ceilings_in}
use Rattle.reading.proofs.Table.{ends, block_good}
use Rattle.reading.proofs.Blocks.{head_by, rows_by}
use Rattle.reading.proofs.Accepted.{square}

module _ (text : List ℕ) (job : is_job text ≡ true) (i : ℕ) (h : i < assets text) where
  -- its block is of prices or a covariance
  block : (t : Bool) → priced text ≡ t → cond t (is_prices text) (is_covariance text) ≡ true
  unfolding is_block
  block t e = sym (ap (λ (b : Bool). cond b (is_prices text) (is_covariance text)) e) ∙ both_right (eqb (length (rest text)) 0) _ (block_good text job)

  module _ (given : ceiled text ≡ true) where
    -- what is asked where the text says `ceilings` holds
    asked : (t : Bool) → (not (ceiled text) || t) ≡ true → t ≡ true
    asked t e = sym (ap (λ (b : Bool). not b || t) given) ∙ e

    -- of a covariance: the last field of the asset's line
    plain_most : priced text ≡ false → text_ceiling text i ≤ 1000000
    unfolding text_ceiling is_covariance is_asset
    plain_most e =
        let rows = rows_by text 1 (head_by text false e) in
        let low : i + 1 < length (split newline text) - 1 = omega (arith, square text e, rows, ends text) in
        let a : 1 + i ≡ i + 1 = omega arith in
        let l = line text (i + 1) in
        let here : get_or (drop 1 (lines text)) i [] ≡ l =
        get_or-drop 1 (lines text) i [] ∙ ap (λ (k : ℕ). get_or (lines text) k []) a ∙ get_or-take (length (split newline text) - 1) (split newline text) (i + 1) [] low in
        let good : is_asset (ceiled text) (assets text) l ≡ true =
        sym (ap (is_asset (ceiled text) (assets text)) here)
        ∙ all_at (is_asset (ceiled text) (assets text)) (drop 1 (lines text)) [] (block false e) i (omega (arith, length-drop 1 (lines text), ends text, low)) in
        let c = asked (is_ceiling (last_field l)) (three_yes (is_name (field l 0)) (is_row (assets text) (row_fields (ceiled text) l)) _ good).2 in
        rw e (ceiling_is (last_field l) c).2

    -- of prices: the asset's field of the line of ceilings
    priced_most : priced text ≡ true → text_ceiling text i ≤ 1000000
    unfolding text_ceiling is_prices is_ceilings
    priced_most e =
        let l = line text 2 in
        let y = four_yes (leb (head_in text) (length (lines text))) (is_names (line text 1)) (not (ceiled text) || is_ceilings (assets text) l) (all (is_day (assets text)) (drop (head_in text) (lines text))) (block true e) in
        let g = asked (is_ceilings (assets text) l) y.2 in
        let n = eqb-true (fields_in l) (assets text) (both_left (eqb (fields_in l) (assets text)) _ g) in
        let c = all_at is_ceiling (split tabulator l) [] (both_right (eqb (fields_in l) (assets text)) _ g) i (omega arith) in
        rw e (ceiling_is (field l i) c).2

    -- of either
    ceiling_most : text_ceiling text i ≤ 1000000
    ceiling_most = ⊎_elim priced_most plain_most (either (priced text))

  -- each ceiling of an accepted text is at most a million
  pub ceilings_most : get_or (ceilings_in text) i 0 ≤ 1000000
  unfolding ceilings_in
  ceilings_most = go (ceiled text) refl
    where
      go : (t : Bool) → ceiled text ≡ t → get_or (cond t (tab (assets text) (text_ceiling text)) []) i 0 ≤ 1000000
      go true e = le_trans (le_of_eq (get_d_tab (assets text) (text_ceiling text) i 0 h)) (ceiling_most e)
      go false e = omega arith
