-- How a sheet ends: judged, and written where it is accepted. Assumes nothing.
use Prim.Native.Nat.{ℕ, ◌-◌, ◌≤◌}
use mathlib.Core.Path.{◌≡◌, sym, ap, ◌∙◌}
use mathlib.Core.Bool.{Bool, true, false}
use mathlib.Core.List.{List}
use native.Mathlib.Omega.{arith}
use borrow.Author.Tests.{ltb-false, eqb-true, eqb-false, not-false}
use lib.ListN.{length, get_or, take}
use lib.Seq.{take_at}
use lib.Ieee.{Float}
use Rattle.refusal.specs.Table.{first, and_then, Outcome}
use Rattle.refusal.proofs.Tables.{none, both_done}
use Rattle.lent.specs.Grid.{noughts}
use Rattle.fields.specs.Split.{all}
use Rattle.ceilings.specs.Figures.{are_unlike, figures_in, figures_outcome, figures_laid}
use Rattle.ceilings.proofs.Weighed.{figures_length, figures_small, figures_done, figures_laid_lem}
use Rattle.tree.specs.Rows.{is_tree}
use Rattle.writing.specs.Writing.{Wrote}
use Rattle.writing.proofs.Writing.{renamed}
use Rattle.listing.specs.Listing.{name_in, is_short}
use Rattle.listing.proofs.Sheets.{then_parts, names_short}
use Rattle.groups.specs.Groups.{least_sheet, group_lines, group_outcome, group_sheet}
use Rattle.groups.specs.Inner.{Sheetable}
use Rattle.std.specs.Prelude.{Ok}

-- what the lines find right
record Right (text starts : List ℕ) (count : ℕ) (cs rows : List ℕ) (named : Bool) (room : ℕ) : Type 0 where
  few : length starts ≤ 64
  roomy : least_sheet named ≤ room
  weighed : count ≡ length starts
  limited : are_unlike cs count ≡ false
  some : 1 ≤ length starts
  tree : is_tree rows (length starts) ≡ true
  short : all (is_short text) starts ≡ true

right : (text starts : List ℕ) (count : ℕ) (cs rows : List ℕ) (named : Bool) (room : ℕ) → first (group_lines text starts count cs rows named room) ≡ Ok tt → Right text starts count cs rows named room
unfolding group_lines
right text starts count cs rows named room e =
    let a = none _ e in
    let w = eqb-true count (length starts) (not-false _ a.1.1.1.0) in
    let z : length starts ≡ 0 → ⊥ = eqb-false (length starts) 0 a.1.1.1.1.1.0 in
    record {
      few = ltb-false 64 (length starts) a.1.0;
      roomy = ltb-false room (least_sheet named) a.1.1.0;
      weighed = w;
      limited = ap (are_unlike cs) w ∙ a.1.1.1.1.0;
      some = omega arith;
      tree = not-false _ a.1.1.1.1.1.1.0;
      short = not-false _ a.1.1.1.1.1.1.1.0;
    }

module _ (text starts : List ℕ) (ws : List Float) (cs rows : List ℕ) (named : Bool) (room : ℕ) (judged ranged said : Outcome)
    (j : judged ≡ first (group_lines text starts (length ws) cs rows named room)) (m : ranged ≡ figures_outcome ws cs 64) (t : said ≡ and_then judged ranged) where
  pub group_said : said ≡ group_outcome text starts ws cs rows named room
  unfolding group_outcome
  group_said =
      t
      ∙ rw (j, m)
      (then_parts ws cs (first (group_lines text starts (length ws) cs rows named room))
      (λ e.
      let r = right text starts (length ws) cs rows named room e in
      (omega (arith, r.few, r.weighed), r.limited)))

  module _ (d : said ≡ Ok tt) (parts : List ℕ) (p : parts ≡ figures_laid ws cs 64) where
    both : (judged ≡ Ok tt) × (ranged ≡ Ok tt)
    both = both_done judged ranged (sym t ∙ d)

    found : Right text starts (length ws) cs rows named room
    found = right text starts (length ws) cs rows named room (sym j ∙ both.0)

    pub starts_few : length starts ≤ 64
    starts_few = found.few

    pub room_holds : (room' : ℕ) → room' ≡ room → least_sheet named ≤ room'
    room_holds room' e = omega (arith, e, found.roomy)

    counted : length (figures_in ws cs) ≡ length starts
    counted = figures_length ws cs ∙ found.weighed

    parts_are : take (length starts) parts ≡ figures_in ws cs
    parts_are =
        ap (take (length starts)) (p ∙ figures_laid_lem ws cs 64 (sym m ∙ both.1))
        ∙ take_at (figures_in ws cs) (noughts (64 - length ws)) (length starts) counted

    pub sheetable : Sheetable text starts rows (take (length starts) parts)
    sheetable = record {
      named = names_short text starts found.few found.short;
      some = found.some;
      tree = found.tree;
      each = ap length parts_are ∙ counted;
      small = λ i h. omega (arith, ap (λ (l : List ℕ). get_or l i 0) parts_are, figures_small ws cs found.limited (figures_done ws cs 64 (sym m ∙ both.1)).1 i);
    }

    pub sheet_of_lem : {blank out : List ℕ} {k : ℕ} → Wrote blank 0 (group_sheet named (name_in text starts) rows (take (length starts) parts) (length starts)) out k
        → Wrote blank 0 (group_sheet named (name_in text starts) rows (figures_in ws cs) (length starts)) out k
    sheet_of_lem w = renamed (group_sheet named (name_in text starts) rows (figures_in ws cs) (length starts)) w (ap (λ (l : List ℕ). group_sheet named (name_in text starts) rows l (length starts)) parts_are)
