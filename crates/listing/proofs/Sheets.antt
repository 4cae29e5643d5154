-- How the two calls end that write into a lent buffer. Assumes nothing.
use Prim.Native.Nat.{ℕ, ◌+◌, ◌≤◌}
use mathlib.Core.Path.{◌≡◌, refl, sym, ap, ◌∙◌}
use mathlib.Core.Bool.{true, false}
use mathlib.Core.List.{List, []}
use native.Mathlib.Omega.{arith}
use borrow.Author.Tests.{ltb-false, leb-true, eqb-true, not-false}
use lib.Dec.{ltb}
use lib.ListN.{length, get_or, length-append, get_or-append}
use lib.Ieee.{Float}
use Rattle.refusal.specs.Table.{first, or_else, and_then, Outcome}
use Rattle.refusal.specs.Telling.{accepts, tells}
use Rattle.refusal.specs.declared.Refusal.{Refusal}
use Rattle.refusal.specs.declared.Refusal.TheVariants.{ShortBuffer}
use Rattle.refusal.proofs.Tables.{none, table, table_end, both_done}
use Rattle.lent.specs.Grid.{noughts, over}
use Rattle.lent.proofs.Sizes.{laid_done, laid_refused}
use Rattle.fields.specs.Split.{all}
use Rattle.fields.proofs.Every.{all_at}
use Rattle.writing.specs.Writing.{decimal, Wrote}
use Rattle.writing.proofs.Writing.{at_front}
use Rattle.ceilings.specs.Figures.{are_unlike, figures_in, figures_lines, figures_outcome, figures_laid}
use Rattle.ceilings.proofs.Weighed.{figures_length, figures_said, figures_laid_lem}
use Rattle.tree.specs.Rows.{is_order}
use Rattle.tree.proofs.Rows.{is_order_lem}
use Rattle.reading.proofs.Whole.{passed_by}
use Rattle.listing.specs.Listing.{refusal_line, listed_as, ListingMade, name_in, is_short, sheet_lines, sheet_outcome, refusal_outcome}
use Rattle.listing.specs.Inner.{Named, Parted, Listable}
use Rattle.std.specs.Prelude.{Ok, Err}
use Rattle.std.specs.Result.{IsErrAnd}
use Rattle.listing.specs.Outcomes.{Listed}

-- ---- what a call that writes s leaves

pub made_done : (o : Outcome) (s : List ℕ) (room : ℕ) (blank out : List ℕ) (k : ℕ) → o ≡ Ok tt → blank ≡ noughts room → Wrote blank 0 s out k → ListingMade o s room (Ok k) out
unfolding listed_as
made_done o s room blank out k e z w =
    let f = at_front w in
    record {
      answer = ap Ok f.0 ∙ sym (ap (λ (x : Outcome). listed_as x (length s)) e);
      bytes_are = f.1 ∙ ap (over s) z ∙ laid_done 0 o room s e;
      within = omega (arith, w.room, w.same);
      told = ap accepts f.0 ∙ sym (ap (λ (x : Outcome). tells x (length s)) e);
    }

pub made_refused : (o : Outcome) (s : List ℕ) (room : ℕ) (out : List ℕ) (k : Refusal) → o ≡ Err k → out ≡ noughts room → ListingMade o s room (Err k) out
unfolding listed_as
made_refused o s room out k e z = record {
  answer = sym (ap (λ (x : Outcome). listed_as x (length s)) e);
  bytes_are = z ∙ laid_refused 0 o k room s e;
  within = omega arith;
  told = sym (ap (λ (x : Outcome). tells x (length s)) e);
}

-- the same of what the exit of a `?` returns
pub made_exit : (o : Outcome) (s : List ℕ) (room : ℕ) (out : List ℕ) (r : Listed) (k : Refusal) → IsErrAnd r (λ y. y ≡ k) → o ≡ Err k → out ≡ noughts room → ListingMade o s room r out
made_exit o s room out (Ok n) k x e z = absurd x
made_exit o s room out (Err y) k x e z = made_refused o s room out y (e ∙ ap Err (sym x)) z

-- ---- 13, 18 and 20, after what was judged before them

pub then_parts : (ws : List Float) (cs : List ℕ) (o : Outcome) → (o ≡ Ok tt → (length ws ≤ 64) × (are_unlike cs (length ws) ≡ false))
    → and_then o (figures_outcome ws cs 64) ≡ and_then o (first (figures_lines ws cs))
unfolding and_then
then_parts ws cs (Ok _) h = let p = h refl in figures_said ws cs 64 (record { few = p.0; roomy = p.0; like = p.1 })
then_parts ws cs (Err k) h = refl

-- ---- names of at most 16 bytes

pub names_short : (text starts : List ℕ) → length starts ≤ 64 → all (is_short text) starts ≡ true → Named text starts
unfolding is_short name_in
names_short text starts few short = record { few = few; short = λ i h. leb-true _ 16 (all_at (is_short text) starts 0 short i h) }

-- ---- the listing: what its lines find right

record Right (text starts : List ℕ) (count : ℕ) (cs order : List ℕ) (room : ℕ) : Type 0 where
  few : length starts ≤ 64
  roomy : 8192 ≤ room
  weighed : count ≡ length starts
  limited : are_unlike cs (length starts) ≡ false
  ordered : is_order order (length starts) ≡ true
  short : all (is_short text) starts ≡ true

right : (text starts : List ℕ) (count : ℕ) (cs order : List ℕ) (room : ℕ) → first (sheet_lines text starts count cs order room) ≡ Ok tt → Right text starts count cs order room
unfolding sheet_lines
right text starts count cs order room e =
    let a = none _ e in
    record {
      few = ltb-false 64 (length starts) a.1.0;
      roomy = ltb-false room 8192 a.1.1.0;
      weighed = eqb-true count (length starts) (not-false _ a.1.1.1.0);
      limited = a.1.1.1.1.0;
      ordered = not-false _ a.1.1.1.1.1.0;
      short = not-false _ a.1.1.1.1.1.1.0;
    }

module _ (text starts : List ℕ) (ws : List Float) (cs order : List ℕ) (room : ℕ) (judged ranged said : Outcome)
    (j : judged ≡ first (sheet_lines text starts (length ws) cs order room)) (m : ranged ≡ figures_outcome ws cs 64) (t : said ≡ and_then judged ranged) where
  pub sheet_said : said ≡ sheet_outcome text starts ws cs order room
  unfolding sheet_outcome
  sheet_said =
      t
      ∙ rw (j, m)
      (then_parts ws cs (first (sheet_lines text starts (length ws) cs order room))
      (λ e.
      let r = right text starts (length ws) cs order room e in
      (omega (arith, r.few, r.weighed), ap (are_unlike cs) r.weighed ∙ r.limited)))

  module _ (d : said ≡ Ok tt) where
    both : (judged ≡ Ok tt) × (ranged ≡ Ok tt)
    both = both_done judged ranged (sym t ∙ d)

    found : Right text starts (length ws) cs order room
    found = right text starts (length ws) cs order room (sym j ∙ both.0)

    named : Named text starts
    named = names_short text starts found.few found.short

    parted : (parts : List ℕ) → length parts ≡ 64 → parts ≡ figures_laid ws cs 64 → Parted ws cs parts
    parted parts l p = record {
      wide = omega (arith, found.few, found.weighed);
      are = λ i h. ap (λ (x : List ℕ). get_or x i 0) (p ∙ figures_laid_lem ws cs 64 (sym m ∙ both.1)) ∙ get_or-append (figures_in ws cs) _ 0 i (omega (arith, figures_length ws cs));
    }

    pub listable : (parts : List ℕ) → length parts ≡ 64 → parts ≡ figures_laid ws cs 64 → (room' : ℕ) → room' ≡ room → Listable text starts ws cs parts order room'
    listable parts l p room' e =
        let o = is_order_lem order (length starts) found.ordered in
        record {
          named = named;
          weighed = found.weighed;
          limited = found.limited;
          parted = parted parts l p;
          few = omega (arith, o.size, found.few);
          low = λ k h. o.low k (omega (arith, o.size));
          roomy = omega (arith, found.roomy);
        }

-- ---- the line of a refusal

pub line_length : (k : ℕ) → length (refusal_line k) ≡ length (decimal k) + 9
unfolding refusal_line
line_length k = simp length-append (omega arith)

-- the test of its room, as the code has it
line_table : (k room p : ℕ) → p ≡ length (decimal k) → or_else (ltb room (p + 9)) ShortBuffer (Ok tt) ≡ refusal_outcome k room
unfolding refusal_outcome
line_table k room p e =
    let w : p + 9 ≡ length (refusal_line k) = omega (arith, line_length k) in
    rw w (sym (table (ltb room (length (refusal_line k))) ShortBuffer [] ∙ ap (or_else (ltb room (length (refusal_line k))) ShortBuffer) table_end))

module _ (k room p : ℕ) (places : p ≡ length (decimal k)) (said : Outcome) (judged : said ≡ or_else (ltb room (p + 9)) ShortBuffer (Ok tt)) where
  pub line_said : refusal_outcome k room ≡ said
  line_said = sym (judged ∙ line_table k room p places)

  pub line_fits : said ≡ Ok tt → length (refusal_line k) ≤ room
  line_fits d = omega (arith, line_length k, ltb-false room (p + 9) (passed_by _ _ _ judged d))
