-- How a report ends: what it says, and its page where it is done. Assumes nothing.
use Prim.Native.Nat.{ℕ, ◌≤◌}
use mathlib.Core.Path.{◌≡◌, refl, sym, ap, ◌∙◌, subst}
use mathlib.Core.Bool.{Bool, true, false, not, cond}
use mathlib.Core.List.{List}
use borrow.Author.Tests.{ltb-false}
use native.Mathlib.Omega.{arith}
use lib.Dec.{eqb}
use lib.ListN.{length}
use Rattle.lent.specs.Grid.{noughts}
use Rattle.refusal.specs.Table.{first, or_else, and_then, Outcome}
use Rattle.refusal.specs.declared.Refusal.{Refusal}
use Rattle.refusal.specs.declared.Refusal.TheVariants.{MalformedText}
use Rattle.refusal.proofs.Tables.{none, both_done, done_refused, then_done, then_refused}
use Rattle.writing.specs.Writing.{Wrote}
use Rattle.writing.proofs.Writing.{renamed}
use Rattle.ledger.specs.Ledger.{table_lines}
use Rattle.ledger.proofs.Outcomes.{judged_done}
use Rattle.month.specs.Month.{Books, at, refused_by, is_open, go_on, closed}
use Rattle.month.specs.Calls.{books_of, standing, names_held}
use Rattle.month.specs.declared.Tally.{Tally}
use Rattle.listing.specs.Listing.{ListingMade}
use Rattle.listing.proofs.Sheets.{made_done, made_refused}
use Rattle.pages.specs.Pages.{page_of, page_in, report_says, names_in, page_lines, end_outcome, ReportEnded}
use Rattle.std.specs.Prelude.{Result, Ok, Err, MatchResult}
use Rattle.listing.specs.Outcomes.{Listed}
use Rattle.month.specs.Outcomes.{Progress}

-- ---- what a report says at its end

shut : (b : Bool) (s : Books) → or_else b MalformedText (Ok tt) ≡ report_says (cond b (refused_by MalformedText s.line) (at s))
unfolding or_else report_says
shut true s = refl
shut false s = refl

closing : (o : Outcome) (k : ℕ) (s : Books) → and_then o (or_else (is_open s) MalformedText (Ok tt)) ≡ report_says (closed (go_on o k s))
unfolding and_then closed report_says
closing (Ok _) k s = shut (is_open s) s
closing (Err r) k s = refl

-- the counts, or the refusal without its line, as the code has them
abbrev pub Counts : Progress → Result Tally Refusal → Type 0
Counts p s = MatchResult p (λ y. s ≡ Ok y) (λ f. s ≡ Err f.refusal)

pub counts_done : (p : Progress) (s : Result Tally Refusal) (y : Tally) → Counts p s → s ≡ Ok y → p ≡ Ok y
counts_done (Ok x) s y c e = let q : ◌≡◌ {A = Result Tally Refusal} (Ok x) (Ok y) = sym c ∙ e in cc
counts_done (Err f) s y c e = absurd (let z : ◌≡◌ {A = ℕ} 0 1 = cc in omega arith)

pub ended_refused : (p : Progress) (s : Result Tally Refusal) (r : Refusal) → Counts p s → s ≡ Err r → (t : List ℕ) → Err r ≡ report_says (closed (standing p t))
unfolding standing closed report_says
ended_refused (Ok y) s r c e t = absurd (let z : ◌≡◌ {A = ℕ} 0 1 = cc in omega arith)
ended_refused (Err f) s r c e t = let q : ◌≡◌ {A = Refusal} r f.refusal = cc in ap (λ (x : Refusal). Err x) q

module _ (p : Progress) (y : Tally) (cells : ℕ) (left judged : Outcome) (is : p ≡ Ok y) (judges : judged ≡ first (table_lines cells y.names)) where
  ended_at : left ≡ or_else (not (eqb y.lines 0)) MalformedText (Ok tt) → (t : List ℕ) → length t ≡ cells → and_then judged left ≡ report_says (closed (standing p t))
  unfolding standing books_of
  ended_at f t l = rw (is, f, judges, ← l) (closing (first (table_lines (length t) y.names)) y.line (books_of y t))

  pub ended_out : (r : Refusal) → judged ≡ Err r → left ≡ or_else (not (eqb y.lines 0)) MalformedText (Ok tt) → (t : List ℕ) → length t ≡ cells → Err r ≡ report_says (closed (standing p t))
  ended_out r d f t l = sym (then_refused judged left r d) ∙ ended_at f t l

  pub ended_on : judged ≡ Ok tt → left ≡ or_else (not (eqb y.lines 0)) MalformedText (Ok tt) → (t : List ℕ) → length t ≡ cells → left ≡ report_says (closed (standing p t))
  ended_on d f t l = sym (then_done judged left d) ∙ ended_at f t l

-- how many names the counts say that there are
names_same : (p : Progress) → names_held p ≡ names_in p
unfolding names_in
names_same (Ok y) = refl
names_same (Err s) = refl

module _ (p : Progress) (cells room names : ℕ) (judged : Outcome) (held : names ≡ names_held p) (judges : judged ≡ first (page_lines names cells room)) where
  page_judged : (t : List ℕ) → length t ≡ cells → judged ≡ first (page_lines (names_in p) (length t) room)
  page_judged t l = judges ∙ ap (λ (n : ℕ). first (page_lines n cells room)) (held ∙ names_same p) ∙ ap (λ (c : ℕ). first (page_lines (names_in p) c room)) (sym l)

  pub end_out : (r : Refusal) → judged ≡ Err r → (t : List ℕ) → length t ≡ cells → Err r ≡ end_outcome p t room
  unfolding end_outcome
  end_out r d t l = sym (then_refused _ _ r (sym (page_judged t l) ∙ d))

  pub end_on : (said : Outcome) → judged ≡ Ok tt → ((t : List ℕ) → length t ≡ cells → said ≡ report_says (closed (standing p t))) → (t : List ℕ) → length t ≡ cells → said ≡ end_outcome p t room
  unfolding end_outcome
  end_on said d f t l = f t l ∙ sym (then_done _ _ (sym (page_judged t l) ∙ d))

-- ---- a report that is done has books, and room for their page

shut_done : (b : Bool) (s : Books) → report_says (cond b (refused_by MalformedText s.line) (at s)) ≡ Ok tt → cond b (refused_by MalformedText s.line) (at s) ≡ at s
unfolding report_says
shut_done true s e = absurd (done_refused MalformedText (sym e))
shut_done false s e = refl

says_done : (o : Outcome) (k : ℕ) (s : Books) → report_says (closed (go_on o k s)) ≡ Ok tt → (o ≡ Ok tt) × (closed (go_on o k s) ≡ at s)
unfolding closed report_says
says_done (Ok _) k s e = (refl, shut_done (is_open s) s e)
says_done (Err r) k s e = absurd (done_refused r (sym e))

pub record Ready (y : Tally) (t : List ℕ) (room : ℕ) : Type 0 where
  pub long : length t ≡ 1792
  pub few : y.names ≤ 256
  pub roomy : 32768 ≤ room

module _ (p : Progress) (t : List ℕ) (room : ℕ) (said : Outcome) (is : said ≡ end_outcome p t room) where
  module _ (d : said ≡ Ok tt) where
    both : (first (page_lines (names_in p) (length t) room) ≡ Ok tt) × (report_says (closed (standing p t)) ≡ Ok tt)
    unfolding end_outcome
    both = both_done (first (page_lines (names_in p) (length t) room)) (report_says (closed (standing p t))) (sym is ∙ d)

    -- no report is done that was refused
    pub not_refused : (s : Result Tally Refusal) (r : Refusal) → Counts p s → s ≡ Err r → ⊥
    not_refused s r c e = done_refused r (sym both.1 ∙ sym (ended_refused p s r c e t))

    module _ (y : Tally) (e : p ≡ Ok y) where
      found : (first (table_lines (length t) y.names) ≡ Ok tt) × (closed (standing p t) ≡ at (books_of y t))
      unfolding standing books_of
      found = let b = both.1 in rw e (says_done (first (table_lines (length t) y.names)) y.line (books_of y t) (rw e at b))

      pub ready : Ready y t room
      unfolding page_lines
      ready =
          let a = none (page_lines (names_in p) (length t) room) both.0 in
          let j = judged_done (length t) y.names found.0 in
          record { long = j.0; few = j.1; roomy = ltb-false room 32768 a.1.1.0 }

      pub printed : {blank out : List ℕ} {k : ℕ} → blank ≡ noughts room → Wrote blank 0 (page_of (books_of y t)) out k
          → ListingMade (end_outcome p t room) (page_in (closed (standing p t))) room (Ok k) out
      unfolding page_in
      printed {blank} {out} {k} z w =
          made_done (end_outcome p t room) (page_in (closed (standing p t))) room blank out k (sym is ∙ d) z
          (renamed (page_in (closed (standing p t))) w (sym (ap page_in found.1)))

  pub unprinted : (r : Refusal) {out : List ℕ} → said ≡ Err r → out ≡ noughts room
      → ListingMade (end_outcome p t room) (page_in (closed (standing p t))) room (Err r) out
  unprinted r {out} d z = made_refused (end_outcome p t room) (page_in (closed (standing p t))) room out r (sym is ∙ d) z

-- ---- judged, the page cleared, printed, the table cleared

pub said_now : (p : Progress) (t : List ℕ) (room room' : ℕ) (said : Outcome) → said ≡ end_outcome p t room → room' ≡ room → said ≡ end_outcome p t room'
said_now p t room room' said e f = rw f e

pub blank_now : (room : ℕ) (page : List ℕ) → page ≡ noughts room → length page ≡ room → page ≡ noughts (length page)
blank_now room page e f = e ∙ ap noughts (sym f)

pub report_ended : (t : List ℕ) (p : Progress) (room room' : ℕ) {r : Listed} {t' page : List ℕ}
    → ListingMade (end_outcome p t room') (page_in (closed (standing p t))) room' r page → room' ≡ room → t' ≡ noughts (length t) → ReportEnded t p room r t' page
report_ended t p room room' {r} {t'} {page} m e z = record {
  made = subst (λ (k : ℕ). ListingMade (end_outcome p t k) (page_in (closed (standing p t))) k r page) e m;
  table_is = z;
}
