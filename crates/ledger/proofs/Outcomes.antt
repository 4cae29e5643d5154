-- What a call of the ledger answers and leaves, from its parts. Assumes nothing.
use Prim.Native.Nat.{ℕ, ◌-◌, ◌*◌, ◌<◌, ◌≤◌}
use mathlib.Core.Path.{◌≡◌, refl, sym, ap, ◌∙◌}
use mathlib.Core.Bool.{Bool, true, false, not}
use mathlib.Core.List.{List, [], ◌∷◌, ◌++◌}
use native.Mathlib.Omega.{arith}
use borrow.Author.Tests.{ltb-false, le-leb, lt-leb, eqb-true}
use lib.Dec.{ltb, eqb}
use lib.ListN.{length, take, drop}
use lib.Seq.{take_at}
use Rattle.lent.specs.Grid.{noughts, over}
use Rattle.lent.specs.Lent.{laid}
use Rattle.refusal.specs.Table.{first, Outcome}
use Rattle.refusal.proofs.Tables.{none, first_done, first_refused, done_refused, parts_done}
use Rattle.refusal.specs.declared.Refusal.{Refusal}
use Rattle.ledger.specs.Ledger.{entered, positions, first_ones, table_of, entered_lines, table_lines, enter_outcome, entered_as, cleared_past, LotEntered}
use Rattle.ledger.specs.Inner.{step_left, StepLeft, names_after}
use Rattle.ledger.specs.declared.Position.{Position}
use Rattle.ledger.specs.declared.Lot.{Lot}
use Rattle.ledger.proofs.Tables.{table_over, table_length}
use Rattle.std.specs.Prelude.{Ok, Err}
use Rattle.std.specs.Result.{result_unwrap_or}
use Rattle.ledger.specs.Outcomes.{Entered}

-- a table that is judged done has room for 256 positions, and no more names
pub judged_done : (cells n : ℕ) → first (table_lines cells n) ≡ Ok tt → (cells ≡ 1792) × (n ≤ 256)
unfolding table_lines
judged_done cells n e =
    let a = none ((ltb 256 n, _) ∷ (not (eqb cells 1792), _) ∷ []) e in
    (eqb-true cells 1792 (other (eqb cells 1792) a.1.0), ltb-false 256 n a.0)
  where
    other : (b : Bool) → not b ≡ false → b ≡ true
    other true q = refl
    other false q = sym q

module _ (t : List ℕ) (n : ℕ) (h : Lot) (judged : Outcome) (is : judged ≡ first (table_lines (length t) n)) where
  -- the call's outcome is the step's where the table is judged done, and else what it is judged
  outcome_done : judged ≡ Ok tt → enter_outcome t n h ≡ first (entered_lines (first_ones n t) h)
  unfolding enter_outcome
  outcome_done e = first_done (table_lines (length t) n) (entered_lines (first_ones n t) h) (sym is ∙ e)

  outcome_refused : (r : Refusal) → judged ≡ Err r → enter_outcome t n h ≡ Err r
  unfolding enter_outcome
  outcome_refused r e = first_refused (table_lines (length t) n) (entered_lines (first_ones n t) h) r (sym is ∙ e)

  pub judged_fits : judged ≡ Ok tt → (length t ≡ 1792) × (n ≤ 256)
  judged_fits e = judged_done (length t) n (sym is ∙ e)

  pub step_taken : (r : Entered) (t' : List ℕ) → judged ≡ Ok tt → length t' ≡ length t
      → r ≡ entered_as (first (entered_lines (first_ones n t) h)) (entered (first_ones n t) h)
      → positions t' ≡ step_left (first (entered_lines (first_ones n t) h)) (entered (first_ones n t) h) (positions t)
      → (r ≡ entered_as (enter_outcome t n h) (entered (first_ones n t) h)) × StepLeft (enter_outcome t n h) (entered (first_ones n t) h) t t'
  unfolding step_left
  step_taken r t' e same told left =
      let o = outcome_done e in
      let l = entered (first_ones n t) h in
      let long = (judged_fits e).0 in (
        told ∙ ap (λ (z : Outcome). entered_as z l) (sym o),
        record { done = λ d. table_over t t' l long (same ∙ long) (left ∙ ap (λ (z : Outcome). step_left z l (positions t)) (sym o ∙ d)); same = same },
      )

  pub step_refused : (x : Refusal) → judged ≡ Err x
      → (Err x ≡ entered_as (enter_outcome t n h) (entered (first_ones n t) h)) × StepLeft (enter_outcome t n h) (entered (first_ones n t) h) t t
  unfolding entered_as
  step_refused x e =
      let o = outcome_refused x e in (
        rw o,
        record { done = λ d. absurd (done_refused x (sym d ∙ o)); same = refl },
      )

-- the answer says which outcome it was
abbrev answer_number_lem : Entered → ℕ
answer_number_lem (Ok n) = 0
answer_number_lem (Err r) = 1

refused_outcome : (o : Outcome) (l : List Position) (x : Refusal) → Err x ≡ entered_as o l → o ≡ Err x
unfolding entered_as
refused_outcome (Ok _) l x e = absurd (let z : ◌≡◌ {A = ℕ} 1 0 = ap answer_number_lem e in omega arith)
refused_outcome (Err r) l x e = cc

done_outcome : (o : Outcome) (l : List Position) (k : ℕ) → Ok k ≡ entered_as o l → o ≡ Ok tt
unfolding entered_as
done_outcome (Ok _) l k e = refl
done_outcome (Err r) l k e = absurd (let z : ◌≡◌ {A = ℕ} 0 1 = ap answer_number_lem e in omega arith)

-- ---- what stands past the names is cleared

pub past_few : (n : ℕ) (t t' : List ℕ) → n ≤ 256 → t' ≡ take (n * 7) t ++ noughts (length t - n * 7) → t' ≡ cleared_past n t
unfolding cleared_past
past_few n t t' h e = rw (le-leb n 256 h) e

pub past_many : (n : ℕ) (t : List ℕ) → 256 < n → t ≡ cleared_past n t
unfolding cleared_past
past_many n t h = rw (lt-leb n 256 h)

-- a front that is as long as the names' positions is kept, and zeros stand after it
pub past_laid : (l : List Position) (t t' : List ℕ) → length l ≤ 256 → take (length l * 7) t ≡ table_of l → t' ≡ cleared_past (length l) t → t' ≡ laid 0 (Ok tt) (length t) (table_of l)
unfolding cleared_past laid
past_laid l t t' h e q = let f = rw (le-leb (length l) 256 h) at q in f ∙ rw (e, ← table_length l)

-- past no names everything is
pub past_none : (t t' : List ℕ) → t' ≡ cleared_past 0 t → t' ≡ noughts (length t)
unfolding cleared_past
past_none t t' q = q ∙ (let z : length t - 0 * 7 ≡ length t = omega arith in ap noughts z)

-- how many names an answer tells of, as the code has it
pub names_told : (r : Entered) → result_unwrap_or r 0 ≡ names_after r
names_told (Ok n) = refl
names_told (Err r) = refl

done_few : (t : List ℕ) (n : ℕ) (h : Lot) → enter_outcome t n h ≡ Ok tt → length (entered (first_ones n t) h) ≤ 256
unfolding enter_outcome entered_lines
done_few t n h e = ltb-false 256 (length (entered (first_ones n t) h)) (none (entered_lines (first_ones n t) h) (parts_done (table_lines (length t) n) (entered_lines (first_ones n t) h) e).1).0

module _ (t : List ℕ) (n : ℕ) (h : Lot) (r : Entered) (t' u : List ℕ) (told : r ≡ entered_as (enter_outcome t n h) (entered (first_ones n t) h))
    (left : StepLeft (enter_outcome t n h) (entered (first_ones n t) h) t t') (k : ℕ) (kept : k ≡ names_after r) (past : u ≡ cleared_past k t') where
  entered_by : (o : Outcome) → enter_outcome t n h ≡ o → u ≡ laid 0 o (length t) (table_of (entered (first_ones n t) h))
  unfolding entered_as laid over
  entered_by (Ok _) e =
      let l = entered (first_ones n t) h in
      let q : k ≡ length l = kept ∙ ap names_after (told ∙ ap (λ (z : Outcome). entered_as z l) e) in
      let w : take (length l * 7) t' ≡ table_of l = ap (take (length l * 7)) (left.done e) ∙ take_at (table_of l) (drop (length (table_of l)) t) (length l * 7) (table_length l) in
      past_laid l t' u (done_few t n h e) w (past ∙ ap (λ (z : ℕ). cleared_past z t') q) ∙ ap (λ (z : ℕ). laid 0 (Ok tt) z (table_of l)) left.same
  entered_by (Err x) e =
      let l = entered (first_ones n t) h in
      let q : k ≡ 0 = kept ∙ ap names_after (told ∙ ap (λ (z : Outcome). entered_as z l) e) in
      past_none t' u (past ∙ ap (λ (z : ℕ). cleared_past z t') q) ∙ ap noughts left.same

  pub lot_entered : LotEntered t n h r u
  lot_entered = record { answer = told; table_is = entered_by (enter_outcome t n h) refl }
