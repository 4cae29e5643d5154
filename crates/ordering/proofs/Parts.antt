-- The calls `sort` and `quantile`: what their refusals leave, and what they answer where none is given. Assumes nothing.
use Rattle.std.proofs.Common.{◌≡◌, ℕ, ◌+◌, ◌-◌, ◌<◌, ◌≤◌, Bool, true, false, not, ◌&&◌, T, List, [], ◌∷◌, ◌++◌, length, replicate, sym, refl, ◌∙◌, subst, append-nil, arith, ltb-false, le-ltb, lt-ltb}
use borrow.Author.Tests.{not-false}
use lib.Ieee.{Float, binary64, sub, le}
use Rattle.arithmetic.specs.Constants.{pz, unit}
use Rattle.refusal.specs.Telling.{tells}
use Rattle.refusal.specs.declared.Refusal.{Refusal}
use Rattle.refusal.specs.declared.Refusal.TheVariants.{OverLimit}
use Rattle.refusal.proofs.Tables.{table_hit, table_pass, table_end, none}
use Rattle.lent.specs.Grid.{zeros}
use Rattle.lent.specs.Lent.{laid}
use Rattle.lent.proofs.Sizes.{laid_refused}
use Rattle.ordering.specs.Order.{insert, insert_all, sorted}
use Rattle.ordering.specs.Nearest.{quantile, no_part, part_table, part_outcome, entry_of, entry_tells, quantile_answer, quantile_laid, sort_outcome, sort_laid}
use Rattle.ordering.specs.Inner.{Part}
use Rattle.ordering.proofs.Laws.{length_insert}
use Rattle.ordering.proofs.Nearest.{rest_part}
use Rattle.std.specs.Prelude.{Ok, Err}
use Rattle.ordering.specs.Outcomes.{Entry}
use Rattle.refusal.specs.Table.{Outcome}

-- ---- what an answer tells

pub entry_tells_lem : (o : Outcome) (v : Float) → entry_tells (entry_of o v) ≡ tells o v
entry_tells_lem (Ok _) v = refl
entry_tells_lem (Err r) v = refl

-- ---- a part

both_hold : (a b : Bool) → (a && b) ≡ true → T a × T b
both_hold true true e = (tt, tt)
both_hold true false e = absurd (subst T (sym e) tt)
both_hold false b e = absurd (subst T (sym e) tt)

none_fails : (a b : Bool) → T a → T b → not (a && b) ≡ false
none_fails true true p q = refl
none_fails true false p q = absurd q
none_fails false b p q = absurd p

pub part_of_lem : (q : Float) → no_part q ≡ false → Part q
unfolding no_part
part_of_lem q e =
    let h = both_hold (le pz q) (le q unit) (not-false _ e) in
    record { low = h.0; high = h.1 }

pub no_part_lem : (q : Float) → Part q → no_part q ≡ false
unfolding no_part
no_part_lem q p = none_fails (le pz q) (le q unit) p.low p.high

-- 1 − q is a part where q is
pub rest_of : (q : Float) → no_part q ≡ false → no_part (sub binary64 unit q) ≡ false
rest_of q e = no_part_lem (sub binary64 unit q) (rest_part q (part_of_lem q e))

-- ---- a list in order has its length

length_all : (d l : List Float) → length (insert_all d l) ≡ length d + length l
unfolding insert_all
length_all d [] = omega arith
length_all d (x ∷ l) = let h = length_all (insert x d) l in let e = length_insert x d in omega arith

pub length_sorted : (l : List Float) → length (sorted l) ≡ length l
unfolding sorted
length_sorted l = let h = length_all [] l in omega arith

-- which is all that is laid of it
module _ (l : List Float) where
  all_laid : (k : ℕ) → k ≡ 0 → sorted l ≡ sorted l ++ replicate k pz
  all_laid k e = rw e (sym (append-nil (sorted l)))

  laid_whole : (o : Outcome) → o ≡ Ok tt → sorted l ≡ laid pz o (length l) (sorted l)
  unfolding laid
  laid_whole o d = let z = length_sorted l in rw d (all_laid (length l - length (sorted l)) (omega arith))

  -- ---- the call `sort`

  pub sort_done : (m : List Float) → length l ≤ 4097 → m ≡ sorted l → ((Ok tt) ≡ sort_outcome l) × (m ≡ sort_laid l)
  unfolding sort_outcome sort_laid
  sort_done m h s =
      let o : sort_outcome l ≡ (Ok tt) = table_pass _ _ _ (le-ltb 4097 (length l) h) ∙ table_end in
      (sym o, s ∙ laid_whole (sort_outcome l) o)

  pub sort_refused : (m : List Float) → 4097 < length l → m ≡ zeros (length l) → (Err OverLimit ≡ sort_outcome l) × (m ≡ sort_laid l)
  unfolding sort_outcome sort_laid
  sort_refused m h s =
      let o : sort_outcome l ≡ Err OverLimit = table_hit _ _ _ (lt-ltb 4097 (length l) h) in
      (sym o, s ∙ laid_refused pz (sort_outcome l) OverLimit (length l) (sorted l) o)

-- ---- the outcome

module _ (l : List Float) (q : Float) where
  pub part_outcome_lem : length l ≤ 4097 → no_part q ≡ false → part_outcome l q ≡ Ok tt
  unfolding part_outcome part_table
  part_outcome_lem h e = table_pass _ _ _ (le-ltb 4097 (length l) h) ∙ table_pass _ _ _ e ∙ table_end

  pub part_accepted : part_outcome l q ≡ Ok tt → (length l ≤ 4097) × (no_part q ≡ false)
  unfolding part_outcome part_table
  part_accepted e = let a = none _ e in (ltb-false 4097 (length l) a.0, a.1.0)

  -- ---- what is answered, and what the list then is

  pub quantile_done : (o : Outcome) (x : Float) (m : List Float) → o ≡ part_outcome l q → o ≡ Ok tt → x ≡ quantile q l → m ≡ sorted l → (Ok x ≡ quantile_answer l q) × (m ≡ quantile_laid l q)
  unfolding quantile_answer quantile_laid
  quantile_done o x m e d v s = (rw (← e, d, v), s ∙ laid_whole l (part_outcome l q) (sym e ∙ d))

  pub quantile_refused : (o : Outcome) (r : Refusal) (m : List Float) → o ≡ part_outcome l q → o ≡ Err r → m ≡ zeros (length l) → (Err r ≡ quantile_answer l q) × (m ≡ quantile_laid l q)
  unfolding quantile_answer quantile_laid
  quantile_refused o r m e d s = (rw (← e, d), s ∙ laid_refused pz (part_outcome l q) r (length l) (sorted l) (sym e ∙ d))

  pub quantile_known : length l ≤ 4097 → no_part q ≡ false → quantile_answer l q ≡ Ok (quantile q l)
  quantile_known h e = sym (quantile_done (part_outcome l q) (quantile q l) (sorted l) refl (part_outcome_lem h e) refl refl).0

  pub laid_known : length l ≤ 4097 → no_part q ≡ false → quantile_laid l q ≡ sorted l
  laid_known h e = sym (quantile_done (part_outcome l q) (quantile q l) (sorted l) refl (part_outcome_lem h e) refl refl).1

  -- ---- the same of an entry that a call gave

  module _ (h : length l ≤ 4097) (p : Part q) (o : Entry) (e : o ≡ quantile_answer l q) where
    known : o ≡ Ok (quantile q l)
    known = e ∙ quantile_known h (no_part_lem q p)

    pub entry_given : (x : Float) → o ≡ Ok x → x ≡ quantile q l
    entry_given x g = let k = known in cc

    pub entry_not : (r : Refusal) → o ≡ Err r → ⊥
    entry_not r g = let k = known in let z : ◌≡◌ {A = ℕ} 0 1 = cc in omega arith

-- the two clauses of a call that puts its list in order, from one proof of both: what it answers, and what the list is
pub value_and_list : {A B : Type 0} → A × B → record { value : A; xs_after : B }
value_and_list p = record { value = p.0; xs_after = p.1 }
