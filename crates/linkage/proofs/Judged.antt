-- What the sizes of a call of `linkage_children` say of its table of refusals, and what a call that is not refused knows. Assumes nothing.
use Prim.Native.Nat.{ℕ, ◌-◌, ◌*◌, ◌≤◌}
use mathlib.Core.Path.{◌≡◌, refl, sym, ap, ◌∙◌}
use mathlib.Core.List.{List}
use native.Mathlib.Omega.{arith}
use lib.Dec.{eqb}
use lib.Ieee.{Float}
use borrow.Author.Tests.{ltb-false, eqb-true, not-false}
use Rattle.refusal.specs.Table.{first, Outcome}
use Rattle.refusal.specs.declared.Refusal.{Refusal}
use Rattle.refusal.proofs.Tables.{none, first_done, parts_done}
use Rattle.lent.specs.Lent.{sizes}
use Rattle.lent.proofs.Sizes.{sized_done}
use Rattle.linkage.specs.Pairs.{pairs_visited}
use Rattle.linkage.specs.Children.{children_table, children_outcome, joined_of, children_answer}
use Rattle.linkage.specs.declared.Linkage.{Linkage}
use Rattle.linkage.specs.declared.Merged.{Merged}
use Rattle.std.specs.Prelude.{Ok, Err}
use Rattle.linkage.specs.Outcomes.{merged}

-- at most 64 assets, a square matrix of them, and room for the rows
pub record Judged (len w room : ℕ) : Type 0 where
  pub wide : w ≤ 64
  pub cells : len ≡ w * w
  pub roomy : 2 * (w - 1) ≤ room

pub children_done : (len rows w room : ℕ) → first (children_table len rows w room) ≡ Ok tt → Judged len w room
unfolding children_table
children_done len rows w room e =
    let d : first (sizes len rows w) ≡ (Ok tt) = (parts_done (sizes len rows w) _ e).0 in
    let s = sized_done len rows w d in
    let a = none _ (sym (first_done (sizes len rows w) _ d) ∙ e) in
    let q : rows ≡ w = eqb-true rows w (not-false (eqb rows w) a.1.0) in
    record { wide = s.wide; cells = s.cells ∙ ap (λ (k : ℕ). k * w) q; roomy = ltb-false room (2 * (w - 1)) a.0 }

-- what an answer says of how the call went
made_of : (o : Outcome) (rows pairs k m : ℕ) → joined_of o rows pairs ≡ Ok (merged k m) → (o ≡ Ok tt) × (m ≡ pairs)
unfolding joined_of
made_of (Ok _) rows pairs k m e =
    let z : ◌≡◌ {A = Merged} (merged k m) (merged rows pairs) = cc in
    (refl, ap (λ (x : Merged). x.pairs) z)
made_of (Err r) rows pairs k m e = absurd (let z : ◌≡◌ {A = ℕ} 0 1 = cc in omega arith)

refused_of : (o : Outcome) (rows pairs : ℕ) (k : Refusal) → joined_of o rows pairs ≡ Err k → o ≡ Err k
unfolding joined_of
refused_of (Ok _) rows pairs k e = absurd (let z : ◌≡◌ {A = ℕ} 0 1 = cc in omega arith)
refused_of (Err r) rows pairs k e = cc

pub children_made : (l : Linkage) (xs : List Float) (rows w room k m : ℕ) → children_answer l xs rows w room ≡ Ok (merged k m) → (children_outcome xs rows w room ≡ Ok tt) × (m ≡ pairs_visited l w xs)
unfolding children_answer
children_made l xs rows w room k m e = made_of _ _ _ k m e

pub children_refuses : (l : Linkage) (xs : List Float) (rows w room : ℕ) (k : Refusal) → children_answer l xs rows w room ≡ Err k → children_outcome xs rows w room ≡ Err k
unfolding children_answer
children_refuses l xs rows w room k e = refused_of _ _ _ k e
