-- What the outcomes of the public calls say.
--     order_done, order_passes, order_answered, order_laid_lem    a leaf order that is not refused
--     seriate_done, seriate_passes                            a seriated matrix that is not refused
--     order_ready, seriable                                   what the two calls ask then
-- Assumes nothing.
use mathlib.Core.Path.{◌≡◌, ap, ◌∙◌}
use mathlib.Core.Bool.{true, not}
use mathlib.Core.List.{List, [], ◌∷◌, ◌++◌}
use Prim.Native.Nat.{ℕ, ◌-◌, ◌*◌, ◌≤◌}
use native.Mathlib.Omega.{arith}
use borrow.Author.Tests.{ltb-false, le-ltb, eqb-false, ne_eqb, not-false}
use lib.Ieee.{Float}
use lib.ListN.{length, length-replicate}
use Rattle.refusal.specs.Table.{Line, first}
use Rattle.refusal.specs.declared.Refusal.TheVariants.{NoTree}
use Rattle.refusal.proofs.Tables.{none, table_end, table_pass, first_done, parts_done}
use Rattle.lent.specs.Grid.{noughts}
use Rattle.lent.specs.Lent.{squares, laid, answer_of, size}
use Rattle.lent.proofs.Sizes.{Squared, squared_done}
use Rattle.tree.specs.Rows.{is_tree, is_order}
use Rattle.tree.specs.Tree.{leaves_of}
use Rattle.tree.specs.Order.{order_table, order_outcome, order_answer, order_laid, seriate_outcome}
use Rattle.tree.specs.Inner.{OnTree, Ready, Seriable}
use Rattle.tree.proofs.Rows.{is_order_lem}
use Rattle.tree.proofs.Order.{leaves_few}
use Rattle.std.specs.Prelude.{Ok}

-- ---- a leaf order

pub record Ordered (rows : List ℕ) (n v room : ℕ) : Type 0 where
  pub most : n ≤ 64
  pub roomy : n ≤ room
  pub on : OnTree rows n v

pub order_done : (rows : List ℕ) (n v room : ℕ) → order_outcome rows n v room ≡ Ok tt → Ordered rows n v room
unfolding order_outcome order_table
order_done rows n v room e =
    let a = none (order_table rows n v room) e in
    let some : n ≡ 0 → ⊥ = eqb-false n 0 a.1.1.0 in
    record {
      most = ltb-false 64 n a.0;
      roomy = ltb-false room n a.1.0;
      on = record { some = omega arith; tree = not-false (is_tree rows n) a.1.1.1.0; node = ltb-false (2 * n - 2) v a.1.1.1.1.0 };
    }

module _ {rows : List ℕ} {n v room : ℕ} (p : Ordered rows n v room) where
  pub order_passes : order_outcome rows n v room ≡ Ok tt
  unfolding order_outcome order_table
  order_passes =
      let q = p.on in
      let some : 1 ≤ n = q.some in
      let a = le-ltb 64 n p.most in
      let b = le-ltb room n p.roomy in
      let d = ne_eqb n 0 (λ e. omega arith) in
      let t = q.tree in
      let h = le-ltb (2 * n - 2) v q.node in
      rw (a, b, d, t, h) (simp (table_pass, table_end))

  pub order_answered : order_answer rows n v room ≡ Ok (size 1 (length (leaves_of rows n v)))
  unfolding order_answer answer_of
  order_answered = rw order_passes

  pub order_laid_lem : order_laid rows n v room ≡ leaves_of rows n v ++ noughts (room - length (leaves_of rows n v))
  unfolding order_laid laid
  order_laid_lem = rw order_passes

-- what `leaves` asks, once `quasi_diagonalization` has judged and cleared the buffer to mid
pub order_ready : (rows : List ℕ) (n v room : ℕ) (mid : List ℕ) → order_outcome rows n v room ≡ Ok tt → mid ≡ noughts room → Ready rows n v mid
order_ready rows n v room mid e z =
    let p = order_done rows n v room e in
    let few = leaves_few rows n p.on.tree p.on.some v p.on.node in
    record { on = p.on; room = omega (arith, few, p.roomy, ap length z, length-replicate {A = ℕ} room 0) }

-- ---- a seriated matrix

pub seriate_done : (m : List Float) (rows w : ℕ) (order : List ℕ) (room : ℕ) → seriate_outcome m rows w order room ≡ Ok tt
    → Squared (length m) rows w room × (is_order order w ≡ true)
unfolding seriate_outcome
seriate_done m rows w order room e =
    let s = squares (length m) rows w room in
    let t : List Line = (not (is_order order w), NoTree) ∷ [] in
    let both = parts_done s t e in
    (squared_done (length m) rows w room both.0, not-false (is_order order w) (none t both.1).0)

pub seriate_passes : (m : List Float) (rows w : ℕ) (order : List ℕ) (room : ℕ) → first (squares (length m) rows w room) ≡ Ok tt → is_order order w ≡ true
    → seriate_outcome m rows w order room ≡ Ok tt
unfolding seriate_outcome first
seriate_passes m rows w order room e o = first_done (squares (length m) rows w room) _ e ∙ rw o

pub seriable : (m : List Float) (rows w : ℕ) (order : List ℕ) (room : ℕ) → seriate_outcome m rows w order room ≡ Ok tt → Seriable m w order
seriable m rows w order room e =
    let d = seriate_done m rows w order room e in
    let o = is_order_lem order w d.1 in
    record { cells = d.0.cells; size = o.size; low = o.low }
