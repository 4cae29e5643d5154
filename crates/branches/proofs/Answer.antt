-- What the tests of the public calls say, and what the outcomes say.
--     summary_done, summary_passes     a summary that is not refused
--     within_done, within_passes           a node's members that are not refused
-- and the steps of the calls.
-- Assumes nothing.
use mathlib.Core.Path.{◌≡◌, sym, ap, ◌∙◌}
use mathlib.Core.Bool.{true, false, not, ◌||◌}
use mathlib.Core.Logic.{⊎_elim}
use mathlib.Core.List.{List, []}
use Prim.Native.Nat.{ℕ, ◌+◌, ◌-◌, ◌*◌, ◌≤◌, ◌<◌}
use native.Mathlib.Omega.{arith}
use lib.Dec.{ltb}
use lib.ListN.{length, get_or, take, drop, length-replicate}
use borrow.Author.Tests.{ltb-true, ltb-false, lt-ltb, le-ltb, eqb-false, ne_eqb, not-false}
use Rattle.refusal.specs.declared.Refusal.{Refusal}
use Rattle.refusal.proofs.Tables.{none, table_end, table_pass}
use Rattle.lent.specs.Grid.{tab, over, noughts}
use Rattle.lent.proofs.Laws.{either}
use Rattle.lent.proofs.Sums.{no_or}
use Rattle.lent.proofs.Sizes.{laid_done, laid_refused}
use Rattle.tree.specs.Rows.{is_tree}
use Rattle.branches.specs.Inner.{Rooted, Emptied}
use Rattle.branches.specs.Summary.{lacks_nodes, summary_table, summary_outcome, summary_laid, lacks_part, members_table, members_outcome, part_at, part_of}
use Rattle.std.specs.Prelude.{Ok, Err}
use Rattle.refusal.specs.Table.{Outcome}

-- ---- the tests of the lists

module _ (n a b c : ℕ) where
  pub nodes_one : a < 2 * n - 1 → true ≡ lacks_nodes n a b c
  unfolding lacks_nodes
  nodes_one h = rw (lt-ltb a (2 * n - 1) h)

  pub nodes_two : 2 * n - 1 ≤ a → b < 2 * n - 1 → true ≡ lacks_nodes n a b c
  unfolding lacks_nodes
  nodes_two g h = rw (le-ltb a (2 * n - 1) g, lt-ltb b (2 * n - 1) h)

  pub nodes_three : 2 * n - 1 ≤ a → 2 * n - 1 ≤ b → ltb c (2 * n - 1) ≡ lacks_nodes n a b c
  unfolding lacks_nodes
  nodes_three g h = rw (le-ltb a (2 * n - 1) g, le-ltb b (2 * n - 1) h)

  nodes_all : lacks_nodes n a b c ≡ false → (2 * n - 1 ≤ a) × (2 * n - 1 ≤ b) × (2 * n - 1 ≤ c)
  unfolding lacks_nodes
  nodes_all e =
      let w = 2 * n - 1 in
      let x = no_or (ltb a w) (ltb b w || ltb c w) e in
      let y = no_or (ltb b w) (ltb c w) x.1 in
      (ltb-false a w x.0, ltb-false b w y.0, ltb-false c w y.1)

-- ---- the tests of a part

module _ (len : ℕ) (firsts sizes : List ℕ) (v : ℕ) where
  pub lacks_first : length firsts ≤ v → true ≡ lacks_part len firsts sizes v
  unfolding lacks_part
  lacks_first h = rw (le-ltb v (length firsts) h)

  pub lacks_size : v < length firsts → length sizes ≤ v → true ≡ lacks_part len firsts sizes v
  unfolding lacks_part
  lacks_size a h = rw (lt-ltb v (length firsts) a, le-ltb v (length sizes) h)

  lacks_in : v < length firsts → v < length sizes → lacks_part len firsts sizes v ≡ ltb len (get_or firsts v 0 + get_or sizes v 0)
  unfolding lacks_part
  lacks_in a b = rw (lt-ltb v (length firsts) a, lt-ltb v (length sizes) b)

  pub lacks_start : v < length firsts → v < length sizes → len < get_or firsts v 0 → true ≡ lacks_part len firsts sizes v
  lacks_start a b h = sym (lacks_in a b ∙ lt-ltb len (get_or firsts v 0 + get_or sizes v 0) (omega arith))

  pub lacks_end : v < length firsts → v < length sizes → get_or firsts v 0 ≤ len → ltb (len - get_or firsts v 0) (get_or sizes v 0) ≡ lacks_part len firsts sizes v
  lacks_end a b h =
      ⊎_elim
      (λ e. let q : len - get_or firsts v 0 < get_or sizes v 0 = ltb-true _ _ e in e ∙ sym (lacks_in a b ∙ lt-ltb len (get_or firsts v 0 + get_or sizes v 0) (omega arith)))
      (λ e. let q : get_or sizes v 0 ≤ len - get_or firsts v 0 = ltb-false _ _ e in e ∙ sym (lacks_in a b ∙ le-ltb len (get_or firsts v 0 + get_or sizes v 0) (omega arith)))
      (either (ltb (len - get_or firsts v 0) (get_or sizes v 0)))

  pub lacks_none : lacks_part len firsts sizes v ≡ false → (v < length firsts) × (v < length sizes) × (get_or firsts v 0 + get_or sizes v 0 ≤ len)
  unfolding lacks_part
  lacks_none e =
      let a = no_or (not (ltb v (length firsts))) (not (ltb v (length sizes)) || ltb len (get_or firsts v 0 + get_or sizes v 0)) e in
      let b = no_or (not (ltb v (length sizes))) (ltb len (get_or firsts v 0 + get_or sizes v 0)) a.1 in
      (ltb-true v (length firsts) (not-false _ a.0), ltb-true v (length sizes) (not-false _ b.0), ltb-false len (get_or firsts v 0 + get_or sizes v 0) b.1)

-- ---- a summary

pub record Summed (rows : List ℕ) (n a b c : ℕ) : Type 0 where
  pub most : n ≤ 64
  pub one : 2 * n - 1 ≤ a
  pub two : 2 * n - 1 ≤ b
  pub three : 2 * n - 1 ≤ c
  pub rooted : Rooted rows n

pub summary_done : (rows : List ℕ) (n a b c : ℕ) → summary_outcome rows n a b c ≡ Ok tt → Summed rows n a b c
unfolding summary_outcome summary_table
summary_done rows n a b c e =
    let s = none (summary_table rows n a b c) e in
    let some : n ≡ 0 → ⊥ = eqb-false n 0 s.1.1.0 in
    let rooms = nodes_all n a b c s.1.0 in
    record {
      most = ltb-false 64 n s.0;
      one = rooms.0;
      two = rooms.1;
      three = rooms.2;
      rooted = record { some = omega arith; tree = not-false (is_tree rows n) s.1.1.1.0 };
    }

pub summary_passes : {rows : List ℕ} {n a b c : ℕ} → Summed rows n a b c → summary_outcome rows n a b c ≡ Ok tt
unfolding summary_outcome summary_table
summary_passes {rows} {n} {a} {b} {c} p =
    let some : 1 ≤ n = p.rooted.some in
    rw (le-ltb 64 n p.most, ← nodes_three n a b c p.one p.two, le-ltb c (2 * n - 1) p.three, ne_eqb n 0 (λ e. omega arith), p.rooted.tree)
    (simp (table_pass, table_end))

-- a cleared list
pub emptied : (n room : ℕ) (list : List ℕ) → list ≡ noughts room → 2 * n - 1 ≤ room → Emptied n list
emptied n room list z h =
    let same : length list ≡ room = ap length z ∙ length-replicate room 0 in
    record { room = omega arith; clear = z ∙ ap noughts (sym same) }

-- the steps of `summarize`, which has judged, and then cleared the lists
module _ (f : ℕ → ℕ) (n room : ℕ) (said : Outcome) (list : List ℕ) where
  pub summary_refused : (r : Refusal) → said ≡ Err r → list ≡ noughts room → list ≡ summary_laid f said n room
  unfolding summary_laid
  summary_refused r h z = z ∙ laid_refused 0 said r room (tab (2 * n - 1) f) h

  pub summary_filled : (blanks : List ℕ) → said ≡ Ok tt → blanks ≡ noughts room → list ≡ over (tab (2 * n - 1) f) blanks → list ≡ summary_laid f said n room
  unfolding summary_laid
  summary_filled blanks h z e = e ∙ ap (over (tab (2 * n - 1) f)) z ∙ laid_done 0 said room (tab (2 * n - 1) f) h

-- ---- a node's members

pub record Within (order firsts sizes : List ℕ) (n v : ℕ) : Type 0 where
  pub most : n ≤ 64
  pub some : 1 ≤ n
  pub node : v ≤ 2 * n - 2
  pub begun : v < length firsts
  pub sized : v < length sizes
  pub fits : get_or firsts v 0 + get_or sizes v 0 ≤ length order

pub within_done : (order firsts sizes : List ℕ) (n v : ℕ) → members_outcome order firsts sizes n v ≡ Ok tt → Within order firsts sizes n v
unfolding members_outcome members_table
within_done order firsts sizes n v e =
    let s = none (members_table order firsts sizes n v) e in
    let some : n ≡ 0 → ⊥ = eqb-false n 0 s.1.0 in
    let part = lacks_none (length order) firsts sizes v s.1.1.1.0 in
    record { most = ltb-false 64 n s.0; some = omega arith; node = ltb-false (2 * n - 2) v s.1.1.0; begun = part.0; sized = part.1; fits = part.2 }

pub within_passes : {order firsts sizes : List ℕ} {n v : ℕ} → Within order firsts sizes n v → members_outcome order firsts sizes n v ≡ Ok tt
unfolding members_outcome members_table
within_passes {order} {firsts} {sizes} {n} {v} p =
    let some : 1 ≤ n = p.some in
    rw (le-ltb 64 n p.most, ne_eqb n 0 (λ e. omega arith), le-ltb (2 * n - 2) v p.node, lacks_in (length order) firsts sizes v p.begun p.sized, le-ltb (length order) (get_or firsts v 0 + get_or sizes v 0) p.fits)
    (simp (table_pass, table_end))

-- the steps of `members`
module _ (order firsts sizes : List ℕ) (n v : ℕ) (said : Outcome) (e : said ≡ members_outcome order firsts sizes n v) where
  pub lookup_none : (r : Refusal) → said ≡ Err r → [] ≡ part_of order firsts sizes n v
  unfolding part_of part_at
  lookup_none r h = rw (← e, h)

  pub lookup_within : said ≡ Ok tt → Within order firsts sizes n v
  lookup_within h = within_done order firsts sizes n v (sym e ∙ h)

  pub lookup_some : said ≡ Ok tt → take (get_or firsts v 0 + get_or sizes v 0 - get_or firsts v 0) (drop (get_or firsts v 0) order) ≡ part_of order firsts sizes n v
  unfolding part_of part_at
  lookup_some h =
      let q : get_or firsts v 0 + get_or sizes v 0 - get_or firsts v 0 ≡ get_or sizes v 0 = omega arith in
      rw (q, ← e, h)
