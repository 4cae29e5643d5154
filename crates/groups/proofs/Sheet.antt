-- From the rows, the names and the millionths to the lines of the sheet. Assumes nothing.
use Prim.Native.Nat.{ℕ, ◌+◌, ◌-◌, ◌*◌, ◌≤◌, ◌<◌}
use mathlib.Core.Path.{◌≡◌, refl, sym, ap, ◌∙◌}
use mathlib.Core.Bool.{Bool}
use mathlib.Core.List.{List}
use native.Mathlib.Omega.{arith}
use native.Mathlib.Numerals.{add-one}
use lib.ListN.{length, get_or, take, length-replicate}
use lib.Seq.{take_at, take-suc}
use Rattle.lent.specs.Count.{over_all}
use Rattle.lent.specs.Grid.{tab, over, noughts}
use Rattle.lent.proofs.Laws.{length_tab, get_d_tab, length_over, get_d_over}
use Rattle.lent.proofs.Counting.{over_all_snoc}
use Rattle.tree.specs.Tree.{leaves_of}
use Rattle.tree.specs.Order.{order_laid}
use Rattle.tree.specs.Inner.{OnTree}
use Rattle.tree.proofs.Order.{leaves_low, leaves_few}
use Rattle.branches.specs.Branch.{first_of, size_of, depth_of, members_of, subtotal}
use Rattle.branches.specs.Inner.{Rooted}
use Rattle.branches.specs.Summary.{summary_outcome, summary_laid, part_of}
use Rattle.branches.proofs.Parts.{part_is}
use Rattle.branches.proofs.Sheet.{depth_few, filled_at, looked_up}
use Rattle.writing.specs.Writing.{joined, Wrote}
use Rattle.writing.proofs.Writing.{renamed, joined_ext}
use Rattle.listing.specs.Listing.{name_in}
use Rattle.groups.specs.Groups.{group_of, group_line, nodes_down, line_down, group_sheet}
use Rattle.groups.specs.Inner.{nodes_below, NodesReady, NodesWritten, Looked, Lined, line_at, Sheetable}
use Rattle.groups.proofs.Nodes.{nodes_down_lem, nodes_count, nodes_low}
use Rattle.refusal.specs.Table.{Outcome}

-- ---- some assets' parts, added up one by one

module _ (parts members : List ℕ) where
  pub sum_none : 0 ≡ subtotal parts (take 0 members)
  unfolding subtotal over_all
  sum_none = refl

  pub sum_more : {s : ℕ} (i : ℕ) → s ≡ subtotal parts (take i members) → i < length members → s + get_or parts (get_or members i 0) 0 ≡ subtotal parts (take (i + 1) members)
  unfolding subtotal
  sum_more i e h =
      ap (λ (k : ℕ). k + get_or parts (get_or members i 0) 0) e ∙ sym (over_all_snoc (λ a. get_or parts a 0) (take i members) (get_or members i 0))
      ∙ ap (over_all (λ a. get_or parts a 0)) (sym (ap (λ (k : ℕ). take k members) (add-one i) ∙ take-suc members i 0 h))

module _ {text starts rows parts : List ℕ} (p : Sheetable text starts rows parts) where
  abbrev n : ℕ
  n = length starts

  rooted : Rooted rows n
  rooted = record { some = p.some; tree = p.tree }

  few : n ≤ 64
  few = p.named.few

  on_root : OnTree rows n (2 * n - 2)
  on_root = record { some = p.some; tree = p.tree; node = omega arith }

  nodes_size : length (nodes_below rows n (2 * n - 2)) ≤ 127
  nodes_size = omega (arith, ap length (nodes_down_lem rows n), nodes_count rooted, few)

  pub nodes_ready : NodesReady rows n (2 * n - 2) (noughts 127)
  nodes_ready = record { on = on_root; room = omega (arith, nodes_size, length-replicate {A = ℕ} 127 0) }

  pub lines_few : (nodes : List ℕ) (lines : ℕ) → NodesWritten rows n (2 * n - 2) (noughts 127) nodes lines → lines ≤ 127
  lines_few nodes lines w = omega (arith, w.size, nodes_size)

  module _ (r : Outcome) (firsts sizes depths order : List ℕ) (e : r ≡ summary_outcome rows n 127 127 127)
      (f : firsts ≡ summary_laid (first_of rows n) r n 127) (s : sizes ≡ summary_laid (size_of rows n) r n 127) (d : depths ≡ summary_laid (depth_of rows n) r n 127)
      (o : order ≡ order_laid rows n (2 * n - 2) 64) where
    -- ---- every node's members

    part_of_lem : (v : ℕ) → v ≤ 2 * n - 2 → part_of order firsts sizes n v ≡ leaves_of rows n v
    part_of_lem = looked_up rooted few r e order firsts sizes o f s

    members_of_lem : (v : ℕ) → v ≤ 2 * n - 2 → part_of order firsts sizes n v ≡ members_of rows n v
    members_of_lem v h = part_of_lem v h ∙ sym (part_is rows n p.some p.tree v h)

    pub looked : Looked order firsts sizes n parts 127
    looked = record {
      some = p.some;
      few = few;
      summed = λ v h.
          let k : v ≤ 2 * n - 2 = omega arith in
          let part = part_of_lem v k in
          record {
            few = omega (arith, ap length part, leaves_few rows n p.tree p.some v k, few);
            low = λ j g. rw part (omega (arith, p.each, leaves_low rows n p.tree p.some v k j (rw part at g)));
            small = p.small;
          };
      roomy = let z = few in omega arith;
    }

    module _ (totals nodes : List ℕ) (lines : ℕ)
        (t : totals ≡ over (tab (2 * n - 1) (λ v. subtotal parts (part_of order firsts sizes n v))) (noughts 127))
        (w : NodesWritten rows n (2 * n - 2) (noughts 127) nodes lines) where
      abbrev front : List ℕ
      front = take lines nodes

      front_is : front ≡ nodes_down rows n
      unfolding over
      front_is = ap (take lines) w.list ∙ take_at (nodes_below rows n (2 * n - 2)) _ lines (sym w.size) ∙ sym (nodes_down_lem rows n)

      front_count : length front ≡ 2 * n - 1
      front_count = ap length front_is ∙ nodes_count rooted

      node_at : (i : ℕ) → i < length front → get_or front i 0 ≤ 2 * n - 2
      node_at i h = rw front_is (nodes_low rooted i (rw front_is at h))

      total_at : (v : ℕ) → v ≤ 2 * n - 2 → (v < length totals) × (get_or totals v 0 ≡ subtotal parts (members_of rows n v))
      total_at v h =
          let g : ℕ → ℕ = λ u. subtotal parts (part_of order firsts sizes n u) in
          let k : v < 2 * n - 1 = let s = p.some in omega arith in
          let size = length_tab (2 * n - 1) g in (
            omega (arith, few, ap length t, length_over (tab (2 * n - 1) g) (noughts 127) (omega (arith, few, length-replicate {A = ℕ} 127 0)), length-replicate {A = ℕ} 127 0),
            ap (λ (l : List ℕ). get_or l v 0) t ∙ get_d_over (tab (2 * n - 1) g) (noughts 127) v 0 (omega arith) ∙ get_d_tab (2 * n - 1) g v 0 k ∙ ap (subtotal parts) (members_of_lem v h),
          )

      depth_at : (v : ℕ) → v ≤ 2 * n - 2 → (v < length depths) × (get_or depths v 0 ≡ depth_of rows n v)
      depth_at = filled_at rooted few r e (depth_of rows n) depths d

      size_at : (v : ℕ) → v ≤ 2 * n - 2 → (v < length sizes) × (get_or sizes v 0 ≡ size_of rows n v)
      size_at = filled_at rooted few r e (size_of rows n) sizes s

      pub lined : Lined front depths sizes totals
      lined = record {
        few = omega (arith, front_count, few);
        deep = λ i h. (depth_at (get_or front i 0) (node_at i h)).0;
        sized = λ i h. (size_at (get_or front i 0) (node_at i h)).0;
        summed = λ i h. (total_at (get_or front i 0) (node_at i h)).0;
        low = λ i h. omega (arith, few, (depth_at (get_or front i 0) (node_at i h)).1, depth_few rooted (get_or front i 0) (node_at i h));
      }

      line_is : (named : Bool) (name : ℕ → List ℕ) (i : ℕ) → i < length front → line_at named name n front depths sizes totals i ≡ line_down named name rows parts n i
      unfolding line_at line_down group_of
      line_is named name i h =
          let v = get_or front i 0 in
          let b = node_at i h in
          let same : v ≡ get_or (nodes_down rows n) i 0 = ap (λ (l : List ℕ). get_or l i 0) front_is in
          rw ((depth_at v b).1, (size_at v b).1, (total_at v b).1) (ap (λ (u : ℕ). group_line named name n u (group_of rows parts n u)) same)

      pub sheet_written : (named : Bool) {out after : List ℕ} {k : ℕ} → Wrote out 0 (joined (length front) (line_at named (name_in text starts) n front depths sizes totals)) after k
          → Wrote out 0 (group_sheet named (name_in text starts) rows parts n) after k
      unfolding group_sheet
      sheet_written named x =
          renamed (group_sheet named (name_in text starts) rows parts n) x
          (joined_ext (length front) _ (line_down named (name_in text starts) rows parts n) (line_is named (name_in text starts))
          ∙ ap (λ (l : List ℕ). joined (length l) (line_down named (name_in text starts) rows parts n)) front_is)
