-- The steps of `arrange` on buffers that are large enough, and what its callers use of it. Assumes nothing.
use Prim.Native.Nat.{ℕ, ◌-◌, ◌*◌, ◌<◌, ◌≤◌}
use mathlib.Core.Path.{◌≡◌, refl, sym, ap, ◌∙◌}
use mathlib.Core.Bool.{true, false, not}
use mathlib.Core.List.{List, ◌++◌}
use native.Mathlib.Omega.{arith}
use borrow.Author.Tests.{le-ltb, ltb-false, eq-eqb, ne_eqb, eqb-true, eqb-false, not-false}
use lib.Dec.{ltb, eqb}
use lib.ListN.{length, take}
use lib.Seq.{take_at, take-append-le}
use lib.Ieee.{Float}
use Rattle.arithmetic.specs.Constants.{pz}
use Rattle.refusal.specs.Table.{first, Outcome}
use Rattle.refusal.specs.declared.Refusal.{Refusal}
use Rattle.refusal.proofs.Tables.{done_refused, table_pass, table_end, none, first_done, parts_done}
use Rattle.lent.specs.Grid.{grid, zeros, noughts}
use Rattle.lent.specs.declared.Size.{Size}
use Rattle.lent.specs.Lent.{over_limit, other_length, sizes, squares, laid, answer_of, told_of, Answer}
use Rattle.lent.proofs.Laws.{square_in, length_grid}
use Rattle.lent.proofs.Sizes.{sized_done, laid_refused, told_as}
use Rattle.distances.specs.Distances.{distance_outcome, distance_answer, distances, between_cell, betweens}
use Rattle.distances.specs.declared.Measure.{Measure}
use Rattle.tree.specs.Rows.{is_tree, is_order}
use Rattle.tree.specs.Order.{order_outcome, order_answer, order_laid}
use Rattle.tree.proofs.Order as order
use Rattle.tree.proofs.Answer.{Ordered, order_passes}
use Rattle.linkage.specs.Merge.{merge_rows}
use Rattle.linkage.specs.Children.{children_table, children_outcome, children_rows}
use Rattle.linkage.specs.declared.Distance.{Distance}
use Rattle.linkage.specs.declared.Distance.TheVariants.{Correlation, DistanceOfDistances}
use Rattle.linkage.specs.declared.Linkage.{Linkage}
use Rattle.linkage.proofs.Rows.{rows_tree, rows_length}
use Rattle.arranging.specs.Arranging.{distances_in, tree_distances, tree_rows, tree_order, TreeRoom, arrange_table, arrange_outcome, Arranged}
use Rattle.std.specs.Prelude.{Ok, Err}

-- what stands at the front of a buffer after a call that is done
pub laid_front : {A : Type 0} (z : A) (o : Outcome) (room k : ℕ) (cells d : List A) → d ≡ laid z o room cells → o ≡ Ok tt → length cells ≡ k → take k d ≡ cells
unfolding laid
laid_front z o room k cells d e h l = rw (e, h) (take_at cells _ k l)

-- how a call that answers a matrix went
pub told_ok : (a : Answer) (s : Size) → a ≡ Ok s → Ok tt ≡ told_of a
unfolding told_of
told_ok a s h = rw h

pub told_err : (a : Answer) (k : Refusal) → a ≡ Err k → Err k ≡ told_of a
unfolding told_of
told_err a k h = rw h

-- what is done is not refused
pub done_never : (o : Outcome) (rows w : ℕ) (a : Answer) (k : Refusal) → o ≡ Ok tt → a ≡ answer_of o rows w → a ≡ Err k → ⊥
done_never o rows w a k d g h = done_refused k (sym (told_err a k h ∙ ap told_of g ∙ told_as o rows w ∙ d))

-- ---- each call

module _ (n : ℕ) (h : n ≤ 64) where
  pub sizes_pass : (len : ℕ) → len ≡ n * n → first (sizes len n n) ≡ Ok tt
  unfolding sizes over_limit other_length first
  sizes_pass len e =
      let a : ltb 4096 n ≡ false = le-ltb 4096 n (omega arith) in
      let b : ltb 4096 (n * n) ≡ false = le-ltb 4096 (n * n) (square_in n h) in
      simp (a, le-ltb 64 n h, b, eq-eqb len (n * n) e)

  pub squares_pass : (len room : ℕ) → len ≡ n * n → n * n ≤ room → first (squares len n n room) ≡ Ok tt
  unfolding squares
  squares_pass len room e f =
      let a : ltb room (n * n) ≡ false = le-ltb room (n * n) f in
      let b : eqb n n ≡ true = eq-eqb n n refl in
      first_done (sizes len n n) _ (sizes_pass len e) ∙ table_pass _ _ _ a ∙ table_pass _ _ _ (ap not b) ∙ table_end

  pub distances_laid : (of : Measure) (corr out : List Float) → length corr ≡ n * n → (room : ℕ) → n * n ≤ room → out ≡ distances of corr n n room → out ≡ laid pz (Ok tt) room (distances_in of corr n)
  unfolding distances distance_outcome distances_in
  distances_laid of corr out e room f g = g ∙ ap (λ (o : Outcome). laid pz o room (distances_in of corr n)) (squares_pass (length corr) room e f)

  betweens_laid : (d out : List Float) → length d ≡ n * n → (room : ℕ) → n * n ≤ room → out ≡ betweens d n n room → out ≡ laid pz (Ok tt) room (grid n n (between_cell d n))
  unfolding betweens distance_outcome
  betweens_laid d out e room f g = g ∙ ap (λ (o : Outcome). laid pz o room (grid n n (between_cell d n))) (squares_pass (length d) room e f)

  -- in the front of a room, of which that part was lent
  pub betweens_front : (d part rest : List Float) → length d ≡ n * n → (room : ℕ) → room ≡ n * n → length part ≡ room → part ≡ betweens d n n room → take (n * n) (part ++ rest) ≡ grid n n (between_cell d n)
  betweens_front d part rest e room f k g = take-append-le (n * n) part rest (omega arith) ∙ laid_front pz (Ok tt) room (n * n) _ part (betweens_laid d part e room (omega arith) g) refl (length_grid n n _)

  pub rows_laid : (l : Linkage) (xs : List Float) (out : List ℕ) → length xs ≡ n * n → (room : ℕ) → 2 * (n - 1) ≤ room → out ≡ children_rows l xs n n room → out ≡ laid 0 (Ok tt) room (merge_rows l n xs)
  unfolding children_rows children_outcome children_table
  rows_laid l xs out e room f g =
      let a : ltb room (2 * (n - 1)) ≡ false = le-ltb room (2 * (n - 1)) f in
      let b : eqb n n ≡ true = eq-eqb n n refl in
      let q = first_done (sizes (length xs) n n) _ (sizes_pass (length xs) e) ∙ table_pass _ _ _ a ∙ table_pass _ _ _ (ap not b) ∙ table_end in
      g ∙ ap (λ (o : Outcome). laid 0 o room (merge_rows l n xs)) q

-- ---- what the tree is built on

pub tree_plain : (d : Distance) (xs : List Float) (n : ℕ) → d ≡ Correlation → xs ≡ tree_distances d xs n
unfolding tree_distances
tree_plain d xs n e = rw e

pub tree_between : (xs : List Float) (n : ℕ) → grid n n (between_cell xs n) ≡ tree_distances DistanceOfDistances xs n
unfolding tree_distances
tree_between xs n = refl

pub rows_between : (d : Distance) (l : Linkage) (n : ℕ) (xs : List Float) (rows : List ℕ) (room : ℕ) → d ≡ DistanceOfDistances
    → rows ≡ laid 0 (Ok tt) room (merge_rows l n (tree_distances DistanceOfDistances xs n)) → rows ≡ laid 0 (Ok tt) room (merge_rows l n (tree_distances d xs n))
rows_between d l n xs rows room e g = rw e g

-- ---- a call that is accepted

pub record Arrangeable (len rows w : ℕ) (room : TreeRoom) : Type 0 where
  pub some : 0 < w
  pub wide : w ≤ 64
  pub square : rows ≡ w
  pub cells : len ≡ w * w
  pub for_rows : 2 * (w - 1) ≤ room.rows
  pub for_order : w ≤ room.order
  pub for_distances : w * w ≤ room.distances

pub arrangeable : (len rows w : ℕ) (room : TreeRoom) → first (arrange_table len rows w room) ≡ Ok tt → Arrangeable len rows w room
unfolding arrange_table
arrangeable len rows w room e =
    let p = parts_done (sizes len rows w) _ e in
    let s = sized_done len rows w p.0 in
    let a = none _ p.1 in
    let q : rows ≡ w = eqb-true rows w (not-false (eqb rows w) a.1.1.1.0) in
    let z = eqb-false w 0 a.1.1.1.1.0 in
    record {
      some = omega arith;
      wide = s.wide;
      square = q;
      cells = s.cells ∙ ap (λ (k : ℕ). k * w) q;
      for_rows = ltb-false room.rows (2 * (w - 1)) a.0;
      for_order = ltb-false room.order w a.1.0;
      for_distances = ltb-false room.distances (w * w) a.1.1.0;
    }

pub arrange_passes : (corr : List Float) (rows w : ℕ) (room : TreeRoom) → Arrangeable (length corr) rows w room → arrange_outcome corr rows w room ≡ Ok tt
unfolding arrange_outcome arrange_table
arrange_passes corr rows w room p =
    let a = le-ltb room.rows (2 * (w - 1)) p.for_rows in
    let b = le-ltb room.order w p.for_order in
    let c = le-ltb room.distances (w * w) p.for_distances in
    let d = eq-eqb rows w p.square in
    let s = p.some in
    let e : eqb w 0 ≡ false = ne_eqb w 0 (λ q. omega arith) in
    let q : first (sizes (length corr) rows w) ≡ (Ok tt) = rw p.square (sizes_pass w p.wide (length corr) p.cells) in
    first_done (sizes (length corr) rows w) _ q ∙ table_pass _ _ _ a ∙ table_pass _ _ _ b ∙ table_pass _ _ _ c ∙ table_pass _ _ _ (ap not d) ∙ table_pass _ _ _ e ∙ table_end

-- ---- the tree, for callers

module _ (of : Measure) (d : Distance) (l : Linkage) (corr : List Float) (n : ℕ) where
  pub length_distances : length (distances_in of corr n) ≡ n * n
  unfolding distances_in
  length_distances = length_grid n n _

  pub length_rows : n ≤ 64 → length (tree_rows of d l corr n) ≡ 2 * (n - 1)
  unfolding tree_rows
  length_rows h = rows_length l n _ h

  module _ (some : 0 < n) (few : n ≤ 64) where
    pub tree_is : is_tree (tree_rows of d l corr n) n ≡ true
    unfolding tree_rows
    tree_is = rows_tree l n _ some few

    pub length_order : length (tree_order of d l corr n) ≡ n
    unfolding tree_order
    length_order = order.order_size (tree_rows of d l corr n) n tree_is some

    pub order_each : is_order (tree_order of d l corr n) n ≡ true
    unfolding tree_order
    order_each = order.order_is (tree_rows of d l corr n) n tree_is some

  module _ (room : TreeRoom) (r : Outcome) (rows ids : List ℕ) (far : List Float) (p : Arrangeable (length corr) n n room) (a : Arranged of d l corr n n room r rows ids far) where
    pub rows_front : take (2 * (n - 1)) rows ≡ tree_rows of d l corr n
    rows_front = laid_front 0 _ room.rows _ _ rows a.rows_are (arrange_passes corr n n room p) (length_rows p.wide)

    pub order_front : take n ids ≡ tree_order of d l corr n
    order_front = laid_front 0 _ room.order _ _ ids a.order_is (arrange_passes corr n n room p) (length_order p.some p.wide)

    pub distances_front : take (n * n) far ≡ distances_in of corr n
    distances_front = laid_front pz _ room.distances _ _ far a.distances_are (arrange_passes corr n n room p) length_distances

-- ---- how `arrange` ends

module _ (of : Measure) (d : Distance) (l : Linkage) (corr : List Float) (rows_in w : ℕ) (room : TreeRoom) (said : Outcome) (rows ids : List ℕ) (far : List Float) (e : said ≡ first (arrange_table (length corr) rows_in w room)) where
  told : said ≡ arrange_outcome corr rows_in w room
  unfolding arrange_outcome
  told = e

  pub arranged_refused : (k : Refusal) → said ≡ Err k → rows ≡ noughts room.rows → ids ≡ noughts room.order → far ≡ zeros room.distances → Arranged of d l corr rows_in w room said rows ids far
  arranged_refused k h a b c =
      let q = sym told ∙ h in
      record {
        answer = told;
        rows_are = a ∙ laid_refused 0 _ k _ _ q;
        order_is = b ∙ laid_refused 0 _ k _ _ q;
        distances_are = c ∙ laid_refused pz _ k _ _ q;
      }

  module _ (h : said ≡ Ok tt) where
    pub accepted : Arrangeable (length corr) rows_in w room
    accepted = arrangeable (length corr) rows_in w room (sym e ∙ h)

    pub distances_never : (a : Answer) (k : Refusal) → a ≡ distance_answer corr w w room.distances → a ≡ Err k → ⊥
    unfolding distance_answer distance_outcome
    distances_never a k g h =
        let p = accepted in
        let c : length corr ≡ w * w = p.cells in
        done_never _ w w a k (squares_pass w p.wide (length corr) room.distances c p.for_distances) g h

    pub order_never : far ≡ distances of corr w w room.distances → rows ≡ laid 0 (Ok tt) room.rows (merge_rows l w (tree_distances d (take (w * w) far) w))
        → (a : Answer) (k : Refusal) → a ≡ order_answer (take (2 * (w - 1)) rows) w (2 * w - 2) room.order → a ≡ Err k → ⊥
    unfolding tree_rows order_answer
    order_never a b c k g h =
        let p = accepted in
        let f = distances_laid w p.wide of corr far p.cells room.distances p.for_distances a in
        let front : take (w * w) far ≡ distances_in of corr w = laid_front pz (Ok tt) _ _ _ far f refl (length_distances of d l corr w) in
        let r : rows ≡ laid 0 (Ok tt) room.rows (tree_rows of d l corr w) = b ∙ ap (λ (x : List Float). laid 0 (Ok tt) room.rows (merge_rows l w (tree_distances d x w))) front in
        let t : take (2 * (w - 1)) rows ≡ tree_rows of d l corr w = laid_front 0 (Ok tt) _ _ _ rows r refl (length_rows of d l corr w p.wide) in
        let some = p.some in
        let o : Ordered (tree_rows of d l corr w) w (2 * w - 2) room.order = record { most = p.wide; roomy = p.for_order; on = record { some = some; tree = tree_is of d l corr w some p.wide; node = omega arith } } in
        done_never _ 1 _ c k (ap (λ (x : List ℕ). order_outcome x w (2 * w - 2) room.order) t ∙ order_passes o) g h

    pub arranged_done : far ≡ distances of corr w w room.distances → rows ≡ laid 0 (Ok tt) room.rows (merge_rows l w (tree_distances d (take (w * w) far) w))
        → ids ≡ order_laid (take (2 * (w - 1)) rows) w (2 * w - 2) room.order → Arranged of d l corr rows_in w room said rows ids far
    unfolding tree_rows tree_order order_laid
    arranged_done a b c =
        let p = accepted in
        let q = sym told ∙ h in
        let f = distances_laid w p.wide of corr far p.cells room.distances p.for_distances a in
        let front : take (w * w) far ≡ distances_in of corr w = laid_front pz (Ok tt) _ _ _ far f refl (length_distances of d l corr w) in
        let r : rows ≡ laid 0 (Ok tt) room.rows (tree_rows of d l corr w) = b ∙ ap (λ (x : List Float). laid 0 (Ok tt) room.rows (merge_rows l w (tree_distances d x w))) front in
        let t : take (2 * (w - 1)) rows ≡ tree_rows of d l corr w = laid_front 0 (Ok tt) _ _ _ rows r refl (length_rows of d l corr w p.wide) in
        let some = p.some in
        let o : Ordered (tree_rows of d l corr w) w (2 * w - 2) room.order = record { most = p.wide; roomy = p.for_order; on = record { some = some; tree = tree_is of d l corr w some p.wide; node = omega arith } } in
        let c' : ids ≡ order_laid (tree_rows of d l corr w) w (2 * w - 2) room.order = c ∙ ap (λ (x : List ℕ). order_laid x w (2 * w - 2) room.order) t in
        record {
          answer = told;
          rows_are = r ∙ ap (λ (o : Outcome). laid 0 o room.rows (tree_rows of d l corr w)) (sym q);
          order_is = c' ∙ ap (λ (o : Outcome). laid 0 o room.order (tree_order of d l corr w)) (order_passes o ∙ sym q);
          distances_are = f ∙ ap (λ (o : Outcome). laid pz o room.distances (distances_in of corr w)) (sym q);
        }
