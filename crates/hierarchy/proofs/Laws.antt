-- What a call that its judge let pass knows, and the stages of a call, in the shape of the needs. Assumes nothing.
use Prim.Native.Nat.{ℕ, ◌-◌, ◌*◌, ◌<◌, ◌≤◌}
use mathlib.Core.Path.{◌≡◌, refl, sym, ap, ◌∙◌}
use mathlib.Core.Bool.{Bool, true, false}
use mathlib.Core.List.{List, ◌++◌}
use native.Mathlib.Nat.{mul-le-mul}
use native.Mathlib.Omega.{arith}
use borrow.Author.Tests.{ltb-false, ne_eqb, eqb-false, eqb-true, not-false}
use lib.Dec.{eqb}
use lib.ListN.{length, take, replicate}
use lib.Seq.{take-append-le}
use lib.Ieee.{Float}
use Rattle.arithmetic.specs.Constants.{pz}
use Rattle.refusal.specs.Table.{first, or_else, and_then, Outcome}
use Rattle.refusal.specs.declared.Refusal.{Refusal}
use Rattle.refusal.specs.declared.Refusal.TheVariants.{NoData, DimensionMismatch}
use Rattle.refusal.proofs.Tables.{done_refused, none, then_done, parts_done}
use Rattle.lent.specs.Grid.{over}
use Rattle.lent.specs.declared.Size.{Size}
use Rattle.lent.specs.Lent.{least_scratch, over_limit, sizes, squares, laid, told_of, Answer}
use Rattle.lent.proofs.Laws.{square_in, length_grid}
use Rattle.lent.proofs.Sizes.{within_limit, same_length, told_as, laid_done}
use Rattle.stats.specs.Covariance.{any_low, correlation_cell, correlation_outcome, correlation_answer, correlations}
use Rattle.stats.proofs.Laws.{correlation_squared}
use Rattle.distances.specs.declared.Measure.TheVariants.{Hcaa}
use Rattle.linkage.specs.declared.Distance.{Distance}
use Rattle.linkage.specs.declared.Linkage.{Linkage}
use Rattle.arranging.specs.Arranging.{correlations_of, Arranged}
use Rattle.arranging.proofs.Laws.{told_ok, told_err, laid_front, squares_pass, Arrangeable, arrange_passes, rows_front, order_front}
use Rattle.sharing.specs.Down.{is_sharpe, is_tail_risk, metric_tail_lines}
use Rattle.sharing.proofs.Judged.{Feeding, neither, expecting, feeding}
use Rattle.hierarchy.specs.Hierarchy.{HierarchyCall, Room, room_lines, hierarchy_size_lines, hierarchy_shape_lines, expected_lines, rule_lines, hierarchy_judge_table, hcaa_rows, hcaa_order, square_lines}
use Rattle.hierarchy.specs.Inner.{Sown, Ground, Planted}
use Rattle.std.specs.Prelude.{Ok, Err}

-- ---- the judge

-- n assets, their covariance in a slice of len numbers
pub record Judged (q : HierarchyCall) (n len : ℕ) (room : Room) : Type 0 where
  pub some : 0 < n
  pub few : n ≤ 64
  pub cells : len ≡ n * n
  pub for_rows : 2 * (n - 1) ≤ room.rows
  pub for_order : n ≤ room.order
  pub for_weights : n ≤ room.weights
  pub for_scratch : least_scratch ≤ room.scratch
  pub least : 1 ≤ q.rule.clusters
  pub cut : q.rule.clusters ≤ n
  pub expects : is_sharpe q.rule.metric ≡ true → (q.expected_given ≡ true) × (length q.rule.inputs.expected ≡ n)
  pub limits : over_limit q.rule.inputs.return_rows q.return_columns ≡ false
  pub returns : length q.rule.inputs.returns ≡ q.rule.inputs.return_rows * q.return_columns
  pub feeds : is_tail_risk q.rule.metric ≡ true → Feeding q.rule.inputs q.return_columns n

module _ (q : HierarchyCall) (len rows w : ℕ) (room : Room) (said : Outcome) (e : said ≡ first (hierarchy_judge_table q len rows w room)) where
  pub judged : said ≡ Ok tt → Judged q w len room
  unfolding hierarchy_judge_table hierarchy_size_lines sizes room_lines hierarchy_shape_lines expected_lines rule_lines metric_tail_lines square_lines
  judged d =
      let a = parts_done (hierarchy_size_lines q len rows w) _ (sym e ∙ d) in
      let g = none (hierarchy_size_lines q len rows w) a.0 in
      let s = within_limit rows w g.1.0 in
      let b = parts_done (room_lines w room) _ a.1 in
      let t = none (room_lines w room) b.0 in
      let c = parts_done (hierarchy_shape_lines q rows w) _ b.1 in
      let h = none (hierarchy_shape_lines q rows w) c.0 in
      let x = none (expected_lines q w ++ rule_lines q.rule w) c.1 in
      let k = neither _ _ x.1.1.1.1.0 in
      let no-asset : w ≡ 0 → ⊥ = eqb-false w 0 h.0 in
      let no-count : q.rule.clusters ≡ 0 → ⊥ = eqb-false q.rule.clusters 0 k.0 in
      let square : rows ≡ w = eqb-true rows w (not-false (eqb rows w) h.1.0) in
      record {
        some = omega arith;
        few = s.1;
        cells = same_length len rows w g.1.1.0 ∙ ap (λ (i : ℕ). i * w) square;
        for_rows = ltb-false room.rows (2 * (w - 1)) t.0;
        for_order = ltb-false room.order w t.1.0;
        for_weights = ltb-false room.weights w t.1.1.0;
        for_scratch = ltb-false room.scratch least_scratch t.1.1.1.0;
        least = omega arith;
        cut = ltb-false w q.rule.clusters k.1;
        expects = expecting _ q.expected_given (length q.rule.inputs.expected) w x.0 x.1.0;
        limits = g.0;
        returns = same_length (length q.rule.inputs.returns) q.rule.inputs.return_rows q.return_columns g.1.1.1.0;
        feeds = feeding q.rule.metric q.rule.inputs q.return_columns w h.1.1.0 x.1.1.0 x.1.1.1.0;
      }

  pub sown : Sown said len w room.scratch
  sown = record {
    some = λ d. (judged d).some;
    few = λ d. (judged d).few;
    cells = λ d. (judged d).cells;
    for_scratch = λ d. let m = square_in w (judged d).few in let l = (judged d).for_scratch in omega (arith, m, l);
  }

-- ---- a buffer and its front

pub lays : (room : ℕ) (from blank after : List ℕ) → blank ≡ replicate room 0 → after ≡ over from blank → after ≡ laid 0 (Ok tt) room from
lays room from blank after b e = e ∙ ap (over from) b ∙ laid_done 0 (Ok tt) room from refl

-- ---- the tree

-- the correlations in an array of 4,096 doubles
pub ground : (said : Outcome) (len n scratch tree leaves : ℕ) → Sown said len n scratch → said ≡ Ok tt → tree ≡ 126 → leaves ≡ 64 → Ground len n 4096 scratch tree leaves
ground said len n scratch tree leaves s done a b = record {
  some = s.some done;
  few = s.few done;
  cells = s.cells done;
  for_corr = square_in n (s.few done);
  for_scratch = s.for_scratch done;
  rows = a;
  order = b;
}

-- 256 are enough for at most 16 assets
pub ground_few : (len n scratch tree leaves : ℕ) → Ground len n 4096 scratch tree leaves → n ≤ 16 → Ground len n 256 scratch tree leaves
ground_few len n scratch tree leaves s h = record {
  some = s.some;
  few = s.few;
  cells = s.cells;
  for_corr = mul-le-mul h h;
  for_scratch = s.for_scratch;
  rows = s.rows;
  order = s.order;
}

module _ (d : Distance) (l : Linkage) (cov : List Float) (n : ℕ) where
  -- part is the front of a room, which was lent to the correlations
  module _ (part : ℕ) (a : Answer) (corr scratch tree leaves : ℕ) (s : Ground (length cov) n corr scratch tree leaves) (exact : part ≡ n * n) (g : a ≡ correlation_answer cov n n part) where
    told_low : told_of a ≡ correlation_outcome cov n n part
    unfolding correlation_answer
    told_low = ap told_of g ∙ told_as (correlation_outcome cov n n part) n n

    -- the correlations are refused for a variance alone
    low_said : told_of a ≡ and_then (Ok tt) (or_else (any_low cov n) NoData (Ok tt))
    unfolding or_else
    low_said =
        let some : 0 < n = s.some in
        let z : eqb n 0 ≡ false = ne_eqb n 0 (λ q. omega arith) in
        let q : first (squares (length cov) n n part) ≡ (Ok tt) = squares_pass n s.few (length cov) part s.cells (omega arith) in
        told_low
        ∙ correlation_squared cov n n part q
        ∙ ap (λ (t : Bool). or_else t DimensionMismatch (or_else (any_low cov n) NoData (Ok tt))) z
        ∙ sym (then_done (Ok tt) _ refl)

    -- nothing is said of what is refused
    pub planted_low : (k : Refusal) (tree leaves : List ℕ) → a ≡ Err k → Planted (Ok tt) d l cov n (Err k) tree leaves
    planted_low k tree leaves h =
        record { answer = told_err a k h ∙ low_said; rows_are = λ g. absurd (done_refused k (sym g)); order_is = λ g. absurd (done_refused k (sym g)) }

    module _ (made rest : List Float) (kept : length made ≡ part) (c : made ≡ correlations cov n n part) (z : Size) (fine : a ≡ Ok z) where
      corr_front : take (n * n) (made ++ rest) ≡ correlations_of cov n
      unfolding correlations correlations_of
      corr_front = take-append-le (n * n) made rest (omega arith) ∙ laid_front pz _ part (n * n) _ made c (sym (told_ok a z fine ∙ told_low)) (length_grid n n (correlation_cell cov n))

      pub planted : (b : ℕ) (r : Outcome) (rows order : List ℕ) (between : List Float) → b ≡ n * n
          → Arranged Hcaa d l (take (n * n) (made ++ rest)) n n (record { rows = tree; order = leaves; distances = b }) r rows order between → Planted (Ok tt) d l cov n r rows order
      unfolding hcaa_rows hcaa_order correlations_of
      planted b r rows order between e f =
          let few : n ≤ 64 = s.few in
          let x : tree ≡ 126 = s.rows in
          let y : leaves ≡ 64 = s.order in
          let p : Arrangeable (length (correlations_of cov n)) n n (record { rows = tree; order = leaves; distances = b }) = record {
            some = s.some;
            wide = few;
            square = refl;
            cells = length_grid n n (correlation_cell cov n);
            for_rows = omega arith;
            for_order = omega arith;
            for_distances = omega arith;
          } in
          let f' : Arranged Hcaa d l (correlations_of cov n) n n (record { rows = tree; order = leaves; distances = b }) r rows order between = rw corr_front at f in
          record { answer = f'.answer ∙ arrange_passes _ _ _ _ p ∙ told_ok a z fine ∙ low_said; rows_are = λ _. rows_front Hcaa d l _ n _ r rows order between p f'; order_is = λ _. order_front Hcaa d l _ n _ r rows order between p f' }
