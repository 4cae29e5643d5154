-- What each way through the allocator answers: the tables one after the other, and the buffers. Assumes nothing.
use Prim.Native.Nat.{ℕ, ◌-◌, ◌*◌, ◌≤◌}
use mathlib.Core.Path.{◌≡◌, refl, sym, ap, subst, ◌∙◌}
use mathlib.Core.Bool.{true, not}
use mathlib.Core.List.{List, [], ◌∷◌, ◌++◌}
use native.Mathlib.Omega.{arith}
use borrow.Author.Tests.{ltb-false, eqb-false, eqb-true, not-false}
use lib.Dec.{eqb}
use lib.ListN.{length, take}
use lib.Seq.{take-append-le}
use lib.Ieee.{Float}
use Rattle.arithmetic.specs.Constants.{pz}
use Rattle.refusal.specs.Table.{Line, first, or_else, and_then, Outcome}
use Rattle.refusal.specs.declared.Refusal.{Refusal}
use Rattle.refusal.specs.declared.Refusal.TheVariants.{NoData, DimensionMismatch}
use Rattle.refusal.proofs.Tables.{done_refused, table, table_end, none, first_append, parts_done, then_done, then_refused}
use Rattle.lent.specs.Grid.{zeros}
use Rattle.lent.specs.Lent.{sizes, laid, told_of, Answer}
use Rattle.lent.proofs.Sizes.{sized_done, laid_refused}
use Rattle.stats.specs.Covariance.{any_low}
use Rattle.distances.specs.declared.Measure.TheVariants.{Hrp}
use Rattle.tree.specs.Rows.{is_order}
use Rattle.tree.specs.Order.{seriate_answer, seriated}
use Rattle.linkage.specs.declared.Distance.{Distance}
use Rattle.linkage.specs.declared.Linkage.TheVariants.{Single}
use Rattle.clusters.specs.Shares.{weights_in}
use Rattle.bisection.specs.Bisection.{bisection_shares, bisection_answer, bisection_weights}
use Rattle.arranging.specs.Arranging.{distances_in, tree_order, Arranged}
use Rattle.arranging.proofs.Laws.{Arrangeable, arrange_passes, order_front, distances_front, length_distances, order_each}
use Rattle.rooms.specs.Rooms.{ParityRoom, room_lines, parity_room_lines, square_lines, parity_judge_table, ParityCleared}
use Rattle.parity.specs.Parity.{hrp_risk_lines, parity_table, parity_outcome, correlations_of, hrp_distances, hrp_rows, hrp_order, hrp_shares, ParityLaid, ParityAnswered}
use Rattle.parity.specs.Inner.{ParitySized, ParityReady, ParityWorked}
use Rattle.parity.proofs.Laws.{side_outcome, share_told, share_laid, seriated_laid, seriated_never}
use Rattle.std.specs.Prelude.{Ok, Err}

-- ---- the sizes

pub ready : (said : Outcome) (len rows w : ℕ) (room : ParityRoom) → said ≡ first (parity_judge_table len rows w room) → ParityReady said len w room
unfolding parity_judge_table parity_room_lines room_lines square_lines
ready said len rows w room h =
    record {
      sized = λ d.
          let shape : List Line = (eqb w 0, NoData) ∷ (not (eqb rows w), DimensionMismatch) ∷ [] in
          let a = parts_done (sizes len rows w) (parity_room_lines w room ++ shape) (sym h ∙ d) in
          let s = sized_done len rows w a.0 in
          let t = none (parity_room_lines w room ++ shape) a.1 in
          let q : rows ≡ w = eqb-true rows w (not-false (eqb rows w) t.1.1.1.1.1.1.1.0) in
          let z : w ≡ 0 → ⊥ = eqb-false w 0 t.1.1.1.1.1.1.0 in
          record {
            some = omega arith;
            few = s.wide;
            cells = s.cells ∙ ap (λ (k : ℕ). k * w) q;
            for_rows = ltb-false room.rows (2 * (w - 1)) t.0;
            for_order = ltb-false room.order w t.1.0;
            for_weights = ltb-false room.weights w t.1.1.0;
            for_scratch = ltb-false room.scratch 8192 t.1.1.1.0;
            for_correlations = ltb-false room.correlations (w * w) t.1.1.1.1.0;
            for_distances = ltb-false room.distances (w * w) t.1.1.1.1.1.0;
          };
    }

-- with a part of n by n of the scratch for the distances
pub arrangeable : (len n : ℕ) (room : ParityRoom) (corr : List Float) (part : ℕ) → ParitySized len n room → length corr ≡ n * n → part ≡ n * n → Arrangeable (length corr) n n (record { rows = room.rows; order = room.order; distances = part })
arrangeable len n room corr part p e f =
    record {
      some = p.some;
      wide = p.few;
      square = refl;
      cells = e;
      for_rows = p.for_rows;
      for_order = p.for_order;
      for_distances = omega arith;
    }

-- ---- the tables

module _ (d : Distance) (cov : List Float) where
  -- the sizes, then the risk
  pub parity_said : (rows w : ℕ) (room : ParityRoom) → parity_outcome d cov rows w room ≡ and_then (first (parity_judge_table (length cov) rows w room)) (first (hrp_risk_lines d cov w))
  unfolding parity_outcome parity_table
  parity_said rows w room = first_append (parity_judge_table (length cov) rows w room) (hrp_risk_lines d cov w)

  module _ (n : ℕ) where
    risk_said : first (hrp_risk_lines d cov n) ≡ and_then (or_else (any_low cov n) NoData (Ok tt)) (side_outcome cov n (hrp_order d cov n))
    unfolding hrp_risk_lines side_outcome hrp_shares
    risk_said = first_append ((any_low cov n, NoData) ∷ []) _ ∙ ap (λ (o : Outcome). and_then o (side_outcome cov n (hrp_order d cov n))) (simp (table, table_end))

    -- ---- the ways out of `work`

    module _ (said : Outcome) (room : ParityRoom) (rows order : List ℕ) (weights correlations distances scratch : List Float) where
      pub worked_refused : (k : Refusal) → said ≡ Err k → ParityWorked said d cov n room (Err k) rows order weights correlations distances scratch
      worked_refused k h = record { answer = sym (then_refused _ _ k h); filled = λ g. absurd (done_refused k (sym g)) }

      pub worked_low : (k : Refusal) → said ≡ Ok tt → Err k ≡ or_else (any_low cov n) NoData (Ok tt) → ParityWorked said d cov n room (Err k) rows order weights correlations distances scratch
      worked_low k s e =
          record {
            answer = sym (then_done _ _ s ∙ risk_said ∙ then_refused _ _ k (sym e));
            filled = λ g. absurd (done_refused k (sym g));
          }

      -- mid is the part that comes back, rest what lies past it
      module _ (p : ParitySized (length cov) n room) (corr mid rest : List Float) (q : corr ≡ correlations_of cov n) (e : length corr ≡ n * n) (part : ℕ) (f : part ≡ n * n) (kept : length mid ≡ part) (said₁ : Outcome)
          (t : Arranged Hrp d Single corr n n (record { rows = room.rows; order = room.order; distances = part }) said₁ rows order mid) where
        front : take n order ≡ tree_order Hrp d Single corr n
        front = order_front Hrp d Single corr n _ said₁ rows order mid (arrangeable (length cov) n room corr part p e f) t

        far : take (n * n) (mid ++ rest) ≡ distances_in Hrp corr n
        far = take-append-le (n * n) mid rest (omega arith) ∙ distances_front Hrp d Single corr n _ said₁ rows order mid (arrangeable (length cov) n room corr part p e f) t

        each : is_order (take n order) n ≡ true
        each = rw front (order_each Hrp d Single corr n p.some p.few)

        order_is : take n order ≡ hrp_order d cov n
        unfolding hrp_order
        order_is = front ∙ ap (λ (x : List Float). tree_order Hrp d Single x n) q

        -- neither the tree nor what is ordered as its leaves is refused
        pub arranged_never : (k : Refusal) → said₁ ≡ Err k → ⊥
        arranged_never k h = done_refused k (sym (t.answer ∙ arrange_passes corr n n _ (arrangeable (length cov) n room corr part p e f)) ∙ h)

        pub alike_never : (x : ℕ) → n * n ≤ x → (a : Answer) → a ≡ seriate_answer corr n n (take n order) x → (k : Refusal) → a ≡ Err k → ⊥
        alike_never x y a g k h = seriated_never n p.few corr (take n order) e each x y a g k h

        pub far_never : (x : ℕ) → n * n ≤ x → (a : Answer) → a ≡ seriate_answer (take (n * n) (mid ++ rest)) n n (take n order) x → (k : Refusal) → a ≡ Err k → ⊥
        far_never x y a g k h =
            seriated_never n p.few (take (n * n) (mid ++ rest)) (take n order) (ap length far ∙ length_distances Hrp d Single corr n) each x y a g k h

        pub worked_done : (r : Outcome) (a : Answer) → said ≡ Ok tt → Ok tt ≡ or_else (any_low cov n) NoData (Ok tt)
            → correlations ≡ seriated corr n n (take n order) room.correlations → (x : ℕ) → x ≡ room.distances → distances ≡ seriated (take (n * n) (mid ++ rest)) n n (take n order) x → (s : ℕ) → s ≡ room.scratch → scratch ≡ zeros s
            → a ≡ bisection_answer cov n n (take n order) room.weights → r ≡ told_of a → weights ≡ bisection_weights cov n n (take n order) room.weights
            → ParityWorked said d cov n room r rows order weights correlations distances scratch
        unfolding hrp_rows hrp_order hrp_shares hrp_distances
        worked_done r a u v c1 x y c2 s z zs b rt ws =
            let done = arrange_passes corr n n _ (arrangeable (length cov) n room corr part p e f) in
            let side : r ≡ side_outcome cov n (take n order) = share_told n p.some p.few cov p.cells (take n order) each room.weights p.for_weights a r b rt in
            record {
              answer = side ∙ ap (side_outcome cov n) order_is ∙ sym (then_done _ _ u ∙ risk_said ∙ then_done _ _ (sym v));
              filled = λ g. record {
                rows_are = t.rows_are ∙ rw (done, q);
                order_is = t.order_is ∙ rw (done, q);
                weights_are = share_laid n p.some p.few cov p.cells (take n order) each room.weights p.for_weights weights ws (sym side ∙ g) ∙ ap (λ (x : List ℕ). laid pz (Ok tt) room.weights (weights_in (bisection_shares cov n x))) order_is;
                correlations_are = seriated_laid n p.few corr (take n order) correlations e each room.correlations p.for_correlations c1 ∙ rw (order_is, q);
                distances_are = seriated_laid n p.few (take (n * n) (mid ++ rest)) (take n order) distances (ap length far ∙ length_distances Hrp d Single corr n) each room.distances p.for_distances (c2 ∙ ap (seriated (take (n * n) (mid ++ rest)) n n (take n order)) y) ∙ rw (order_is, far, q);
                scratch_is = zs ∙ ap zeros z;
              };
            }

    -- ---- the buffers after a refusal

    pub laid_cleared : (o : Outcome) (room : ParityRoom) (rows order : List ℕ) (weights correlations distances scratch : List Float) (k : Refusal)
        → o ≡ Err k → ParityCleared room rows order weights correlations distances scratch → ParityLaid o d cov n room rows order weights correlations distances scratch
    laid_cleared o room rows order weights correlations distances scratch k e z =
        record {
          rows_are = z.shared.rows_are ∙ laid_refused 0 o k _ _ e;
          order_is = z.shared.order_is ∙ laid_refused 0 o k _ _ e;
          weights_are = z.shared.weights_are ∙ laid_refused pz o k _ _ e;
          correlations_are = z.correlations_are ∙ laid_refused pz o k _ _ e;
          distances_are = z.distances_are ∙ laid_refused pz o k _ _ e;
          scratch_is = z.shared.scratch_is;
        }

-- buffers that kept their lengths
pub same_room : (a b c d e f a' b' c' d' e' f' : ℕ) → a ≡ a' → b ≡ b' → c ≡ c' → d ≡ d' → e ≡ e' → f ≡ f'
    → ◌≡◌ {A = ParityRoom} (record { rows = a; order = b; weights = c; correlations = d; distances = e; scratch = f }) (record { rows = a'; order = b'; weights = c'; correlations = d'; distances = e'; scratch = f' })
same_room a b c d e f a' b' c' d' e' f' p q r s t u = cc

pub cleared_as : (rows order : List ℕ) (weights correlations distances scratch : List Float) (a b : ParityRoom) → a ≡ b
    → ParityCleared a rows order weights correlations distances scratch → ParityCleared b rows order weights correlations distances scratch
cleared_as rows order weights correlations distances scratch a b e z = subst (λ (r : ParityRoom). ParityCleared r rows order weights correlations distances scratch) e z

-- ---- the whole call

module _ (d : Distance) (cov : List Float) (rows_in w : ℕ) (room : ParityRoom) (said r : Outcome) (rows order : List ℕ) (weights correlations distances scratch : List Float) (e : said ≡ first (parity_judge_table (length cov) rows_in w room)) where
  answer_is : r ≡ and_then said (first (hrp_risk_lines d cov w)) → r ≡ parity_outcome d cov rows_in w room
  answer_is a = a ∙ ap (λ (o : Outcome). and_then o (first (hrp_risk_lines d cov w))) e ∙ sym (parity_said d cov rows_in w room)

  pub answered_refused : (k : Refusal) (rows₁ order₁ : List ℕ) (weights₁ correlations₁ distances₁ scratch₁ : List Float) → ParityWorked said d cov w room r rows₁ order₁ weights₁ correlations₁ distances₁ scratch₁ → r ≡ Err k
      → ParityCleared room rows order weights correlations distances scratch → ParityAnswered d cov rows_in w room r rows order weights correlations distances scratch
  answered_refused k rows₁ order₁ weights₁ correlations₁ distances₁ scratch₁ a h z =
      let t = answer_is a.answer in
      record { answer = t; buffers = laid_cleared d cov w _ room rows order weights correlations distances scratch k (sym t ∙ h) z }

  pub answered_done : ParityWorked said d cov w room r rows order weights correlations distances scratch → r ≡ Ok tt → ParityAnswered d cov rows_in w room r rows order weights correlations distances scratch
  answered_done a h =
      let t = answer_is a.answer in
      let q : parity_outcome d cov rows_in w room ≡ (Ok tt) = sym t ∙ h in
      record { answer = t; buffers = rw q (a.filled h) }
