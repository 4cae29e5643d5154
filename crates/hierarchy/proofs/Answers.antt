-- How a call ends: with what is promised of it. Assumes nothing.
use Prim.Native.Nat.{ℕ, ◌-◌, ◌*◌, ◌≤◌}
use mathlib.Core.Path.{◌≡◌, refl, sym, ap, ◌∙◌}
use mathlib.Core.Bool.{Bool, true, false}
use mathlib.Core.List.{List, [], ◌∷◌}
use native.Mathlib.Omega.{arith}
use lib.ListN.{length, take}
use lib.Seq.{length-take-le}
use lib.Ieee.{Float}
use Rattle.arithmetic.specs.Constants.{pz}
use Rattle.refusal.specs.Table.{first, or_else, and_then, Outcome}
use Rattle.refusal.specs.declared.Refusal.{Refusal}
use Rattle.refusal.specs.declared.Refusal.TheVariants.{NoData}
use Rattle.refusal.proofs.Tables.{done_refused, table, first_append, first_refused, then_done, then_refused}
use Rattle.lent.specs.Grid.{zeros, noughts}
use Rattle.lent.specs.declared.Size.{Size}
use Rattle.lent.specs.Lent.{laid, told_of, Answer}
use Rattle.lent.proofs.Sizes.{told_as, laid_refused}
use Rattle.stats.specs.Covariance.{any_low}
use Rattle.tree.specs.Rows.{is_tree}
use Rattle.linkage.specs.declared.Distance.{Distance}
use Rattle.linkage.specs.declared.Linkage.{Linkage}
use Rattle.distances.specs.declared.Measure.TheVariants.{Hcaa}
use Rattle.arranging.proofs.Laws.{told_ok, told_err, tree_is}
use Rattle.clusters.specs.Shares.{is_none}
use Rattle.sharing.specs.Allot.{down_shares}
use Rattle.sharing.specs.Down.{DownCall, down_outcome, down_answer, down_weights}
use Rattle.sharing.specs.Inner.{down_call}
use Rattle.sharing.proofs.Judged.{Right, down_as_shares}
use Rattle.hierarchy.specs.Hierarchy.{Rule, HierarchyCall, Room, Cleared, hierarchy_judge_table, hcaa_risk_lines, hierarchy_table, hierarchy_outcome, hcaa_rows, hcaa_shares, HierarchyLaid, HierarchyAnswered}
use Rattle.hierarchy.specs.Inner.{Ground, Planted, HierarchyWorked}
use Rattle.hierarchy.proofs.Laws.{Judged, judged, sown, ground}
use Rattle.std.specs.Prelude.{Ok, Err}

-- buffers that are cleared are what a refusal leaves
pub laid_cleared : (o : Outcome) (k : Refusal) (q : Rule) (d : Distance) (l : Linkage) (cov : List Float) (n : ℕ) (room : Room) (rows order : List ℕ) (weights scratch : List Float)
    → o ≡ Err k → Cleared room rows order weights scratch → HierarchyLaid o q d l cov n room rows order weights scratch
laid_cleared o k q d l cov n room rows order weights scratch e z =
    record {
      rows_are = z.rows_are ∙ laid_refused 0 o k _ _ e;
      order_is = z.order_is ∙ laid_refused 0 o k _ _ e;
      weights_are = z.weights_are ∙ laid_refused pz o k _ _ e;
      scratch_is = z.scratch_is;
    }

-- a line between two stages belongs to the first
joined : (a : Outcome) (t : Bool) (k : Refusal) (b : Outcome) → and_then a (or_else t k b) ≡ and_then (and_then a (or_else t k (Ok tt))) b
unfolding and_then or_else
joined (Ok _) true k b = refl
joined (Ok _) false k b = refl
joined (Err r) t k b = refl

module _ (q : HierarchyCall) (d : Distance) (l : Linkage) (cov : List Float) (rows_in n : ℕ) (room : Room) where
  -- ---- the ways out of `work`

  pub judge_refuses : (k : Refusal) → first (hierarchy_judge_table q (length cov) rows_in n room) ≡ Err k → (rows order : List ℕ) (weights scratch : List Float) → HierarchyWorked q d l cov rows_in n room (Err k) rows order weights scratch
  unfolding hierarchy_outcome hierarchy_table
  judge_refuses k h rows order weights scratch =
      record { answer = sym (first_refused (hierarchy_judge_table q (length cov) rows_in n room) _ k h); filled = λ g. absurd (done_refused k (sym g)) }

  module _ (fine : first (hierarchy_judge_table q (length cov) rows_in n room) ≡ Ok tt) where
    pub passed : Judged q n (length cov) room
    passed = judged q (length cov) rows_in n room _ refl fine

    pub grounded : (tree leaves : ℕ) → tree ≡ 126 → leaves ≡ 64 → Ground (length cov) n 4096 room.scratch tree leaves
    grounded tree leaves a b = ground _ _ n _ tree leaves (sown q (length cov) rows_in n room _ refl) fine a b

    module _ (said : Outcome) (tree leaves : List ℕ) (p : Planted (Ok tt) d l cov n said tree leaves) where
      -- what the variances said, then the sharing
      outcome_is : hierarchy_outcome q d l cov rows_in n room ≡ and_then said (first ((is_none (hcaa_shares q.rule d l cov n), NoData) ∷ []))
      unfolding hierarchy_outcome hierarchy_table hcaa_risk_lines
      outcome_is =
          first_append (hierarchy_judge_table q (length cov) rows_in n room) _
          ∙ ap (and_then (first (hierarchy_judge_table q (length cov) rows_in n room))) (table (any_low cov n) NoData _)
          ∙ joined _ (any_low cov n) NoData _
          ∙ ap (λ (o : Outcome). and_then o (first ((is_none (hcaa_shares q.rule d l cov n), NoData) ∷ []))) (ap (λ (o : Outcome). and_then o (or_else (any_low cov n) NoData (Ok tt))) fine ∙ sym p.answer)

      pub plant_refuses : (k : Refusal) → said ≡ Err k → (rows order : List ℕ) (weights scratch : List Float) → HierarchyWorked q d l cov rows_in n room (Err k) rows order weights scratch
      plant_refuses k h rows order weights scratch = record { answer = sym (outcome_is ∙ then_refused said _ k h); filled = λ g. absurd (done_refused k (sym g)) }

      module _ (h : said ≡ Ok tt) where
        abbrev made : List ℕ
        made = take (2 * (n - 1)) tree

        abbrev asked : DownCall
        asked = down_call q.rule.metric q.rule.inputs q.expected_given q.return_columns cov n n made n q.rule.clusters

        made_tree : is_tree made n ≡ true
        unfolding hcaa_rows
        made_tree = rw (p.rows_are h) (tree_is Hcaa d l _ n passed.some passed.few)

        right : Right asked room.weights room.scratch
        right =
            let s = passed.some in
            record {
              some = omega arith;
              most = passed.few;
              height = refl;
              width = refl;
              cells = passed.cells;
              fits = passed.for_weights;
              tree = made_tree;
              least = passed.least;
              cut = passed.cut;
              expects = passed.expects;
              enough = passed.for_scratch;
              limits = passed.limits;
              returns = passed.returns;
              feeds = passed.feeds;
            }

        shared : down_outcome asked room.weights room.scratch ≡ hierarchy_outcome q d l cov rows_in n room
        unfolding hcaa_shares
        shared =
            down_as_shares asked room.weights room.scratch right
            ∙ ap (λ (t : List ℕ). first ((is_none (down_shares q.rule.metric q.rule.inputs cov t n q.rule.clusters), NoData) ∷ [])) (p.rows_are h)
            ∙ sym (outcome_is ∙ then_done said _ h)

        -- back is the length of the scratch that planting gave back
        module _ (a : Answer) (back : ℕ) (k : back ≡ room.scratch)
            (f : a ≡ down_answer (down_call q.rule.metric q.rule.inputs q.expected_given q.return_columns cov n n (take (2 * (n - 1)) tree) n q.rule.clusters) room.weights back) (rows order : List ℕ) (weights scratch : List Float) where
          sharing_said : told_of a ≡ hierarchy_outcome q d l cov rows_in n room
          unfolding down_answer
          sharing_said = ap told_of f ∙ told_as (down_outcome asked room.weights back) 1 n ∙ rw k shared

          pub sharing_refuses : (r : Refusal) → a ≡ Err r → HierarchyWorked q d l cov rows_in n room (Err r) rows order weights scratch
          sharing_refuses r e = record { answer = told_err a r e ∙ sharing_said; filled = λ g. absurd (done_refused r (sym g)) }

          pub worked_done : (s : Size) → a ≡ Ok s
              → weights ≡ down_weights (down_call q.rule.metric q.rule.inputs q.expected_given q.return_columns cov n n (take (2 * (n - 1)) tree) n q.rule.clusters) room.weights back
              → scratch ≡ zeros back → rows ≡ laid 0 (Ok tt) room.rows (take (2 * (n - 1)) tree) → order ≡ laid 0 (Ok tt) room.order (take n leaves)
              → HierarchyWorked q d l cov rows_in n room (Ok tt) rows order weights scratch
          unfolding down_weights hcaa_shares
          worked_done s e w z x y =
              let o : (Ok tt) ≡ hierarchy_outcome q d l cov rows_in n room = told_ok a s e ∙ sharing_said in
              record {
                answer = o;
                filled = λ _. record {
                  rows_are = x ∙ rw (p.rows_are h);
                  order_is = y ∙ rw (p.order_is h);
                  weights_are = w ∙ rw (k, shared ∙ sym o, p.rows_are h);
                  scratch_is = z ∙ ap zeros k;
                };
              }

    -- ---- sizes

    pub rows_in_tree : (tree : List ℕ) → length tree ≡ 126 → 2 * (n - 1) ≤ length tree
    rows_in_tree tree t = let k : n ≤ 64 = passed.few in omega arith

    pub order_in_leaves : (leaves : List ℕ) → length leaves ≡ 64 → n ≤ length leaves
    order_in_leaves leaves t = let k : n ≤ 64 = passed.few in omega arith

    pub rows_fit : (tree : List ℕ) → length tree ≡ 126 → length (take (2 * (n - 1)) tree) ≤ room.rows
    rows_fit tree t = let k : length (take (2 * (n - 1)) tree) ≡ 2 * (n - 1) = length-take-le _ tree (rows_in_tree tree t) in let f : 2 * (n - 1) ≤ room.rows = passed.for_rows in omega arith

    pub order_fits : (leaves : List ℕ) → length leaves ≡ 64 → length (take n leaves) ≤ room.order
    order_fits leaves t = let k : length (take n leaves) ≡ n = length-take-le _ leaves (order_in_leaves leaves t) in let f : n ≤ room.order = passed.for_order in omega arith

  -- ---- the whole call

  module _ (rows order : List ℕ) (weights scratch : List Float) where
    -- a, b, c and s are the lengths of the buffers that `work` gave back
    pub answered_refused : (k : Refusal) (rows₁ order₁ : List ℕ) (weights₁ scratch₁ : List Float) (a b c s : ℕ) → a ≡ room.rows → b ≡ room.order → c ≡ room.weights → s ≡ room.scratch
        → HierarchyWorked q d l cov rows_in n room (Err k) rows₁ order₁ weights₁ scratch₁ → Cleared (record { rows = a; order = b; weights = c; scratch = s }) rows order weights scratch
        → HierarchyAnswered q d l cov rows_in n room (Err k) rows order weights scratch
    answered_refused k rows₁ order₁ weights₁ scratch₁ a b c s ea eb ec es p z =
        let all : Cleared room rows order weights scratch = record { rows_are = z.rows_are ∙ ap noughts ea; order_is = z.order_is ∙ ap noughts eb; weights_are = z.weights_are ∙ ap zeros ec; scratch_is = z.scratch_is ∙ ap zeros es } in
        record { answer = p.answer; buffers = laid_cleared _ k q.rule d l cov n room rows order weights scratch (sym p.answer) all }

    pub answered_done : HierarchyWorked q d l cov rows_in n room (Ok tt) rows order weights scratch → HierarchyAnswered q d l cov rows_in n room (Ok tt) rows order weights scratch
    answered_done p = record { answer = p.answer; buffers = rw (sym p.answer) (p.filled refl) }
