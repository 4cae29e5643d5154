-- `linkage::steps` meets its contract. The invariant: the arrays show the state before row k, and the pairs are those of the steps before it. Assumes nothing.
use borrow.Author.Rules.{rules}
use native.Mathlib.Omega.{arith}
use Prim.Native.Nat.{ℕ, ◌+◌, ◌-◌, ◌*◌, ◌≤◌}
use mathlib.Core.Path.{◌≡◌, refl, sym, ap, subst, ◌∙◌}
use lib.ListN.{length, take, drop}
use Rattle.triangle.proofs.Places.{met_least}
use Rattle.triangle.proofs.Within.{shifted_lined}
use Rattle.linkage.specs.Merge.{state_at, merge_rows}
use Rattle.linkage.specs.Pairs.{pairs_at, pairs_visited}
use Rattle.linkage.proofs.Laws.{drop_more}
use Rattle.linkage.proofs.Front.{numbered_at}
use Rattle.linkage.proofs.Counted.{pairs_none, pairs_more, pairs_least}
use Rattle.linkage.proofs.Stepped.{shown_start, shown_below, shown_rising, shown_next}
use Rattle.linkage.proofs.steps.Goals as goal

pub loop-k-init : goal.loop-k-init
loop-k-init c = (
  search rules,
  refl,
  ap length c.number-2.ensures ∙ (numbered_at c.args.n c.requires.0).0,
  shown_start c.args.method c.args.form c.args.n c.args.xs.now _ _ _ _ c.args.rows.now c.requires.0 c.requires.1 c.number.ensures c.number-2.ensures refl,
  refl,
  sym (pairs_none c.args.method c.args.n c.args.xs.now),
  refl,
)

pub step_once-pairs-requires : goal.step_once-pairs-requires
step_once-pairs-requires c =
    let b : c.loop-k.k + 2 ≤ c.args.n = omega (arith, c.merges-k-end.ensures, c.loop-k-test.true, c.loop-k.invariant.0) in (
      c.requires.0,
      omega arith,
      omega arith,
      omega (arith, c.requires.0),
      shown_below c.args.method c.args.form c.args.n c.loop-k.k c.args.xs.now c.loop-k.d c.loop-k.ids c.loop-k.slots c.loop-k.sizes (take (2 * c.loop-k.k) c.loop-k.rows) c.requires.0 (omega arith) c.loop-k.invariant.2 c.loop-k.invariant.3,
      shown_rising c.args.method c.args.form c.args.n c.loop-k.k c.args.xs.now c.loop-k.d c.loop-k.ids c.loop-k.slots c.loop-k.sizes (take (2 * c.loop-k.k) c.loop-k.rows) c.requires.0 (omega arith) c.loop-k.invariant.2 c.loop-k.invariant.3,
      c.loop-k.invariant.2,
      omega (arith, c.requires.2, c.loop-k.invariant.1, b),
      shifted_lined c.args.form c.args.n _ _ c.requires.0 refl c.shifts.ensures,
      c.loop-k.invariant.3.held.room,
    )

pub overflow_add-pairs : goal.overflow_add-pairs
overflow_add-pairs c =
    let b : c.loop-k.k + 2 ≤ c.args.n = omega (arith, c.merges-k-end.ensures, c.loop-k-test.true, c.loop-k.invariant.0) in
    omega (arith, b, c.requires.0, c.loop-k.invariant.5, c.step_once-pairs.ensures.3, pairs_least c.args.method c.args.n c.args.xs.now c.requires.0 c.loop-k.k (omega arith), met_least (c.args.n - c.loop-k.k) (c.args.n - c.loop-k.k) (omega (arith, c.requires.0)))

pub loop-k-preserved : goal.loop-k-preserved
loop-k-preserved c =
    let b : c.loop-k.k + 2 ≤ c.args.n = omega (arith, c.merges-k-end.ensures, c.loop-k-test.true, c.loop-k.invariant.0) in (
      omega (arith, b),
      c.step_once-pairs.auto.rows ∙ c.loop-k.invariant.1,
      c.step_once-pairs.ensures.2,
      shown_next c.args.method c.args.form c.args.n c.loop-k.k c.args.xs.now c.loop-k.d c.loop-k.ids c.loop-k.slots c.loop-k.sizes (take (2 * c.loop-k.k) c.loop-k.rows) c.requires.0 (omega arith) c.loop-k.invariant.2 c.loop-k.invariant.3 _ _ _ _ _ c.step_once-pairs.ensures.0,
      c.step_once-pairs.ensures.1 ∙ drop_more c.loop-k.rows c.args.rows.now c.loop-k.k c.loop-k.invariant.4,
      omega (arith, c.loop-k.invariant.5, c.step_once-pairs.ensures.3, pairs_more c.args.method c.args.n c.args.xs.now c.requires.0 c.loop-k.k (omega arith)),
      c.step_once-pairs.auto.d ∙ c.loop-k.invariant.6,
    )

pub returns : goal.returns
unfolding merge_rows pairs_visited
returns c =
    let e : c.loop-k.k ≡ c.args.n - 1 = omega (arith, c.merges-k-end.ensures, c.loop-k-test.false, c.loop-k.invariant.0) in (
      subst (λ (j : ℕ). take (2 * j) c.loop-k.rows ≡ (state_at c.args.method c.args.n c.args.xs.now j).rows) e c.loop-k.invariant.3.front.rows,
      subst (λ (j : ℕ). drop (2 * j) c.loop-k.rows ≡ drop (2 * j) c.args.rows.now) e c.loop-k.invariant.4,
      c.loop-k.invariant.5 ∙ ap (pairs_at c.args.method c.args.n c.args.xs.now) e,
    )
