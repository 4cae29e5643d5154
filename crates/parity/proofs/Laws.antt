-- The steps on buffers that are large enough: the correlations are refused for a variance alone, the weights for a side alone, and each buffer holds its cells. Assumes nothing.
use Prim.Native.Nat.{ℕ, ◌*◌, ◌<◌, ◌≤◌}
use mathlib.Core.Path.{◌≡◌, sym, ap, ◌∙◌}
use mathlib.Core.Bool.{true, false}
use mathlib.Core.List.{List, [], ◌∷◌}
use native.Mathlib.Omega.{arith}
use borrow.Author.Tests.{ne_eqb}
use lib.Dec.{eqb}
use lib.ListN.{length, take}
use lib.Ieee.{Float}
use Rattle.arithmetic.specs.Constants.{pz}
use Rattle.refusal.specs.Table.{first, or_else, Outcome}
use Rattle.refusal.specs.declared.Refusal.{Refusal}
use Rattle.refusal.specs.declared.Refusal.TheVariants.{NoData}
use Rattle.lent.specs.declared.Size.{Size}
use Rattle.lent.specs.Lent.{laid, told_of, Answer}
use Rattle.lent.proofs.Sizes.{told_as}
use Rattle.lent.proofs.Laws.{length_grid}
use Rattle.stats.specs.Covariance.{any_low, correlation_outcome, correlation_answer, correlations}
use Rattle.stats.proofs.Laws.{correlation_squared}
use Rattle.tree.specs.Rows.{is_order}
use Rattle.tree.specs.Order.{seriate_outcome, seriate_answer, seriated}
use Rattle.tree.proofs.Answer.{seriate_passes}
use Rattle.clusters.specs.Shares.{is_none, weights_in}
use Rattle.bisection.specs.Bisection.{bisection_shares, bisection_outcome, bisection_answer, bisection_weights}
use Rattle.bisection.proofs.Laws.{bisection_as_shares}
use Rattle.arranging.proofs.Laws.{told_ok, told_err, done_never, laid_front, squares_pass}
use Rattle.parity.specs.Parity.{correlations_of, seriated_in}
use Rattle.std.specs.Prelude.{Ok, Err}

-- "side 1", by itself
unfoldable pub side_outcome : List Float → ℕ → List ℕ → Outcome
side_outcome cov n order = first ((is_none (bisection_shares cov n order), NoData) ∷ [])

pub length_alike : (cov corr : List Float) (n : ℕ) → corr ≡ correlations_of cov n → length corr ≡ n * n
unfolding correlations_of
length_alike cov corr n q = ap length q ∙ length_grid n n _

module _ (n : ℕ) (some : 0 < n) (few : n ≤ 64) (cov : List Float) (cells : length cov ≡ n * n) where
  module _ (room : ℕ) (roomy : n * n ≤ room) (a : Answer) (g : a ≡ correlation_answer cov n n room) where
    low_is : told_of a ≡ correlation_outcome cov n n room
    unfolding correlation_answer
    low_is = ap told_of g ∙ told_as (correlation_outcome cov n n room) n n

    low_said : told_of a ≡ or_else (any_low cov n) NoData (Ok tt)
    unfolding or_else
    low_said =
        let z : eqb n 0 ≡ false = ne_eqb n 0 (λ q. omega (arith, some)) in
        low_is ∙ correlation_squared cov n n room (squares_pass n few (length cov) room cells roomy) ∙ rw z

    pub low_refused : (k : Refusal) → a ≡ Err k → Err k ≡ or_else (any_low cov n) NoData (Ok tt)
    low_refused k h = told_err a k h ∙ low_said

    module _ (s : Size) (h : a ≡ Ok s) where
      pub low_done : Ok tt ≡ or_else (any_low cov n) NoData (Ok tt)
      low_done = told_ok a s h ∙ low_said

      pub correlations_front : (out : List Float) → out ≡ correlations cov n n room → take (n * n) out ≡ correlations_of cov n
      unfolding correlations correlations_of
      correlations_front out e = laid_front pz _ room (n * n) _ out e (sym (told_ok a s h ∙ low_is)) (length_grid n n _)

  module _ (order : List ℕ) (o : is_order order n ≡ true) (room : ℕ) (roomy : n ≤ room) where
    side_said : bisection_outcome cov n n order room ≡ side_outcome cov n order
    unfolding side_outcome
    side_said = bisection_as_shares cov n order room some few cells o roomy

    pub share_told : (a : Answer) (r : Outcome) → a ≡ bisection_answer cov n n order room → r ≡ told_of a → r ≡ side_outcome cov n order
    unfolding bisection_answer
    share_told a r g h = h ∙ ap told_of g ∙ told_as (bisection_outcome cov n n order room) 1 n ∙ side_said

    pub share_laid : (out : List Float) → out ≡ bisection_weights cov n n order room → side_outcome cov n order ≡ Ok tt → out ≡ laid pz (Ok tt) room (weights_in (bisection_shares cov n order))
    unfolding bisection_weights
    share_laid out g e = g ∙ rw (side_said, e)

pub seriated_laid : (n : ℕ) → n ≤ 64 → (m : List Float) (order : List ℕ) (out : List Float) → length m ≡ n * n → is_order order n ≡ true → (room : ℕ) → n * n ≤ room → out ≡ seriated m n n order room
    → out ≡ laid pz (Ok tt) room (seriated_in order m n)
unfolding seriated seriated_in
seriated_laid n few m order out e o room f g = g ∙ rw (seriate_passes m n n order room (squares_pass n few (length m) room e f) o)

-- what is ordered as its leaves are is not refused
pub seriated_never : (n : ℕ) → n ≤ 64 → (m : List Float) (order : List ℕ) → length m ≡ n * n → is_order order n ≡ true → (room : ℕ) → n * n ≤ room → (a : Answer) → a ≡ seriate_answer m n n order room → (k : Refusal) → a ≡ Err k → ⊥
unfolding seriate_answer
seriated_never n few m order e o room f a g k h =
    done_never (seriate_outcome m n n order room) n n a k (seriate_passes m n n order room (squares_pass n few (length m) room e f) o) g h
