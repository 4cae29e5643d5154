-- `millionths::total` meets its contract. Each whole part is at most 1,000,000, so that the sum fits. Assumes nothing.
use Prim.Native.Nat.{ℕ, zero, suc, ◌+◌, ◌*◌, ◌≤◌, ◌<◌}
use mathlib.Core.Path.{◌≡◌, refl, ap, ◌∙◌}
use mathlib.Core.List.{List, [], ◌∷◌}
use native.Mathlib.Omega.{arith}
use lib.ListN.{length, get_or}
use Rattle.std.proofs.Common.{of_calls, sum}
use Rattle.std.proofs.lemmas.Iterator.{YieldsList-from_slice}
use Rattle.std.proofs.lemmas.Iterator.Consumers.{sum_from_yields_List, fits_from_yields_list}
use Rattle.std.proofs.lemmas.List.Sums.{sum_by-cons}
use Rattle.lent.specs.Count.{upto, over_all}
use Rattle.lent.proofs.Counting.{over_all_places}
use Rattle.millionths.proofs.total.Goals as goal

sum_over : (l : List ℕ) → sum l ≡ over_all (λ x. x) l
unfolding over_all
sum_over [] = refl
sum_over (x ∷ l) = sum_by-cons (λ (y : ℕ). y) x l ∙ ap (λ (s : ℕ). x + s) (sum_over l)

sum_upto : (l : List ℕ) → sum l ≡ upto (λ i. get_or l i 0) (length l)
sum_upto l = sum_over l ∙ over_all_places l (length l) (λ i. get_or l i 0) refl (λ k h. refl)

upto_most : (f : ℕ → ℕ) (n : ℕ) → ((i : ℕ) → i < n → f i ≤ 1000000) → upto f n ≤ 1000000 * n
unfolding upto
upto_most f zero h = omega arith
upto_most f (suc n) h = omega (arith, upto_most f n (λ i k. h i (omega arith)), h n (omega arith))

pub sum-requires : goal.sum-requires
sum-requires c =
    let most = upto_most (λ i. get_or c.args.wholes.now i 0) (length c.args.wholes.now) c.requires.small in
    record {
      can = search of_calls;
      finite = search of_calls;
      fits = fits_from_yields_list c.iter.result _ (YieldsList-from_slice c.args.wholes.now cc) (omega (arith, sum_upto c.args.wholes.now, most, c.requires.few));
    }

pub returns : goal.returns
returns c = sum_from_yields_List c.iter.result _ c.sum.ensures.ran (YieldsList-from_slice c.args.wholes.now cc) ∙ sum_upto c.args.wholes.now
