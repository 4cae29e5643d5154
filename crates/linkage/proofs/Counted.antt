-- How many live pairs the scans visit: (m² − m)/2 where m slots are live, and (n³ − n)/6 over all n − 1 steps. Assumes nothing.
use Prim.Native.Nat.{ℕ, zero, suc, ◌+◌, ◌-◌, ◌*◌, ◌≤◌, zero-le}
use mathlib.Core.Path.{◌≡◌, refl, ap, ◌∙◌}
use mathlib.Core.Bool.{Bool}
use mathlib.Core.List.{List}
use native.Mathlib.Nat.{add-mul, mul-add, mul-one, one-mul, mul_assoc}
use native.Mathlib.Numerals.{add-one}
use native.Mathlib.Omega.{arith}
use lib.ListN.{length}
use lib.Seq.{take-length}
use lib.Ieee.{Float}
use Rattle.lent.specs.Range.{range}
use Rattle.lent.proofs.Range.{range_none, range_suc}
use Rattle.refusal.specs.declared.Refusal.{Refusal}
use Rattle.linkage.specs.declared.Linkage.{Linkage}
use Rattle.linkage.specs.Merge.{state_at}
use Rattle.slots.specs.Inner.{packed}
use Rattle.slots.proofs.Packed.{packed_length}
use Rattle.triangle.specs.Triangle.{met}
use Rattle.triangle.proofs.Places.{square, met_all, met_least}
use Rattle.linkage.specs.Pairs.{count_all, pairs_at, pairs_visited}
use Rattle.linkage.specs.Children.{children_outcome, children_answer, joined_of, pairs_of}
use Rattle.linkage.proofs.Judged.{children_done}
use Rattle.linkage.proofs.Rows.{state_inv}
use Rattle.linkage.proofs.Packed.{count_packed}
use Rattle.std.specs.Prelude.{Ok, Err}

-- (r + 1)³
cube : (r : ℕ) → (r + 1) * (r + 1) * (r + 1) ≡ r * r * r + 3 * (r * r) + 3 * r + 1
cube r =
    ap (λ (q : ℕ). q * (r + 1)) (square r)
    ∙ mul-add (r * r + 2 * r + 1) r 1
    ∙ omega (arith, mul-one (r * r + 2 * r + 1), add-mul (r * r + 2 * r) 1 r, add-mul (r * r) (2 * r) r, one-mul r, mul_assoc 2 r r)

-- the pairs of one scan
pub count_lives : (n k : ℕ) (live : List Bool) → length (packed n live) + k ≡ n → count_all n live ≡ met (n - k) (n - k)
count_lives n k live e =
    let z : length (packed n live) ≡ n - k = omega arith in
    count_packed n (length (packed n live)) (packed n live) live (omega arith) (take-length (packed n live)) ∙ ap (λ (m : ℕ). met m m) z

pub pairs_none : (l : Linkage) (n : ℕ) (xs : List Float) → pairs_at l n xs 0 ≡ 0
unfolding pairs_at
pairs_none l n xs = range_none (λ j c. c + count_all n (state_at l n xs j).live) 0 0 0 zero-le

pub pairs_more : (l : Linkage) (n : ℕ) (xs : List Float) → n ≤ 64 → (k : ℕ) → k + 1 ≤ n → pairs_at l n xs (k + 1) ≡ pairs_at l n xs k + met (n - k) (n - k)
unfolding pairs_at
pairs_more l n xs h k b =
    let i = state_inv l n xs h k b in
    let live = (state_at l n xs k).live in
    let e : count_all n live ≡ met (n - k) (n - k) = count_lives n k live (omega (arith, packed_length n live, i.left)) in
    ap (λ (j : ℕ). range (λ j c. c + count_all n (state_at l n xs j).live) 0 j 0) (add-one k)
    ∙ range_suc (λ j c. c + count_all n (state_at l n xs j).live) 0 k 0 zero-le
    ∙ ap (λ (c : ℕ). pairs_at l n xs k + c) e

-- no more than 4,096 for each step
pub pairs_least : (l : Linkage) (n : ℕ) (xs : List Float) → n ≤ 64 → (k : ℕ) → k ≤ n → pairs_at l n xs k ≤ 4096 * k
pairs_least l n xs h zero b = omega (arith, pairs_none l n xs)
pairs_least l n xs h (suc k) b =
    let e = pairs_more l n xs h k (omega arith) in
    let r = pairs_least l n xs h k (omega arith) in
    let z = met_least (n - k) (n - k) (omega arith) in
    rw (← add-one k) (omega arith)

-- after k steps, with r slots left
pairs_left : (l : Linkage) (n : ℕ) (xs : List Float) → n ≤ 64 → (k r : ℕ) → k + r ≡ n → 1 ≤ r → 6 * pairs_at l n xs k + r * r * r + n ≡ n * n * n + r
pairs_left l n xs h zero r e b =
    let z : r ≡ n = omega arith in
    rw z (omega (arith, pairs_none l n xs))
pairs_left l n xs h (suc k) r e b =
    let t = pairs_left l n xs h k (r + 1) (omega arith) (omega arith) in
    let p = pairs_more l n xs h k (omega arith) in
    let z : n - k ≡ r + 1 = omega arith in
    let p' : pairs_at l n xs (k + 1) ≡ pairs_at l n xs k + met (r + 1) (r + 1) = p ∙ ap (λ (m : ℕ). pairs_at l n xs k + met m m) z in
    rw (← add-one k) (omega (arith, t, p', met_all (r + 1), square r, cube r))

-- "(n³ − n)/6 pairs in all for n ≥ 1"
pub all_pairs : (l : Linkage) (n : ℕ) (xs : List Float) → n ≤ 64 → 1 ≤ n → 6 * pairs_visited l n xs + n ≡ n * n * n
unfolding pairs_visited
all_pairs l n xs h b = omega (arith, pairs_left l n xs h (n - 1) 1 (omega arith) (omega arith))

-- the same of what a call answers, and 0 of a refused one
pub told_pairs : (l : Linkage) (xs : List Float) (rows w room : ℕ) → children_outcome xs rows w room ≡ Ok tt → 1 ≤ w
    → 6 * pairs_of (children_answer l xs rows w room) + w ≡ w * w * w
unfolding children_answer joined_of pairs_of children_outcome
told_pairs l xs rows w room e b =
    rw e (all_pairs l w xs (children_done (length xs) rows w room e).wide b)

pub no_pairs : (l : Linkage) (xs : List Float) (rows w room : ℕ) (r : Refusal) → children_outcome xs rows w room ≡ Err r
    → pairs_of (children_answer l xs rows w room) ≡ 0
unfolding children_answer joined_of pairs_of
no_pairs l xs rows w room r e = rw e refl
