-- The tally of a list while it is made: what is counted, and what is left of the list, make the count. Assumes nothing.
use mathlib.Core.Path.{◌≡◌, refl, sym, ◌∙◌}
use mathlib.Core.Logic.{⊎_elim}
use mathlib.Core.Bool.{Bool, true, false}
use mathlib.Core.List.{List}
use Prim.Native.Nat.{ℕ, ◌+◌, ◌≤◌, ◌<◌, zero-le}
use Rattle.std.proofs.lemmas.Bool.{false≢true}
use native.Mathlib.Omega.{arith}
use lib.ListN.{length, get_or, set, take, drop, replicate, length-set, get_or-replicate}
use lib.Seq.{get_or-set_same, get_or-set_other}
use Rattle.std.specs.Prelude.{IsTrue, ◌↔◌, ◌≢◌, EachIndex, MatchBool}
use Rattle.std.specs.List.{range_with_len, AllWithin, HoldsAt}
use Rattle.std.proofs.lemmas.List.FromFn.{get_or-range_with_len, length-range_with_len}
use Rattle.std.proofs.lemmas.List.{length-take-le, get_or-take}
use Rattle.lent.specs.Count.{count}
use Rattle.lent.proofs.Laws.{same_or_not}
use Rattle.tree.specs.Rows.{once}
use Rattle.tree.specs.Inner.{Tallied}
use Rattle.tree.proofs.Rows.{count_hit, count_miss, count_end, once_told}

-- after the first i entries
pub record Tallying (list t : List ℕ) (i : ℕ) : Type 0 where
  pub size : length t ≡ 128
  pub few : (k : ℕ) → k < 128 → get_or t k 0 ≤ i
  pub each : (k : ℕ) → k < 128 → count k list ≡ get_or t k 0 + count k (drop i list)

pub tally_start : (list : List ℕ) → Tallying list (replicate 128 0) 0
tally_start list =
    record {
      size = refl;
      few = λ k lt. omega (arith, get_or-replicate {A = ℕ} 128 k 0 0 lt);
      each = λ k lt. omega (arith, get_or-replicate {A = ℕ} 128 k 0 0 lt);
    }

pub tally_hit : (list t : List ℕ) (i x : ℕ) → Tallying list t i → i < length list → get_or list i 0 ≡ x → x < 128 → Tallying list (set t x (get_or t x 0 + 1)) (i + 1)
tally_hit list t i x s lt e low =
    let v = get_or t x 0 + 1 in
    let here : get_or (set t x v) x 0 ≡ v = get_or-set_same t x v 0 (omega (arith, s.size)) in
    let there : (k : ℕ) → (k ≡ x → ⊥) → get_or (set t x v) k 0 ≡ get_or t k 0 = λ k ne. get_or-set_other t x k v 0 ne in
    record {
      size = length-set t x v ∙ s.size;
      few = λ k l.
          ⊎_elim
          (λ is. rw is (omega (arith, here, s.few x low)))
          (λ ne. omega (arith, there k ne, s.few k l))
          (same_or_not k x);
      each = λ k l.
          ⊎_elim
          (λ is. rw is (omega (arith, here, s.each x low, count_hit x list i lt e)))
          (λ ne. omega (arith, there k ne, s.each k l, count_miss k list i lt (λ is. ne (sym is ∙ e))))
          (same_or_not k x);
    }

pub tally_miss : (list t : List ℕ) (i : ℕ) → Tallying list t i → i < length list → 128 ≤ get_or list i 0 → Tallying list t (i + 1)
tally_miss list t i s lt high =
    record {
      size = s.size;
      few = λ k l. omega (arith, s.few k l);
      each = λ k l. omega (arith, s.each k l, count_miss k list i lt (λ is. omega arith));
    }

pub tally_end : (list t : List ℕ) (i : ℕ) → Tallying list t i → length list ≤ i → Tallied list t
tally_end list t i s h = record { each = λ k l. omega (arith, s.each k l, count_end k list i h) }

-- the tally's first m entries, as they are tested
pub tally_told : (list t : List ℕ) (m : ℕ) (r : Bool) → Tallied list t → m ≤ 128 → m ≤ length t
    → (IsTrue r ↔ EachIndex (take m t) (λ k. get_or (take m t) k 0 ≡ 1)) → r ≡ once list m
tally_told list t m r s h l e =
    let n : length (take m t) ≡ m = length-take-le m t l in
    once_told list m r (
      (λ told k lt. s.each k (omega arith) ∙ sym (get_or-take m t k 0 lt) ∙ e.0 told k (omega arith)),
      (λ each. e.1 (λ k lt. get_or-take m t k 0 (omega arith) ∙ sym (s.each k (omega arith)) ∙ each k (omega arith))),
    )

place : (m k : ℕ) → k < m → get_or (range_with_len 0 m) k 0 ≡ k
place m k lt = omega (arith, get_or-range_with_len 0 m k 0 lt)

-- each number below m, as it is looked for
pub found_told : (list : List ℕ) (m : ℕ) (r : Bool)
    → MatchBool r (AllWithin (λ k. count k list ≡ 1) (range_with_len 0 m) 0 (length (range_with_len 0 m)))
    ((i : ℕ) × (i < length (range_with_len 0 m)) × HoldsAt (λ k. count k list ≢ 1) (range_with_len 0 m) i)
    → r ≡ once list m
found_told list m true e =
    once_told list m true (
      (λ h k lt. rw (place m k lt) at (e k 0 zero-le (omega (arith, length-range_with_len 0 m)))),
      (λ each. refl),
    )
found_told list m false e =
    let lt : e.0 < m = omega (arith, e.1, length-range_with_len 0 m) in
    once_told list m false (
      (λ h. absurd (false≢true h)),
      (λ each. absurd (e.2 0 (rw (place m e.0 lt) (each e.0 lt)))),
    )
