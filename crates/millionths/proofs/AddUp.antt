-- What the millionths of an accepted list are: they total 1,000,000, nobody moves by more than one, the largest fractions are served first, and no other list is so. Assumes nothing.
use Prim.Native.Nat.{ℕ, ◌+◌, ◌≤◌, ◌<◌}
use mathlib.Core.Path.{◌≡◌, sym, ap, subst, ◌∙◌}
use mathlib.Core.Bool.{Bool, false}
use mathlib.Core.Logic.{⊎_elim}
use mathlib.Core.List.{List}
use native.Mathlib.Omega.{arith}
use borrow.Author.Tests.{ltb-true, ltb-false, lt-ltb, le-ltb}
use lib.Dec.{ltb}
use lib.Ieee.{Float}
use lib.ListN.{length, get_or}
use Rattle.refusal.specs.Table.{first}
use Rattle.refusal.proofs.Tables.{none}
use Rattle.lent.proofs.Sums.{no_or}
use Rattle.lent.specs.Count.{one, upto}
use Rattle.lent.proofs.Laws.{either, length_tab, get_d_tab, tab_of}
use Rattle.lent.proofs.Counting.{one_true, one_false, one_le, upto_add, upto_le, over_all_tab, over_all_places}
use Rattle.fractions.specs.Fractions.{whole_at, left_at, sooner, rank_of}
use Rattle.fractions.proofs.Ranks.{one_mono, upto_less, upto_most}
use Rattle.fractions.proofs.Order.{sooner_is, is_sooner, not_both, irreflexive, rank_order, ranked}
use Rattle.millionths.specs.Meaning.{total_of, Serves}
use Rattle.millionths.specs.Millionths.{whole_total, missing, millionths_at, millionths_in, out_of_reach, millionths_lines, millionths_outcome}
use Rattle.millionths.proofs.Lists.{accepted}
use Rattle.std.specs.Prelude.{Ok}

module _ (ws : List Float) where
  abbrev rank : ℕ → ℕ
  rank i = rank_of (left_at ws) (length ws) i

  -- who is given one more
  abbrev due : ℕ → Bool
  due i = ltb (rank i) (missing ws)

  whole_missing : whole_total ws ≤ 1000000 → whole_total ws + missing ws ≡ 1000000
  unfolding missing
  whole_missing h = omega arith

  -- ---- the list of the definition serves

  at : (i : ℕ) → i < length ws → get_or (millionths_in ws) i 0 ≡ whole_at ws i + one (due i)
  unfolding millionths_in millionths_at
  at i h = get_d_tab (length ws) (millionths_at ws) i 0 h

  total_is : whole_total ws ≤ 1000000 → missing ws ≤ length ws → total_of (millionths_in ws) ≡ 1000000
  unfolding millionths_in millionths_at whole_total
  total_is under near =
      over_all_tab (length ws) (millionths_at ws) ∙ upto_add (whole_at ws) (λ i. one (due i)) (length ws)
      ∙ ap (λ (k : ℕ). whole_total ws + k) (ranked (left_at ws) (length ws) (missing ws) near) ∙ whole_missing under

  earlier : (i j : ℕ) → whole_at ws i < whole_at ws i + one (due i) → whole_at ws j + one (due j) ≤ whole_at ws j → rank i < rank j
  earlier i j p q =
      ⊎_elim
      (λ e.
      ⊎_elim
      (λ f. absurd (let x = one_true (due j) f in omega arith))
      (λ f. let x : rank i < missing ws = ltb-true (rank i) (missing ws) e in let y : missing ws ≤ rank j = ltb-false (rank j) (missing ws) f in omega arith)
      (either (due j)))
      (λ e. absurd (let x = one_false (due i) e in omega arith))
      (either (due i))

  served : whole_total ws ≤ 1000000 → missing ws ≤ length ws → Serves ws (millionths_in ws)
  unfolding millionths_in
  served under near =
      record {
        each = length_tab (length ws) (millionths_at ws);
        total = total_is under near;
        low = λ i h. subst (λ (k : ℕ). whole_at ws i ≤ k) (sym (at i h)) (omega arith);
        high = λ i h. subst (λ (k : ℕ). k ≤ whole_at ws i + 1) (sym (at i h)) (omega (arith, one_le (due i)));
        largest = λ i j h k p q.
            sooner_is (left_at ws) i j (rank_order (left_at ws) (length ws) i j (earlier i j (subst (λ (x : ℕ). whole_at ws i < x) (at i h) p) (subst (λ (x : ℕ). x ≤ whole_at ws j) (at j k) q)));
      }

  -- ---- and no other list does

  module _ (l : List ℕ) (s : Serves ws l) where
    abbrev more : ℕ → Bool
    more i = ltb (whole_at ws i) (get_or l i 0)

    entry : (i : ℕ) → i < length ws → get_or l i 0 ≡ whole_at ws i + one (more i)
    entry i h =
        let a = s.low i h in
        let b = s.high i h in
        ⊎_elim
        (λ e. let x : whole_at ws i < get_or l i 0 = ltb-true (whole_at ws i) (get_or l i 0) e in let y = one_true (more i) e in omega arith)
        (λ e. let x : get_or l i 0 ≤ whole_at ws i = ltb-false (whole_at ws i) (get_or l i 0) e in let y = one_false (more i) e in omega arith)
        (either (more i))

    totals : whole_total ws + upto (λ i. one (more i)) (length ws) ≡ 1000000
    unfolding whole_total
    totals = sym (upto_add (whole_at ws) (λ i. one (more i)) (length ws)) ∙ sym (over_all_places l (length ws) (λ i. whole_at ws i + one (more i)) s.each entry) ∙ s.total

    lacks : upto (λ i. one (more i)) (length ws) ≡ missing ws
    unfolding missing
    lacks = let t = totals in omega arith

    -- who has one more has a rank below their number, who has not a rank as high
    same : (i : ℕ) → i < length ws → one (more i) ≡ one (due i)
    unfolding rank_of
    same i h =
        ⊎_elim
        (λ e.
        let p : whole_at ws i < get_or l i 0 = ltb-true (whole_at ws i) (get_or l i 0) e in
        let r : rank i < upto (λ j. one (more j)) (length ws) =
        upto_less (λ j. one (sooner (left_at ws) j i)) (λ j. one (more j)) (length ws) i h
        (λ j k. one_mono (sooner (left_at ws) j i) (more j) (λ t. ⊎_elim (λ m. m) (λ m. absurd (not_both (left_at ws) j i t (is_sooner (left_at ws) i j (s.largest i j h k p (ltb-false (whole_at ws j) (get_or l j 0) m))))) (either (more j))))
        (let x = one_false (sooner (left_at ws) i i) (irreflexive (left_at ws) i) in let y = one_true (more i) e in omega arith) in
        let q = lacks in
        one_true (more i) e ∙ sym (one_true _ (lt-ltb (rank i) (missing ws) (omega arith))))
        (λ e.
        let p : get_or l i 0 ≤ whole_at ws i = ltb-false (whole_at ws i) (get_or l i 0) e in
        let r : upto (λ j. one (more j)) (length ws) ≤ rank i =
        upto_le (λ j. one (more j)) (λ j. one (sooner (left_at ws) j i)) (length ws)
        (λ j k. one_mono (more j) (sooner (left_at ws) j i) (λ t. is_sooner (left_at ws) j i (s.largest j i k h (ltb-true (whole_at ws j) (get_or l j 0) t) p))) in
        let q = lacks in
        one_false (more i) e ∙ sym (one_false _ (le-ltb (rank i) (missing ws) (omega arith))))
        (either (more i))

    -- no second list fits
    pub alone : l ≡ millionths_in ws
    unfolding millionths_in millionths_at
    alone = tab_of (length ws) (millionths_at ws) l 0 s.each (λ k h. entry k h ∙ ap (λ (x : ℕ). whole_at ws k + x) (same k h))

    -- so where 18 is given there is none
    pub in_reach : out_of_reach ws ≡ false
    unfolding out_of_reach
    in_reach =
        let t = totals in
        let q = lacks in
        let m : upto (λ i. one (more i)) (length ws) ≤ length ws = upto_most (length ws) more in
        rw (le-ltb 1000000 (whole_total ws) (omega arith), le-ltb (length ws) (missing ws) (omega arith))

-- the list of weights that neither 13 nor 18 refuses does what request 3 asks; so does that of every accepted call
pub adds_up : (ws : List Float) → first (millionths_lines ws) ≡ Ok tt → Serves ws (millionths_in ws)
unfolding millionths_lines out_of_reach
adds_up ws d =
    let t = no_or _ _ (none (millionths_lines ws) d).1.0 in
    served ws (ltb-false 1000000 (whole_total ws) t.0) (ltb-false (length ws) (missing ws) t.1)

pub call_adds_up : (ws : List Float) (room : ℕ) → millionths_outcome ws room ≡ Ok tt → Serves ws (millionths_in ws)
call_adds_up ws room d = let a = accepted ws room d in served ws a.under a.near
