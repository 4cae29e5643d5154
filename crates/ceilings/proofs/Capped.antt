-- Document 02, request 10: figures under ceilings total one million, none is above its ceiling, none below the smaller of its old figure and its ceiling, what was cut goes out in order,
-- and no other list is so; 20 is given exactly when no figures under the ceilings total one million. Assumes nothing.
use Prim.Native.Nat.{ℕ, ◌+◌, ◌-◌, ◌≤◌, ◌<◌, min}
use mathlib.Core.Path.{◌≡◌, refl, sym, ap, subst, ◌∙◌}
use mathlib.Core.Bool.{true, false}
use mathlib.Core.Logic.{⊎_elim}
use mathlib.Core.List.{List}
use native.Mathlib.Nat.{min-le_left}
use native.Mathlib.Omega.{arith}
use borrow.Author.Tests.{ltb-true, ltb-false}
use lib.ListN.{length, get_or}
use Rattle.lent.specs.Count.{upto}
use Rattle.lent.specs.Grid.{tab}
use Rattle.lent.proofs.Laws.{either, length_tab, get_d_tab, tab_of}
use Rattle.lent.proofs.Counting.{upto_same, upto_add, upto_le, upto_zero, over_all_tab}
use Rattle.millionths.specs.Meaning.{total_of}
use Rattle.ceilings.specs.Ceilings.{kept_at, gap_at, cut_total, left_for, capped_at, capped_in, too_low}
use Rattle.ceilings.specs.Meaning.{Under, Capped}
use Rattle.ceilings.proofs.Totals.{total_places}
use Rattle.ceilings.proofs.Handed.{left_is, handed, grows, given_is}

-- ---- 20, exactly

-- where the ceilings total one million or more, filling them in order makes such a list
filled : (cs : List ℕ) → too_low cs ≡ false → Under cs (tab (length cs) (λ i. min (get_or cs i 0) (left_for (λ k. get_or cs k 0) 1000000 i)))
unfolding too_low
filled cs e =
    let f : ℕ → ℕ = λ i. min (get_or cs i 0) (left_for (λ k. get_or cs k 0) 1000000 i) in
    let s = total_places cs (length cs) refl in
    let b : 1000000 ≤ total_of cs = ltb-false (total_of cs) 1000000 e in
    let q = left_is (λ k. get_or cs k 0) 1000000 (length cs) in
    let h = handed (λ k. get_or cs k 0) 1000000 (length cs) in
    record {
      each = length_tab (length cs) f;
      below = λ i l. subst (λ (x : ℕ). x ≤ get_or cs i 0) (sym (get_d_tab (length cs) f i 0 l)) (min-le_left (get_or cs i 0) (left_for (λ k. get_or cs k 0) 1000000 i));
      total = over_all_tab (length cs) f ∙ omega arith;
    }

-- no such list fits under ceilings that total less
none_under : (cs l : List ℕ) → too_low cs ≡ true → Under cs l → ⊥
unfolding too_low
none_under cs l e u =
    let b : total_of cs < 1000000 = ltb-true (total_of cs) 1000000 e in
    let s = total_places cs (length cs) refl in
    let t = total_places l (length cs) u.each in
    let w : total_of l ≡ 1000000 = u.total in
    let m = upto_le (λ i. get_or l i 0) (λ i. get_or cs i 0) (length cs) u.below in
    omega arith

pub too_low_exactly : (cs : List ℕ) → (too_low cs ≡ true → (l : List ℕ) → Under cs l → ⊥) × (((l : List ℕ) → Under cs l → ⊥) → too_low cs ≡ true)
too_low_exactly cs = (
  (λ e l u. none_under cs l e u),
  (λ n. ⊎_elim (λ e. e) (λ e. absurd (n _ (filled cs e))) (either (too_low cs))),
)

-- ---- figures cut and filled

module _ (xs cs : List ℕ) where
  -- what a figure keeps and what is cut off it are the figure; what it keeps and what it lacks are the ceiling
  kept_cut : (i : ℕ) → kept_at xs cs i + (get_or xs i 0 - kept_at xs cs i) ≡ get_or xs i 0
  unfolding kept_at
  kept_cut i = omega arith

  kept_gap : (i : ℕ) → kept_at xs cs i + gap_at xs cs i ≡ get_or cs i 0
  unfolding kept_at gap_at
  kept_gap i = omega arith

  all_kept_cut : (n : ℕ) → upto (kept_at xs cs) n + upto (λ i. get_or xs i 0 - kept_at xs cs i) n ≡ upto (λ i. get_or xs i 0) n
  all_kept_cut n = sym (upto_add (kept_at xs cs) (λ i. get_or xs i 0 - kept_at xs cs i) n) ∙ upto_same _ (λ i. get_or xs i 0) n (λ i h. kept_cut i)

  all_kept_gap : (n : ℕ) → upto (kept_at xs cs) n + upto (gap_at xs cs) n ≡ upto (λ i. get_or cs i 0) n
  all_kept_gap n = sym (upto_add (kept_at xs cs) (gap_at xs cs) n) ∙ upto_same _ (λ i. get_or cs i 0) n (λ i h. kept_gap i)

  -- what i is handed
  abbrev more : ℕ → ℕ
  more i = min (gap_at xs cs i) (left_for (gap_at xs cs) (cut_total xs cs) i)

  pub length_capped : length (capped_in xs cs) ≡ length xs
  unfolding capped_in
  length_capped = length_tab (length xs) (capped_at xs cs)

  at : (i : ℕ) → i < length xs → get_or (capped_in xs cs) i 0 ≡ kept_at xs cs i + more i
  unfolding capped_in capped_at
  at i h = get_d_tab (length xs) (capped_at xs cs) i 0 h

  total_is : total_of (capped_in xs cs) ≡ upto (capped_at xs cs) (length xs)
  unfolding capped_in
  total_is = over_all_tab (length xs) (capped_at xs cs)

  -- where every ceiling is at least its figure, nothing moves
  pub nothing_moves : ((i : ℕ) → i < length xs → get_or xs i 0 ≤ get_or cs i 0) → capped_in xs cs ≡ xs
  unfolding capped_in capped_at cut_total kept_at
  nothing_moves h =
      let none : upto (λ i. get_or xs i 0 - kept_at xs cs i) (length xs) ≡ 0 = upto_zero (λ i. get_or xs i 0 - kept_at xs cs i) (length xs) (λ i l. omega (arith, h i l)) in
      sym (tab_of (length xs) (capped_at xs cs) xs 0 refl (λ i l. omega (arith, h i l, none, left_is (gap_at xs cs) (cut_total xs cs) i)))

  module _ (e : length xs ≡ length cs) (t : total_of xs ≡ 1000000) where
    capped_sum : too_low cs ≡ false → upto (capped_at xs cs) (length xs) ≡ 1000000
    unfolding capped_at cut_total too_low
    capped_sum n =
        let k = length xs in
        let g = gap_at xs cs in
        let a = cut_total xs cs in
        let s = total_places xs k refl in
        let c = total_places cs k (sym e) in
        let b : 1000000 ≤ total_of cs = ltb-false (total_of cs) 1000000 n in
        let x = all_kept_cut k in
        let y = all_kept_gap k in
        let q = left_is g a k in
        let h = handed g a k in
        upto_add (kept_at xs cs) more k ∙ omega arith

    pub capped : too_low cs ≡ false → Capped xs cs (capped_in xs cs)
    unfolding kept_at
    capped n =
        record {
          under = record {
            each = length_capped ∙ e;
            below = λ i l. omega (arith, at i (omega arith), kept_gap i);
            total = total_is ∙ capped_sum n;
          };
          least = λ i l. omega (arith, at i (omega arith));
          in_order = λ i j h l m. omega (arith, m, at i (omega arith), at j (omega arith), kept_gap i, left_is (gap_at xs cs) (cut_total xs cs) i, left_is (gap_at xs cs) (cut_total xs cs) j, grows (gap_at xs cs) i j h);
        }

    -- no second list fits
    module _ (l : List ℕ) (s : Capped xs cs l) where
      -- what l gives beyond what was kept
      abbrev given : ℕ → ℕ
      given i = get_or l i 0 - kept_at xs cs i

      kept_given : (i : ℕ) → i < length xs → kept_at xs cs i + given i ≡ get_or l i 0
      unfolding kept_at
      kept_given i h = omega (arith, s.least i (omega arith))

      below : (i : ℕ) → i < length xs → given i ≤ gap_at xs cs i
      unfolding gap_at
      below i h = omega (arith, s.under.below i (omega arith))

      order : (i j : ℕ) → i < j → j < length xs → 0 < given j → given i ≡ gap_at xs cs i
      unfolding gap_at kept_at
      order i j h k g = ap (λ (m : ℕ). m - kept_at xs cs i) (s.in_order i j h (omega arith) (omega arith))

      all_given : upto given (length xs) ≡ cut_total xs cs
      unfolding cut_total
      all_given =
          let n = length xs in
          let a = upto_add (kept_at xs cs) given n in
          let b = upto_same (λ i. kept_at xs cs i + given i) (λ i. get_or l i 0) n kept_given in
          let x = all_kept_cut n in
          let y = total_places xs n refl in
          let z = total_places l n (s.under.each ∙ sym e) in
          let w = s.under.total in
          omega arith

      pub capped_alone : l ≡ capped_in xs cs
      unfolding capped_in capped_at
      capped_alone =
          tab_of (length xs) (capped_at xs cs) l 0 (s.under.each ∙ sym e)
          (λ k h.
          sym (kept_given k h)
          ∙ ap (λ (m : ℕ). kept_at xs cs k + m)
          (given_is (gap_at xs cs) given (length xs) below order k h ∙ ap (λ (m : ℕ). min (gap_at xs cs k) (left_for (gap_at xs cs) m k)) all_given))
