-- Over the places of the packed slots the scan, the update of the square form and the count are those of specs/Merge.antt and specs/Pairs.antt over the flags. Assumes nothing.
use Prim.Native.Nat.{ℕ, zero, suc, ◌+◌, ◌-◌, ◌≤◌, ◌<◌, zero-le, min, max}
use mathlib.Core.Path.{◌≡◌, refl, sym, ap, ◌∙◌, subst}
use mathlib.Core.Logic.{⊎_elim}
use mathlib.Core.Bool.{Bool, true, false, cond}
use mathlib.Core.List.{List, [], ◌∷◌, ◌++◌}
use native.Mathlib.Nat.{eq-or-lt_of_le, le_of_suc-le-suc, add-zero, add-suc}
use native.Mathlib.Numerals.{add-one}
use native.Mathlib.Omega.{arith}
use lib.ListN.{length, get_or, take, replicate, get_or-replicate}
use lib.Seq.{take-suc}
use lib.Ieee.{Float, nan}
use Rattle.lent.specs.Grid.{cell}
use Rattle.lent.specs.Range.{range}
use Rattle.lent.proofs.Laws.{either}
use Rattle.lent.proofs.Range.{range_none, range_suc, range_first, range_same, range_keeps}
use Rattle.pairing.specs.declared.Best.{Best}
use Rattle.pairing.specs.Inner.{Far}
use Rattle.pairing.proofs.Offers.{offer_far}
use Rattle.slots.specs.Inner.{packed, Below}
use Rattle.slots.proofs.Packed.{placed, ones, packed_live, by_places, by_later}
use Rattle.triangle.specs.declared.Form.TheVariants.{Square}
use Rattle.triangle.specs.Triangle.{met, place_of}
use Rattle.triangle.specs.Inner.{write_of}
use Rattle.triangle.proofs.Places.{met_more, met_none, met_least}
use Rattle.linkage.specs.declared.Linkage.{Linkage}
use Rattle.linkage.specs.Merge.{pair, nothing, better, offer, look, scan_row, scan_from, scan_all, both, movable, moved, moved_all}
use Rattle.linkage.specs.Pairs.{count_one, count_row, count_from, count_all}
use Rattle.linkage.specs.Inner.{numbered, meet, meet_row, meet_all, drawn, drawn_at, FarTo}
use Rattle.linkage.proofs.Scan.{In, offer_in}
use Rattle.linkage.proofs.Front.{numbered_at}

-- what a live slot's update does, and a dead one's
apart : (l : Linkage) (n : ℕ) (sizes : List Float) (live : List Bool) (x y : ℕ) (dxy : Float) (i : ℕ) (d : List Float)
    → moved l n sizes live x y dxy i d ≡ cond (get_or live i false) (drawn l Square n sizes x y dxy i d) d
unfolding moved movable both drawn write_of place_of
apart l n sizes live x y dxy i d = ⊎_elim (λ e. rw e refl) (λ e. rw e refl) (either (get_or live i false))

-- ---- the first m entries of an array are the packed slots

module _ (n m : ℕ) (slots : List ℕ) (live : List Bool) (fit : m ≤ length slots) (e : take m slots ≡ packed n live) where
  -- the scan
  pub scan_packed : (d : List Float) (ids : List ℕ) → meet_all (cell d n) ids slots m ≡ scan_all n d ids live
  unfolding meet_all meet_row meet scan_all scan_from scan_row look
  scan_packed d ids =
      range_same (meet_row (cell d n) ids slots m) (placed (scan_row n d ids live) slots) 0 m nothing
      (λ i t a b.
      let s = get_or slots i 0 in
      by_later n m slots live fit e (λ c. offer s c (cell d n s c) (get_or ids s 0) (get_or ids c 0)) (look n d ids live s) (λ c u. refl) i t b)
      ∙ by_places n m slots live fit e (scan_row n d ids live) (scan_from n d ids live) (λ c u. refl) nothing

  -- the update
  pub moved_packed : (l : Linkage) (sizes : List Float) (x y : ℕ) (dxy : Float) (d : List Float)
      → range (drawn_at l Square n sizes slots x y dxy) 0 m d ≡ moved_all l n sizes live x y dxy d
  unfolding drawn_at moved_all
  moved_packed l sizes x y dxy d = by_places n m slots live fit e (drawn l Square n sizes x y dxy) (moved l n sizes live x y dxy) (apart l n sizes live x y dxy) d

  -- the count
  pub count_packed : count_all n live ≡ met m m
  unfolding count_all count_from count_row count_one met
  count_packed =
      sym (by_places n m slots live fit e (count_row n live) (count_from n live) (λ c u. refl) 0)
      ∙ range_same (placed (count_row n live) slots) (λ j c. c + (m - (j + 1))) 0 m 0
      (λ i t a b. sym (by_later n m slots live fit e (λ c u. u + 1) (count_one live) (λ c u. refl) i t b) ∙ ones (i + 1) m t)

-- ---- the start: slot k at place k

pub packed_start : (n m : ℕ) → n ≤ m → m ≤ 64 → take n (range numbered 0 m (replicate 64 0)) ≡ packed n (replicate m true)
packed_start zero m h b = unfold packed in refl
packed_start (suc n) m h b =
    let l = range numbered 0 m (replicate 64 0) in
    let r = numbered_at m b in
    take-suc l n 0 (omega (arith, r.0))
    ∙ ap (λ (k : ℕ). take n l ++ (k ∷ [])) (r.1 n (omega arith))
    ∙ ap (λ (p : List ℕ). p ++ (n ∷ [])) (packed_start n m (omega arith) b)
    ∙ sym (packed_live n (replicate m true) (get_or-replicate m n true false (omega arith)))

-- ---- the slots of the best pair

module _ (n m : ℕ) (d : ℕ → ℕ → Float) (ids slots : List ℕ) where
  pub all_in : Below n m slots → 0 < n → In n (meet_all d ids slots m)
  unfolding meet_all meet_row meet
  all_in b h =
      range_keeps (In n) (meet_row d ids slots m) 0 m nothing (h, h)
      (λ i t l r p. range_keeps (In n) (meet d ids slots (get_or slots i 0)) (i + 1) m t p (λ j u l' r' q. offer_in n (get_or slots i 0) (get_or slots j 0) (d (get_or slots i 0) (get_or slots j 0)) (get_or ids (get_or slots i 0) 0) (get_or ids (get_or slots j 0) 0) u (b i r) (b j r') q))

-- ---- pairs too far off change nothing, once there is a best

abbrev pub Found : Best → Type 0
Found best = best.found ≡ true

offer_found : (a b : ℕ) (x : Float) (p q : ℕ) (best : Best) → Found best → Found (offer a b x p q best)
unfolding offer
offer_found a b x p q best f = ⊎_elim (λ e. rw e refl) (λ e. rw e f) (either (better best x (min p q) (max p q)))

pub far_none : (row : List Float) (slots : List ℕ) (limit : Float) (lo : ℕ) → FarTo row slots limit lo lo
far_none row slots limit lo j a b = absurd (omega arith)

pub far_more : (row : List Float) (slots : List ℕ) (limit : Float) (lo k : ℕ) → FarTo row slots limit lo k → Far (get_or row (get_or slots k 0 - 1) nan) limit
    → FarTo row slots limit lo (k + 1)
far_more row slots limit lo k h e j a b =
    ⊎_elim (λ q. subst (λ (z : ℕ). Far (get_or row (get_or slots z 0 - 1) nan) limit) (sym q) e) (λ l. h j a l) (eq-or-lt_of_le (le_of_suc-le-suc (subst (λ (z : ℕ). j < z) (add-one k) b)))

module _ (d : ℕ → ℕ → Float) (ids slots : List ℕ) (a : ℕ) where
  pub row_found : (lo hi : ℕ) (best : Best) → Found best → Found (range (meet d ids slots a) lo hi best)
  unfolding meet
  row_found lo hi best f = range_keeps Found (meet d ids slots a) lo hi best f (λ j t l r p. offer_found a (get_or slots j 0) (d a (get_or slots j 0)) (get_or ids a 0) (get_or ids (get_or slots j 0) 0) t p)

  -- a best that stands stays, over those that are too far off for it
  skip_by : (n lo k : ℕ) (first best : Best) → best ≡ range (meet d ids slots a) lo k first → lo ≤ k → Found best
      → ((j : ℕ) → k ≤ j → j < k + n → Far (d a (get_or slots j 0)) best.dist) → best ≡ range (meet d ids slots a) lo (k + n) first
  unfolding meet
  skip_by zero lo k first best e l f h = e ∙ ap (λ (z : ℕ). range (meet d ids slots a) lo z first) (sym (add-zero k))
  skip_by (suc n) lo k first best e l f h =
      let r = skip_by n lo k first best e l f (λ j x y. h j x (omega arith)) in
      let i = k + n in
      sym (offer_far a (get_or slots i 0) (d a (get_or slots i 0)) (get_or ids a 0) (get_or ids (get_or slots i 0) 0) best f (h i (omega arith) (omega arith)))
      ∙ ap (meet d ids slots a i) r
      ∙ sym (range_suc (meet d ids slots a) lo i first (omega arith))
      ∙ ap (λ (z : ℕ). range (meet d ids slots a) lo z first) (sym (add-suc k n))

  pub row_skip : (lo k hi : ℕ) (first best : Best) → best ≡ range (meet d ids slots a) lo k first → lo ≤ k → k ≤ hi → Found best
      → ((j : ℕ) → k ≤ j → j < hi → Far (d a (get_or slots j 0)) best.dist) → best ≡ range (meet d ids slots a) lo hi first
  row_skip lo k hi first best e l u f h =
      let z : k + (hi - k) ≡ hi = omega arith in
      skip_by (hi - k) lo k first best e l f (λ j x y. h j x (omega arith)) ∙ ap (λ (i : ℕ). range (meet d ids slots a) lo i first) z

-- ---- the scan, row by row: before row i, the first pair being taken at once

module _ (d : ℕ → ℕ → Float) (ids slots : List ℕ) (m : ℕ) where
  unfoldable pub Reached : ℕ → Best → ℕ → ℕ → Type 0
  Reached zero best c from = (best ≡ meet d ids slots (get_or slots 0 0) 1 nothing) × (c ≡ 1) × (from ≡ 2)
  Reached (suc i) best c from = (best ≡ range (meet_row d ids slots m) 0 (suc i) nothing) × (c ≡ met m (suc i)) × (from ≡ suc i + 1)

  pub reached_start : (best : Best)
      → best ≡ pair (get_or slots 0 0) (get_or slots 1 0) (d (get_or slots 0 0) (get_or slots 1 0)) (min (get_or ids (get_or slots 0 0) 0) (get_or ids (get_or slots 1 0) 0)) (max (get_or ids (get_or slots 0 0) 0) (get_or ids (get_or slots 1 0) 0))
      → Reached 0 best 1 2
  unfolding Reached meet offer better
  reached_start best e = (e, refl, refl)

  pub reached_next : (i : ℕ) (best : Best) (c from : ℕ) (best' : Best) (r : ℕ) → Reached i best c from → i < m → 2 ≤ m
      → best' ≡ range (meet d ids slots (get_or slots i 0)) from m best → r + from ≡ m → Reached (i + 1) best' (c + r) (i + 2)
  unfolding Reached meet_row
  reached_next zero best c from best' r h l t e q =
      let f = meet d ids slots (get_or slots 0 0) in
      let b : best' ≡ range f 2 m best = e ∙ ap (λ (k : ℕ). range f k m best) h.2 in (
        b ∙ ap (range f 2 m) h.0 ∙ sym (range_first f 1 m nothing (omega arith)) ∙ ap (meet_row d ids slots m 0) (sym (range_none (meet_row d ids slots m) 0 0 nothing zero-le))
            ∙ sym (range_suc (meet_row d ids slots m) 0 0 nothing zero-le),
        omega (arith, h.1, h.2, met_more m 0, met_none m),
        refl,
      )
  reached_next (suc i) best c from best' r h l t e q =
      let k = suc i in
      let f = meet d ids slots (get_or slots k 0) in
      let z : k + 1 ≡ suc k = add-one k in
      subst (λ (j : ℕ). Reached j best' (c + r) (k + 2)) (sym z) (
        e ∙ ap (λ (j : ℕ). range f j m best) h.2 ∙ ap (meet_row d ids slots m k) h.0 ∙ sym (range_suc (meet_row d ids slots m) 0 k nothing zero-le),
        ap (λ (j : ℕ). j + r) h.1 ∙ omega (arith, h.2, met_more m k) ∙ ap (met m) z,
        omega arith,
      )

  pub reached_low : (i : ℕ) (best : Best) (c from : ℕ) → Reached i best c from → i < m → 2 ≤ m → m ≤ 64 → (i < from) × (from ≤ m) × (c ≤ 4096)
  unfolding Reached
  reached_low zero best c from h l t u = (omega (arith, h.2), omega (arith, h.2), omega (arith, h.1))
  reached_low (suc i) best c from h l t u = (omega (arith, h.2), omega (arith, h.2), omega (arith, h.1, met_least m (suc i) u))

  pub reached_end : (i : ℕ) (best : Best) (c from : ℕ) → Reached i best c from → i ≡ m → 2 ≤ m → (best ≡ meet_all d ids slots m) × (c ≡ met m m)
  unfolding Reached meet_all
  reached_end zero best c from h e t = absurd (omega arith)
  reached_end (suc i) best c from h e t =
      (h.0 ∙ ap (λ (k : ℕ). range (meet_row d ids slots m) 0 k nothing) e, h.1 ∙ ap (met m) e)
