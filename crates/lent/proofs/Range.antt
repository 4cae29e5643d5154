-- The laws of a counted loop: `range_none` where it begins, range_more for one more turn, range_end where it ends. Assumes nothing.
use Prim.Native.Nat.{ℕ, zero, suc, ◌+◌, ◌-◌, ◌≤◌, ◌<◌}
use mathlib.Core.Path.{◌≡◌, refl, sym, ap, subst, ◌∙◌}
use mathlib.Core.Logic.{⊎_elim}
use native.Mathlib.Nat.{eq-or-lt_of_le, le_of_suc-le-suc, add-zero, add-suc, le_antisymm}
use native.Mathlib.Numerals.{add-one}
use native.Mathlib.Omega.{arith}
use Rattle.lent.specs.Range.{span, range}

pub range_none : {S : Type 0} (f : ℕ → S → S) (lo hi : ℕ) (s : S) → hi ≤ lo → range f lo hi s ≡ s
unfolding range
range_none f lo hi s h =
    let e : hi - lo ≡ 0 = omega arith in
    ap (λ (k : ℕ). span f lo k s) e

pub range_more : {S : Type 0} (f : ℕ → S → S) (lo i : ℕ) (s : S) → lo ≤ i → range f lo (i + 1) s ≡ f i (range f lo i s)
unfolding range
range_more f lo i s h =
    let e : i + 1 - lo ≡ suc (i - lo) = omega arith in
    let g : lo + (i - lo) ≡ i = omega arith in
    rw e (ap (λ (j : ℕ). f j (span f lo (i - lo) s)) g)

-- the same at a successor
pub range_suc : {S : Type 0} (f : ℕ → S → S) (lo i : ℕ) (s : S) → lo ≤ i → range f lo (suc i) s ≡ f i (range f lo i s)
range_suc f lo i s h = ap (λ (k : ℕ). range f lo k s) (sym (add-one i)) ∙ range_more f lo i s h

-- the first turn taken by itself
span_first : {S : Type 0} (f : ℕ → S → S) (lo k : ℕ) (s : S) → span f lo (suc k) s ≡ span f (lo + 1) k (f lo s)
unfolding span
span_first f lo zero s = ap (λ (i : ℕ). f i s) (add-zero lo)
span_first f lo (suc k) s =
    let e : lo + suc k ≡ lo + 1 + k = omega arith in
    ap (f (lo + suc k)) (span_first f lo k s) ∙ ap (λ (i : ℕ). f i (span f (lo + 1) k (f lo s))) e

pub range_first : {S : Type 0} (f : ℕ → S → S) (lo hi : ℕ) (s : S) → lo < hi → range f lo hi s ≡ range f (lo + 1) hi (f lo s)
unfolding range
range_first f lo hi s h =
    let e : hi - lo ≡ suc (hi - (lo + 1)) = omega arith in
    ap (λ (k : ℕ). span f lo k s) e ∙ span_first f lo (hi - (lo + 1)) s

-- what each turn keeps holds at the end
span_keeps : {S : Type 0} (P : S → Type 0) (f : ℕ → S → S) (lo k : ℕ) (s : S) → P s
    → ((i : ℕ) (t : S) → lo ≤ i → i < lo + k → P t → P (f i t)) → P (span f lo k s)
unfolding span
span_keeps P f lo zero s h turn = h
span_keeps P f lo (suc k) s h turn =
    turn (lo + k) (span f lo k s) (omega arith) (omega arith) (span_keeps P f lo k s h (λ i t a b p. turn i t a (omega arith) p))

pub range_keeps : {S : Type 0} (P : S → Type 0) (f : ℕ → S → S) (lo hi : ℕ) (s : S) → P s
    → ((i : ℕ) (t : S) → lo ≤ i → i < hi → P t → P (f i t)) → P (range f lo hi s)
unfolding range
range_keeps P f lo hi s h turn = span_keeps P f lo (hi - lo) s h (λ i t a b p. turn i t a (omega arith) p)

span_same : {S : Type 0} (f g : ℕ → S → S) (lo k : ℕ) (s : S) → ((i : ℕ) (t : S) → lo ≤ i → i < lo + k → f i t ≡ g i t) → span f lo k s ≡ span g lo k s
unfolding span
span_same f g lo zero s h = refl
span_same f g lo (suc k) s h =
    h (lo + k) (span f lo k s) (omega arith) (omega arith) ∙ ap (g (lo + k)) (span_same f g lo k s (λ i t a b. h i t a (omega arith)))

-- what turn j brings about, and each turn keeps, holds at the end
span_hits : {S : Type 0} (P : S → Type 0) (f : ℕ → S → S) (lo k : ℕ) (s : S) (j : ℕ) → lo ≤ j → j < lo + k
    → ((t : S) → P (f j t)) → ((i : ℕ) (t : S) → lo ≤ i → i < lo + k → P t → P (f i t)) → P (span f lo k s)
unfolding span
span_hits P f lo zero s j a b hit keep = absurd (no a b)
  where
    no : lo ≤ j → j < lo + 0 → ⊥
    no p q = omega arith
span_hits P f lo (suc k) s j a b hit keep =
    ⊎_elim
    (λ e. subst (λ (i : ℕ). P (f i (span f lo k s))) e (hit (span f lo k s)))
    (λ l.
    keep (lo + k) (span f lo k s) (omega arith) (omega arith)
    (span_hits P f lo k s j a l hit (λ i t x y p. keep i t x (omega arith) p)))
    (eq-or-lt_of_le (le_of_suc-le-suc (subst (λ (m : ℕ). j < m) (add-suc lo k) b)))

pub range_hits : {S : Type 0} (P : S → Type 0) (f : ℕ → S → S) (lo hi : ℕ) (s : S) (j : ℕ) → lo ≤ j → j < hi
    → ((t : S) → P (f j t)) → ((i : ℕ) (t : S) → lo ≤ i → i < hi → P t → P (f i t)) → P (range f lo hi s)
unfolding range
range_hits P f lo hi s j a b hit keep = span_hits P f lo (hi - lo) s j a (omega arith) hit (λ i t x y p. keep i t x (omega arith) p)

-- the loop has run where its counter has reached the end
pub range_end : {S : Type 0} (f : ℕ → S → S) (lo i hi : ℕ) (s t : S) → t ≡ range f lo i s → i ≤ hi → hi ≤ i → t ≡ range f lo hi s
range_end f lo i hi s t e h g = e ∙ ap (λ (k : ℕ). range f lo k s) (le_antisymm h g)

-- two loops whose turns are the same end in the same
pub range_same : {S : Type 0} (f g : ℕ → S → S) (lo hi : ℕ) (s : S) → ((i : ℕ) (t : S) → lo ≤ i → i < hi → f i t ≡ g i t) → range f lo hi s ≡ range g lo hi s
unfolding range
range_same f g lo hi s h = span_same f g lo (hi - lo) s (λ i t a b. h i t a (omega arith))

-- two loops at once, and what they keep between them
span_two : {S T : Type 0} (P : S → T → Type 0) (f : ℕ → S → S) (g : ℕ → T → T) (lo k : ℕ) (s : S) (t : T) → P s t
    → ((i : ℕ) (a : S) (b : T) → lo ≤ i → i < lo + k → P a b → P (f i a) (g i b)) → P (span f lo k s) (span g lo k t)
unfolding span
span_two P f g lo zero s t h turn = h
span_two P f g lo (suc k) s t h turn =
    turn (lo + k) (span f lo k s) (span g lo k t) (omega arith) (omega arith) (span_two P f g lo k s t h (λ i a b x y p. turn i a b x (omega arith) p))

pub range_two : {S T : Type 0} (P : S → T → Type 0) (f : ℕ → S → S) (g : ℕ → T → T) (lo hi : ℕ) (s : S) (t : T) → P s t
    → ((i : ℕ) (a : S) (b : T) → lo ≤ i → i < hi → P a b → P (f i a) (g i b)) → P (range f lo hi s) (range g lo hi t)
unfolding range
range_two P f g lo hi s t h turn = span_two P f g lo (hi - lo) s t h (λ i a b x y p. turn i a b x (omega arith) p)
