-- The laws of sums and of any_to. Assumes nothing.
use Prim.Native.Nat.{ℕ, zero, suc, ◌+◌, ◌<◌, ◌≤◌}
use mathlib.Core.Path.{◌≡◌, refl, sym, ap, ◌∙◌}
use mathlib.Core.Bool.{Bool, true, false, ◌||◌}
use mathlib.Core.Logic.{⊎_elim}
use native.Mathlib.Nat.{not-suc-le-zero, le_of_suc-le-suc, eq-or-lt_of_le, le_antisymm}
use native.Mathlib.Numerals.{add-one}
use native.Mathlib.Omega.{arith}
use lib.Ieee.{Float, binary64, add}
use Rattle.arithmetic.specs.Constants.{pz}
use Rattle.lent.specs.Grid.{sum_to, sum_on, sum_rows, any_to}

-- ---- a sum: s is the sum of the first k terms

pub sum_more : (n : ℕ) (f : ℕ → Float) → sum_to (n + 1) f ≡ add binary64 (sum_to n f) (f n)
unfolding sum_to
sum_more n f = rw add-one

pub sum_ext : (n : ℕ) (f g : ℕ → Float) → ((k : ℕ) → k < n → f k ≡ g k) → sum_to n f ≡ sum_to n g
unfolding sum_to
sum_ext zero f g h = refl
sum_ext (suc n) f g h =
    let e : sum_to n f ≡ sum_to n g = sum_ext n f g (λ k l. h k (omega arith)) in
    let e2 : f n ≡ g n = h n (omega arith) in
    cc

module _ (f : ℕ → Float) where
  pub sum_start : pz ≡ sum_to 0 f
  unfolding sum_to
  sum_start = refl

  pub sum_step : (s t : Float) (k : ℕ) → s ≡ sum_to k f → t ≡ f k → add binary64 s t ≡ sum_to (k + 1) f
  sum_step s t k e h = rw (e, h) (sym (sum_more k f))

  pub sum_end : (s : Float) (k n : ℕ) → s ≡ sum_to k f → k ≤ n → n ≤ k → s ≡ sum_to n f
  sum_end s k n e h g = e ∙ ap (λ (m : ℕ). sum_to m f) (le_antisymm h g)

-- ---- sums that run on

pub on_start : (begun : Float) (f : ℕ → Float) → begun ≡ sum_on begun 0 f
unfolding sum_on
on_start begun f = refl

pub on_step : (begun s t : Float) (f : ℕ → Float) (k : ℕ) → s ≡ sum_on begun k f → t ≡ f k → add binary64 s t ≡ sum_on begun (k + 1) f
unfolding sum_on
on_step begun s t f k e h = rw (add-one, e, h)

pub on_end : (begun s : Float) (f : ℕ → Float) (k n : ℕ) → s ≡ sum_on begun k f → k ≤ n → n ≤ k → s ≡ sum_on begun n f
on_end begun s f k n e h g = e ∙ ap (λ (m : ℕ). sum_on begun m f) (le_antisymm h g)

pub on_ext : (begun : Float) (n : ℕ) (f g : ℕ → Float) → ((k : ℕ) → k < n → f k ≡ g k) → sum_on begun n f ≡ sum_on begun n g
unfolding sum_on
on_ext begun zero f g h = refl
on_ext begun (suc n) f g h =
    let e : sum_on begun n f ≡ sum_on begun n g = on_ext begun n f g (λ k l. h k (omega arith)) in
    let e2 : f n ≡ g n = h n (omega arith) in
    cc

-- ---- the double sum

pub sums_start : (m : ℕ) (f : ℕ → ℕ → Float) → pz ≡ sum_rows 0 m f
unfolding sum_rows
sums_start m f = refl

pub sums_step : (s t : Float) (k m : ℕ) (f : ℕ → ℕ → Float) → s ≡ sum_rows k m f → t ≡ sum_on s m (f k) → t ≡ sum_rows (k + 1) m f
unfolding sum_rows
sums_step s t k m f e h = rw (add-one, h, e)

pub sums_end : (s : Float) (k n m : ℕ) (f : ℕ → ℕ → Float) → s ≡ sum_rows k m f → k ≤ n → n ≤ k → s ≡ sum_rows n m f
sums_end s k n m f e h g = e ∙ ap (λ (i : ℕ). sum_rows i m f) (le_antisymm h g)

pub sums_ext : (n m : ℕ) (f g : ℕ → ℕ → Float) → ((i j : ℕ) → i < n → j < m → f i j ≡ g i j) → sum_rows n m f ≡ sum_rows n m g
unfolding sum_rows
sums_ext zero m f g h = refl
sums_ext (suc n) m f g h =
    let e : sum_rows n m f ≡ sum_rows n m g = sums_ext n m f g (λ i j hi hj. h i j (omega arith) hj) in
    let e2 : sum_on (sum_rows n m g) m (f n) ≡ sum_on (sum_rows n m g) m (g n) = on_ext (sum_rows n m g) m (f n) (g n) (λ j hj. h n j (omega arith) hj) in
    rw e e2

-- ---- some test below n

or_true : (b : Bool) → (b || true) ≡ true
or_true true = refl
or_true false = refl

pub any_none : (f : ℕ → Bool) → any_to 0 f ≡ false
unfolding any_to
any_none f = refl

pub any_more : (f : ℕ → Bool) (k : ℕ) → any_to k f ≡ false → f k ≡ false → any_to (k + 1) f ≡ false
unfolding any_to
any_more f k e h = rw (add-one, e, h)

pub any_end : (f : ℕ → Bool) (k n : ℕ) → any_to k f ≡ false → k ≤ n → n ≤ k → any_to n f ≡ false
any_end f k n e h g = rw (← le_antisymm h g) e

pub any_hit : (f : ℕ → Bool) (n k : ℕ) → k < n → f k ≡ true → any_to n f ≡ true
unfolding any_to
any_hit f zero k h e = absurd (not-suc-le-zero h)
any_hit f (suc n) k h e =
    ⊎_elim
    (λ q. rw (← q, e) (or_true (any_to k f)))
    (λ l. rw (any_hit f n k l e))
    (eq-or-lt_of_le (le_of_suc-le-suc h))

pub no_or : (a b : Bool) → (a || b) ≡ false → (a ≡ false) × (b ≡ false)
no_or true b e = absurd (let z : ◌≡◌ {A = ℕ} 0 1 = cc in omega arith)
no_or false b e = (refl, e)

pub any_no : (f : ℕ → Bool) (n : ℕ) → any_to n f ≡ false → (k : ℕ) → k < n → f k ≡ false
unfolding any_to
any_no f zero e k h = absurd (not-suc-le-zero h)
any_no f (suc n) e k h =
    let p = no_or (any_to n f) (f n) e in
    ⊎_elim (λ q. rw q p.1) (λ l. any_no f n p.0 k l) (eq-or-lt_of_le (le_of_suc-le-suc h))
