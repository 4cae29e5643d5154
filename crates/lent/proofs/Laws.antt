-- The laws of the tables and sums of specs/Grid.antt, over any element. The `-more` laws are at n + 1, as a loop that counts up has it.
-- Assumes nothing.
use Prim.Native.Nat.{ℕ, zero, suc, ◌+◌, ◌*◌, ◌-◌, ◌/◌, ◌%◌, ◌<◌, ◌≤◌}
use mathlib.Core.Path.{◌≡◌, refl, sym, ap, subst, ◌∙◌}
use mathlib.Core.List.{List, [], ◌∷◌, ◌++◌, append_assoc, append-nil}
use mathlib.Core.Bool.{Bool, true, false, ◌&&◌}
use mathlib.Core.Logic.{◌⊎◌, inl, inr, ⊎_elim}
use native.Mathlib.Nat.{not-suc-le-zero, le_of_suc-le-suc, eq-or-lt_of_le, mul-le-mul, mul-le-mul_right, mul-add-div_right, div-eq_of_lt, div-lt_iff_lt-mul, div-add-mod', mod-lt, mul-zero, add-zero, suc-mul, zero-mul}
use native.Mathlib.Numerals.{add-one, add-one-le}
use native.Mathlib.Omega.{arith}
use lib.ListN.{length, get_or, set, drop, replicate, length-append, length-drop, length-replicate, get_or-replicate, get_or-append}
use lib.Seq.{get_or-set_same, get_or-set_other, ext_get_or, get_or-drop, drop_at, drop-drop, set_at, get_or_at, drop-cons, drop-length, get_or-append-add, append_snoc}
use lib.Ieee.{Float, nan}
use lib.Dec.{eqb}
use borrow.Author.Tests.{eqb-true, eqb-false}
use Rattle.lent.specs.Grid.{cell, tab, grid, over}
use Rattle.lent.specs.Inner.{part}

-- ---- numbers

-- a test is true or false, to go by cases
pub either : (b : Bool) → (b ≡ true) ⊎ (b ≡ false)
either true = inl refl
either false = inr refl

-- both tests are true
pub and_left : (a b : Bool) → (a && b) ≡ true → a ≡ true
and_left true b h = refl
and_left false b h = h

pub and_right : (a b : Bool) → (a && b) ≡ true → b ≡ true
and_right true b h = h
and_right false true h = refl
and_right false false h = h

-- two numbers are the same or not
pub same_or_not : (m n : ℕ) → (m ≡ n) ⊎ (m ≡ n → ⊥)
same_or_not m n = ⊎_elim (λ e. inl (eqb-true m n e)) (λ e. inr (eqb-false m n e)) (either (eqb m n))

pos_of_lt_mul : (k n w : ℕ) → k < n * w → 0 < w
pos_of_lt_mul k n zero h = absurd (not-suc-le-zero (subst (λ (m : ℕ). k < m) (mul-zero n) h))
pos_of_lt_mul k n (suc w) h = omega arith

-- where the row after r begins
pub next_row : (r w : ℕ) → (r + 1) * w ≡ r * w + w
next_row r w = ap (λ (k : ℕ). k * w) (add-one r) ∙ suc-mul r w

-- r rows are no longer than n
pub rows_le : (n w r : ℕ) → r ≤ n → r * w ≤ n * w
rows_le n w r h = mul-le-mul_right w h

-- cell (r, c) lies within n rows of w
pub cell_lt : (n w r c : ℕ) → r < n → c < w → r * w + c < n * w
cell_lt n w r c hr hc =
    let h : (r + 1) * w ≤ n * w = mul-le-mul_right w (add-one-le hr) in
    omega (arith, next_row r w)

-- n by n cells, n at most 64, are at most 4,096
pub square_in : (n : ℕ) → n ≤ 64 → n * n ≤ 4096
square_in n h = mul-le-mul h h

-- a cell's place tells its row and its column
pub cell_inj : (w r c i j : ℕ) → c < w → j < w → r * w + c ≡ i * w + j → (r ≡ i) × (c ≡ j)
cell_inj w r c i j hc hj e =
    let p : 0 < w = omega arith in
    let er : (r * w + c) / w ≡ r = mul-add-div_right p r c ∙ rw (div-eq_of_lt hc) (add-zero r) in
    let ei : (i * w + j) / w ≡ i = mul-add-div_right p i j ∙ rw (div-eq_of_lt hj) (add-zero i) in
    let q : r ≡ i = cc in
    let m : r * w ≡ i * w = cc in
    (q, omega arith)

module _ {A : Type 0} where
  -- a cell is within a list of that length, and of a longer one
  pub cell_in : (l : List A) (n w r c : ℕ) → length l ≡ n * w → r < n → c < w → r * w + c < length l
  cell_in l n w r c e hr hc = omega (arith, cell_lt n w r c hr hc)

  pub cell_room : (l : List A) (n w r c : ℕ) → n * w ≤ length l → r < n → c < w → r * w + c < length l
  cell_room l n w r c e hr hc = omega (arith, cell_lt n w r c hr hc)

  -- ---- a store at cell (i, j), and every cell after it

  pub put_same : (l : List A) (w i j : ℕ) (v d : A) → i * w + j < length l → get_or (set l (i * w + j) v) (i * w + j) d ≡ v
  put_same l w i j v d h = get_or-set_same l (i * w + j) v d h

  pub put_other : (l : List A) (w i j r c : ℕ) (v d : A) → c < w → j < w → (r ≡ i → c ≡ j → ⊥) → get_or (set l (i * w + j) v) (r * w + c) d ≡ get_or l (r * w + c) d
  put_other l w i j r c v d hc hj n =
      get_or-set_other l (i * w + j) (r * w + c) v d (λ e. let q = cell_inj w r c i j hc hj e in n q.0 q.1)

  -- ---- tab

  pub tab_more : (n : ℕ) (f : ℕ → A) → tab (n + 1) f ≡ tab n f ++ (f n ∷ [])
  unfolding tab
  tab_more n f = rw add-one

  pub length_tab : (n : ℕ) (f : ℕ → A) → length (tab n f) ≡ n
  unfolding tab
  length_tab zero f = refl
  length_tab (suc n) f = length-append (tab n f) (f n ∷ []) ∙ rw (length_tab n f) (add-one n)

  pub get_d_tab : (n : ℕ) (f : ℕ → A) (k : ℕ) (d : A) → k < n → get_or (tab n f) k d ≡ f k
  unfolding tab
  get_d_tab zero f k d h = absurd (not-suc-le-zero h)
  get_d_tab (suc n) f k d h =
      ⊎_elim
      (λ e. rw e (get_or_at (tab n f) (f n) [] d n (length_tab n f)))
      (λ l. get_or-append (tab n f) (f n ∷ []) d k (rw (length_tab n f) l) ∙ get_d_tab n f k d l)
      (eq-or-lt_of_le (le_of_suc-le-suc h))

  pub tab_ext : (n : ℕ) (f g : ℕ → A) → ((k : ℕ) → k < n → f k ≡ g k) → tab n f ≡ tab n g
  unfolding tab
  tab_ext zero f g h = refl
  tab_ext (suc n) f g h =
      let e : tab n f ≡ tab n g = tab_ext n f g (λ k l. h k (omega arith)) in
      let e2 : f n ≡ g n = h n (omega arith) in
      cc

  -- a list whose every entry is known is a table
  pub tab_of : (n : ℕ) (f : ℕ → A) (l : List A) (d : A) → length l ≡ n → ((k : ℕ) → k < n → get_or l k d ≡ f k) → l ≡ tab n f
  tab_of n f l d e h = ext_get_or d l (tab n f) (e ∙ sym (length_tab n f)) (λ k lt. let m : k < n = omega arith in h k m ∙ sym (get_d_tab n f k d m))

  -- ---- grid

  pub grid_more : (n w : ℕ) (f : ℕ → ℕ → A) → grid (n + 1) w f ≡ grid n w f ++ tab w (f n)
  unfolding grid
  grid_more n w f = rw add-one

  pub length_grid : (n w : ℕ) (f : ℕ → ℕ → A) → length (grid n w f) ≡ n * w
  unfolding grid
  length_grid zero w f = sym (zero-mul w)
  length_grid (suc n) w f =
      length-append (grid n w f) (tab w (f n)) ∙ rw (length_grid n w f, length_tab w (f n)) (sym (suc-mul n w))

  pub get_d_grid : (n w : ℕ) (f : ℕ → ℕ → A) (r c : ℕ) (d : A) → r < n → c < w → get_or (grid n w f) (r * w + c) d ≡ f r c
  unfolding grid
  get_d_grid zero w f r c d hr hc = absurd (not-suc-le-zero hr)
  get_d_grid (suc n) w f r c d hr hc =
      let last : get_or (grid n w f ++ tab w (f n)) (n * w + c) d ≡ f n c =
      ap (λ (k : ℕ). get_or (grid n w f ++ tab w (f n)) (k + c) d) (sym (length_grid n w f)) ∙ get_or-append-add (grid n w f) (tab w (f n)) c d ∙ get_d_tab w (f n) c d hc in
      ⊎_elim
      (λ e. rw e last)
      (λ l. get_or-append (grid n w f) (tab w (f n)) d (r * w + c) (rw (length_grid n w f) (cell_lt n w r c l hc)) ∙ get_d_grid n w f r c d l hc)
      (eq-or-lt_of_le (le_of_suc-le-suc hr))

  -- two grids are the same where their cells are
  pub grid_ext : (n w : ℕ) (f g : ℕ → ℕ → A) → ((r c : ℕ) → r < n → c < w → f r c ≡ g r c) → grid n w f ≡ grid n w g
  unfolding grid
  grid_ext zero w f g h = refl
  grid_ext (suc n) w f g h =
      let e : grid n w f ≡ grid n w g = grid_ext n w f g (λ r c hr hc. h r c (omega arith) hc) in
      let e2 : tab w (f n) ≡ tab w (g n) = tab_ext w (f n) (g n) (λ c hc. h n c (omega arith) hc) in
      cc

  -- a list whose every cell is known is a grid
  pub grid_of : (n w : ℕ) (f : ℕ → ℕ → A) (l : List A) (d : A) → length l ≡ n * w → ((r c : ℕ) → r < n → c < w → get_or l (r * w + c) d ≡ f r c) → l ≡ grid n w f
  grid_of n w f l d e h =
      ext_get_or d l (grid n w f) (e ∙ sym (length_grid n w f))
      (λ k lt.
      let w_pos : 0 < w = pos_of_lt_mul k n w (subst (λ (m : ℕ). k < m) e lt) in
      let hr : k / w < n = (div-lt_iff_lt-mul w_pos).1 (subst (λ (m : ℕ). k < m) e lt) in
      let hc : k % w < w = mod-lt k w_pos in
      let q : k / w * w + k % w ≡ k = div-add-mod' k w in
      subst (λ (m : ℕ). get_or l m d ≡ get_or (grid n w f) m d) q (h (k / w) (k % w) hr hc ∙ sym (get_d_grid n w f (k / w) (k % w) d hr hc)))

  -- ---- over: a prefix that a loop has written

  pub over_none : (l : List A) → l ≡ over [] l
  unfolding over
  over_none l = refl

  -- one store more, at the end of what is written
  pub over_push : (p l : List A) (i : ℕ) (v : A) → length p ≡ i → i < length l → set (over p l) i v ≡ over (p ++ (v ∷ [])) l
  unfolding over
  over_push p l i v e h =
      let e2 : drop (length p) l ≡ get_or l (length p) v ∷ drop (suc (length p)) l = drop-cons l (length p) v (omega arith) in
      let e3 : length (p ++ (v ∷ [])) ≡ suc (length p) = length-append p (v ∷ []) ∙ add-one (length p) in
      rw (e2, e3) (set_at p (get_or l (length p) v) (drop (suc (length p)) l) v i e ∙ sym (append_snoc p v (drop (suc (length p)) l)))

  pub over_all_lem : (p l : List A) → length p ≡ length l → over p l ≡ p
  unfolding over
  over_all_lem p l e = rw (e, drop-length l) (append-nil p)

  pub length_over : (p l : List A) → length p ≤ length l → length (over p l) ≡ length l
  unfolding over
  length_over p l h =
      let e : length (drop (length p) l) ≡ length l - length p = length-drop (length p) l in
      rw length-append (omega arith)

  pub get_d_over : (p l : List A) (k : ℕ) (d : A) → k < length p → get_or (over p l) k d ≡ get_or p k d
  unfolding over
  get_d_over p l k d h = get_or-append p (drop (length p) l) d k h

  -- the entry after those that were written
  pub unwritten : (d l : List A) (f : ℕ → A) (k : ℕ) (z : A) → d ≡ over (tab k f) l → get_or d k z ≡ get_or l k z
  unfolding over
  unwritten d l f k z e =
      let p = tab k f in
      let q : length p + 0 ≡ k = omega (arith, length_tab k f) in
      ap (λ (m : List A). get_or m k z) e
      ∙ subst (λ (m : ℕ). get_or (p ++ drop (length p) l) m z ≡ get_or l m z) q (get_or-append-add p (drop (length p) l) 0 z ∙ get_or-drop (length p) l 0 z)

  -- what is written over a part that was written before, and reaches as far, hides it
  pub over_over : (p q l : List A) → length p ≤ length q → length p ≤ length l → over q (over p l) ≡ over q l
  unfolding over
  over_over p q l h k =
      let d = length q - length p in
      let e : length p + d ≡ length q = omega arith in
      let e1 : drop (length q) (p ++ drop (length p) l) ≡ drop d (drop (length p) (p ++ drop (length p) l)) =
      ap (λ (n : ℕ). drop n (p ++ drop (length p) l)) (sym e) ∙ sym (drop-drop d (length p) (p ++ drop (length p) l)) in
      let e2 : drop d (drop (length p) (p ++ drop (length p) l)) ≡ drop d (drop (length p) l) =
      ap (λ (t : List A). drop d t) (drop_at p (drop (length p) l) (length p) refl) in
      let e3 : drop d (drop (length p) l) ≡ drop (length q) l = drop-drop d (length p) l ∙ ap (λ (n : ℕ). drop n l) e in
      ap (λ (t : List A). q ++ t) (e1 ∙ e2 ∙ e3)

  -- ---- one element over and over

  pub drop_replicate : (k n : ℕ) (z : A) → drop k (replicate n z) ≡ replicate (n - k) z
  drop_replicate k n z =
      let e : length (drop k (replicate n z)) ≡ n - k = length-drop k (replicate n z) ∙ ap (λ (m : ℕ). m - k) (length-replicate n z) in
      ext_get_or z (drop k (replicate n z)) (replicate (n - k) z) (e ∙ sym (length-replicate (n - k) z))
      (λ i h. get_or-drop k (replicate n z) i z ∙ get_or-replicate n (k + i) z z (omega arith) ∙ sym (get_or-replicate (n - k) i z z (omega arith)))

  pub over_replicate : (p : List A) (n : ℕ) (z : A) → over p (replicate n z) ≡ p ++ replicate (n - length p) z
  unfolding over
  over_replicate p n z = rw drop_replicate

  -- ---- part

  pub part_none : (n w : ℕ) (f : ℕ → ℕ → A) → part n 0 w f ≡ grid n w f
  unfolding part tab
  part_none n w f = append-nil (grid n w f)

  pub part_full : (n w : ℕ) (f : ℕ → ℕ → A) → part n w w f ≡ grid (n + 1) w f
  unfolding part
  part_full n w f = sym (grid_more n w f)

  pub part_more : (n j w : ℕ) (f : ℕ → ℕ → A) → part n (j + 1) w f ≡ part n j w f ++ (f n j ∷ [])
  unfolding part
  part_more n j w f = rw tab_more (sym (append_assoc (grid n w f) (tab j (f n)) (f n j ∷ [])))

  pub length_part : (n j w : ℕ) (f : ℕ → ℕ → A) → length (part n j w f) ≡ n * w + j
  unfolding part
  length_part n j w f = length-append (grid n w f) (tab j (f n)) ∙ rw (length_grid n w f, length_tab j (f n))

  -- one store more, at cell (n, j)
  pub part_push : (n j w : ℕ) (f : ℕ → ℕ → A) (l : List A) → n * w + j < length l
      → set (over (part n j w f) l) (n * w + j) (f n j) ≡ over (part n (j + 1) w f) l
  part_push n j w f l h = rw part_more (over_push (part n j w f) l (n * w + j) (f n j) (length_part n j w f) h)

  in_part : (n j w : ℕ) (f : ℕ → ℕ → A) (r c : ℕ) (d : A) → r * w + c < length (grid n w f) → get_or (part n j w f) (r * w + c) d ≡ get_or (grid n w f) (r * w + c) d
  unfolding part
  in_part n j w f r c d k = get_or-append (grid n w f) (tab j (f n)) d (r * w + c) k

  -- what is written over the rows done reaches as far as they do, so the rows under it do not matter
  pub part_over : (n j w : ℕ) (f : ℕ → ℕ → A) (l : List A) → n * w ≤ length l → over (part n j w f) (over (grid n w f) l) ≡ over (part n j w f) l
  part_over n j w f l h =
      let e = length_grid n w f in
      let k = length_part n j w f in
      over_over (grid n w f) (part n j w f) l (omega arith) (omega arith)

  -- a cell of a row that is done
  pub part_cell : (n j w : ℕ) (f : ℕ → ℕ → A) (l : List A) (r c : ℕ) (d : A) → r < n → c < w → get_or (over (part n j w f) l) (r * w + c) d ≡ f r c
  part_cell n j w f l r c d hr hc =
      let h : r * w + c < n * w = cell_lt n w r c hr hc in
      let k : r * w + c < length (grid n w f) = rw length_grid h in
      get_d_over (part n j w f) l (r * w + c) d (rw length_part (omega arith)) ∙ in_part n j w f r c d k ∙ get_d_grid n w f r c d hr hc

-- the same of a list that is known by an equation, as an invariant has it
pub done_cell : (d : List Float) (n j w : ℕ) (f : ℕ → ℕ → Float) (l : List Float) (r c : ℕ) → d ≡ over (part n j w f) l → r < n → c < w → cell d w r c ≡ f r c
done_cell d n j w f l r c e hr hc = rw e (part_cell n j w f l r c nan hr hc)
