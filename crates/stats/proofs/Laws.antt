-- What the functions of this crate know of their tables, cells and kept entries. Assumes nothing.
use Prim.Native.Nat.{ℕ, ◌+◌, ◌*◌, ◌<◌, ◌≤◌}
use mathlib.Core.Path.{◌≡◌, sym, ◌∙◌}
use mathlib.Core.List.{List}
use native.Mathlib.Nat.{min_comm, max_comm, min-eq_left, max-eq_right, ne_of_lt}
use native.Mathlib.Numerals.{add-one}
use native.Mathlib.Omega.{arith}
use borrow.Author.Count.{below_more}
use borrow.Author.Tests.{ltb-false}
use lib.Dec.{ltb, eqb}
use native.Mathlib.Decide.{dec_lt}
use lib.ListN.{length, get_or, set, replicate}
use lib.Seq.{get_or-set_same, get_or-set_other}
use lib.Ieee.{Float, nan, binary64, add, sub, mul, div}
use Rattle.arithmetic.specs.Constants.{pz, unit, two}
use Rattle.refusal.specs.Table.{first, or_else, Outcome}
use Rattle.refusal.specs.declared.Refusal.TheVariants.{NoData, DimensionMismatch, ShortBuffer}
use Rattle.refusal.proofs.Tables.{table, table_end, none, first_done, parts_done}
use Rattle.lent.specs.Grid.{cell}
use Rattle.lent.specs.Lent.{sizes, squares}
use Rattle.lent.specs.Inner.{Held}
use Rattle.lent.proofs.Sums.{sum_start, sum_step}
use Rattle.lent.proofs.Held.{held_start}
use Rattle.lent.proofs.Sizes.{sized_done, squared_done}
use Rattle.stats.specs.Covariance.{mean_of, spread, covariance_of, covariance_cell, covariance_table, covariance_outcome, shrink_outcome, any_low, correlation_table, correlation_outcome}
use Rattle.stats.specs.Expected.{f501, weight_at, expected_outcome}
use Rattle.stats.specs.Inner.{Whole, Kept, products_of, Taken}
use Rattle.std.specs.Prelude.{Ok}

-- ---- entries worked out once and kept

module _ (f : ℕ → Float) where
  pub kept_step : (m : List Float) (v : Float) (k : ℕ) → Kept m k f → v ≡ f k → k < length m → Kept (set m k v) (k + 1) f
  kept_step m v k p e h =
      record {
        entry =
            below_more (λ i. get_or (set m k v) i nan ≡ f i) k
            (λ i l. get_or-set_other m k i v nan (ne_of_lt l) ∙ p.entry i l)
            (get_or-set_same m k v nan h ∙ e);
      }

  pub kept_end : (m : List Float) (k n : ℕ) → Kept m k f → n ≤ k → Kept m n f
  kept_end m k n p h = record { entry = λ i l. p.entry i (omega arith) }

-- ---- the cells of the covariance

pub cell_across : (xs : List Float) (rows w i j : ℕ) → covariance_cell xs rows w i j ≡ covariance_cell xs rows w j i
unfolding covariance_cell
cell_across xs rows w i j = rw (min_comm i j, max_comm i j)

pub cell_up : (xs : List Float) (rows w i j : ℕ) → i ≤ j → covariance_cell xs rows w i j ≡ spread xs rows w (mean_of xs rows w i) (mean_of xs rows w j) i j
unfolding covariance_cell covariance_of
cell_up xs rows w i j h = rw (min-eq_left h, max-eq_right h)

-- ---- the sums of column i with itself and each column after it

module _ (xs : List Float) (w : ℕ) (m : List Float) (i : ℕ) where
  pub products_none : w ≤ 64 → Held (replicate 64 pz) i w (products_of xs w m i 0)
  unfolding products_of
  products_none h = held_start (products_of xs w m i 0) i w h (λ k. sum_start _)

  -- row r's product, added to the sum so far
  pub products_term : (sums : List Float) (x y : Float) (r j : ℕ) → Held sums j w (products_of xs w m i r) → j < w → x ≡ cell xs w r i → y ≡ cell xs w r j
      → add binary64 (get_or sums j nan) (mul binary64 (sub binary64 x (get_or m i nan)) (sub binary64 y (get_or m j nan))) ≡ products_of xs w m i (r + 1) j
  unfolding products_of
  products_term sums x y r j p h e e' = sum_step _ _ _ r (p.entry j (omega arith) h) (rw (e, e'))

  -- cell (i, j), from the sums of all rows and the rows above
  pub cell_taken : (v : Float) (sums out : List Float) (rows j : ℕ) → Taken v sums rows w i j out → Held sums i w (products_of xs w m i rows) → Kept m w (mean_of xs rows w) → i < w → j < w
      → (j < i → cell out w j i ≡ covariance_cell xs rows w j i) → v ≡ covariance_cell xs rows w i j
  unfolding products_of spread
  cell_taken v sums out rows j t s k hi hj above =
      elim (dec_lt j i) [
        | yes l ↦ t.left l ∙ above l ∙ cell_across xs rows w j i
        | no g ↦ let l : i ≤ j = omega arith in t.right l ∙ rw (s.entry j l hj, k.entry i hi, k.entry j hj) (sym (cell_up xs rows w i j l))
      ]

-- ---- the weight of the next older row

pub weight_step : (x : Float) (k : ℕ) → x ≡ weight_at k → mul binary64 x (sub binary64 unit (div binary64 two f501)) ≡ weight_at (k + 1)
unfolding weight_at
weight_step x k e = rw (add-one, e)

-- ---- the tables of a matrix that is not refused for its sizes: the lines that come after them

module _ (xs : List Float) (rows w room : ℕ) where
  pub covariance_sized : first (sizes (length xs) rows w) ≡ Ok tt → covariance_outcome xs rows w room ≡ or_else (ltb room (w * w)) ShortBuffer (or_else (ltb rows 2) NoData (Ok tt))
  unfolding covariance_outcome covariance_table
  covariance_sized e = first_done (sizes (length xs) rows w) _ e ∙ simp (table, table_end)

  pub correlation_squared : first (squares (length xs) rows w room) ≡ Ok tt → correlation_outcome xs rows w room ≡ or_else (eqb w 0) DimensionMismatch (or_else (any_low xs w) NoData (Ok tt))
  unfolding correlation_outcome correlation_table
  correlation_squared e = first_done (squares (length xs) rows w room) _ e ∙ simp (table, table_end)

  pub expected_sized : first (sizes (length xs) rows w) ≡ Ok tt → expected_outcome xs rows w room ≡ or_else (ltb room w) ShortBuffer (Ok tt)
  unfolding expected_outcome
  expected_sized e = first_done (sizes (length xs) rows w) _ e ∙ simp (table, table_end)

-- ---- what a call that is not refused knows

pub record Sampled (xs : List Float) (rows w room : ℕ) : Type 0 where
  pub whole : Whole xs rows w
  pub some : 2 ≤ rows
  pub roomy : w * w ≤ room

pub covariance_done : (xs : List Float) (rows w room : ℕ) (said : Outcome) → said ≡ covariance_outcome xs rows w room → said ≡ Ok tt → Sampled xs rows w room
unfolding covariance_outcome covariance_table
covariance_done xs rows w room said e h =
    let d = parts_done (sizes (length xs) rows w) _ (sym e ∙ h) in
    let s = sized_done (length xs) rows w d.0 in
    let a = none _ d.1 in
    record {
      whole = record { cells = s.cells; wide = s.wide };
      some = ltb-false rows 2 a.1.0;
      roomy = ltb-false room (w * w) a.0;
    }

pub record Square (cov : List Float) (w room : ℕ) : Type 0 where
  pub whole : Whole cov w w
  pub roomy : w * w ≤ room

square_done : (cov : List Float) (rows w room : ℕ) → first (squares (length cov) rows w room) ≡ Ok tt → Square cov w room
square_done cov rows w room e =
    let s = squared_done (length cov) rows w room e in
    record { whole = record { cells = s.cells; wide = s.wide }; roomy = s.roomy }

pub shrink_done : (cov : List Float) (rows w room : ℕ) (said : Outcome) → said ≡ shrink_outcome cov rows w room → said ≡ Ok tt → Square cov w room
unfolding shrink_outcome
shrink_done cov rows w room said e h = square_done cov rows w room (sym e ∙ h)

pub correlation_done : (cov : List Float) (rows w room : ℕ) (said : Outcome) → said ≡ correlation_outcome cov rows w room → said ≡ Ok tt → Square cov w room
unfolding correlation_outcome correlation_table
correlation_done cov rows w room said e h = square_done cov rows w room (parts_done (squares (length cov) rows w room) _ (sym e ∙ h)).0

pub record Expecting (xs : List Float) (rows w room : ℕ) : Type 0 where
  pub cells : length xs ≡ rows * w
  pub roomy : w ≤ room

pub expected_done : (xs : List Float) (rows w room : ℕ) (said : Outcome) → said ≡ expected_outcome xs rows w room → said ≡ Ok tt → Expecting xs rows w room
unfolding expected_outcome
expected_done xs rows w room said e h =
    let d = parts_done (sizes (length xs) rows w) _ (sym e ∙ h) in
    record { cells = (sized_done (length xs) rows w d.0).cells; roomy = ltb-false room w (none _ d.1).0 }
