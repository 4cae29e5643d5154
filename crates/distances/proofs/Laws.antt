-- The cells of both matrices. Assumes nothing.
use Prim.Native.Nat.{ℕ, ◌+◌, ◌*◌, ◌<◌, ◌≤◌}
use mathlib.Core.Path.{◌≡◌, refl, sym, ap, ◌∙◌}
use mathlib.Core.Logic.{⊎_elim}
use mathlib.Core.List.{List}
use native.Mathlib.Nat.{min_comm, max_comm, min-eq_left, max-eq_right}
use native.Mathlib.Decide.{dec_lt}
use native.Mathlib.Omega.{arith}
use borrow.Author.Tests.{eq-eqb, ne_eqb}
use lib.ListN.{get_or, set, replicate, length-set}
use lib.Seq.{get_or-set_same, get_or-set_other}
use lib.Dec.{T}
use lib.Ieee.{Float, nan, binary64, add, sub, mul, fits, to_bits}
use Rattle.arithmetic.specs.Constants.{pz}
use Rattle.arithmetic.proofs.Facts.{same_bits}
use Rattle.lent.specs.Grid.{cell}
use Rattle.lent.proofs.Laws.{same_or_not}
use Rattle.lent.proofs.Sums.{sum_start, sum_step}
use Rattle.lent.proofs.Held.{held_start, held_all}
use Rattle.distances.specs.declared.Measure.{Measure}
use Rattle.distances.specs.Distances.{distance_of, distance_cell, off_diagonal, square, between, between_cell}
use Rattle.lent.specs.Inner.{Held}
use Rattle.distances.specs.Inner.{sum_of, with_square, Picked}

-- the distances of a cell and of the one across the diagonal, where the two have the same bits
pub distance_across : (of : Measure) (corr : List Float) (n i j : ℕ) → ((k : ℕ) → T (fits binary64 (get_or corr k nan))) → to_bits binary64 (cell corr n i j) ≡ to_bits binary64 (cell corr n j i)
    → distance_cell of corr n j i ≡ distance_cell of corr n i j
unfolding distance_cell
distance_across of corr n i j f e = ap (distance_of of) (same_bits _ _ (f (j * n + i)) (f (i * n + j)) (sym e))

-- columns i and j in either order
module _ (d : List Float) (n i j : ℕ) where
  pub between_same : i ≡ j → pz ≡ between_cell d n i j
  unfolding between_cell
  between_same e = rw (eq-eqb i j e)

  pub between_up : i < j → between d n i j ≡ between_cell d n i j
  unfolding between_cell
  between_up h =
      let h1 : i ≤ j = omega arith in
      let e : i ≡ j → ⊥ = λ q. omega arith in
      rw (ne_eqb i j e, min-eq_left h1, max-eq_right h1)

  pub between_across : j < i → between_cell d n j i ≡ between_cell d n i j
  unfolding between_cell
  between_across h =
      let e : i ≡ j → ⊥ = λ q. omega arith in
      let e' : j ≡ i → ⊥ = λ q. omega arith in
      rw (ne_eqb i j e, ne_eqb j i e', min_comm i j, max_comm i j)

-- the diagonal is taken as 0, and what is off it as it is
off_same : (d : List Float) (n k j : ℕ) → (k ≡ j → ⊥) → cell d n k j ≡ off_diagonal d n k j
unfolding off_diagonal
off_same d n k j ne = rw (ne_eqb k j ne)

off_own : (d : List Float) (n k : ℕ) → pz ≡ off_diagonal d n k k
unfolding off_diagonal
off_own d n k = rw (eq-eqb k k refl)

-- ---- the sums of column i and each column after it

module _ (d : List Float) (n i : ℕ) where
  pub sums_none : (lo : ℕ) → n ≤ 64 → Held (replicate 64 pz) lo n (sum_of d n i 0)
  unfolding sum_of
  sums_none lo h = held_start (sum_of d n i 0) lo n h (λ k. sum_start _)

  -- row k's square, added to the sum so far
  pub squares_term : (sums : List Float) (x y : Float) (k j : ℕ) → Held sums j n (sum_of d n i k) → j < n → y ≡ cell d n k j
      → add binary64 (get_or sums j nan) (mul binary64 (sub binary64 x y) (sub binary64 x y)) ≡ with_square d n i k x j
  unfolding with_square square
  squares_term sums x y k j p h e = rw (p.entry j (omega arith) h, e)

  -- off the diagonal it is row k's term
  square_off : (x : Float) (k j : ℕ) → x ≡ off_diagonal d n k i → (k ≡ j → ⊥) → with_square d n i k x j ≡ sum_of d n i (k + 1) j
  unfolding with_square sum_of
  square_off x k j e ne =
      let o : cell d n k j ≡ off_diagonal d n k j = off_same d n k j ne in
      sum_step _ _ _ k refl (rw (e, o))

  -- no column is the row's own
  pub row_added : (sums : List Float) (x : Float) (k : ℕ) → Held sums (i + 1) n (with_square d n i k x) → x ≡ off_diagonal d n k i → k ≤ i → Held sums (i + 1) n (sum_of d n i (k + 1))
  row_added sums x k p e h = record { size = p.size; entry = λ j a b. p.entry j a b ∙ square_off x k j e (λ q. omega arith) }

  -- column k is, and its sum is made from the one before
  pub row_mended : (sums : List Float) (x before v : Float) (k : ℕ) → Held sums (i + 1) n (with_square d n i k x) → x ≡ off_diagonal d n k i → before ≡ sum_of d n i k k
      → v ≡ add binary64 before (square (sub binary64 x pz)) → i < k → k < n → Held (set sums k v) (i + 1) n (sum_of d n i (k + 1))
  unfolding sum_of
  row_mended sums x before v k p e f g h b =
      let own : v ≡ sum_of d n i (k + 1) k = g ∙ sum_step _ _ _ k f (rw (e, off_own d n k)) in
      record {
        size = omega (arith, p.size, length-set sums k v);
        entry = λ j a c.
            ⊎_elim
            (λ q. rw q (get_or-set_same sums k v nan (omega (arith, p.size)) ∙ own))
            (λ q. get_or-set_other sums k j v nan q ∙ p.entry j a c ∙ square_off x k j e (λ z. q (sym z)))
            (same_or_not j k);
      }

  pub sums_end : (sums : List Float) (lo k : ℕ) → Held sums lo n (sum_of d n i k) → k ≤ n → n ≤ k → Held sums lo n (sum_of d n i n)
  sums_end sums lo k p h g = held_all (sum_of d n i) sums lo n k n p h g

  -- cell (i, j), from the sums of all rows and the rows above
  pub between_picked : (r : Float) (sums out : List Float) (j : ℕ) → Picked r sums out n i j → Held sums (i + 1) n (sum_of d n i n) → j < n
      → (j < i → cell out n j i ≡ between_cell d n j i) → r ≡ between_cell d n i j
  unfolding sum_of between
  between_picked r sums out j p s h above =
      elim (dec_lt j i) [
        | yes l ↦ p.left l ∙ above l ∙ between_across d n i j l
        | no g ↦ elim (dec_lt i j) [
          | yes l ↦ p.right l ∙ rw (s.entry j (omega arith) h) (between_up d n i j l)
          | no g' ↦ let e : i ≡ j = omega arith in p.on e ∙ between_same d n i j e
        ]
      ]
