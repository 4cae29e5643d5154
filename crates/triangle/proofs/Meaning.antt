-- What `mirrored` says: of a list of doubles, that every cell is its mirror. Assumes nothing.
use Prim.Native.Nat.{ℕ, ◌+◌, ◌*◌, ◌<◌, zero-le}
use mathlib.Core.Path.{◌≡◌, refl, sym, ap}
use mathlib.Core.Logic.{⊎_elim}
use mathlib.Core.Bool.{Bool, true, ◌&&◌}
use mathlib.Core.List.{List}
use native.Mathlib.Omega.{arith}
use borrow.Author.Tests.{eqb-true, eq-eqb}
use lib.Dec.{T}
use lib.ListN.{get_or}
use lib.Ieee.{Float, nan, binary64, fits, to_bits}
use Rattle.lent.specs.Grid.{cell}
use Rattle.lent.proofs.Laws.{same_or_not, and_left, and_right}
use Rattle.lent.proofs.Range.{range_keeps, range_hits}
use Rattle.triangle.specs.Triangle.{is_mirror, mirror_row, mirrored}
use Rattle.arithmetic.proofs.Facts.{same_bits}
use Rattle.triangle.proofs.Places.{order}

-- a cell above the diagonal is held to its mirror in its row, and what is found there is kept
module _ (n : ℕ) (xs : List Float) (r c : ℕ) (h : r < c) (hc : c < n) where
  abbrev Found : Bool → Type 0
  Found b = b ≡ true → is_mirror xs n r c ≡ true

  row_keeps : (x : ℕ) (b : Bool) → Found b → Found (mirror_row n xs x b)
  unfolding mirror_row
  row_keeps x b p = range_keeps Found (λ i t. t && is_mirror xs n x i) (x + 1) n b p (λ i t u v q e. q (and_left t (is_mirror xs n x i) e))

  row_holds : (b : Bool) → Found (mirror_row n xs r b)
  unfolding mirror_row
  row_holds b =
      range_hits Found (λ i t. t && is_mirror xs n r i) (r + 1) n b c (omega arith) hc
      (λ t e. and_right t (is_mirror xs n r c) e)
      (λ i t u v q e. q (and_left t (is_mirror xs n r i) e))

  held : Found (mirrored n xs)
  unfolding mirrored
  held = range_hits Found (mirror_row n xs) 0 n true r zero-le (omega arith) row_holds (λ x b u v q. row_keeps x b q)

mirror_cells : (n : ℕ) (xs : List Float) → ((k : ℕ) → T (fits binary64 (get_or xs k nan))) → (r c : ℕ) → is_mirror xs n r c ≡ true → cell xs n r c ≡ cell xs n c r
unfolding is_mirror
mirror_cells n xs f r c e = same_bits (cell xs n r c) (cell xs n c r) (f (r * n + c)) (f (c * n + r)) (eqb-true (to_bits binary64 (cell xs n r c)) (to_bits binary64 (cell xs n c r)) e)

-- where a list of doubles is mirrored, every cell is the one across the diagonal
pub mirrored_cells : (n : ℕ) (xs : List Float) → ((k : ℕ) → T (fits binary64 (get_or xs k nan))) → mirrored n xs ≡ true
    → (r c : ℕ) → r < n → c < n → cell xs n r c ≡ cell xs n c r
mirrored_cells n xs f m r c hr hc =
    ⊎_elim
    (λ q. rw q refl)
    (λ ne.
    ⊎_elim
    (λ l. mirror_cells n xs f r c (held n xs r c l hc m))
    (λ l. sym (mirror_cells n xs f c r (held n xs c r l hr m)))
    (order r c ne))
    (same_or_not r c)

cells_mirror : (n : ℕ) (xs : List Float) (r c : ℕ) → cell xs n r c ≡ cell xs n c r → is_mirror xs n r c ≡ true
unfolding is_mirror
cells_mirror n xs r c e = eq-eqb (to_bits binary64 (cell xs n r c)) (to_bits binary64 (cell xs n c r)) (ap (to_bits binary64) e)

-- where every cell is the one across the diagonal, the list is mirrored
pub cells_mirrored : (n : ℕ) (xs : List Float) → ((r c : ℕ) → r < n → c < n → cell xs n r c ≡ cell xs n c r) → mirrored n xs ≡ true
unfolding mirrored mirror_row
cells_mirrored n xs s =
    range_keeps (λ b. b ≡ true) (mirror_row n xs) 0 n true refl
    (λ r b u hr p.
    range_keeps (λ t. t ≡ true) (λ i t. t && is_mirror xs n r i) (r + 1) n b p
    (λ c t v hc q. rw (q, cells_mirror n xs r c (s r c hr hc)) refl))
