-- The last piece, found from the end. Assumes nothing.
use Prim.Native.Nat.{ℕ, zero, suc, ◌+◌, ◌-◌, ◌<◌, ◌≤◌}
use mathlib.Core.Path.{◌≡◌, refl, ap, ◌∙◌}
use mathlib.Core.Bool.{Bool, true, false, cond}
use mathlib.Core.List.{List, [], ◌∷◌}
use native.Mathlib.Numerals.{unary_clauses}
use native.Mathlib.Omega.{arith}
use borrow.Author.Tests.{eq-eqb}
use lib.Dec.{eqb}
use lib.ListN.{length, get_or, drop}
use Rattle.fields.specs.Split.{onto, split, piece, last_piece}
use Rattle.fields.proofs.Pieces.{pieces, length_onto, count_on}

-- a byte in front of the first of several pieces leaves the last
onto_last : (b : ℕ) (l : List (List ℕ)) → 2 ≤ length l → get_or (onto b l) (length (onto b l) - 1) [] ≡ get_or l (length l - 1) []
unfolding onto
onto_last b [] h = absurd (omega arith)
onto_last b (w ∷ []) h = absurd (omega arith)
onto_last b (w ∷ v ∷ l) h = simp unary_clauses refl

-- a piece more in front leaves it too
front_last : (w : List ℕ) (l : List (List ℕ)) → 1 ≤ length l → get_or (w ∷ l) (length (w ∷ l) - 1) [] ≡ get_or l (length l - 1) []
front_last w [] h = absurd (omega arith)
front_last w (v ∷ l) h = simp unary_clauses refl

alone : (d : ℕ) (s : List ℕ) → length (split d s) ≡ 1 → piece d s 0 ≡ s
unfolding split onto
alone d [] e = refl
alone d (b ∷ s) e = go (eqb b d) (split d s) (pieces d s) (alone d s) e
  where
    go : (t : Bool) (l : List (List ℕ)) → 1 ≤ length l → (length l ≡ 1 → get_or l 0 [] ≡ s) → length (cond t ([] ∷ l) (onto b l)) ≡ 1 → get_or (cond t ([] ∷ l) (onto b l)) 0 [] ≡ b ∷ s
    go true l p ih e = absurd (omega arith)
    go false [] p ih e = absurd (omega arith)
    go false (w ∷ l) p ih e = ap (λ (x : List ℕ). b ∷ x) (ih e)

-- one piece is all
pub last_whole : (d : ℕ) (s : List ℕ) → length (split d s) ≡ 1 → last_piece d s ≡ s
last_whole d s e = ap (λ (k : ℕ). piece d s (k - 1)) e ∙ alone d s e

-- a d makes two pieces or more
some_d : (d : ℕ) (s : List ℕ) (i : ℕ) → i < length s → get_or s i 0 ≡ d → 2 ≤ length (split d s)
unfolding split
some_d d [] i h e = absurd (omega arith)
some_d d (b ∷ s) zero h e = rw (eq-eqb b d e) (omega (arith, pieces d s))
some_d d (b ∷ s) (suc i) h e = go (eqb b d) (some_d d s i (omega arith) e)
  where
    go : (t : Bool) → 2 ≤ length (split d s) → 2 ≤ length (cond t ([] ∷ split d s) (onto b (split d s)))
    go true ih = omega arith
    go false ih = omega (arith, length_onto b (split d s))

-- what stands in front of a d leaves the last piece
last_front : (d b : ℕ) (s : List ℕ) → 2 ≤ length (split d (b ∷ s)) → last_piece d (b ∷ s) ≡ last_piece d s
unfolding split
last_front d b s h = go (eqb b d) h
  where
    go : (t : Bool) → 2 ≤ length (cond t ([] ∷ split d s) (onto b (split d s)))
        → get_or (cond t ([] ∷ split d s) (onto b (split d s))) (length (cond t ([] ∷ split d s) (onto b (split d s))) - 1) [] ≡ last_piece d s
    go true h = front_last [] (split d s) (pieces d s)
    go false h = onto_last b (split d s) (omega (arith, length_onto b (split d s)))

after : (d : ℕ) (s : List ℕ) (i : ℕ) → i < length s → get_or s i 0 ≡ d → length (split d (drop (suc i) s)) ≡ 1 → last_piece d s ≡ drop (suc i) s
after d [] i h e o = absurd (omega arith)
after d (b ∷ s) zero h e o = last_front d b s (some_d d (b ∷ s) zero h e) ∙ last_whole d s o
after d (b ∷ s) (suc i) h e o = last_front d b s (some_d d (b ∷ s) (suc i) h e) ∙ after d s i (omega arith) e o

-- what stands after the last d, which is before place k
pub last_after : (d : ℕ) (s : List ℕ) (k : ℕ) → 0 < k → k ≤ length s → get_or s (k - 1) 0 ≡ d → length (split d (drop k s)) ≡ 1 → last_piece d s ≡ drop k s
last_after d s zero p h e o = absurd (omega arith)
last_after d s (suc i) p h e o = after d s i (omega arith) (simp unary_clauses at e) o

-- one place further to the front, where no d stands
pub last_on : (d : ℕ) (s : List ℕ) (k : ℕ) → 0 < k → k ≤ length s → (get_or s (k - 1) 0 ≡ d → ⊥) → length (split d (drop k s)) ≡ 1 → length (split d (drop (k - 1) s)) ≡ 1
last_on d s k p h e o = count_on d s (k - 1) (omega arith) e ∙ rw (same) o
  where
    same : k - 1 + 1 ≡ k
    same = omega arith
