-- Lists of bytes cut at a byte: the laws that the loops over bytes and over pieces need. Assumes nothing.
use Prim.Native.Nat.{ℕ, zero, suc, ◌+◌, ◌-◌, ◌<◌, ◌≤◌, max}
use mathlib.Core.Path.{◌≡◌, refl, sym, ap, ◌∙◌}
use mathlib.Core.Bool.{Bool, true, false, cond}
use mathlib.Core.List.{List, [], ◌∷◌}
use native.Mathlib.Decide.{dec_le}
use native.Mathlib.Nat.{add-sub_cancel_left, lt_of_not-le, zero-add}
use native.Mathlib.Numerals.{add-one}
use native.Mathlib.Omega.{arith}
use borrow.Author.Tests.{eq-eqb, ne_eqb}
use lib.Dec.{eqb}
use lib.ListN.{length, get_or, take, drop, length-drop, drop_of_length-le}
use lib.Seq.{drop-cons, drop-drop, length-take-le}
use Rattle.std.specs.List.{filter}
use Rattle.fields.specs.Split.{onto, split, first_piece, piece, end_of}

-- ---- the first piece

upto_here : (d b : ℕ) (s : List ℕ) → b ≡ d → first_piece d (b ∷ s) ≡ []
unfolding first_piece
upto_here d b s e = simp (eq-eqb b d e)

upto_on : (d b : ℕ) (s : List ℕ) → (b ≡ d → ⊥) → first_piece d (b ∷ s) ≡ b ∷ first_piece d s
unfolding first_piece
upto_on d b s e = simp (ne_eqb b d e)

pub upto_le : (d : ℕ) (s : List ℕ) → length (first_piece d s) ≤ length s
unfolding first_piece
upto_le d [] = omega arith
upto_le d (b ∷ s) = go (eqb b d) (upto_le d s)
  where
    go : (t : Bool) → length (first_piece d s) ≤ length s → length (cond t [] (b ∷ first_piece d s)) ≤ suc (length s)
    go true ih = omega arith
    go false ih = omega arith

pub take_upto : (d : ℕ) (s : List ℕ) → take (length (first_piece d s)) s ≡ first_piece d s
unfolding first_piece
take_upto d [] = refl
take_upto d (b ∷ s) = go (eqb b d) (take_upto d s)
  where
    go : (t : Bool) → take (length (first_piece d s)) s ≡ first_piece d s → take (length (cond t [] (b ∷ first_piece d s))) (b ∷ s) ≡ cond t [] (b ∷ first_piece d s)
    go true ih = refl
    go false ih = ap (λ (l : List ℕ). b ∷ l) ih

-- ---- the first piece, and the pieces after it

split_here : (d b : ℕ) (s : List ℕ) → b ≡ d → split d (b ∷ s) ≡ [] ∷ split d s
unfolding split
split_here d b s e = simp (eq-eqb b d e)

split_on : (d b : ℕ) (s : List ℕ) → (b ≡ d → ⊥) → split d (b ∷ s) ≡ onto b (split d s)
unfolding split
split_on d b s e = simp (ne_eqb b d e)

pub length_onto : (b : ℕ) (l : List (List ℕ)) → length (onto b l) ≡ length l
unfolding onto
length_onto b [] = refl
length_onto b (w ∷ l) = refl

-- there is always a piece
pub pieces : (d : ℕ) (s : List ℕ) → 1 ≤ length (split d s)
unfolding split
pieces d [] = omega arith
pieces d (b ∷ s) = go (eqb b d) (pieces d s)
  where
    go : (t : Bool) → 1 ≤ length (split d s) → 1 ≤ length (cond t ([] ∷ split d s) (onto b (split d s)))
    go true ih = omega arith
    go false ih = omega (arith, length_onto b (split d s))

-- one more piece than bytes, at most
pub pieces_le : (d : ℕ) (s : List ℕ) → length (split d s) ≤ suc (length s)
unfolding split
pieces_le d [] = omega arith
pieces_le d (b ∷ s) = go (eqb b d) (pieces_le d s)
  where
    go : (t : Bool) → length (split d s) ≤ suc (length s) → length (cond t ([] ∷ split d s) (onto b (split d s))) ≤ suc (suc (length s))
    go true h = omega arith
    go false h = omega (arith, length_onto b (split d s))

-- where the first piece is all, it is the only one
pub split_none : (d : ℕ) (s : List ℕ) → length s ≤ length (first_piece d s) → split d s ≡ first_piece d s ∷ []
unfolding split first_piece onto
split_none d [] h = refl
split_none d (b ∷ s) h = go (eqb b d) (split_none d s) h
  where
    go : (t : Bool) → (length s ≤ length (first_piece d s) → split d s ≡ first_piece d s ∷ []) → suc (length s) ≤ length (cond t [] (b ∷ first_piece d s))
        → cond t ([] ∷ split d s) (onto b (split d s)) ≡ cond t [] (b ∷ first_piece d s) ∷ []
    go true ih h = absurd (omega arith)
    go false ih h = ap (onto b) (ih (omega arith))

-- else the others are those of what stands after the d
pub split_found : (d : ℕ) (s : List ℕ) → length (first_piece d s) < length s → split d s ≡ first_piece d s ∷ split d (drop (suc (length (first_piece d s))) s)
unfolding split first_piece onto
split_found d [] h = absurd (omega arith)
split_found d (b ∷ s) h = go (eqb b d) (split_found d s) h
  where
    go : (t : Bool) → (length (first_piece d s) < length s → split d s ≡ first_piece d s ∷ split d (drop (suc (length (first_piece d s))) s)) → length (cond t [] (b ∷ first_piece d s)) < suc (length s)
        → cond t ([] ∷ split d s) (onto b (split d s)) ≡ cond t [] (b ∷ first_piece d s) ∷ split d (drop (suc (length (cond t [] (b ∷ first_piece d s)))) (b ∷ s))
    go true ih h = refl
    go false ih h = ap (onto b) (ih (omega arith))

-- either way it is the first
pub piece_upto : (d : ℕ) (s : List ℕ) → piece d s 0 ≡ first_piece d s
piece_upto d s = go (dec_le (length s) (length (first_piece d s)))
  where
    go : Dec (length s ≤ length (first_piece d s)) → piece d s 0 ≡ first_piece d s
    go (yes h) = rw (split_none d s h)
    go (no h) = rw (split_found d s (lt_of_not-le h))

-- ---- a scan for d, at place i

module _ (d : ℕ) (s : List ℕ) (i : ℕ) where
  pub end_here : i < length s → get_or s i 0 ≡ d → end_of d s i ≡ i
  unfolding end_of
  end_here h e = omega (arith, ap length (ap (first_piece d) (drop-cons s i 0 h) ∙ upto_here d (get_or s i 0) (drop (suc i) s) e))

  pub end_on : i < length s → (get_or s i 0 ≡ d → ⊥) → end_of d s i ≡ end_of d s (i + 1)
  unfolding end_of
  end_on h e = rw add-one (omega (arith, ap length (ap (first_piece d) (drop-cons s i 0 h) ∙ upto_on d (get_or s i 0) (drop (suc i) s) e)))

  pub end_past : length s ≤ i → end_of d s i ≡ i
  unfolding end_of first_piece
  end_past h = omega (arith, ap length (ap (first_piece d) (drop_of_length-le s h)))

  -- ---- a count of d's, at place i

  pub count_here : i < length s → get_or s i 0 ≡ d → length (split d (drop i s)) ≡ suc (length (split d (drop (i + 1) s)))
  count_here h e = rw add-one (ap length (ap (split d) (drop-cons s i 0 h) ∙ split_here d (get_or s i 0) (drop (suc i) s) e))

  pub count_on : i < length s → (get_or s i 0 ≡ d → ⊥) → length (split d (drop i s)) ≡ length (split d (drop (i + 1) s))
  count_on h e = rw add-one (ap length (ap (split d) (drop-cons s i 0 h) ∙ split_on d (get_or s i 0) (drop (suc i) s) e) ∙ length_onto (get_or s i 0) (split d (drop (suc i) s)))

  pub count_end : length s ≤ i → length (split d (drop i s)) ≡ 1
  unfolding split
  count_end h = ap length (ap (split d) (drop_of_length-le s h))

-- a scan from place `from` that found no d before place i, where it ended: the answer is the greater of `from` and the end
pub end_none : (d : ℕ) (s : List ℕ) (from i : ℕ) → end_of d s from ≡ end_of d s i → length s ≤ i → (from ≤ length s → i ≤ length s) → max from (length s) ≡ end_of d s from
end_none d s from i e l b = go (dec_le (length s) from)
  where
    go : Dec (length s ≤ from) → max from (length s) ≡ end_of d s from
    go (yes g) = omega (arith, end_past d s from g)
    go (no g) = omega (arith, e, end_past d s i l)

-- the d's among the bytes are one fewer than the pieces
pub split_count : (d : ℕ) (s : List ℕ) → length (filter (λ (b : ℕ). eqb b d) s) ≡ length (split d s) - 1
unfolding split
split_count d [] = refl
split_count d (b ∷ s) = go (eqb b d) (split_count d s) (pieces d s)
  where
    go : (t : Bool) → length (filter (λ (x : ℕ). eqb x d) s) ≡ length (split d s) - 1 → 1 ≤ length (split d s)
        → length (cond t (b ∷ filter (λ (x : ℕ). eqb x d) s) (filter (λ (x : ℕ). eqb x d) s)) ≡ length (cond t ([] ∷ split d s) (onto b (split d s))) - 1
    go true e h = omega arith
    go false e h = omega (arith, length_onto b (split d s))

-- ---- pieces, from a place where one begins

module _ (d : ℕ) (s : List ℕ) (at : ℕ) (in-s : at ≤ length s) where
  left : length (drop at s) ≡ length s - at
  left = length-drop at s

  pub end_le : end_of d s at ≤ length s
  unfolding end_of
  end_le = omega (arith, left, upto_le d (drop at s))

  pub end_ge : at ≤ end_of d s at
  unfolding end_of
  end_ge = omega arith

  -- what the code cuts out is the first piece
  pub cut_first : take (end_of d s at - at) (drop at s) ≡ first_piece d (drop at s)
  unfolding end_of
  cut_first = rw add-sub_cancel_left (take_upto d (drop at s))

  -- where no d is found, that is the last piece
  pub last_piece_lem : length s ≤ end_of d s at → split d (drop at s) ≡ first_piece d (drop at s) ∷ []
  unfolding end_of
  last_piece_lem h = split_none d (drop at s) (omega (arith, left))

  -- else the next begins after the d
  pub next_pieces : end_of d s at < length s → split d (drop at s) ≡ first_piece d (drop at s) ∷ split d (drop (end_of d s at + 1) s)
  unfolding end_of
  next_pieces h =
      let l : length (first_piece d (drop at s)) < length (drop at s) = omega (arith, left) in
      let f : at + suc (length (first_piece d (drop at s))) ≡ at + length (first_piece d (drop at s)) + 1 = omega arith in
      rw (split_found d (drop at s) l, drop-drop, f)

  -- piece k - j from here
  pub piece_none : (k j : ℕ) → j < k → end_of d s at ≡ length s → piece d (drop at s) (k - j) ≡ []
  piece_none k j l e =
      let h : length s ≤ end_of d s at = omega arith in
      rw (last_piece_lem h) (go (k - j) (omega arith))
    where
      go : (m : ℕ) → 0 < m → get_or (first_piece d (drop at s) ∷ []) m [] ≡ []
      go zero h = absurd (omega arith)
      go (suc m) h = refl

  pub piece_next : (k j : ℕ) → j < k → (end_of d s at ≡ length s → ⊥) → piece d (drop at s) (k - j) ≡ piece d (drop (end_of d s at + 1) s) (k - (j + 1))
  piece_next k j l n =
      let h : end_of d s at < length s = lt_of_not-le (λ z. n (omega (arith, end_le))) in
      let e : k - j ≡ suc (k - (j + 1)) = omega arith in
      rw (next_pieces h, e)

-- ---- the first piece, cut from the front

pub cut_front : (d : ℕ) (s : List ℕ) → take (end_of d s 0) s ≡ first_piece d s
unfolding end_of
cut_front d s = rw zero-add (take_upto d s)

pub front_length : (d : ℕ) (s : List ℕ) → end_of d s 0 ≡ length (take (end_of d s 0) s)
front_length d s = sym (length-take-le (end_of d s 0) s (end_le d s 0 (omega arith)))
