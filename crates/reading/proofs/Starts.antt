-- The pieces of a list of bytes, walked from where one begins to where the next does. Assumes nothing.
use Prim.Native.Nat.{ℕ, zero, suc, ◌+◌, ◌-◌, ◌<◌, ◌≤◌}
use mathlib.Core.Path.{◌≡◌, refl, sym, ap, ◌∙◌}
use mathlib.Core.List.{List, []}
use native.Mathlib.Decide.{dec_le}
use native.Mathlib.Nat.{lt_of_not-le}
use native.Mathlib.Omega.{arith}
use lib.Dec.{eqb}
use lib.ListN.{length, get_or, take, drop, length-drop}
use lib.Seq.{get_or-drop, drop-drop}
use Rattle.lent.proofs.Sizes.{same_equal}
use Rattle.fields.specs.Split.{split, piece, first_piece, end_of}
use Rattle.fields.proofs.Pieces.{pieces, end_le, end_ge, cut_first, last_piece_lem, next_pieces, piece_upto}
use Rattle.reading.specs.Reading.{start_of}

record Begins (d : ℕ) (s : List ℕ) (k : ℕ) : Type 0 where
  pub within : start_of d s k ≤ length s
  pub left : split d (drop (start_of d s k) s) ≡ drop k (split d s)

module _ (d : ℕ) (s : List ℕ) where
  -- a piece that is not the last ends
  module _ (k : ℕ) (b : Begins d s k) (h : suc k < length (split d s)) where
    ended : end_of d s (start_of d s k) < length s
    ended = lt_of_not-le (λ q. let e = ap length (sym b.left ∙ last_piece_lem d s (start_of d s k) b.within q) in omega (arith, length-drop k (split d s)))

    begins_next : Begins d s (suc k)
    unfolding start_of
    begins_next = record {
      within = omega (arith, ended);
      left = sym (let e : k + 1 ≡ suc k = omega arith in
          ap (λ (m : ℕ). drop m (split d s)) (sym e)
          ∙ sym (drop-drop 1 k (split d s))
          ∙ ap (λ (w : List (List ℕ)). drop 1 w) (sym b.left ∙ next_pieces d s (start_of d s k) b.within ended));
    }

  begins : (k : ℕ) → k < length (split d s) → Begins d s k
  unfolding start_of
  begins zero h = record { within = omega arith; left = refl }
  begins (suc k) h = begins_next k (begins k (omega arith)) h

  module _ (k : ℕ) (h : k < length (split d s)) where
    pub start_in : start_of d s k ≤ length s
    start_in = (begins k h).within

    -- the pieces from there on
    pub pieces_from : split d (drop (start_of d s k) s) ≡ drop k (split d s)
    pieces_from = (begins k h).left

    -- piece k is what stands from there to the next d
    pub piece_at : piece d s k ≡ first_piece d (drop (start_of d s k) s)
    piece_at =
        let e : k + 0 ≡ k = omega arith in
        ap (λ (m : ℕ). get_or (split d s) m []) (sym e)
        ∙ sym (get_or-drop k (split d s) 0 [])
        ∙ ap (λ (w : List (List ℕ)). get_or w 0 []) (sym (begins k h).left)
        ∙ piece_upto d (drop (start_of d s k) s)

    -- which is what the code cuts out
    module _ (at e : ℕ) (begun : at ≡ start_of d s k) (ends : e ≡ end_of d s at) where
      pub piece_within : (at ≤ e) × (e ≤ length s)
      piece_within =
          let w : at ≤ length s = rw begun start_in in
          (rw ends (end_ge d s at w), rw ends (end_le d s at w))

      pub piece_cut : take (e - at) (drop at s) ≡ piece d s k
      piece_cut =
          let f : take (e - at) (drop at s) ≡ first_piece d (drop at s) = rw ends (cut_first d s at (rw begun start_in)) in
          f ∙ rw begun (sym piece_at)

      pub start_next : e + 1 ≡ start_of d s (k + 1)
      unfolding start_of
      start_next = let n : k + 1 ≡ suc k = omega arith in rw (n, ← begun) (ap (λ (m : ℕ). m + 1) ends)

  pub end_in : (k : ℕ) → suc k < length (split d s) → end_of d s (start_of d s k) < length s
  end_in k h = ended k (begins k (omega arith)) h

  -- the last piece goes to the end
  last_end : (k : ℕ) → suc k ≡ length (split d s) → length s ≤ end_of d s (start_of d s k)
  last_end k h =
      let b : Begins d s k = begins k (omega arith) in
      go b (dec_le (length s) (end_of d s (start_of d s k)))
    where
      go : Begins d s k → Dec (length s ≤ end_of d s (start_of d s k)) → length s ≤ end_of d s (start_of d s k)
      go b (yes q) = q
      go b (no q) =
          let e = ap length (sym b.left ∙ next_pieces d s (start_of d s k) b.within (lt_of_not-le q)) in
          absurd (omega (arith, length-drop k (split d s), pieces d (drop (end_of d s (start_of d s k) + 1) s)))

  -- so that after it no piece begins within
  pub there_is : (k : ℕ) → k ≤ length (split d s) → start_of d s k ≤ length s → k < length (split d s)
  unfolding start_of
  there_is zero h w = omega (arith, pieces d s)
  there_is (suc k) h w = lt_of_not-le (λ q. let l = last_end k (omega arith) in omega arith)

  -- nothing stands after the last d where the last piece begins at the end
  pub rest_none : (k : ℕ) → suc k ≡ length (split d s) → eqb (length (piece d s k)) 0 ≡ eqb (start_of d s k) (length s)
  unfolding end_of
  rest_none k h =
      let b : Begins d s k = begins k (omega arith) in
      let at = start_of d s k in
      let w = b.within in
      let q = last_end k h in
      let l : length (piece d s k) ≡ length (first_piece d (drop at s)) = ap length (piece_at k (omega arith)) in
      let f = end_le d s at w in
      same_equal (length (piece d s k)) 0 at (length s) (λ e. omega arith) (λ e. omega arith)
