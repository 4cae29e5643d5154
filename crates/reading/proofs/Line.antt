-- A line with cells: of an asset, which begins with its name, or of a day. Assumes nothing.
use Prim.Native.Nat.{ℕ, zero, suc, ◌+◌, ◌-◌, ◌<◌, ◌≤◌}
use mathlib.Core.Path.{◌≡◌, refl, sym, ap, ◌∙◌}
use mathlib.Core.Bool.{Bool, true, false, ◌&&◌}
use mathlib.Core.List.{List, [], ◌∷◌}
use native.Mathlib.Nat.{lt_of_not-le, min-le_right}
use native.Mathlib.Omega.{arith}
use borrow.Author.Tests.{ne_eqb, eqb-true}
use lib.Dec.{eqb}
use lib.ListN.{length, take, drop, length-take, length-drop}
use lib.Seq.{take_all}
use lib.Ieee.{Float, nan}
use Rattle.lent.specs.Grid.{tab}
use Rattle.lent.proofs.Laws.{tab_of}
use Rattle.fields.specs.Split.{split, first_piece, end_of, all}
use Rattle.fields.proofs.Pieces.{end_le, last_piece_lem, next_pieces, piece_upto, cut_front}
use Rattle.names.specs.Names.{is_name}
use Rattle.reading.specs.Reading.{is_row, is_day}
use Rattle.reading.specs.Inner.{cell_at, RowRead, is_named, is_line, cell_fields, LineRead}

-- where the first field ends, something follows or not
pub end_within : (l : List ℕ) (e : ℕ) → e ≡ end_of 9 l 0 → e ≤ length l
end_within l e ends = rw ends (end_le 9 l 0 (omega arith))

pub after_within : (l : List ℕ) (e : ℕ) → e ≡ end_of 9 l 0 → (e ≡ length l → ⊥) → e + 1 ≤ length l
after_within l e ends q =
    let h = end_within l e ends in
    let a : e < length l = lt_of_not-le (λ k. q (omega arith)) in
    omega arith

-- a part is no longer than the whole
pub part_short : (s : List ℕ) (k m : ℕ) → length (take k (drop m s)) ≤ length s
part_short s k m = omega (arith, length-take k (drop m s), min-le_right k (length (drop m s)), length-drop m s)

module _ (named : Bool) (n : ℕ) (l : List ℕ) (row : List Float) where
  -- a day's line is its cells
  pub day_read : (r : Bool) → named ≡ false → RowRead n l r row → LineRead named n l r row
  unfolding is_line is_day cell_fields
  day_read r e h = record { told = h.told ∙ rw e; cells = λ z. h.cells z ∙ rw e }

  module _ (is-named : named ≡ true) (e : ℕ) (ends : e ≡ end_of 9 l 0) where
    -- the name that the code looks at
    name_cut : take e l ≡ first_piece 9 l
    name_cut = rw ends (cut_front 9 l)

    asset_line : (t : Bool) → is_name (take e l) ≡ t → is_line named n l ≡ (t && is_row n (drop 1 (split 9 l)))
    unfolding is_line is_named
    asset_line t g =
        let f : is_name (first_piece 9 l) ≡ t = ap is_name (sym name_cut) ∙ g in
        rw (is-named, piece_upto 9 l, f)

    pub asset_unnamed : is_name (take e l) ≡ false → LineRead named n l false row
    asset_unnamed g = record { told = sym (asset_line false g); cells = λ z. absurd (let y : ◌≡◌ {A = ℕ} 0 1 = cc in omega arith) }

    module _ (g : is_name (take e l) ≡ true) where
      -- a name and nothing after it
      pub asset_bare : length row ≤ n → e ≡ length l → LineRead named n l (eqb n 0) row
      unfolding is_row all
      asset_bare h q =
          let s : split 9 l ≡ first_piece 9 l ∷ [] = last_piece_lem 9 l 0 (omega arith) (omega (arith, ends)) in
          record {
            told = sym (asset_line true g ∙ rw s (turn n));
            cells = λ z. let y = eqb-true n 0 z in tab_of (length row) (cell_at (cell_fields named l)) row nan refl (λ k m. absurd (omega arith));
          }
        where
          turn : (k : ℕ) → (eqb 0 k && true) ≡ eqb k 0
          turn zero = refl
          turn (suc k) = rw (ne_eqb 0 (suc k) (λ q. omega arith), ne_eqb (suc k) 0 (λ q. omega arith))

      -- its cells after it
      pub asset_read : (r : Bool) → (e ≡ length l → ⊥) → RowRead n (take (length l - (e + 1)) (drop (e + 1) l)) r row → LineRead named n l r row
      unfolding cell_fields
      asset_read r q h =
          let a : end_of 9 l 0 < length l = omega (arith, after_within l e ends q) in
          let s : split 9 l ≡ first_piece 9 l ∷ split 9 (drop (e + 1) l) = rw ends (next_pieces 9 l 0 (omega arith) a) in
          let t : take (length l - (e + 1)) (drop (e + 1) l) ≡ drop (e + 1) l = take_all (length l - (e + 1)) (drop (e + 1) l) (omega (arith, length-drop (e + 1) l)) in
          let f : split 9 (take (length l - (e + 1)) (drop (e + 1) l)) ≡ drop 1 (split 9 l) = ap (split 9) t ∙ sym (ap (λ (w : List (List ℕ)). drop 1 w) s) in
          record {
            told = h.told ∙ ap (is_row n) f ∙ sym (asset_line true g);
            cells = λ z. h.cells z ∙ ap (λ (w : List (List ℕ)). tab (length row) (cell_at w)) f ∙ rw is-named;
          }
