-- Where a piece ends; and of two bytes that end one, either may be looked for first. Assumes nothing.
use Prim.Native.Nat.{ℕ, ◌≤◌}
use mathlib.Core.Path.{◌≡◌, refl, sym, ap, ◌∙◌}
use mathlib.Core.Bool.{Bool, true, false}
use mathlib.Core.List.{List, [], ◌∷◌}
use lib.Dec.{eqb}
use lib.ListN.{length}
use Rattle.fields.specs.Split.{first_piece, end_of}
use Rattle.fields.proofs.Pieces.{end_le, end_ge}

-- where a piece ends
pub within : (d : ℕ) (s : List ℕ) (at e : ℕ) → at ≤ length s → e ≡ end_of d s at → (at ≤ e) × (e ≤ length s)
within d s at e h ends = (rw ends (end_ge d s at h), rw ends (end_le d s at h))

on : (d x : ℕ) (s : List ℕ) → eqb x d ≡ false → first_piece d (x ∷ s) ≡ x ∷ first_piece d s
unfolding first_piece
on d x s e = rw e

here : (d x : ℕ) (s : List ℕ) → eqb x d ≡ true → first_piece d (x ∷ s) ≡ []
unfolding first_piece
here d x s e = rw e

pub either_first : (a b : ℕ) (s : List ℕ) → first_piece a (first_piece b s) ≡ first_piece b (first_piece a s)
unfolding first_piece
either_first a b [] = refl
either_first a b (x ∷ s) = go (eqb x a) (eqb x b) refl refl (either_first a b s)
  where
    go : (p q : Bool) → eqb x a ≡ p → eqb x b ≡ q → first_piece a (first_piece b s) ≡ first_piece b (first_piece a s) → first_piece a (first_piece b (x ∷ s)) ≡ first_piece b (first_piece a (x ∷ s))
    go true true e f ih = ap (first_piece a) (here b x s f) ∙ sym (ap (first_piece b) (here a x s e))
    go true false e f ih = ap (first_piece a) (on b x s f) ∙ here a x (first_piece b s) e ∙ sym (ap (first_piece b) (here a x s e))
    go false true e f ih = ap (first_piece a) (here b x s f) ∙ sym (ap (first_piece b) (on a x s e) ∙ here b x (first_piece a s) f)
    go false false e f ih =
        ap (first_piece a) (on b x s f)
        ∙ on a x (first_piece b s) e
        ∙ ap (λ (l : List ℕ). x ∷ l) ih
        ∙ sym (ap (first_piece b) (on a x s e) ∙ on b x (first_piece a s) f)
