-- Fields joined by a byte, and lines ended by one, cut again at that byte. Assumes nothing.
use Prim.Native.Nat.{ℕ, ◌+◌, ◌-◌, ◌≤◌}
use mathlib.Core.Path.{◌≡◌, refl, sym, ap, ◌∙◌}
use mathlib.Core.Bool.{Bool, true, false}
use mathlib.Core.List.{List, [], ◌∷◌, ◌++◌, append_assoc, append-nil}
use native.Mathlib.Omega.{arith}
use borrow.Author.Tests.{eq-eqb, ne_eqb}
use lib.ListN.{length, take, get_or, length-append}
use lib.Seq.{take-append-add, get_or-append-add}
use Rattle.fields.specs.Split.{newline, onto, split, last_piece, all}
use Rattle.fields.proofs.Every.{both_left, both_right}
use Rattle.fields.proofs.Pieces.{pieces}
use Rattle.month.specs.Month.{whole_lines}

-- ---- bytes other than d

-- no byte is d
abbrev pub Free : ℕ → List ℕ → Type 0
Free d [] = Unit
Free d (b ∷ w) = (b ≡ d → ⊥) × Free d w

-- no byte of any of them is d
abbrev pub AllFree : ℕ → List (List ℕ) → Type 0
AllFree d [] = Unit
AllFree d (w ∷ ws) = Free d w × AllFree d ws

-- bytes without d, and bytes without d after them
pub free_append : (d : ℕ) (v w : List ℕ) → Free d v → Free d w → Free d (v ++ w)
free_append d [] w f g = g
free_append d (b ∷ v) w f g = (f.0, free_append d v w f.1 g)

-- the same of lists of them
pub all_free_append : (d : ℕ) (vs ws : List (List ℕ)) → AllFree d vs → AllFree d ws → AllFree d (vs ++ ws)
all_free_append d [] ws f g = g
all_free_append d (v ∷ vs) ws f g = (f.0, all_free_append d vs ws f.1 g)

-- bytes that pass a test that d does not pass
pub free_by : (f : ℕ → Bool) (d : ℕ) (w : List ℕ) → f d ≡ false → all f w ≡ true → Free d w
unfolding all
free_by f d [] e h = tt
free_by f d (b ∷ w) e h =
    ((λ g. let z : true ≡ false = sym (both_left (f b) (all f w) h) ∙ ap f g ∙ e in absurd (let y : ◌≡◌ {A = ℕ} 0 1 = cc in omega arith)), free_by f d w e (both_right (f b) (all f w) h))

-- ---- cut at d

-- bytes without d are one piece
pub split_free : (d : ℕ) (w : List ℕ) → Free d w → split d w ≡ w ∷ []
unfolding split onto
split_free d [] f = refl
split_free d (b ∷ w) f = rw (ne_eqb b d f.0) (ap (onto b) (split_free d w f.1))

-- a piece, and the pieces after its d
pub split_front : (d : ℕ) (w s : List ℕ) → Free d w → split d (w ++ d ∷ s) ≡ w ∷ split d s
unfolding split onto
split_front d [] s f = rw (eq-eqb d d refl)
split_front d (b ∷ w) s f = rw (ne_eqb b d f.0) (ap (onto b) (split_front d w s f.1))

-- ---- fields: a d before each

-- the fields, each after a d
abbrev pub parted : ℕ → List (List ℕ) → List ℕ
parted d [] = []
parted d (w ∷ ws) = d ∷ (w ++ parted d ws)

-- fields and more fields
pub parted_append : (d : ℕ) (vs ws : List (List ℕ)) → parted d (vs ++ ws) ≡ parted d vs ++ parted d ws
parted_append d [] ws = refl
parted_append d (v ∷ vs) ws = ap (λ (l : List ℕ). d ∷ l) (ap (λ (l : List ℕ). v ++ l) (parted_append d vs ws) ∙ sym (append_assoc v (parted d vs) (parted d ws)))

-- fields joined by d's are the pieces
pub split_parted : (d : ℕ) (w : List ℕ) (ws : List (List ℕ)) → Free d w → AllFree d ws → split d (w ++ parted d ws) ≡ w ∷ ws
split_parted d w [] f g = ap (split d) (append-nil w) ∙ split_free d w f
split_parted d w (v ∷ ws) f g = split_front d w (v ++ parted d ws) f ∙ ap (λ (l : List (List ℕ)). w ∷ l) (split_parted d v ws g.0 g.1)

-- and have the other bytes that the fields have
pub parted_free : (c d : ℕ) (ws : List (List ℕ)) → (d ≡ c → ⊥) → AllFree c ws → Free c (parted d ws)
parted_free c d [] n f = tt
parted_free c d (w ∷ ws) n f = (n, free_append c w (parted d ws) f.0 (parted_free c d ws n f.1))

-- ---- lines: a d after each

-- the lines, each before a d
abbrev pub ended : ℕ → List (List ℕ) → List ℕ
ended d [] = []
ended d (l ∷ ls) = l ++ d ∷ ended d ls

-- lines and more lines
pub ended_append : (d : ℕ) (ks ls : List (List ℕ)) → ended d (ks ++ ls) ≡ ended d ks ++ ended d ls
ended_append d [] ls = refl
ended_append d (k ∷ ks) ls = ap (λ (l : List ℕ). k ++ d ∷ l) (ended_append d ks ls) ∙ sym (append_assoc k (d ∷ ended d ks) (ended d ls))

-- lines, and the pieces of what stands after them
pub split_ended : (d : ℕ) (ls : List (List ℕ)) (t : List ℕ) → AllFree d ls → split d (ended d ls ++ t) ≡ ls ++ split d t
split_ended d [] t f = refl
split_ended d (l ∷ ls) t f = ap (split d) (append_assoc l (d ∷ ended d ls) t) ∙ split_front d l (ended d ls ++ t) f.0 ∙ ap (λ (x : List (List ℕ)). l ∷ x) (split_ended d ls t f.1)

-- all but the last piece, and the last, after lines
but_last : (ls p : List (List ℕ)) → 1 ≤ length p → take (length (ls ++ p) - 1) (ls ++ p) ≡ ls ++ take (length p - 1) p
but_last ls p h =
    let e : length (ls ++ p) - 1 ≡ length ls + (length p - 1) = omega (arith, length-append ls p) in
    ap (λ (k : ℕ). take k (ls ++ p)) e ∙ take-append-add ls p (length p - 1)

-- the last piece stays the last
last_of : (ls p : List (List ℕ)) → 1 ≤ length p → get_or (ls ++ p) (length (ls ++ p) - 1) [] ≡ get_or p (length p - 1) []
last_of ls p h =
    let e : length (ls ++ p) - 1 ≡ length ls + (length p - 1) = omega (arith, length-append ls p) in
    ap (λ (k : ℕ). get_or (ls ++ p) k []) e ∙ get_or-append-add ls p (length p - 1) []

-- the whole lines of a text that begins with lines are these, and the whole lines of what stands after them
pub whole_ended : (ls : List (List ℕ)) (t : List ℕ) → AllFree newline ls → whole_lines (ended newline ls ++ t) ≡ ls ++ whole_lines t
unfolding whole_lines
whole_ended ls t f =
    ap (λ (p : List (List ℕ)). take (length p - 1) p) (split_ended newline ls t f) ∙ but_last ls (split newline t) (pieces newline t)

-- what stands after the last newline is as it was
pub last_ended : (ls : List (List ℕ)) (t : List ℕ) → AllFree newline ls → last_piece newline (ended newline ls ++ t) ≡ last_piece newline t
last_ended ls t f = ap (λ (p : List (List ℕ)). get_or p (length p - 1) []) (split_ended newline ls t f) ∙ last_of ls (split newline t) (pieces newline t)

-- lines alone: they are the whole lines, and nothing stands after them
pub whole_lines_lem : (ls : List (List ℕ)) → AllFree newline ls → (whole_lines (ended newline ls) ≡ ls) × (last_piece newline (ended newline ls) ≡ [])
unfolding whole_lines split
whole_lines_lem ls f = (
  ap whole_lines (sym (append-nil (ended newline ls))) ∙ whole_ended ls [] f ∙ append-nil ls,
  ap (last_piece newline) (sym (append-nil (ended newline ls))) ∙ last_ended ls [] f,
)
