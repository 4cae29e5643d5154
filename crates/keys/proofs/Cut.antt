-- The bytes of a key's name, cut from its sixteen. Assumes nothing.
use Prim.Native.Nat.{ℕ, ◌≤◌}
use mathlib.Core.Path.{◌≡◌, sym, ap, ◌∙◌}
use mathlib.Core.List.{List}
use native.Mathlib.Omega.{arith}
use lib.ListN.{length, take}
use Rattle.lent.specs.Grid.{tab}
use Rattle.lent.proofs.Laws.{length_tab}
use Rattle.fields.specs.Split.{first_piece, end_of}
use Rattle.fields.proofs.Pieces.{end_le, cut_front}
use Rattle.keys.specs.Keys.{key_byte, key_bytes}
use Rattle.keys.specs.declared.Key.{Key}

pub sixteen : (d : List ℕ) (x : Key) → d ≡ tab 16 (key_byte x) → 16 ≡ length d
sixteen d x e = sym (ap length e ∙ length_tab 16 (key_byte x))

pub end_in : (d : List ℕ) (e : ℕ) → e ≡ end_of 0 d 0 → e ≤ length d
end_in d e h = rw h (end_le 0 d 0 (omega arith))

pub cut_name : (d : List ℕ) (e : ℕ) (x : Key) → d ≡ tab 16 (key_byte x) → e ≡ end_of 0 d 0 → take e d ≡ key_bytes x
unfolding key_bytes
cut_name d e x h g = ap (λ (k : ℕ). take k d) g ∙ cut_front 0 d ∙ ap (first_piece 0) h
