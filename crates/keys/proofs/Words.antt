-- The words of a key. Assumes nothing.
use Prim.Native.Nat.{ℕ, suc, ◌+◌, ◌*◌, ◌/◌, ◌^◌, ◌<◌, ◌≤◌}
use mathlib.Core.Path.{◌≡◌, ap, ◌∙◌}
use mathlib.Core.List.{List}
use native.Mathlib.Nat.{le_antisymm, pow-suc, pow-le-pow_right}
use native.Mathlib.Numerals.{add-one}
use native.Mathlib.Omega.{arith}
use lib.Dec.{lit<}
use lib.ListN.{get_or}
use Rattle.keys.specs.Keys.{word_from, shortened}

-- one byte more
pub word_more : (s : List ℕ) (from k w b : ℕ) → w ≡ word_from s from k → b ≡ get_or s (from + k) 0 → w * 256 + b ≡ word_from s from (k + 1)
unfolding word_from
word_more s from k w b e f = rw (add-one, e, f)

-- k bytes are worth under 256^k
pub word_room : (w b k : ℕ) → w < 256 ^ k → k < 8 → b < 256 → (w * 256 + b < 2 ^ 64) × (w * 256 + b < 256 ^ (k + 1))
word_room w b k h g f =
    let p : 256 ^ suc k ≡ 256 ^ k * 256 = pow-suc 256 k in
    let q : 256 ^ suc k ≤ 256 ^ 8 = pow-le-pow_right (lit< tt) g in
    (omega arith, rw add-one (omega arith))

-- ---- a word without its last bytes

pub shift_more : (w left k : ℕ) → left ≡ shortened k w → left / 256 ≡ shortened (k + 1) w
unfolding shortened
shift_more w left k e = rw (add-one, e)

pub shift_end : (w left i k : ℕ) → left ≡ shortened i w → i ≤ k → k ≤ i → left ≡ shortened k w
shift_end w left i k e h g = e ∙ ap (λ (j : ℕ). shortened j w) (le_antisymm h g)
