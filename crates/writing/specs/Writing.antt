-- Bytes and numerals written into a lent buffer, one part after another. Definitions only.
use Rattle.std.specs.Prelude.{ℕ, zero, suc, ◌≤◌, ◌+◌, ◌/◌, ◌%◌, ◌≡◌, cond, List, [], ◌∷◌, ◌++◌, leb, ltb, length}
use Rattle.std.proofs.Math.Seq.{paste}

-- a digit of base 10 or 16 as a byte: 0 to 9, then a to f
unfoldable pub digit_byte : ℕ → ℕ
digit_byte d = cond (ltb d 10) (d + 48) (d + 87)

-- the k last digits of a number
unfoldable pub digits : ℕ → ℕ → ℕ → List ℕ
unfolding digit_byte
digits base zero n = []
digits base (suc k) n = digits base k (n / base) ++ (digit_byte (n % base) ∷ [])

-- how many decimal digits a number takes, if they are at most k + 1
unfoldable pub places : ℕ → ℕ → ℕ
places zero n = 1
places (suc k) n = cond (ltb n 10) 1 (suc (places k (n / 10)))

-- a number of at most 20 decimal digits, as text: every number below 2^64
unfoldable pub decimal : ℕ → List ℕ
unfolding places digits
decimal n = digits 10 (places 19 n) n

-- the 16 hex digits of a pattern of 64 bits
unfoldable pub hex_of : ℕ → List ℕ
unfolding digits
hex_of n = digits 16 16 n

-- f 0, f 1, .., f (n - 1), one after the other
unfoldable pub joined : ℕ → (ℕ → List ℕ) → List ℕ
joined zero f = []
joined (suc n) f = joined n f ++ f n

-- ---- into a buffer that holds d

-- d, with s written from place `at` on
unfoldable pub written : List ℕ → ℕ → List ℕ → List ℕ
written d at s = paste d at s (length s)

-- the same where s fits; else d as it was
unfoldable pub put : List ℕ → ℕ → List ℕ → List ℕ
unfolding written
put d at s = cond (leb (at + length s) (length d)) (written d at s) d

-- the place after s where it fits; else `at`
unfoldable pub past : List ℕ → ℕ → List ℕ → ℕ
past d at s = cond (leb (at + length s) (length d)) (at + length s) at

-- what a call that writes s from place `at` on leaves, and answers: all of s where it fits, else nothing
pub record Put (d : List ℕ) (at : ℕ) (s d' : List ℕ) (at' : ℕ) : Type 0 where
  pub bytes : d' ≡ put d at s
  pub moved : at' ≡ past d at s

-- s was written into d from place `at` on, up to place at': what such a call does where s fits
pub record Wrote (d : List ℕ) (at : ℕ) (s d' : List ℕ) (at' : ℕ) : Type 0 where
  pub moved : at' ≡ at + length s
  pub room : at' ≤ length d
  pub same : length d' ≡ length d
  pub bytes : d' ≡ written d at s

-- that it does so where s fits: what several such calls, one after the other, promise together
pub record Fitting (d : List ℕ) (at : ℕ) (s d' : List ℕ) (at' : ℕ) : Type 0 where
  pub wrote : at + length s ≤ length d → Wrote d at s d' at'
