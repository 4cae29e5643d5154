-- Bytes of a text, and names. Definitions only.
use Rattle.std.specs.Prelude.{ℕ, zero, suc, ◌+◌, Bool, true, false, ◌&&◌, cond, List, [], ◌∷◌, ◌++◌, leb, eqb}
use Prim.Native.String.{String, len, char_at}
use Prim.Native.Char.{code}

-- the first n bytes of a text of 7-bit characters, and all of them: bytes "hi" is 104 ∷ 105 ∷ []
abbrev pub bytes_to : ℕ → String → List ℕ
bytes_to zero s = []
bytes_to (suc n) s = bytes_to n s ++ (code (char_at s n) ∷ [])

abbrev pub bytes : String → List ℕ
bytes s = bytes_to (len s) s

-- the same bytes
unfoldable pub same : List ℕ → List ℕ → Bool
same [] [] = true
same [] (y ∷ ys) = false
same (x ∷ xs) [] = false
same (x ∷ xs) (y ∷ ys) = eqb x y && same xs ys

-- a letter A to Z as the small letter; any other byte as it is
unfoldable pub lower : ℕ → ℕ
lower b = cond (leb 65 b && leb b 90) (b + 32) b

unfoldable pub lowered : List ℕ → List ℕ
unfolding lower
lowered [] = []
lowered (b ∷ w) = lower b ∷ lowered w

-- "(any case)": a name is the word of small letters in whatever case it is written
unfoldable pub is_word : List ℕ → List ℕ → Bool
unfolding lowered same
is_word name word = same (lowered name) word
