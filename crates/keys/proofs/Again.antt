-- A name's bytes come back from its key. Assumes nothing.
use Prim.Native.Nat.{ℕ, zero, suc, ◌+◌, ◌-◌, ◌/◌, ◌%◌, ◌<◌, ◌≤◌}
use mathlib.Core.Path.{◌≡◌, refl, ap, ◌∙◌}
use mathlib.Core.Bool.{true}
use mathlib.Core.List.{List, [], ◌∷◌, ◌++◌}
use mathlib.Core.Logic.{⊎_elim}
use native.Mathlib.Nat.{mul-add-div_right, mul-add-mod_self_right, div-eq_of_lt, mod-eq_of_lt, add-zero}
use native.Mathlib.Omega.{arith}
use borrow.Author.Tests.{ltb-true, ltb-false, leb-true, ne_eqb}
use lib.Dec.{leb, ltb}
use lib.ListN.{length, get_or}
use Rattle.lent.specs.Grid.{tab}
use Rattle.lent.proofs.Laws.{either, and_left, and_right, length_tab, tab_ext}
use Rattle.fields.specs.Split.{first_piece, all}
use Rattle.fields.proofs.Pieces.{upto_le}
use Rattle.names.specs.Names.{is_name, in_name}
use Rattle.keys.specs.Keys.{word_from, shortened, key_of, key_byte, key_bytes}
use Rattle.keys.specs.Meaning.{NameBytes}
use Rattle.keys.specs.declared.Key.{Key}

-- ---- a word's bytes

byte_small : (s : List ℕ) → NameBytes s → (i : ℕ) → get_or s i 0 < 256
byte_small [] h i = omega arith
byte_small (x ∷ s) h zero = h.1
byte_small (x ∷ s) h (suc i) = byte_small s h.2 i

module _ (s : List ℕ) (h : NameBytes s) (from : ℕ) where
  -- without its last byte, and that byte
  less_one : (k : ℕ) → word_from s from (suc k) / 256 ≡ word_from s from k
  unfolding word_from
  less_one k =
      let b : get_or s (from + k) 0 < 256 = byte_small s h (from + k) in
      mul-add-div_right (omega arith) (word_from s from k) (get_or s (from + k) 0) ∙ ap (λ (z : ℕ). word_from s from k + z) (div-eq_of_lt b) ∙ add-zero (word_from s from k)

  last_one : (k : ℕ) → word_from s from (suc k) % 256 ≡ get_or s (from + k) 0
  unfolding word_from
  last_one k = mul-add-mod_self_right (word_from s from k) 256 (get_or s (from + k) 0) ∙ mod-eq_of_lt (byte_small s h (from + k))

  shift_word : (j k n : ℕ) → k + j ≡ n → shortened j (word_from s from n) ≡ word_from s from k
  unfolding shortened
  shift_word zero k n e = ap (word_from s from) (omega arith)
  shift_word (suc j) k n e = ap (λ (z : ℕ). z / 256) (shift_word j (suc k) n (omega arith)) ∙ less_one k

  -- byte k of a word of n bytes
  byte_again : (j k n : ℕ) → suc k + j ≡ n → shortened j (word_from s from n) % 256 ≡ get_or s (from + k) 0
  byte_again j k n e = ap (λ (z : ℕ). z % 256) (shift_word j (suc k) n e) ∙ last_one k

pub key_byte_lem : (s : List ℕ) → NameBytes s → (i : ℕ) → i < 16 → key_byte (key_of s) i ≡ get_or s i 0
unfolding key_byte key_of
key_byte_lem s h i l =
    ⊎_elim
    (λ t. let g = ltb-true i 8 t in rw t (byte_again s h 0 (7 - i) i 8 (omega arith) ∙ ap (λ (j : ℕ). get_or s j 0) (omega arith)))
    (λ t. let g = ltb-false i 8 t in rw t (byte_again s h 8 (15 - i) (i - 8) 8 (omega arith) ∙ ap (λ (j : ℕ). get_or s j 0) (omega arith)))
    (either (ltb i 8))

-- ---- the bytes before the first that is 0

tab_front : (n : ℕ) (f : ℕ → ℕ) → tab (suc n) f ≡ f 0 ∷ tab n (λ k. f (suc k))
unfolding tab
tab_front zero f = refl
tab_front (suc n) f = ap (λ (l : List ℕ). l ++ (f (suc n) ∷ [])) (tab_front n f)

padded : (n : ℕ) (w : List ℕ) → NameBytes w → length w ≤ n → first_piece 0 (tab n (λ k. get_or w k 0)) ≡ w
unfolding first_piece tab
padded zero [] h l = refl
padded zero (x ∷ w) h l = absurd (omega arith)
padded (suc n) [] h l = ap (first_piece 0) (tab_front n (λ (k : ℕ). get_or [] k 0))
padded (suc n) (x ∷ w) h l =
    let p : 0 < x = h.0 in
    ap (first_piece 0) (tab_front n (λ (k : ℕ). get_or (x ∷ w) k 0))
    ∙ rw (ne_eqb x 0 (λ z. omega arith)) (ap (λ (t : List ℕ). x ∷ t) (padded n w h.2 (omega arith)))

pub bytes_again : (w : List ℕ) → NameBytes w → length w ≤ 16 → key_bytes (key_of w) ≡ w
unfolding key_bytes
bytes_again w h l = ap (first_piece 0) (tab_ext 16 (key_byte (key_of w)) (λ (k : ℕ). get_or w k 0) (key_byte_lem w h)) ∙ padded 16 w h l

pub keys_long : (x : Key) → length (key_bytes x) ≤ 16
unfolding key_bytes
keys_long x = let e = length_tab 16 (key_byte x) in let u = upto_le 0 (tab 16 (key_byte x)) in omega arith

-- ---- the bytes of an asset's name: "1 to 16 bytes 21 to 7e hex"

all_bytes : (w : List ℕ) → all in_name w ≡ true → NameBytes w
unfolding all
all_bytes [] e = tt
all_bytes (x ∷ w) e =
    let h = and_left (in_name x) (all in_name w) e in
    let lo = leb-true 0x21 x (and_left (leb 0x21 x) (leb x 0x7e) h) in
    let hi = leb-true x 0x7e (and_right (leb 0x21 x) (leb x 0x7e) h) in
    (omega arith, omega arith, all_bytes w (and_right (in_name x) (all in_name w) e))

pub name_bytes : (w : List ℕ) → is_name w ≡ true → NameBytes w × (length w ≤ 16)
unfolding is_name
name_bytes w e =
    let a = and_right (leb 1 (length w)) _ e in
    let b = and_right (leb (length w) 16) _ a in
    (all_bytes w (and_left (all in_name w) _ b), leb-true (length w) 16 (and_left (leb (length w) 16) _ a))
