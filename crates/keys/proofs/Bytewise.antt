-- The order of keys is byte order: for names of up to 16 bytes, none of which is 0. Assumes nothing.
use Prim.Native.Nat.{ℕ, zero, suc, ◌+◌, ◌*◌, ◌^◌, ◌<◌, ◌≤◌}
use mathlib.Core.Path.{◌≡◌, refl, sym, ap, ◌∙◌}
use mathlib.Core.Bool.{Bool, true, false, cond, ◌&&◌}
use mathlib.Core.List.{List, [], ◌∷◌}
use mathlib.Core.Logic.{⊎_elim}
use native.Mathlib.Nat.{mul_assoc, pow-suc, suc-add, zero-add, mul-le-mul_right, suc-mul, eq-or-lt_of_le}
use native.Mathlib.Omega.{arith}
use borrow.Author.Tests.{lt-ltb, le-ltb, eq-eqb, ne_eqb, ltb-true, ltb-false}
use lib.Dec.{ltb, eqb}
use lib.ListN.{length, get_or, drop}
use lib.Seq.{get_or-drop, drop-nil}
use Rattle.lent.proofs.Laws.{either, same_or_not}
use Rattle.keys.specs.Keys.{word_from, key_of, key_before}
use Rattle.keys.specs.Meaning.{bytes_before, NameBytes}

-- the first byte, and the rest; a text that has ended goes on with 0
abbrev lead : List ℕ → ℕ
lead a = get_or a 0 0

rest : List ℕ → List ℕ
rest a = drop 1 a

-- from a place on, the text from that place
word_drop : (s : List ℕ) (i k : ℕ) → word_from s i k ≡ word_from (drop i s) 0 k
unfolding word_from
word_drop s i zero = refl
word_drop s i (suc k) =
    let e = word_drop s i k in
    let g : get_or (drop i s) (0 + k) 0 ≡ get_or s (i + k) 0 = get_or-drop i s (0 + k) 0 ∙ ap (λ (j : ℕ). get_or s (i + j) 0) (zero-add k) in
    rw (e, g)

-- the first byte counts most
word_lead : (s : List ℕ) (k : ℕ) → word_from s 0 (suc k) ≡ lead s * 256 ^ k + word_from (drop 1 s) 0 k
unfolding word_from
word_lead s zero = omega arith
word_lead s (suc k) =
    let e = word_lead s k in
    let g : get_or (drop 1 s) (0 + k) 0 ≡ get_or s (1 + (0 + k)) 0 = get_or-drop 1 s (0 + k) 0 in
    let z : 1 + (0 + k) ≡ 0 + suc k = omega arith in
    let g' : get_or (drop 1 s) (0 + k) 0 ≡ get_or s (0 + suc k) 0 = g ∙ ap (λ (j : ℕ). get_or s j 0) z in
    let p : 256 ^ suc k ≡ 256 ^ k * 256 = pow-suc 256 k in
    let q : lead s * (256 ^ k * 256) ≡ lead s * 256 ^ k * 256 = sym (mul_assoc (lead s) (256 ^ k) 256) in
    rw (g', p, q) (ap (λ (n : ℕ). n * 256 + get_or s (0 + suc k) 0) e ∙ omega arith)

bytes_lead : (a : List ℕ) → NameBytes a → lead a < 256
bytes_lead [] h = omega arith
bytes_lead (x ∷ a) h = h.1

bytes_rest : (a : List ℕ) → NameBytes a → NameBytes (drop 1 a)
bytes_rest [] h = tt
bytes_rest (x ∷ a) h = h.2

bytes_drop : (k : ℕ) (a : List ℕ) → NameBytes a → NameBytes (drop k a)
bytes_drop zero a h = h
bytes_drop (suc k) [] h = tt
bytes_drop (suc k) (x ∷ a) h = bytes_drop k a h.2

word_small : (k : ℕ) (a : List ℕ) → NameBytes a → word_from a 0 k < 256 ^ k
unfolding word_from
word_small zero a h = omega arith
word_small (suc k) a h =
    let e = word_lead a k in
    let s = word_small k (drop 1 a) (bytes_rest a h) in
    let m : suc (lead a) * 256 ^ k ≤ 256 * 256 ^ k = mul-le-mul_right (256 ^ k) (bytes_lead a h) in
    let n : suc (lead a) * 256 ^ k ≡ lead a * 256 ^ k + 256 ^ k = suc-mul (lead a) (256 ^ k) in
    let p : 256 ^ suc k ≡ 256 ^ k * 256 = pow-suc 256 k in
    omega arith

-- ---- two numbers by their first digit

module _ (x y p q n : ℕ) (hp : p < n) (hq : q < n) where
  apart : (a b : ℕ) → a < b → a * n + n ≤ b * n
  apart a b h = let m : suc a * n ≤ b * n = mul-le-mul_right n h in let s = suc-mul a n in omega arith

  lead_less : ltb (x * n + p) (y * n + q) ≡ cond (eqb x y) (ltb p q) (ltb x y)
  lead_less =
      ⊎_elim
      (λ e. let m : x * n ≡ y * n = ap (λ (z : ℕ). z * n) e in rw (eq-eqb x y e) (⊎_elim (λ t. lt-ltb (x * n + p) (y * n + q) (let l = ltb-true p q t in omega arith) ∙ sym t) (λ t. le-ltb (x * n + p) (y * n + q) (let l = ltb-false p q t in omega arith) ∙ sym t) (either (ltb p q))))
      (λ e. rw (ne_eqb x y e) (⊎_elim (λ t. lt-ltb (x * n + p) (y * n + q) (let l = apart x y (ltb-true x y t) in omega arith) ∙ sym t) (λ t. le-ltb (x * n + p) (y * n + q) (let l = apart y x (less y x (ltb-false x y t) (λ z. e (sym z))) in omega arith) ∙ sym t) (either (ltb x y))))
      (same_or_not x y)
    where
      less : (a b : ℕ) → a ≤ b → (a ≡ b → ⊥) → a < b
      less a b l f = ⊎_elim (λ z. absurd (f z)) (λ z. z) (eq-or-lt_of_le l)

  lead_same : eqb (x * n + p) (y * n + q) ≡ (eqb x y && eqb p q)
  lead_same =
      ⊎_elim
      (λ e. let m : x * n ≡ y * n = ap (λ (z : ℕ). z * n) e in rw (eq-eqb x y e) (⊎_elim (λ t. eq-eqb (x * n + p) (y * n + q) (omega arith) ∙ sym (eq-eqb p q t)) (λ f. ne_eqb (x * n + p) (y * n + q) (λ z. f (omega arith)) ∙ sym (ne_eqb p q f)) (same_or_not p q)))
      (λ e. rw (ne_eqb x y e) (ne_eqb (x * n + p) (y * n + q) (λ z. ⊎_elim (λ t. let l = apart x y (ltb-true x y t) in omega arith) (λ t. ⊎_elim (λ s. e (sym s)) (λ s. let l = apart y x s in omega arith) (eq-or-lt_of_le (ltb-false x y t))) (either (ltb x y)))))
      (same_or_not x y)

-- ---- k bytes, first to last

lex_l : ℕ → List ℕ → List ℕ → Bool
lex_l zero a b = false
lex_l (suc k) a b = cond (eqb (lead a) (lead b)) (lex_l k (drop 1 a) (drop 1 b)) (ltb (lead a) (lead b))

same_l : ℕ → List ℕ → List ℕ → Bool
same_l zero a b = true
same_l (suc k) a b = eqb (lead a) (lead b) && same_l k (drop 1 a) (drop 1 b)

lex_word : (k : ℕ) (a b : List ℕ) → NameBytes a → NameBytes b → ltb (word_from a 0 k) (word_from b 0 k) ≡ lex_l k a b
unfolding word_from lex_l
lex_word zero a b h g = le-ltb 0 0 (omega arith)
lex_word (suc k) a b h g =
    rw (word_lead a k, word_lead b k)
    (lead_less (lead a) (lead b) (word_from (drop 1 a) 0 k) (word_from (drop 1 b) 0 k) (256 ^ k) (word_small k (drop 1 a) (bytes_rest a h)) (word_small k (drop 1 b) (bytes_rest b g))
    ∙ ap (λ (t : Bool). cond (eqb (lead a) (lead b)) t (ltb (lead a) (lead b))) (lex_word k (drop 1 a) (drop 1 b) (bytes_rest a h) (bytes_rest b g)))

same_word : (k : ℕ) (a b : List ℕ) → NameBytes a → NameBytes b → eqb (word_from a 0 k) (word_from b 0 k) ≡ same_l k a b
unfolding word_from same_l
same_word zero a b h g = eq-eqb 0 0 refl
same_word (suc k) a b h g =
    rw (word_lead a k, word_lead b k)
    (lead_same (lead a) (lead b) (word_from (drop 1 a) 0 k) (word_from (drop 1 b) 0 k) (256 ^ k) (word_small k (drop 1 a) (bytes_rest a h)) (word_small k (drop 1 b) (bytes_rest b g))
    ∙ ap (λ (t : Bool). eqb (lead a) (lead b) && t) (same_word k (drop 1 a) (drop 1 b) (bytes_rest a h) (bytes_rest b g)))

drop_suc : (k : ℕ) (a : List ℕ) → drop k (drop 1 a) ≡ drop (suc k) a
drop_suc k [] = drop-nil k
drop_suc k (x ∷ a) = refl

lex_split : (k m : ℕ) (a b : List ℕ) → lex_l (k + m) a b ≡ cond (same_l k a b) (lex_l m (drop k a) (drop k b)) (lex_l k a b)
unfolding lex_l same_l
lex_split zero m a b = ap (λ (j : ℕ). lex_l j a b) (zero-add m)
lex_split (suc k) m a b =
    rw (suc-add k m)
    (⊎_elim
    (λ t. rw t (lex_split k m (drop 1 a) (drop 1 b) ∙ rw (drop_suc k a, drop_suc k b)))
    (λ t. rw t)
    (either (eqb (lead a) (lead b))))

lex_bytes : (k : ℕ) (a b : List ℕ) → NameBytes a → NameBytes b → length a ≤ k → length b ≤ k → lex_l k a b ≡ bytes_before a b
unfolding lex_l bytes_before
lex_bytes zero [] [] h g u v = refl
lex_bytes zero [] (y ∷ b) h g u v = absurd (omega arith)
lex_bytes zero (x ∷ a) b h g u v = absurd (omega arith)
lex_bytes (suc k) [] [] h g u v = lex_bytes k [] [] h g (omega arith) (omega arith)
lex_bytes (suc k) [] (y ∷ b) h g u v = let p : 0 < y = g.0 in rw (ne_eqb 0 y (λ z. omega arith)) (lt-ltb 0 y p)
lex_bytes (suc k) (x ∷ a) [] h g u v = let p : 0 < x = h.0 in rw (ne_eqb x 0 (λ z. omega arith)) (le-ltb x 0 (omega arith))
lex_bytes (suc k) (x ∷ a) (y ∷ b) h g u v = ap (λ (t : Bool). cond (eqb x y) t (ltb x y)) (lex_bytes k a b h.2 g.2 (omega arith) (omega arith))

-- "Names are listed in byte order": the order of keys is that of their names' bytes
pub byte_order : (a b : List ℕ) → NameBytes a → NameBytes b → length a ≤ 16 → length b ≤ 16 → key_before (key_of a) (key_of b) ≡ bytes_before a b
unfolding key_before key_of
byte_order a b h g u v =
    rw (word_drop a 8 8, word_drop b 8 8, same_word 8 a b h g, lex_word 8 a b h g, lex_word 8 (drop 8 a) (drop 8 b) (bytes_drop 8 a h) (bytes_drop 8 b g))
    (sym (lex_split 8 8 a b) ∙ lex_bytes 16 a b h g u v)
