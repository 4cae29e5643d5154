-- Digits: a loop that writes them from the last to the first, and one that counts them. Assumes nothing.
use Prim.Native.Nat.{ℕ, zero, suc, ◌+◌, ◌-◌, ◌/◌, ◌%◌, ◌^◌, ◌≤◌, ◌<◌}
use mathlib.Core.Path.{◌≡◌, refl, sym, ap, ◌∙◌, subst}
use mathlib.Core.Bool.{Bool, true, false, cond}
use mathlib.Core.List.{List, [], ◌∷◌, ◌++◌, append_assoc, append-nil}
use native.Mathlib.Omega.{arith}
use native.Mathlib.Nat.{pow-suc}
use native.Mathlib.Numerals.{add-one}
use borrow.Author.Tests.{lt-ltb, le-ltb, ltb-true, ltb-false}
use lib.Dec.{ltb}
use lib.ListN.{length, set, length-append}
use Rattle.writing.specs.Writing.{digit_byte, digits, places, decimal, hex_of, Put, Wrote}
use Rattle.writing.proofs.Writing.{nothing, renamed, before, put_none}

-- ---- one digit

pub low_digit : (d : ℕ) → d < 10 → d + 48 ≡ digit_byte d
unfolding digit_byte
low_digit d h = rw (lt-ltb d 10 h)

pub high_digit : (d : ℕ) → 10 ≤ d → d + 87 ≡ digit_byte d
unfolding digit_byte
high_digit d h = rw (le-ltb d 10 h)

-- ---- how many

pub length_digits : (base k n : ℕ) → length (digits base k n) ≡ k
unfolding digits
length_digits base zero n = refl
length_digits base (suc k) n = length-append (digits base k (n / base)) (digit_byte (n % base) ∷ []) ∙ rw (length_digits base k (n / base), add-one)

pub hex_length : (n : ℕ) → length (hex_of n) ≡ 16
unfolding hex_of
hex_length n = length_digits 16 16 n

pub one_place_more : (m l : ℕ) → 10 ≤ l → places (suc m) l ≡ suc (places m (l / 10))
unfolding places
one_place_more m l h = rw (le-ltb l 10 h)

pub last_place : (m l : ℕ) → l < 10 → places m l ≡ 1
unfolding places
last_place zero l h = refl
last_place (suc m) l h = rw (lt-ltb l 10 h)

places_le : (r n : ℕ) → places r n ≤ suc r
unfolding places
places_le zero n = omega arith
places_le (suc r) n = go (ltb n 10) (places_le r (n / 10))
  where
    go : (b : Bool) → places r (n / 10) ≤ suc r → cond b 1 (suc (places r (n / 10))) ≤ suc (suc r)
    go true ih = omega arith
    go false ih = omega arith

-- a number below 10^(r + 1) takes at most r + 1
places_short : (m r n : ℕ) → n < 10 ^ suc r → places (r + m) n ≤ suc r
places_short m zero n h = omega (arith, last_place (0 + m) n h)
places_short m (suc r) n h = go (ltb n 10) refl (places_short m r (n / 10) (omega (arith, pow-suc 10 (suc r))))
  where
    go : (b : Bool) → ltb n 10 ≡ b → places (r + m) (n / 10) ≤ suc r → places (suc r + m) n ≤ suc (suc r)
    go true e ih = omega (arith, last_place (suc r + m) n (ltb-true n 10 e))
    go false e ih = let f : suc r + m ≡ suc (r + m) = omega arith in rw f (omega (arith, one_place_more (r + m) n (ltb-false n 10 e)))

pub decimal_places : (n : ℕ) → length (decimal n) ≡ places 19 n
unfolding decimal
decimal_places n = length_digits 10 (places 19 n) n

pub decimal_long : (n : ℕ) → length (decimal n) ≤ 20
decimal_long n = omega (arith, decimal_places n, places_le 19 n)

pub decimal_at_most : (r n : ℕ) → r ≤ 19 → n < 10 ^ suc r → length (decimal n) ≤ suc r
decimal_at_most r n l h =
    let e : r + (19 - r) ≡ 19 = omega arith in
    omega (arith, decimal_places n, subst (λ (m : ℕ). places m n ≤ suc r) e (places_short (19 - r) r n h))

pub decimal_short : (n : ℕ) → n < 10000000 → length (decimal n) ≤ 7
decimal_short n h = decimal_at_most 6 n (omega arith) h

-- no room for k of them
pub digits_none : (base k n at : ℕ) (d : List ℕ) → length d < at + k → Put d at (digits base k n) d at
digits_none base k n at d h = put_none (omega (arith, length_digits base k n)) refl refl

-- ---- written from the last to the first: of the k digits of n, all but the first i are in `out`, and those are the digits of `left`

pub record Putting (base k n at : ℕ) (out₀ : List ℕ) (left i : ℕ) (out : List ℕ) : Type 0 where
  pub rest : List ℕ
  pub is : digits base k n ≡ digits base i left ++ rest
  pub done : Wrote out₀ (at + i) rest out (at + k)

pub putting_start : (base k n at : ℕ) (out : List ℕ) → at + k ≤ length out → Putting base k n at out n k out
putting_start base k n at out h = record { rest = []; is = sym (append-nil (digits base k n)); done = nothing out (at + k) h }

last_digit : (base i n : ℕ) (rest : List ℕ) → digits base (i + 1) n ++ rest ≡ digits base i (n / base) ++ (digit_byte (n % base) ∷ rest)
unfolding digits
last_digit base i n rest = rw add-one (append_assoc (digits base i (n / base)) (digit_byte (n % base) ∷ []) rest)

pub putting_step : {base k n at : ℕ} {out₀ : List ℕ} {left i : ℕ} {out : List ℕ} (b : ℕ) → Putting base k n at out₀ left i out → 0 < i → b ≡ digit_byte (left % base)
    → Putting base k n at out₀ (left / base) (i - 1) (set out (at + (i - 1)) b)
putting_step {base} {k} {n} {at} {out₀} {left} {i} {out} b p h e =
    let j = i - 1 in
    let f : i ≡ j + 1 = omega arith in
    let g : at + i ≡ at + j + 1 = omega arith in
    record {
      rest = b ∷ p.rest;
      is = p.is ∙ ap (λ (m : ℕ). digits base m left ++ p.rest) f ∙ last_digit base j left p.rest ∙ ap (λ (d : ℕ). digits base j (left / base) ++ (d ∷ p.rest)) (sym e);
      done = before b (subst (λ (m : ℕ). Wrote out₀ m p.rest out (at + k)) g p.done);
    }

pub putting_end : {base k n at : ℕ} {out₀ : List ℕ} {left i : ℕ} {out : List ℕ} → Putting base k n at out₀ left i out → i ≡ 0 → Wrote out₀ at (digits base k n) out (at + k)
unfolding digits
putting_end {base} {k} {n} {at} {out₀} {left} {i} {out} p h =
    let e : at + i ≡ at = omega arith in
    renamed (digits base k n) (subst (λ (m : ℕ). Wrote out₀ m p.rest out (at + k)) e p.done) (sym (p.is ∙ ap (λ (m : ℕ). digits base m left ++ p.rest) h))

-- ---- counted: k − 1 digits of n are off, `left` is what they leave, and at most 20 − k more may come

pub record Counting (n k left : ℕ) : Type 0 where
  pub more : ℕ
  pub few : k + more ≡ 20
  pub small : left < 10 ^ suc more
  pub is : places 19 n + 1 ≡ k + places more left

pub counting_start : (n : ℕ) → n < 18446744073709551616 → Counting n 1 n
counting_start n h = record { more = 19; few = refl; small = omega arith; is = omega arith }

pub counting_step : {n k left : ℕ} → Counting n k left → 10 ≤ left → Counting n (k + 1) (left / 10)
counting_step {n} {k} {left} p h = go p.more p.few p.small p.is
  where
    go : (m : ℕ) → k + m ≡ 20 → left < 10 ^ suc m → places 19 n + 1 ≡ k + places m left → Counting n (k + 1) (left / 10)
    go zero f s e = absurd (omega arith)
    go (suc m) f s e = record {
      more = m;
      few = omega arith;
      small = omega (arith, pow-suc 10 (suc m));
      is = omega (arith, one_place_more m left h);
    }

pub counting_end : {n k left : ℕ} → Counting n k left → left < 10 → k ≡ length (decimal n)
counting_end {n} {k} {left} p h = omega (arith, decimal_places n, p.is, last_place p.more left h)

-- so no count passes 20
pub counting_le : {n k left : ℕ} → Counting n k left → k ≤ 20
counting_le p = omega (arith, p.few)
