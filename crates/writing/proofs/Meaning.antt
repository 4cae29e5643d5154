-- What is written of a number is worth the number, read as `fields` reads digits, and has no zero in front. Assumes nothing.
use Prim.Native.Nat.{ℕ, zero, suc, ◌+◌, ◌*◌, ◌/◌, ◌%◌, ◌^◌, ◌≤◌, ◌<◌}
use mathlib.Core.Path.{◌≡◌, refl, sym, ap, ◌∙◌}
use mathlib.Core.Bool.{Bool, true, false, cond}
use mathlib.Core.List.{List, [], ◌∷◌, ◌++◌}
use native.Mathlib.Omega.{arith}
use native.Mathlib.Nat.{pow-zero, pow-suc, mod-lt, div-add-mod', div-lt_iff_lt-mul}
use borrow.Author.Tests.{le-leb, lt-leb, ltb-true, ltb-false}
use lib.Dec.{ltb}
use lib.ListN.{get_or, get_or-append}
use Rattle.fields.specs.Numerals.{digit, number}
use Rattle.writing.specs.Writing.{digit_byte, digits, places, decimal, hex_of}
use Rattle.writing.proofs.Digits.{low_digit, high_digit, length_digits, one_place_more, last_place}

-- ---- one digit

low_worth : (d : ℕ) → d < 10 → digit (d + 48) ≡ d
unfolding digit
low_worth d h = rw (le-leb 48 (d + 48) (omega arith), le-leb (d + 48) 57 (omega arith)) (omega arith)

high_worth : (d : ℕ) → 10 ≤ d → d < 16 → digit (d + 87) ≡ d
unfolding digit
high_worth d h g = rw (le-leb 48 (d + 87) (omega arith), lt-leb (d + 87) 57 (omega arith), le-leb 97 (d + 87) (omega arith), le-leb (d + 87) 102 (omega arith)) (omega arith)

digit_worth : (d : ℕ) → d < 16 → digit (digit_byte d) ≡ d
digit_worth d h = go (ltb d 10) refl
  where
    go : (b : Bool) → ltb d 10 ≡ b → digit (digit_byte d) ≡ d
    go true e = let l = ltb-true d 10 e in ap digit (sym (low_digit d l)) ∙ low_worth d l
    go false e = let l = ltb-false d 10 e in ap digit (sym (high_digit d l)) ∙ high_worth d l h

-- ---- all of them

number_more : (base n b : ℕ) (w : List ℕ) → number base n (w ++ (b ∷ [])) ≡ number base n w * base + digit b
unfolding number
number_more base n b [] = refl
number_more base n b (c ∷ w) = number_more base (n * base + digit c) b w

pub digits_worth : (base k n : ℕ) → 0 < base → base ≤ 16 → n < base ^ k → number base 0 (digits base k n) ≡ n
unfolding digits number
digits_worth base zero n z b h = omega (arith, pow-zero base)
digits_worth base (suc k) n z b h =
    let low = digit_worth (n % base) (omega (arith, mod-lt n z)) in
    let high = digits_worth base k (n / base) z b ((div-lt_iff_lt-mul z).1 (omega (arith, pow-suc base k))) in
    number_more base 0 (digit_byte (n % base)) (digits base k (n / base)) ∙ rw (high, low) (div-add-mod' n base)

pub hex_worth : (n : ℕ) → n < 18446744073709551616 → number 16 0 (hex_of n) ≡ n
unfolding hex_of
hex_worth n h = digits_worth 16 16 n (omega arith) (omega arith) h

-- n has no more than `places` digits
places_enough : (r n : ℕ) → n < 10 ^ suc r → n < 10 ^ places r n
unfolding places
places_enough zero n h = h
places_enough (suc r) n h = go (ltb n 10) refl (places_enough r (n / 10) (omega (arith, pow-suc 10 (suc r))))
  where
    go : (b : Bool) → ltb n 10 ≡ b → n / 10 < 10 ^ places r (n / 10) → n < 10 ^ places (suc r) n
    go true e ih = rw (last_place (suc r) n (ltb-true n 10 e)) (ltb-true n 10 e)
    go false e ih = rw (one_place_more r n (ltb-false n 10 e)) (omega (arith, pow-suc 10 (places r (n / 10))))

pub decimal_worth : (n : ℕ) → n < 18446744073709551616 → number 10 0 (decimal n) ≡ n
unfolding decimal
decimal_worth n h = digits_worth 10 (places 19 n) n (omega arith) (omega arith) (places_enough 19 n (omega arith))

-- ---- no zero in front

one_digit : (n : ℕ) → 0 < n → n < 10 → 48 < get_or (digits 10 1 n) 0 0
unfolding digits
one_digit n z h = let e : n % 10 ≡ n = omega arith in omega (arith, low_digit (n % 10) (omega arith))

-- one digit more at the end
front_stays : (k n : ℕ) → 0 < k → get_or (digits 10 (suc k) n) 0 0 ≡ get_or (digits 10 k (n / 10)) 0 0
unfolding digits
front_stays k n h = get_or-append (digits 10 k (n / 10)) (digit_byte (n % 10) ∷ []) 0 0 (omega (arith, length_digits 10 k (n / 10)))

places_some : (r n : ℕ) → 0 < places r n
unfolding places
places_some zero n = omega arith
places_some (suc r) n = go (ltb n 10)
  where
    go : (b : Bool) → 0 < cond b 1 (suc (places r (n / 10)))
    go true = omega arith
    go false = omega arith

front : (r n : ℕ) → 0 < n → n < 10 ^ suc r → 48 < get_or (digits 10 (places r n) n) 0 0
front zero n z h = rw (last_place 0 n h) (one_digit n z h)
front (suc r) n z h = go (ltb n 10) refl (λ p. front r (n / 10) p (omega (arith, pow-suc 10 (suc r))))
  where
    go : (b : Bool) → ltb n 10 ≡ b → (0 < n / 10 → 48 < get_or (digits 10 (places r (n / 10)) (n / 10)) 0 0) → 48 < get_or (digits 10 (places (suc r) n) n) 0 0
    go true e ih = let l = ltb-true n 10 e in rw (last_place (suc r) n l) (one_digit n z l)
    go false e ih =
        let l = ltb-false n 10 e in
        rw (one_place_more r n l, front_stays (places r (n / 10)) n (places_some r (n / 10))) (ih (omega arith))

pub decimal_front : (n : ℕ) → 0 < n → n < 18446744073709551616 → 48 < get_or (decimal n) 0 0
unfolding decimal
decimal_front n z h = front 19 n z (omega arith)
