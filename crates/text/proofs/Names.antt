-- The laws of the same bytes and of names, as std's `==` and `all` answer them. Assumes nothing.
use Prim.Native.Nat.{ℕ, suc}
use mathlib.Core.Path.{◌≡◌, refl, ap}
use mathlib.Core.Bool.{Bool, true, false, ◌&&◌, and-false}
use mathlib.Core.List.{List, [], ◌∷◌}
use native.Mathlib.Omega.{arith}
use borrow.Author.Tests.{eq-eqb, eqb-true}
use lib.Dec.{eqb}
use lib.ListN.{length}
use lib.Pointwise.{pointwise}
use Rattle.std.specs.Char.{to_ascii_lowercase}
use Rattle.std.specs.List.{zip, list_all}
use Rattle.std.proofs.lemmas.Bool.Decides.{nat_tests}
use Rattle.text.specs.Bytes.{same, lower, lowered}

-- ---- the same bytes

-- what `==` of two slices answers
pub pointwise_same : (a b : List ℕ) → pointwise eqb a b ≡ same a b
unfolding same
pointwise_same [] [] = refl
pointwise_same [] (y ∷ b) = refl
pointwise_same (x ∷ a) [] = refl
pointwise_same (x ∷ a) (y ∷ b) = ap (λ (t : Bool). eqb x y && t) (pointwise_same a b)

pub same_length : (a b : List ℕ) → (length a ≡ length b → ⊥) → same a b ≡ false
unfolding same
same_length [] [] n = absurd (n refl)
same_length [] (y ∷ b) n = refl
same_length (x ∷ a) [] n = refl
same_length (x ∷ a) (y ∷ b) n = rw (same_length a b (λ e. n (ap suc e))) (and-false (eqb x y))

-- ---- `same` is equality

pub same_self : (a : List ℕ) → same a a ≡ true
unfolding same
same_self [] = refl
same_self (x ∷ a) = rw (eq-eqb x x refl, same_self a)

both : (p q : Bool) → (p && q) ≡ true → (p ≡ true) × (q ≡ true)
both true q e = (refl, e)
both false q e = absurd (let z : ◌≡◌ {A = ℕ} 0 1 = cc in omega arith)

pub same_eq : (a b : List ℕ) → same a b ≡ true → a ≡ b
unfolding same
same_eq [] [] e = refl
same_eq [] (y ∷ b) e = absurd (let z : ◌≡◌ {A = ℕ} 0 1 = cc in omega arith)
same_eq (x ∷ a) [] e = absurd (let z : ◌≡◌ {A = ℕ} 0 1 = cc in omega arith)
same_eq (x ∷ a) (y ∷ b) e =
    let p = both (eqb x y) (same a b) e in
    let h : x ≡ y = eqb-true x y p.0 in
    let t : a ≡ b = same_eq a b p.1 in
    cc

-- ---- small letters

pub length_lowered : (w : List ℕ) → length (lowered w) ≡ length w
unfolding lowered
length_lowered [] = refl
length_lowered (b ∷ w) = ap suc (length_lowered w)

pub lowercase_lower : (b : ℕ) → to_ascii_lowercase b ≡ lower b
unfolding lower
lowercase_lower b = grind (arith, nat_tests)

-- a name and a word of one length, byte by byte
pub pairs_same : (name word : List ℕ) → length name ≡ length word → list_all (λ (p : ℕ × ℕ). eqb (to_ascii_lowercase p.0) p.1) (zip name word) ≡ same (lowered name) word
unfolding same lowered
pairs_same [] [] e = refl
pairs_same [] (y ∷ word) e = absurd (omega arith)
pairs_same (x ∷ name) [] e = absurd (omega arith)
pairs_same (x ∷ name) (y ∷ word) e = rw lowercase_lower (ap (λ (t : Bool). eqb (lower x) y && t) (pairs_same name word (omega arith)))
