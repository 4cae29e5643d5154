-- The order of keys: strict and total; and keys that are the same are those of the same bytes. Assumes nothing.
use Prim.Native.Nat.{ℕ, ◌<◌, ◌≤◌}
use mathlib.Core.Path.{◌≡◌, refl, sym, ap, ◌∙◌}
use mathlib.Core.Bool.{Bool, true, false, ◌&&◌}
use mathlib.Core.List.{List, [], ◌∷◌}
use mathlib.Core.Logic.{⊎_elim}
use native.Mathlib.Nat.{eq-or-lt_of_le}
use native.Mathlib.Omega.{arith}
use borrow.Author.Tests.{lt-ltb, eq-eqb, ne_eqb, ltb-true, ltb-false, eqb-true, eqb-false}
use lib.Dec.{eqb}
use lib.ListN.{length}
use Rattle.lent.proofs.Laws.{either, same_or_not}
use Rattle.keys.specs.Keys.{key_of, key_before, key_same}
use Rattle.keys.specs.Meaning.{bytes_before, NameBytes}
use Rattle.keys.specs.declared.Key.{Key}
use Rattle.keys.proofs.Bytewise.{byte_order}

-- ---- names in order

never : {A : Type 0} → true ≡ false → A
never e = absurd (let z : ◌≡◌ {A = ℕ} 0 1 = cc in omega arith)

pub record Ahead (x y : Key) : Type 0 where
  pub high : x.high ≤ y.high
  pub low : x.high ≡ y.high → x.low < y.low

ahead : (x y : Key) → key_before x y ≡ true → Ahead x y
unfolding key_before
ahead x y e =
    ⊎_elim
    (λ q. let f = rw q at e in let g = eqb-true x.high y.high q in record { high = omega arith; low = λ _. ltb-true x.low y.low f })
    (λ q. let f = rw q at e in let g = ltb-true x.high y.high f in record { high = omega arith; low = λ z. absurd (eqb-false x.high y.high q z) })
    (either (eqb x.high y.high))

back : (x y : Key) → Ahead x y → key_before x y ≡ true
unfolding key_before
back x y a =
    ⊎_elim
    (λ q. rw (eq-eqb x.high y.high q) (lt-ltb x.low y.low (a.low q)))
    (λ n. rw (ne_eqb x.high y.high n) (lt-ltb x.high y.high (less a.high n)))
    (same_or_not x.high y.high)
  where
    less : x.high ≤ y.high → (x.high ≡ y.high → ⊥) → x.high < y.high
    less p n = ⊎_elim (λ q. absurd (n q)) (λ l. l) (eq-or-lt_of_le p)

pub before_trans : (x y z : Key) → key_before x y ≡ true → key_before y z ≡ true → key_before x z ≡ true
before_trans x y z e f =
    let a = ahead x y e in
    let b = ahead y z f in
    let p : x.high ≤ y.high = a.high in
    let q : y.high ≤ z.high = b.high in
    back x z (record { high = omega arith; low = λ s. let u = a.low (omega arith) in let v = b.low (omega arith) in omega arith })

pub same_names : (x y : Key) → key_same x y ≡ true → x ≡ y
unfolding key_same
same_names x y e =
    let p = yes (eqb x.high y.high) (eqb x.low y.low) e in
    let a : x.high ≡ y.high = eqb-true x.high y.high p.0 in
    let b : x.low ≡ y.low = eqb-true x.low y.low p.1 in
    λ i. record { high = a i; low = b i }
  where
    yes : (s t : Bool) → (s && t) ≡ true → (s ≡ true) × (t ≡ true)
    yes true t q = (refl, q)
    yes false t q = never (sym q)

pub same_self : (x : Key) → key_same x x ≡ true
unfolding key_same
same_self x = rw (eq-eqb x.high x.high refl, eq-eqb x.low x.low refl)

-- a name before another is not the same
pub before_other : (x y : Key) → key_before x y ≡ true → key_same x y ≡ false
before_other x y e =
    ⊎_elim
    (λ s. let a = ahead x y e in let q = same_names x y s in let l = a.low (ap (λ (n : Key). n.high) q) in let k : x.low ≡ y.low = ap (λ (n : Key). n.low) q in absurd (omega arith))
    (λ n. n)
    (either (key_same x y))

-- of two names that are not the same, one is before the other
pub before_or_after : (x y : Key) → key_before x y ≡ false → key_same x y ≡ false → key_before y x ≡ true
unfolding key_before key_same
before_or_after x y e f =
    ⊎_elim
    (λ q.
    let a = rw (eq-eqb x.high y.high q) at e in
    let b = rw (eq-eqb x.high y.high q) at f in
    let g = ltb-false x.low y.low a in
    rw (eq-eqb y.high x.high (sym q)) (lt-ltb y.low x.low (less y.low x.low g (λ s. eqb-false x.low y.low b (sym s)))))
    (λ n.
    let a = rw (ne_eqb x.high y.high n) at e in
    let g = ltb-false x.high y.high a in
    rw (ne_eqb y.high x.high (λ s. n (sym s))) (lt-ltb y.high x.high (less y.high x.high g (λ s. n (sym s)))))
    (same_or_not x.high y.high)
  where
    less : (a b : ℕ) → a ≤ b → (a ≡ b → ⊥) → a < b
    less a b p n = ⊎_elim (λ q. absurd (n q)) (λ l. l) (eq-or-lt_of_le p)

-- ---- names of the same key are the same

irreflexive : (x : Key) → key_before x x ≡ false
irreflexive x = ⊎_elim (λ t. never (sym (same_self x) ∙ before_other x x t)) (λ t. t) (either (key_before x x))

bytes_total : (a b : List ℕ) → bytes_before a b ≡ false → bytes_before b a ≡ false → a ≡ b
unfolding bytes_before
bytes_total [] [] e f = refl
bytes_total [] (y ∷ b) e f = never e
bytes_total (x ∷ a) [] e f = never f
bytes_total (x ∷ a) (y ∷ b) e f =
    ⊎_elim
    (λ q. let r = bytes_total a b (rw (eq-eqb x y q) at e) (rw (eq-eqb y x (sym q)) at f) in cc)
    (λ n.
    let u = ltb-false x y (rw (ne_eqb x y n) at e) in
    let v = ltb-false y x (rw (ne_eqb y x (λ z. n (sym z))) at f) in
    absurd (n (omega arith)))
    (same_or_not x y)

pub names_apart : (a b : List ℕ) → NameBytes a → NameBytes b → length a ≤ 16 → length b ≤ 16 → key_same (key_of a) (key_of b) ≡ true → a ≡ b
names_apart a b h g u v s =
    let q = same_names (key_of a) (key_of b) s in
    bytes_total a b
    (sym (byte_order a b h g u v) ∙ ap (λ (x : Key). key_before x (key_of b)) q ∙ irreflexive (key_of b))
    (sym (byte_order b a g h v u) ∙ ap (key_before (key_of b)) q ∙ irreflexive (key_of b))
