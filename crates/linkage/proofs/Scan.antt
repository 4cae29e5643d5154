-- What the scan gives: slots below n, and, where two slots are live, a pair of live ones with their ids. Assumes nothing.
use Prim.Native.Nat.{ℕ, ◌+◌, ◌<◌, zero-le, min, max}
use mathlib.Core.Path.{◌≡◌, refl, sym, ◌∙◌}
use mathlib.Core.Bool.{Bool, true, false, not, ◌||◌, cond, false≢true}
use mathlib.Core.List.{List}
use native.Mathlib.Omega.{arith}
use lib.ListN.{get_or}
use lib.Ieee.{Float}
use Rattle.lent.specs.Grid.{cell}
use Rattle.lent.proofs.Range.{range_keeps, range_hits}
use Rattle.pairing.specs.declared.Best.{Best}
use Rattle.linkage.specs.Merge.{pair, nothing, better, offer, look, scan_row, scan_from, scan_all}

-- `cond` by the value of its test
cond_case : {A : Type 0} (P : A → Type 0) (b : Bool) (x y : A) → (b ≡ true → P x) → (b ≡ false → P y) → P (cond b x y)
cond_case P true x y p q = p refl
cond_case P false x y p q = q refl

-- ---- the slots

-- the slots of a best pair are below n
abbrev pub In : ℕ → Best → Type 0
In n best = (best.a.0 < n) × (best.b.0 < n)

pub offer_in : (n a b : ℕ) (x : Float) (p q : ℕ) (best : Best) → a < n → b < n → In n best → In n (offer a b x p q best)
unfolding offer
offer_in n a b x p q best ha hb h =
    cond_case (In n) (better best x (min p q) (max p q)) (pair a b x (min p q) (max p q)) best
    (λ e. (ha, hb)) (λ e. h)

module _ (n : ℕ) (d : List Float) (ids : List ℕ) (live : List Bool) where
  look_in : (a b : ℕ) (best : Best) → a < n → b < n → In n best → In n (look n d ids live a b best)
  unfolding look
  look_in a b best ha hb h =
      cond_case (In n) (get_or live b false) (offer a b (cell d n a b) (get_or ids a 0) (get_or ids b 0) best) best
      (λ e. offer_in n a b (cell d n a b) (get_or ids a 0) (get_or ids b 0) best ha hb h) (λ e. h)

  from_in : (a : ℕ) (best : Best) → a < n → In n best → In n (scan_from n d ids live a best)
  unfolding scan_from scan_row
  from_in a best ha h =
      cond_case (In n) (get_or live a false) (scan_row n d ids live a best) best
      (λ e. range_keeps (In n) (look n d ids live a) (a + 1) n best h (λ i t l r p. look_in a i t ha r p)) (λ e. h)

  pub scan_in : 0 < n → In n (scan_all n d ids live)
  unfolding scan_all
  scan_in h = range_keeps (In n) (scan_from n d ids live) 0 n nothing (h, h) (λ i t l r p. from_in i t r p)

-- ---- the pair

pub record Good (n : ℕ) (ids : List ℕ) (live : List Bool) (best : Best) : Type 0 where
  pub order : best.a.0 < best.b.0
  pub inside : best.b.0 < n
  pub first : get_or live best.a.0 false ≡ true
  pub second : get_or live best.b.0 false ≡ true
  pub lo : best.low.0 ≡ min (get_or ids best.a.0 0) (get_or ids best.b.0 0)
  pub hi : best.high.0 ≡ max (get_or ids best.a.0 0) (get_or ids best.b.0 0)

abbrev Found : Best → Type 0
Found best = best.found ≡ true

module _ (n : ℕ) (d : List Float) (ids : List ℕ) (live : List Bool) where
  abbrev Fine : Best → Type 0
  Fine best = Found best → Good n ids live best

  offer_fine : (a b : ℕ) (best : Best) → a < b → b < n → get_or live a false ≡ true → get_or live b false ≡ true → Fine best
      → Fine (offer a b (cell d n a b) (get_or ids a 0) (get_or ids b 0) best)
  unfolding offer
  offer_fine a b best l r va vb h =
      let p = get_or ids a 0 in
      let q = get_or ids b 0 in
      cond_case Fine (better best (cell d n a b) (min p q) (max p q)) (pair a b (cell d n a b) (min p q) (max p q)) best
      (λ e f. record { order = l; inside = r; first = va; second = vb; lo = refl; hi = refl })
      (λ e. h)

  look_fine : (a b : ℕ) (best : Best) → a < b → b < n → get_or live a false ≡ true → Fine best → Fine (look n d ids live a b best)
  unfolding look
  look_fine a b best l r va h =
      cond_case Fine (get_or live b false) (offer a b (cell d n a b) (get_or ids a 0) (get_or ids b 0) best) best
      (λ vb. offer_fine a b best l r va vb h) (λ e. h)

  from_fine : (a : ℕ) (best : Best) → Fine best → Fine (scan_from n d ids live a best)
  unfolding scan_from scan_row
  from_fine a best h =
      cond_case Fine (get_or live a false) (scan_row n d ids live a best) best
      (λ va. range_keeps Fine (look n d ids live a) (a + 1) n best h (λ i t l r p. look_fine a i t (omega arith) r va p))
      (λ e. h)

  all_fine : Fine (scan_all n d ids live)
  unfolding scan_all
  all_fine = range_keeps Fine (scan_from n d ids live) 0 n nothing (λ e. absurd (false≢true e)) (λ i t l r p. from_fine i t p)

  -- once found, always found; and a pair that is offered is found
  offer_found : (a b : ℕ) (best : Best) → Found (offer a b (cell d n a b) (get_or ids a 0) (get_or ids b 0) best)
  unfolding offer better
  offer_found a b best =
      let p = get_or ids a 0 in
      let q = get_or ids b 0 in
      cond_case Found (better best (cell d n a b) (min p q) (max p q)) (pair a b (cell d n a b) (min p q) (max p q)) best
      (λ e. refl)
      (λ e. not_not best.found _ e)
    where
      not_not : (f r : Bool) → not f || r ≡ false → f ≡ true
      not_not true r e = refl
      not_not false r e = absurd (false≢true (sym e))

  look_keeps : (a b : ℕ) (best : Best) → Found best → Found (look n d ids live a b best)
  unfolding look
  look_keeps a b best h =
      cond_case Found (get_or live b false) (offer a b (cell d n a b) (get_or ids a 0) (get_or ids b 0) best) best
      (λ vb. offer_found a b best) (λ e. h)

  from_keeps : (a : ℕ) (best : Best) → Found best → Found (scan_from n d ids live a best)
  unfolding scan_from scan_row
  from_keeps a best h =
      cond_case Found (get_or live a false) (scan_row n d ids live a best) best
      (λ va. range_keeps Found (look n d ids live a) (a + 1) n best h (λ i t l r p. look_keeps a i t p)) (λ e. h)

  look_hits : (a b : ℕ) (best : Best) → get_or live b false ≡ true → Found (look n d ids live a b best)
  unfolding look
  look_hits a b best vb = rw vb (offer_found a b best)

  from_hits : (a b : ℕ) (best : Best) → a < b → b < n → get_or live a false ≡ true → get_or live b false ≡ true → Found (scan_from n d ids live a best)
  unfolding scan_from scan_row
  from_hits a b best l r va vb =
      cond_case Found (get_or live a false) (scan_row n d ids live a best) best
      (λ e.
      range_hits Found (look n d ids live a) (a + 1) n best b (omega arith) r
      (λ t. look_hits a b t vb) (λ i t x y p. look_keeps a i t p))
      (λ e. absurd (false≢true (sym e ∙ va)))

  pub scan_good : (a b : ℕ) → a < b → b < n → get_or live a false ≡ true → get_or live b false ≡ true → Good n ids live (scan_all n d ids live)
  unfolding scan_all
  scan_good a b l r va vb =
      all_fine
      (range_hits Found (scan_from n d ids live) 0 n nothing a zero-le (omega arith)
      (λ t. from_hits a b t l r va vb) (λ i t x y p. from_keeps i t p))
