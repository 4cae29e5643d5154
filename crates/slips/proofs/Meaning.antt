-- What a line's answer says of it. Assumes nothing.
use Prim.Native.Nat.{ℕ, ◌-◌, ◌≤◌, ◌<◌}
use mathlib.Core.Path.{◌≡◌, refl}
use mathlib.Core.Bool.{Bool, true, false, cond, ◌&&◌}
use mathlib.Core.List.{List, []}
use native.Mathlib.Omega.{arith}
use borrow.Author.Tests.{leb-true}
use lib.Dec.{leb, eqb}
use lib.ListN.{length, get_or, drop}
use Rattle.text.specs.Bytes.{bytes, same}
use Rattle.fields.specs.Split.{split, all}
use Rattle.fields.specs.Numerals.{is_bits, number}
use Rattle.fields.proofs.Every.{both_right, four_yes}
use Rattle.names.specs.Names.{is_name}
use Rattle.slips.specs.Slips.{is_trim, is_amount, is_given, is_held, held_in, order_in, refused_in, slip_in, most_line, slip_of}
use Rattle.slips.specs.Inner.{ends_well}
use Rattle.slips.specs.declared.Slip.{Slip}
use Rattle.slips.specs.declared.Slip.TheVariants.{Other, Held, Order, Refused}
use Rattle.slips.proofs.Lines.{too_long}

-- a line that is longer than any can be
pub long_other : (l : List ℕ) → 4357 < length l → slip_of l ≡ Other
long_other l h = too_long l h

-- ---- a holding is one of the three kinds alone

abbrev is_holding : Slip → ℕ
is_holding (Held m) = 1
is_holding Other = 0
is_holding (Order n) = 0
is_holding Refused = 0

pick_first : (t : Bool) (x y : Slip) (m : ℕ) → is_holding y ≡ 0 → cond t x y ≡ Held m → (t ≡ true) × (x ≡ Held m)
pick_first true x y m n e = (refl, e)
pick_first false x y m n e = absurd (let z : ◌≡◌ {A = ℕ} 0 1 = cc in omega arith)

pick_second : (t : Bool) (x y : Slip) (m : ℕ) → is_holding x ≡ 0 → cond t x y ≡ Held m → y ≡ Held m
pick_second true x y m n e = absurd (let z : ◌≡◌ {A = ℕ} 0 1 = cc in omega arith)
pick_second false x y m n e = e

no_holding : (t : Bool) (x y : Slip) → is_holding x ≡ 0 → is_holding y ≡ 0 → is_holding (cond t x y) ≡ 0
no_holding true x y a b = a
no_holding false x y a b = b

no_order : (ws : List (List ℕ)) → is_holding (order_in ws) ≡ 0
unfolding order_in
no_order ws = no_holding (all is_name (drop 1 ws)) (Order (length ws - 1)) Other refl refl

no_refusal : (ws : List (List ℕ)) → is_holding (refused_in ws) ≡ 0
unfolding refused_in
no_refusal ws = no_holding (eqb (length ws) 2 && is_given (get_or ws 1 [])) Refused Other refl refl

-- "name, weight bits, millionths": the millionths are those of the third field
pub held_fields_lem : (l : List ℕ) (m : ℕ) → slip_of l ≡ Held m → (is_held (split 9 l) ≡ true) × (number 10 0 (get_or (split 9 l) 2 []) ≡ m)
unfolding slip_of slip_in held_in
held_fields_lem l m e =
    let ws = split 9 l in
    let order = same (get_or ws 0 []) (bytes "order") in
    let refused = same (get_or ws 0 []) (bytes "refused") in
    let a = (pick_first (leb (length l) most_line) (slip_in ws) Other m refl e).1 in
    let b = pick_second order (order_in ws) (cond refused (refused_in ws) (held_in ws)) m (no_order ws) a in
    let c = pick_second refused (refused_in ws) (held_in ws) m (no_refusal ws) b in
    let h = pick_first (is_held ws) (Held (number 10 0 (get_or ws 2 []))) Other m refl c in
    let n : number 10 0 (get_or ws 2 []) ≡ m = let f = h.1 in cc in
    (h.0, n)

-- "0 to 1,000,000"
pub held_small : (l : List ℕ) (m : ℕ) → slip_of l ≡ Held m → m ≤ 1000000
unfolding is_held is_amount ends_well
held_small l m e =
    let ws = split 9 l in
    let h = held_fields_lem l m e in
    let a : is_amount (get_or ws 2 []) ≡ true = (four_yes (is_name (get_or ws 0 [])) (is_bits (get_or ws 1 [])) (is_amount (get_or ws 2 [])) (ends_well ws) h.0).2 in
    let k = leb-true (number 10 0 (get_or ws 2 [])) 1000000 (both_right (is_trim (get_or ws 2 [])) _ a) in
    omega (arith, k, h.1)
