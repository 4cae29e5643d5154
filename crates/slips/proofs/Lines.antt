-- A line by its fields: what the calls that read one need. Assumes nothing.
use Prim.Native.Nat.{ℕ, ◌+◌, ◌-◌, ◌≤◌, ◌<◌}
use mathlib.Core.Path.{◌≡◌, refl, sym, ap, ◌∙◌}
use mathlib.Core.Bool.{Bool, true, false, cond, ◌&&◌, ◌||◌}
use mathlib.Core.List.{List, [], ◌∷◌}
use native.Mathlib.Decide.{dec_le}
use native.Mathlib.Nat.{lt_of_not-le}
use native.Mathlib.Omega.{arith}
use borrow.Author.Tests.{lt-ltb, le-ltb, le-leb, lt-leb}
use lib.Dec.{ltb, eqb}
use lib.ListN.{length, get_or, take, drop, drop_of_length-le}
use Rattle.text.specs.Bytes.{bytes, same}
use Rattle.fields.specs.Split.{split, piece, end_of, all}
use Rattle.fields.specs.Numerals.{is_bits, number}
use Rattle.fields.proofs.Pieces.{pieces, pieces_le, piece_upto, end_le, end_ge, cut_first, last_piece_lem, next_pieces}
use Rattle.names.specs.Names.{is_name}
use Rattle.slips.specs.Slips.{is_amount, is_held, held_in, order_in, refused_in, slip_in, slip_of}
use Rattle.slips.specs.Inner.{amount_read, names_from, ends_well, is_framed, holding}
use Rattle.slips.specs.declared.Slip.{Slip}
use Rattle.slips.specs.declared.Slip.TheVariants.{Other, Held, Order}
use Rattle.std.specs.Prelude.{Some, None}
use Rattle.fields.specs.Outcomes.{Numeral}

-- ---- fields counted by the tabs between them

module _ (l : List ℕ) (tabs : ℕ) (counted : tabs ≡ length (split 9 l) - 1) where
  pub few_tabs : tabs ≤ length l
  few_tabs = omega (arith, pieces_le 9 l)

  pub fields_by_tabs : tabs + 1 ≡ length (split 9 l)
  fields_by_tabs = omega (arith, pieces 9 l)

-- ---- names from a place on

-- none is left, or one more has begun
from_past : (s : List ℕ) (at : ℕ) → length s < at → names_from s at ≡ true
unfolding names_from
from_past s at h = rw (lt-ltb (length s) at h)

from_here : (s : List ℕ) (at : ℕ) → at ≤ length s → names_from s at ≡ all is_name (split 9 (drop at s))
unfolding names_from
from_here s at h = rw (le-ltb (length s) at h)

-- the fields after the one that begins here
after_field : (s : List ℕ) (at : ℕ) → at ≤ length s → all is_name (drop 1 (split 9 (drop at s))) ≡ names_from s (end_of 9 s at + 1)
unfolding all
after_field s at h = go (dec_le (length s) (end_of 9 s at))
  where
    go : Dec (length s ≤ end_of 9 s at) → all is_name (drop 1 (split 9 (drop at s))) ≡ names_from s (end_of 9 s at + 1)
    go (yes g) = rw (last_piece_lem 9 s at h g) (sym (from_past s (end_of 9 s at + 1) (omega arith)))
    go (no g) =
        let l = lt_of_not-le g in
        rw (next_pieces 9 s at h l) (sym (from_here s (end_of 9 s at + 1) (omega arith)))

pub names_first : (s : List ℕ) (e : ℕ) → e ≡ end_of 9 s 0 → all is_name (drop 1 (split 9 s)) ≡ names_from s (e + 1)
names_first s e g = after_field s 0 (omega arith) ∙ ap (λ (k : ℕ). names_from s (k + 1)) (sym g)

by_first : (f : List ℕ → Bool) (ws : List (List ℕ)) → 1 ≤ length ws → all f ws ≡ (f (get_or ws 0 []) && all f (drop 1 ws))
unfolding all
by_first f [] h = absurd (omega arith)
by_first f (w ∷ ws) h = refl

module _ (s : List ℕ) (at e : ℕ) (in-s : at < length s) (ends : e ≡ end_of 9 s at) where
  from_field : names_from s at ≡ (is_name (take (e - at) (drop at s)) && names_from s (e + 1))
  from_field =
      let h : at ≤ length s = omega arith in
      let cut : take (e - at) (drop at s) ≡ piece 9 (drop at s) 0 = ap (λ (k : ℕ). take (k - at) (drop at s)) ends ∙ cut_first 9 s at h ∙ sym (piece_upto 9 (drop at s)) in
      let next : all is_name (drop 1 (split 9 (drop at s))) ≡ names_from s (e + 1) = after_field s at h ∙ ap (λ (k : ℕ). names_from s (k + 1)) (sym ends) in
      from_here s at h ∙ by_first is_name (split 9 (drop at s)) (pieces 9 (drop at s)) ∙ rw (cut, next)

  pub names_on : is_name (take (e - at) (drop at s)) ≡ true → names_from s at ≡ names_from s (e + 1)
  names_on h = from_field ∙ ap (λ (t : Bool). t && names_from s (e + 1)) h

  pub names_no : is_name (take (e - at) (drop at s)) ≡ false → names_from s at ≡ false
  names_no h = from_field ∙ ap (λ (t : Bool). t && names_from s (e + 1)) h

  pub field_in : (at ≤ e) × (e ≤ length s)
  field_in = let h : at ≤ length s = omega arith in (omega (arith, end_ge 9 s at h), omega (arith, end_le 9 s at h))

-- an empty field is no name
nothing : all is_name (split 9 []) ≡ false
unfolding all split is_name
nothing = refl

pub names_end : (s : List ℕ) (at : ℕ) → length s ≤ at → names_from s at ≡ ltb (length s) at
unfolding names_from
names_end s at h = rw (drop_of_length-le s h, nothing) (go (ltb (length s) at))
  where
    go : (t : Bool) → (t || false) ≡ t
    go true = refl
    go false = refl

-- ---- the three kinds of line

module _ (ws : List (List ℕ)) where
  pub order_yes : (t : Bool) (n : ℕ) → t ≡ all is_name (drop 1 ws) → n ≡ length ws - 1 → t ≡ true → Order n ≡ order_in ws
  unfolding order_in
  order_yes t n e f h = ap Order f ∙ sym (ap (λ (b : Bool). cond b (Order (length ws - 1)) Other) (sym e ∙ h))

  pub order_no : (t : Bool) → t ≡ all is_name (drop 1 ws) → t ≡ false → Other ≡ order_in ws
  unfolding order_in
  order_no t e h = sym (ap (λ (b : Bool). cond b (Order (length ws - 1)) Other) (sym e ∙ h))

  -- the amount is looked at apart from the others
  held_parts : holding (is_name (get_or ws 0 []) && (is_bits (get_or ws 1 []) && ends_well ws)) (amount_read (get_or ws 2 [])) ≡ held_in ws
  unfolding held_in is_held ends_well amount_read holding
  held_parts = go (is_name (get_or ws 0 [])) (is_bits (get_or ws 1 [])) (is_amount (get_or ws 2 [])) (eqb (length ws) 3 || (eqb (length ws) 4 && is_amount (get_or ws 3 []))) (number 10 0 (get_or ws 2 []))
    where
      go : (a b m e : Bool) (n : ℕ) → holding (a && (b && e)) (cond m (Some n) None) ≡ cond (a && (b && (m && e))) (Held n) Other
      go false b m e n = refl
      go true false m e n = refl
      go true true true true n = refl
      go true true true false n = refl
      go true true false true n = refl
      go true true false false n = refl

  pub held_is : (w : List ℕ) (m : Numeral) (b : Bool) (r : Slip) → w ≡ get_or ws 2 [] → m ≡ amount_read w → b ≡ is_framed ws → r ≡ holding b m → r ≡ held_in ws
  unfolding is_framed
  held_is w m b r c v t h = h ∙ ap (λ (x : Bool). holding x m) t ∙ ap (holding (is_framed ws)) (v ∙ ap amount_read c) ∙ held_parts

-- ---- a line

pub too_long : (l : List ℕ) → 4357 < length l → slip_of l ≡ Other
unfolding slip_of
too_long l h = rw (lt-leb (length l) 4357 h)

module _ (l : List ℕ) (short : length l ≤ 4357) (head : List ℕ) (cut : head ≡ piece 9 l 0) (o : Bool) (order : o ≡ same head (bytes "order")) where
  by_fields : slip_of l ≡ slip_in (split 9 l)
  unfolding slip_of
  by_fields = rw (le-leb (length l) 4357 short)

  is_order_lem : same (piece 9 l 0) (bytes "order") ≡ o
  is_order_lem = ap (λ (w : List ℕ). same w (bytes "order")) (sym cut) ∙ sym order

  pub an_order : o ≡ true → (r : Slip) → r ≡ order_in (split 9 l) → r ≡ slip_of l
  unfolding slip_in
  an_order t r e = e ∙ sym (by_fields ∙ rw (is_order_lem ∙ t))

  module _ (f : Bool) (refused : f ≡ same head (bytes "refused")) (t : o ≡ false) where
    is_refused : same (piece 9 l 0) (bytes "refused") ≡ f
    is_refused = ap (λ (w : List ℕ). same w (bytes "refused")) (sym cut) ∙ sym refused

    pub a_refusal : f ≡ true → (r : Slip) → r ≡ refused_in (split 9 l) → r ≡ slip_of l
    unfolding slip_in
    a_refusal u r e = e ∙ sym (by_fields ∙ rw (is_order_lem ∙ t, is_refused ∙ u))

    pub a_holding : f ≡ false → (r : Slip) → r ≡ held_in (split 9 l) → r ≡ slip_of l
    unfolding slip_in
    a_holding u r e = e ∙ sym (by_fields ∙ rw (is_order_lem ∙ t, is_refused ∙ u))
