-- A node's line written part by part, and how long it is. Assumes nothing.
use Prim.Native.Nat.{ℕ, zero, suc, ◌+◌, ◌*◌, ◌≤◌, ◌<◌}
use mathlib.Core.Path.{◌≡◌, refl, sym, ap}
use mathlib.Core.Bool.{Bool, true, false}
use mathlib.Core.List.{List, [], ◌∷◌, ◌++◌, append_assoc}
use native.Mathlib.Omega.{arith}
use native.Mathlib.Decide.{dec_lt}
use native.Mathlib.Nat.{le_trans, mul-suc, mul_comm, mul-le-mul_left}
use native.Mathlib.Numerals.{add-one}
use borrow.Author.Tests.{lt-ltb, le-ltb}
use lib.ListN.{length, get_or, length-append}
use Rattle.text.specs.Bytes.{bytes}
use Rattle.writing.specs.Writing.{decimal, joined, Put, Wrote}
use Rattle.writing.proofs.Writing.{nothing, renamed, then, put_fits, fit, fit_then, joined_le}
use Rattle.writing.proofs.Digits.{decimal_long}
use Rattle.listing.proofs.Lines.{name_put}
use Rattle.groups.specs.declared.Group.{Group}
use Rattle.groups.specs.Groups.{group_fields, indent, tag_of, group_line, least_sheet}
use Rattle.groups.specs.Inner.{line_room, Lined, line_at}

-- ---- the three numbers

fields_le : (g : Group) → length (group_fields g) ≤ 62
unfolding group_fields
fields_le g = simp length-append (omega (arith, decimal_long g.depth, decimal_long g.size, decimal_long g.total))

module _ (g : Group) where
  -- as they are written
  abbrev row : List ℕ
  row = (((decimal g.depth ++ (9 ∷ [])) ++ decimal g.size) ++ (9 ∷ [])) ++ decimal g.total

  row_is : row ≡ group_fields g
  unfolding group_fields
  row_is = simp append_assoc

  pub fields_put : {d d₁ d₂ d₃ d₄ d₅ : List ℕ} {at a₁ a₂ a₃ a₄ a₅ : ℕ} → at + 62 ≤ length d → Put d at (decimal g.depth) d₁ a₁ → Put d₁ a₁ (9 ∷ []) d₂ a₂
      → Put d₂ a₂ (decimal g.size) d₃ a₃ → Put d₃ a₃ (9 ∷ []) d₄ a₄ → Put d₄ a₄ (decimal g.total) d₅ a₅ → Wrote d at (group_fields g) d₅ a₅
  fields_put h p q r s t =
      renamed (group_fields g) ((fit_then (fit_then (fit_then (fit_then (fit p) q) r) s) t).wrote (omega (arith, ap length row_is, fields_le g))) row_is

-- ---- two spaces for each node above

pub indent_length : (k : ℕ) → length (indent k) ≡ 2 * k
unfolding indent
indent_length zero = refl
indent_length (suc k) = omega (arith, length-append (indent k) (bytes "  "), indent_length k)

indent_more : (k : ℕ) → indent (k + 1) ≡ indent k ++ bytes "  "
unfolding indent
indent_more k = rw add-one

pub indent_none : (d : List ℕ) (at : ℕ) → at ≤ length d → Wrote d at (indent 0) d at
unfolding indent
indent_none d at h = nothing d at h

pub indent_put : (k depth : ℕ) {d d' d'' : List ℕ} {at a' a'' : ℕ} → Wrote d at (indent k) d' a' → Put d' a' (bytes "  ") d'' a'' → k < depth → at + 2 * depth ≤ length d → Wrote d at (indent (k + 1)) d'' a''
indent_put k depth w p lt h =
    renamed (indent (k + 1)) (then w (put_fits p (omega (arith, w.moved, w.same, indent_length k)))) (sym (indent_more k))

-- ---- an asset's name

module _ (name : ℕ → List ℕ) (n v : ℕ) where
  pub tag_none : (d : List ℕ) (at : ℕ) → n ≤ v → at ≤ length d → Wrote d at (tag_of name n v) d at
  unfolding tag_of
  tag_none d at h k = rw (le-ltb v n h) (nothing d at k)

  pub tag_put : {d d₁ d₂ : List ℕ} {at a₁ a₂ : ℕ} (s : List ℕ) → v < n → s ≡ name v → length s ≤ 16 → at + 17 ≤ length d → Put d at (9 ∷ []) d₁ a₁ → Put d₁ a₁ s d₂ a₂ → Wrote d at (tag_of name n v) d₂ a₂
  unfolding tag_of
  tag_put s h e k room p q = rw (lt-ltb v n h) (renamed (9 ∷ name v) (name_put s p q k room) (ap (λ (l : List ℕ). 9 ∷ l) e))

  tag_le : (v < n → length (name v) ≤ 16) → length (tag_of name n v) ≤ 17
  unfolding tag_of
  tag_le h = elim (dec_lt v n) [
    | yes lt ↦ rw (lt-ltb v n lt) (omega (arith, h lt))
    | no ge ↦ rw (le-ltb v n (omega arith)) (omega arith)
  ]

-- ---- the line

module _ (name : ℕ → List ℕ) (n v : ℕ) (g : Group) (named : Bool) (d : List ℕ) (at : ℕ) (room : at + line_room named ≤ length d) where
  module _ (plain : named ≡ false) where
    pub plain_put : {d₁ d₂ : List ℕ} {a₁ a₂ : ℕ} → Wrote d at (group_fields g) d₁ a₁ → Put d₁ a₁ (10 ∷ []) d₂ a₂ → Wrote d at (group_line named name n v g) d₂ a₂
    unfolding group_line
    plain_put w p = let h : at + 63 ≤ length d = rw plain at room in rw plain (then w (put_fits p (omega (arith, h, w.moved, w.same, fields_le g))))

  module _ (full : named ≡ true) (low : g.depth ≤ 63) where
    wide : at + 206 ≤ length d
    wide = rw full at room

    module _ {d₁ : List ℕ} {a₁ : ℕ} (w : Wrote d at (indent g.depth) d₁ a₁) where
      pub fields_room : a₁ + 62 ≤ length d₁
      fields_room = omega (arith, wide, w.moved, w.same, indent_length g.depth)

      module _ {d₂ : List ℕ} {a₂ : ℕ} (x : Wrote d₁ a₁ (group_fields g) d₂ a₂) where
        pub tag_room : a₂ + 17 ≤ length d₂
        tag_room = omega (arith, wide, w.moved, w.same, indent_length g.depth, x.moved, x.same, fields_le g)

        pub named_put : {d₃ d₄ : List ℕ} {a₃ a₄ : ℕ} → (v < n → length (name v) ≤ 16) → Wrote d₂ a₂ (tag_of name n v) d₃ a₃ → Put d₃ a₃ (10 ∷ []) d₄ a₄ → Wrote d at (group_line named name n v g) d₄ a₄
        unfolding group_line
        named_put short y p =
            let last = put_fits p (omega (arith, wide, w.moved, w.same, indent_length g.depth, x.moved, x.same, fields_le g, y.moved, y.same, tag_le name n v short)) in
            rw full (then (then (then w x) y) last)

-- no line is longer
pub line_le : (name : ℕ → List ℕ) (n v : ℕ) (g : Group) (named : Bool) → g.depth ≤ 63 → (v < n → length (name v) ≤ 16) → length (group_line named name n v g) ≤ line_room named
unfolding group_line
line_le name n v g false k h = omega (arith, length-append (group_fields g) (10 ∷ []), fields_le g)
line_le name n v g true k h =
    omega (
      arith,
      length-append (indent g.depth) (group_fields g),
      length-append (indent g.depth ++ group_fields g) (tag_of name n v),
      length-append ((indent g.depth ++ group_fields g) ++ tag_of name n v) (10 ∷ []),
      indent_length g.depth,
      fields_le g,
      tag_le name n v h,
    )

-- ---- lines one after another: at most 127, in a buffer that holds every sheet

least_holds : (named : Bool) → 127 * line_room named ≤ least_sheet named
unfolding least_sheet
least_holds false = omega arith
least_holds true = omega arith

-- how many more, in the words of sums
rest_holds : (w i count room : ℕ) → i < count → count ≤ 127 → 127 * w ≤ room → w * i + w ≤ room
rest_holds w i count room h k r = let m : w * suc i ≤ w * 127 = mul-le-mul_left w (omega arith) in omega (arith, m, mul-suc w i, mul_comm w 127)

pub lines_room : (name : ℕ → List ℕ) (n : ℕ) {nodes depths sizes totals : List ℕ} → Lined nodes depths sizes totals → ((v : ℕ) → v < n → length (name v) ≤ 16) → (named : Bool) {d d' : List ℕ} {at : ℕ} (i : ℕ)
    → i < length nodes → least_sheet named ≤ length d → Wrote d 0 (joined i (line_at named name n nodes depths sizes totals)) d' at → at + line_room named ≤ length d'
unfolding line_at
lines_room name n {nodes} {depths} {sizes} {totals} p short named {d} i h k w =
    let le = joined_le i (line_room named) (line_at named name n nodes depths sizes totals) (λ j l. line_le name n (get_or nodes j 0) _ named (p.low j (omega arith)) (short (get_or nodes j 0))) in
    let r = rest_holds (line_room named) i (length nodes) (length d) h p.few (le_trans (least_holds named) k) in
    omega (arith, w.moved, w.same, le, r)
