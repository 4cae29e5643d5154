-- Lines one after another, and how long they are. Assumes nothing.
use Prim.Native.Nat.{ℕ, ◌+◌, ◌*◌, ◌≤◌, ◌<◌}
use mathlib.Core.Path.{◌≡◌}
use mathlib.Core.Bool.{false}
use mathlib.Core.List.{List, [], ◌∷◌, ◌++◌}
use native.Mathlib.Omega.{arith}
use borrow.Author.Tests.{lt-ltb, le-ltb}
use lib.ListN.{length, get_or, length-append}
use lib.Ieee.{Float, nan, binary64, to_bits}
use Rattle.text.specs.Bytes.{bytes}
use Rattle.writing.specs.Writing.{decimal, hex_of, joined, Put, Wrote, Fitting}
use Rattle.writing.proofs.Writing.{nothing, then, put_fits, fit, fit_both, fit_then, joined_le, joined_ext}
use Rattle.writing.proofs.Digits.{hex_length, decimal_long}
use Rattle.ceilings.specs.Figures.{are_unlike, figures_in}
use Rattle.ceilings.proofs.Weighed.{alike}
use Rattle.listing.specs.Listing.{ceiling_at, holding_at, ceiling_field, holding_line, line_of, ordered, listing, refusal_line, name_in}
use Rattle.listing.specs.Inner.{Named, Listable}
use Rattle.listing.specs.declared.Holding.{Holding}
use Rattle.std.specs.Prelude.{Some, None}
use Rattle.listing.specs.Outcomes.{Ceiling}

-- ---- how long

-- a ceiling takes at most 21 bytes
ceiling_le : (c : Ceiling) → length (ceiling_field c) ≤ 21
unfolding ceiling_field
ceiling_le None = omega arith
ceiling_le (Some c) = omega (arith, decimal_long c)

-- an asset's line is at most 76 bytes
line_le : (name : List ℕ) (h : Holding) → length name ≤ 16 → length (holding_line name h) ≤ 76
unfolding holding_line
line_le name h l = simp length-append (omega (arith, hex_length (to_bits binary64 h.weight), decimal_long h.millionths, ceiling_le h.ceiling))

module _ (name : ℕ → List ℕ) where
  pub lines_le : (ws : List Float) (cs : List ℕ) (n : ℕ) → ((i : ℕ) → i < n → length (name i) ≤ 16) → length (joined n (line_of name ws cs)) ≤ 76 * n
  unfolding line_of
  lines_le ws cs n h = joined_le n 76 (line_of name ws cs) (λ i l. line_le (name i) (holding_at ws cs i) (h i l))

  pub names_le : (order : List ℕ) (n : ℕ) → ((k : ℕ) → k < n → length (name (get_or order k 0)) ≤ 16) → length (joined n (ordered name order)) ≤ 17 * n
  unfolding ordered
  names_le order n h = joined_le n 17 (ordered name order) (λ k l. omega (arith, h k l))

  -- 64 assets' listing, with names of at most 16 bytes, takes at most 8,192 bytes
  pub listing_le : (ws : List Float) (cs order : List ℕ) → length ws ≤ 64 → length order ≤ 64 → ((i : ℕ) → i < length ws → length (name i) ≤ 16)
      → ((k : ℕ) → k < length order → length (name (get_or order k 0)) ≤ 16) → length (listing name ws cs order) ≤ 8192
  unfolding listing
  listing_le ws cs order a b f g = simp length-append (omega (arith, lines_le ws cs (length ws) f, names_le order (length order) g))

-- ---- the names that a listing reads are those of its weights and of its order

pub listing_ext : (f g : ℕ → List ℕ) (ws : List Float) (cs order : List ℕ) → ((i : ℕ) → i < length ws → f i ≡ g i) → ((k : ℕ) → k < length order → get_or order k 0 < length ws)
    → listing f ws cs order ≡ listing g ws cs order
unfolding listing line_of ordered
listing_ext f g ws cs order h o =
    rw (joined_ext (length ws) (line_of f ws cs) (line_of g ws cs) (λ i l. rw (h i l)), joined_ext (length order) (ordered f order) (ordered g order) (λ k l. rw (h (get_or order k 0) (o k l))))

-- ---- a job's names: what its lines take, and the room for one more

module _ {text starts : List ℕ} (p : Named text starts) where
  pub lines_most : (ws : List Float) (cs : List ℕ) → length ws ≡ length starts → length (joined (length ws) (line_of (name_in text starts) ws cs)) ≤ 4864
  lines_most ws cs e = omega (arith, p.few, lines_le (name_in text starts) ws cs (length ws) (λ i h. p.short i (omega arith)))

  pub line_room_lem : {d d' : List ℕ} {at : ℕ} (ws : List Float) (cs : List ℕ) (i : ℕ) → length ws ≡ length starts → Wrote d 0 (joined i (line_of (name_in text starts) ws cs)) d' at → i < length ws
      → 8192 ≤ length d → at + 76 ≤ length d'
  line_room_lem ws cs i e w h r = omega (arith, p.few, w.moved, w.same, lines_le (name_in text starts) ws cs i (λ j g. p.short j (omega arith)))

  module _ (order : List ℕ) (within : (k : ℕ) → k < length order → get_or order k 0 < length starts) where
    pub names_most : length order ≤ 64 → length (joined (length order) (ordered (name_in text starts) order)) ≤ 1088
    names_most h = omega (arith, names_le (name_in text starts) order (length order) (λ k l. p.short (get_or order k 0) (within k l)))

    pub name_room : {d d' : List ℕ} {from at : ℕ} (k : ℕ) → Wrote d from (joined k (ordered (name_in text starts) order)) d' at → k < length order → from + 17 * length order ≤ length d → at + 17 ≤ length d'
    name_room k w h r = omega (arith, w.moved, w.same, names_le (name_in text starts) order k (λ j l. p.short (get_or order j 0) (within j (omega arith))))

-- ---- a ceiling, by whether there are any

pub ceiling_absent : (cs : List ℕ) (i : ℕ) → length cs ≡ 0 → None ≡ ceiling_at cs i
unfolding ceiling_at
ceiling_absent cs i e = rw (le-ltb 0 (length cs) (omega arith))

pub ceiling_given : (cs : List ℕ) (i : ℕ) → 0 < length cs → Some (get_or cs i 0) ≡ ceiling_at cs i
unfolding ceiling_at
ceiling_given cs i h = rw (lt-ltb 0 (length cs) h)

-- where there are any, each asset has one
pub ceiling_within : (cs : List ℕ) (n i : ℕ) → are_unlike cs n ≡ false → i < n → 0 < length cs → i < length cs
ceiling_within cs n i u l h = omega (arith, alike cs n u h)

-- asset i's line, from what its record is made of
pub line_is : (name : ℕ → List ℕ) (ws : List Float) (cs : List ℕ) (i : ℕ) (s : List ℕ) (m : ℕ) (c : Ceiling) → s ≡ name i → m ≡ get_or (figures_in ws cs) i 0 → c ≡ ceiling_at cs i
    → holding_line s (record { weight = get_or ws i nan; millionths = m; ceiling = c }) ≡ line_of name ws cs i
unfolding line_of holding_at
line_is name ws cs i s m c e f g = rw (e, f, g)

-- ---- the writes of each part, one after the other

-- none or two of a ceiling
pub ceiling_none : {d : List ℕ} {at : ℕ} (c : Ceiling) → c ≡ None → Fitting d at (ceiling_field c) d at
unfolding ceiling_field
ceiling_none {d} {at} c e = rw e (record { wrote = λ h. nothing d at (omega arith) })

pub ceiling_put : {d d₁ d₂ : List ℕ} {at a₁ a₂ : ℕ} (c : Ceiling) (x : ℕ) → c ≡ Some x → Put d at (9 ∷ []) d₁ a₁ → Put d₁ a₁ (decimal x) d₂ a₂ → Fitting d at (ceiling_field c) d₂ a₂
unfolding ceiling_field
ceiling_put c x e p₁ p₂ = rw e (fit_then (fit p₁) p₂)

-- seven of an asset's line
pub line_put : (name : List ℕ) (h : Holding) {d d₁ d₂ d₃ d₄ d₅ d₆ d₇ : List ℕ} {at a₁ a₂ a₃ a₄ a₅ a₆ a₇ : ℕ} → Put d at name d₁ a₁ → Put d₁ a₁ (9 ∷ []) d₂ a₂ → Put d₂ a₂ (hex_of (to_bits binary64 h.weight)) d₃ a₃
    → Put d₃ a₃ (9 ∷ []) d₄ a₄ → Put d₄ a₄ (decimal h.millionths) d₅ a₅ → Fitting d₅ a₅ (ceiling_field h.ceiling) d₆ a₆ → Put d₆ a₆ (10 ∷ []) d₇ a₇ → length name ≤ 16 → at + 76 ≤ length d
    → Wrote d at (holding_line name h) d₇ a₇
unfolding holding_line
line_put name h p₁ p₂ p₃ p₄ p₅ p₆ p₇ short room =
    (fit_then (fit_both (fit_then (fit_then (fit_then (fit_then (fit p₁) p₂) p₃) p₄) p₅) p₆) p₇).wrote (omega (arith, room, line_le name h short))

-- a tab and a name
pub name_put : (name : List ℕ) {d d₁ d₂ : List ℕ} {at a₁ a₂ : ℕ} → Put d at (9 ∷ []) d₁ a₁ → Put d₁ a₁ name d₂ a₂ → length name ≤ 16 → at + 17 ≤ length d → Wrote d at ((9 ∷ []) ++ name) d₂ a₂
name_put name p₁ p₂ short room = (fit_then (fit p₁) p₂).wrote (omega arith)

-- three of a refusal's line
pub refusal_put : (number : ℕ) {d d₁ d₂ d₃ : List ℕ} {a₁ a₂ a₃ : ℕ} → Put d 0 (bytes "refused" ++ (9 ∷ [])) d₁ a₁ → Put d₁ a₁ (decimal number) d₂ a₂ → Put d₂ a₂ (10 ∷ []) d₃ a₃
    → length (refusal_line number) ≤ length d → Wrote d 0 (refusal_line number) d₃ a₃
unfolding refusal_line
refusal_put number p₁ p₂ p₃ room = (fit_then (fit_then (fit p₁) p₂) p₃).wrote (omega arith)

-- four of a listing
module _ {text starts : List ℕ} {ws : List Float} {cs parts order : List ℕ} {d d₁ d₂ : List ℕ} {a₁ a₂ : ℕ} (g : Listable text starts ws cs parts order (length d))
    (lines : Wrote d 0 (joined (length ws) (line_of (name_in text starts) ws cs)) d₁ a₁) (head : Put d₁ a₁ (bytes "order") d₂ a₂) where
  headed : Wrote d₁ a₁ (bytes "order") d₂ a₂
  headed = put_fits head (omega (arith, lines.moved, lines.same, lines_most g.named ws cs g.weighed, g.roomy))

  pub order_room : a₂ + 17 * length order ≤ length d₂
  order_room = omega (arith, lines.moved, lines.same, headed.moved, headed.same, lines_most g.named ws cs g.weighed, g.few, g.roomy)

  pub listed : {d₃ d₄ : List ℕ} {a₃ a₄ : ℕ} → Wrote d₂ a₂ (joined (length order) (ordered (name_in text starts) order)) d₃ a₃ → Put d₃ a₃ (10 ∷ []) d₄ a₄ → Wrote d 0 (listing (name_in text starts) ws cs order) d₄ a₄
  unfolding listing
  listed names end =
      let room = names_most g.named order g.low g.few in
      then lines (then (then headed names) (put_fits end (omega (arith, lines.moved, lines.same, headed.moved, headed.same, names.moved, names.same, lines_most g.named ws cs g.weighed, room, g.roomy))))
