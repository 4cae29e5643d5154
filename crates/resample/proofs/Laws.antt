-- The rows that a sample keeps, and what the outcomes of sampling and of returns know. Assumes nothing.
use Prim.Native.Nat.{ℕ, ◌+◌, ◌*◌, ◌-◌, ◌/◌, ◌<◌, ◌≤◌}
use mathlib.Core.Path.{◌≡◌, refl, sym, ap, ◌∙◌}
use mathlib.Core.Bool.{Bool, true, false, ◌||◌}
use mathlib.Core.Logic.{⊎_elim}
use mathlib.Core.List.{List, [], ◌∷◌, ◌++◌, append_assoc}
use native.Mathlib.Nat.{le-div_iff_mul-le, div-le_self, mul-le-mul_right}
use native.Mathlib.Omega.{arith}
use borrow.Author.Tests.{le-leb, lt-leb, leb-false, ltb-false}
use lib.Dec.{ltb, leb}
use lib.ListN.{length, get_or}
use lib.Ieee.{Float, nan, binary64, sub, div, eq}
use Rattle.arithmetic.specs.Constants.{pz, unit}
use Rattle.refusal.specs.Table.{Line, first, and_then, Outcome}
use Rattle.refusal.specs.declared.Refusal.{Refusal}
use Rattle.refusal.specs.declared.Refusal.TheVariants.{NoData, ShortBuffer}
use Rattle.refusal.proofs.Tables.{none, first_append, parts_done}
use Rattle.lent.specs.Grid.{cell}
use Rattle.lent.specs.Lent.{sizes, answer_of}
use Rattle.lent.proofs.Laws.{either}
use Rattle.lent.proofs.Sums.{no_or, any_none, any_more, any_hit}
use Rattle.lent.proofs.Sizes.{sized_done}
use Rattle.resample.specs.Resample.{is_weekly, is_monthly, step_of, keeps_all, kept_rows, kept_row, sampled_cell, sampling_table, sampling_outcome, sampled_answer, return_cell, zero_met, breaks_price_rules, returns_table, returns_outcome}
use Rattle.std.specs.Prelude.{Ok}

-- ---- the step of a name

module _ (name : List ℕ) where
  pub step_week : is_weekly name ≡ true → 5 ≡ step_of name
  unfolding step_of
  step_week e = rw e

  pub step_month : is_weekly name ≡ false → is_monthly name ≡ true → 21 ≡ step_of name
  unfolding step_of
  step_month e h = rw (e, h)

  pub step_other : is_weekly name ≡ false → is_monthly name ≡ false → 1 ≡ step_of name
  unfolding step_of
  step_other e h = rw (e, h)

-- ---- the rows kept

module _ (rows s : ℕ) where
  pub all_few : s ≤ 1 → leb s 1 ≡ keeps_all rows s
  unfolding keeps_all
  all_few h = rw (le-leb s 1 h)

  pub all_short : 1 < s → ltb rows s ≡ keeps_all rows s
  unfolding keeps_all
  all_short h = rw (lt-leb s 1 h)

  -- a step that leaves rows out
  pub in_blocks : keeps_all rows s ≡ false → (1 < s) × (s ≤ rows)
  unfolding keeps_all
  in_blocks e =
      let p = no_or (leb s 1) (ltb rows s) e in
      (leb-false s 1 p.0, ltb-false rows s p.1)

  pub rows_same : keeps_all rows s ≡ true → rows ≡ kept_rows rows s
  unfolding kept_rows
  rows_same e = rw e

  pub rows_blocks : keeps_all rows s ≡ false → rows / s ≡ kept_rows rows s
  unfolding kept_rows
  rows_blocks e = rw e

  pub row_same : (r : ℕ) → keeps_all rows s ≡ true → r ≡ kept_row rows s r
  unfolding kept_row
  row_same r e = rw e

  pub row_block : (r : ℕ) → keeps_all rows s ≡ false → (r + 1) * s - 1 ≡ kept_row rows s r
  unfolding kept_row
  row_block r e = rw e

  -- the block of a kept row lies within the prices, and has more than a row
  pub block_in : (r : ℕ) → keeps_all rows s ≡ false → r < kept_rows rows s → ((r + 1) * s ≤ rows) × (1 < (r + 1) * s)
  block_in r e h =
      let b = in_blocks e in
      let q = rows_blocks e in
      let p : 0 < s = omega arith in
      let l : r + 1 ≤ rows / s = omega arith in
      let m : 1 * s ≤ (r + 1) * s = mul-le-mul_right s (omega arith) in
      ((le-div_iff_mul-le p).0 l, omega arith)

  pub kept_le : kept_rows rows s ≤ rows
  kept_le =
      ⊎_elim
      (λ e. omega (arith, rows_same e))
      (λ e. omega (arith, rows_blocks e, div-le_self rows s))
      (either (keeps_all rows s))

  pub kept_lt : (r : ℕ) → r < kept_rows rows s → kept_row rows s r < rows
  kept_lt r h =
      ⊎_elim
      (λ e. omega (arith, rows_same e, row_same r e))
      (λ e. let b = block_in r e h in omega (arith, row_block r e))
      (either (keeps_all rows s))

-- what a row of the sample stores
pub sampled_stored : (prices : List Float) (rows w s r c from : ℕ) (v p : Float) → v ≡ p → p ≡ cell prices w from c → from ≡ kept_row rows s r → v ≡ sampled_cell prices rows w s r c
unfolding sampled_cell
sampled_stored prices rows w s r c from v p e f g = e ∙ f ∙ ap (λ (k : ℕ). cell prices w k c) g

-- ---- sampling: o is what the judge said

module _ (len rows w s room : ℕ) where
  pub record Sampled : Type 0 where
    pub tall : rows ≤ 4096
    pub cells : len ≡ rows * w
    pub fits : kept_rows rows s * w ≤ room

  pub sampling_done : (o : Outcome) → o ≡ first (sampling_table len rows w s room) → o ≡ Ok tt → Sampled
  unfolding sampling_table
  sampling_done o e h =
      let l : List Line = (ltb room (kept_rows rows s * w), ShortBuffer) ∷ [] in
      let b = parts_done (sizes len rows w) l (sym e ∙ h) in
      let z = sized_done len rows w b.0 in
      let a = none l b.1 in
      record { tall = z.tall; cells = z.cells; fits = ltb-false room (kept_rows rows s * w) a.0 }

pub sampled_answer_lem : (prices : List Float) (rows w s room : ℕ) (o : Outcome) (k : ℕ) → o ≡ first (sampling_table (length prices) rows w s room) → k ≡ kept_rows rows s → answer_of o k w ≡ sampled_answer prices rows w s room
unfolding sampled_answer sampling_outcome
sampled_answer_lem prices rows w s room o k e h = rw (e, h)

-- ---- returns

-- the scan: no zero among the prices passed, one more, and a zero met
module _ (prices : List Float) where
  zero_at : ℕ → Bool
  zero_at k = eq (get_or prices k nan) pz

  pub zero_none : zero_met prices 0 ≡ false
  unfolding zero_met zero_at
  zero_none = any_none zero_at

  pub zero_more : (n : ℕ) → zero_met prices n ≡ false → eq (get_or prices n nan) pz ≡ false → zero_met prices (n + 1) ≡ false
  unfolding zero_met zero_at
  zero_more n e h = any_more zero_at n e h

  pub zero_hit : (n k : ℕ) → k < n → eq (get_or prices k nan) pz ≡ true → zero_met prices n ≡ true
  unfolding zero_met zero_at
  zero_hit n k l e = any_hit zero_at n k l e

-- a price read, and whether it is zero
pub zero_test : (prices : List Float) (w r c : ℕ) (x : Float) (b : Bool) → x ≡ cell prices w r c → eq x pz ≡ b → eq (get_or prices (r * w + c) nan) pz ≡ b
zero_test prices w r c x b e h = ap (λ (y : Float). eq y pz) (sym e) ∙ h

-- what the scan stores
pub return_stored : (prices : List Float) (w r c : ℕ) (v p q : Float) → v ≡ sub binary64 (div binary64 p q) unit → p ≡ cell prices w (r + 1) c → q ≡ cell prices w r c → v ≡ return_cell prices w r c
unfolding return_cell
return_stored prices w r c v p q e f g = e ∙ rw (f, g)

-- what the judge says: every line but the zero price's
abbrev pub judged : ℕ → ℕ → ℕ → ℕ → Outcome
judged len rows w room = first (sizes len rows w ++ ((ltb room ((rows - 1) * w), ShortBuffer) ∷ (ltb rows 2, NoData) ∷ []))

module _ (len rows w room : ℕ) where
  pub record Accepted : Type 0 where
    pub cells : len ≡ rows * w
    pub two : 2 ≤ rows
    pub fits : (rows - 1) * w ≤ room

  pub accepted : (o : Outcome) → o ≡ judged len rows w room → o ≡ Ok tt → Accepted
  accepted o e h =
      let l : List Line = (ltb room ((rows - 1) * w), ShortBuffer) ∷ (ltb rows 2, NoData) ∷ [] in
      let b = parts_done (sizes len rows w) l (sym e ∙ h) in
      let z = sized_done len rows w b.0 in
      let a = none l b.1 in
      record { cells = z.cells; two = ltb-false rows 2 a.1.0; fits = ltb-false room ((rows - 1) * w) a.0 }

-- two lines of one refusal are one
joined : (a b c : Bool) (r s : Refusal) → first ((a, r) ∷ (b || c, s) ∷ []) ≡ first ((a, r) ∷ (b, s) ∷ (c, s) ∷ [])
unfolding first
joined true b c r s = refl
joined false true c r s = refl
joined false false c r s = refl

-- the judge's table, and then the zero price's line
pub returns_judged : (prices : List Float) (rows w room : ℕ) → returns_outcome prices rows w room ≡ and_then (judged (length prices) rows w room) (first ((zero_met prices ((rows - 1) * w), NoData) ∷ []))
unfolding returns_outcome returns_table breaks_price_rules
returns_judged prices rows w room =
    let l : List Line = (ltb room ((rows - 1) * w), ShortBuffer) ∷ (ltb rows 2, NoData) ∷ [] in
    let m : List Line = (zero_met prices ((rows - 1) * w), NoData) ∷ [] in
    let z = sizes (length prices) rows w in
    first_append z _
    ∙ ap (and_then (first z)) (joined (ltb room ((rows - 1) * w)) (ltb rows 2) (zero_met prices ((rows - 1) * w)) ShortBuffer NoData)
    ∙ sym (first_append z (l ++ m))
    ∙ ap first (sym (append_assoc z l m))
    ∙ first_append (z ++ l) m
