-- The sizes of a matrix: what the code's tests say of the definitions, and what a matrix that is not refused for them knows. Assumes nothing.
use Prim.Native.Nat.{ℕ, ◌-◌, ◌*◌, ◌/◌, ◌%◌, ◌<◌, ◌≤◌}
use mathlib.Core.Path.{◌≡◌, refl, sym, ap, subst, ◌∙◌}
use mathlib.Core.Bool.{Bool, true, false, not}
use mathlib.Core.Logic.{⊎_elim}
use mathlib.Core.List.{List, [], ◌∷◌}
use native.Mathlib.Nat.{mul-zero, mul-div_cancel, mul-mod_left, div-add-mod', mul-le-mul, div-lt_iff_lt-mul}
use native.Mathlib.Omega.{arith}
use borrow.Author.Tests.{ltb-true, ltb-false, lt-ltb, le-ltb, eq-eqb, ne_eqb, eqb-true, not-false}
use lib.Dec.{ltb, eqb}
use lib.ListN.{replicate}
use Rattle.refusal.specs.Table.{first, Outcome}
use Rattle.refusal.specs.Telling.{tells}
use Rattle.refusal.specs.declared.Refusal.{Refusal}
use Rattle.refusal.specs.declared.Refusal.TheVariants.{DimensionMismatch, ShortBuffer}
use Rattle.refusal.proofs.Tables.{none, first_done, first_refused, parts_done}
use Rattle.lent.specs.Grid.{over}
use Rattle.lent.specs.Lent.{over_limit, other_length, sizes, squares, laid, answer_of, answer_tells, told_of, Answer}
use Rattle.lent.proofs.Laws.{same_or_not, over_replicate, either}
use Rattle.std.specs.Prelude.{Ok, Err}

-- ---- the tests

pub over_tall : (rows w : ℕ) → 4096 < rows → over_limit rows w ≡ true
unfolding over_limit
over_tall rows w h = rw (lt-ltb 4096 rows h)

pub over_wide : (rows w : ℕ) → rows ≤ 4096 → 64 < w → over_limit rows w ≡ true
unfolding over_limit
over_wide rows w a h = rw (le-ltb 4096 rows a, lt-ltb 64 w h)

pub over_cells : (rows w : ℕ) → rows ≤ 4096 → w ≤ 64 → over_limit rows w ≡ ltb 4096 (rows * w)
unfolding over_limit
over_cells rows w a b = rw (le-ltb 4096 rows a, le-ltb 64 w b)

pub cells_fit : (rows w : ℕ) → rows ≤ 4096 → w ≤ 64 → rows * w ≤ 262144
cells_fit rows w a b = mul-le-mul a b

pub length_none : (len rows w : ℕ) → w ≡ 0 → other_length len rows w ≡ not (eqb len 0)
unfolding other_length
length_none len rows w e = rw (e, mul-zero rows)

pub length_odd : (len rows w : ℕ) → (len % w ≡ 0 → ⊥) → other_length len rows w ≡ true
unfolding other_length
length_odd len rows w h = rw (ne_eqb len (rows * w) (λ e. h (ap (λ (k : ℕ). k % w) e ∙ mul-mod_left rows w)))

pub length_even : (len rows w : ℕ) → (w ≡ 0 → ⊥) → len % w ≡ 0 → other_length len rows w ≡ not (eqb (len / w) rows)
unfolding other_length
length_even len rows w p h =
    let w_pos : 0 < w = omega arith in
    let d : len / w * w ≡ len = omega (arith, div-add-mod' len w) in
    ⊎_elim
    (λ e. let q : len ≡ rows * w = sym d ∙ ap (λ (k : ℕ). k * w) e in rw (eq-eqb len (rows * w) q, eq-eqb (len / w) rows e))
    (λ n. rw (ne_eqb len (rows * w) (λ q. n (ap (λ (k : ℕ). k / w) q ∙ mul-div_cancel rows w_pos)), ne_eqb (len / w) rows n))
    (same_or_not (len / w) rows)

-- ---- a matrix that is not refused for its sizes

pub record Sized (len rows w : ℕ) : Type 0 where
  pub tall : rows ≤ 4096
  pub wide : w ≤ 64
  pub small : rows * w ≤ 4096
  pub cells : len ≡ rows * w

pub within_limit : (rows w : ℕ) → over_limit rows w ≡ false → (rows ≤ 4096) × (w ≤ 64) × (rows * w ≤ 4096)
unfolding over_limit
within_limit rows w e = go (ltb 4096 rows) (ltb 64 w) (ltb-false 4096 rows) (ltb-false 64 w) e
  where
    go : (a b : Bool) → (a ≡ false → rows ≤ 4096) → (b ≡ false → w ≤ 64) → mathlib.Core.Bool.◌||◌ a (mathlib.Core.Bool.◌||◌ b (ltb 4096 (rows * w))) ≡ false → (rows ≤ 4096) × (w ≤ 64) × (rows * w ≤ 4096)
    go true b f g e = absurd (let z : ◌≡◌ {A = ℕ} 0 1 = cc in omega arith)
    go false true f g e = absurd (let z : ◌≡◌ {A = ℕ} 0 1 = cc in omega arith)
    go false false f g e = (f refl, g refl, ltb-false 4096 (rows * w) e)

pub same_length : (len rows w : ℕ) → other_length len rows w ≡ false → len ≡ rows * w
unfolding other_length
same_length len rows w e = eqb-true len (rows * w) (not-false (eqb len (rows * w)) e)

pub sized_done : (len rows w : ℕ) → first (sizes len rows w) ≡ Ok tt → Sized len rows w
unfolding sizes
sized_done len rows w e =
    let a = none (sizes len rows w) e in
    let l = within_limit rows w a.0 in
    record { tall = l.0; wide = l.1; small = l.2; cells = same_length len rows w a.1.0 }

-- ---- a matrix that must be square

pub record Squared (len rows w room : ℕ) : Type 0 where
  pub wide : w ≤ 64
  pub small : w * w ≤ 4096
  pub square : rows ≡ w
  pub cells : len ≡ w * w
  pub roomy : w * w ≤ room

pub squared_refused : (len rows w room : ℕ) (r : Refusal) → first (sizes len rows w) ≡ Err r → first (squares len rows w room) ≡ Err r
unfolding squares
squared_refused len rows w room r e = first_refused (sizes len rows w) _ r e

pub squared_sized : (len rows w room : ℕ) → first (sizes len rows w) ≡ Ok tt → first (squares len rows w room) ≡ first ((ltb room (w * w), ShortBuffer) ∷ (not (eqb rows w), DimensionMismatch) ∷ [])
unfolding squares
squared_sized len rows w room e = first_done (sizes len rows w) _ e

pub squared_done : (len rows w room : ℕ) → first (squares len rows w room) ≡ Ok tt → Squared len rows w room
unfolding squares
squared_done len rows w room e =
    let d = (parts_done (sizes len rows w) _ e).0 in
    let s = sized_done len rows w d in
    let a = none _ (sym (first_done (sizes len rows w) _ d) ∙ e) in
    let q : rows ≡ w = eqb-true rows w (not-false (eqb rows w) a.1.0) in
    record { wide = s.wide; small = subst (λ (k : ℕ). k * w ≤ 4096) q s.small; square = q; cells = s.cells ∙ ap (λ (k : ℕ). k * w) q; roomy = ltb-false room (w * w) a.0 }

-- ---- what a lent buffer holds

module _ {A : Type 0} (z : A) where
  -- cleared, then the cells written over its front
  pub laid_done : (o : Outcome) (room : ℕ) (cells : List A) → o ≡ Ok tt → over cells (replicate room z) ≡ laid z o room cells
  unfolding laid
  laid_done o room cells e = rw e (over_replicate cells room z)

  pub laid_refused : (o : Outcome) (r : Refusal) (room : ℕ) (cells : List A) → o ≡ Err r → replicate room z ≡ laid z o room cells
  unfolding laid
  laid_refused o r room cells e = rw e

-- ---- how a call ends that judges, clears, fills and answers: what it returns, and what its buffer holds

module _ {A : Type 0} (z : A) (said o : Outcome) (answer : Answer) (rows w room : ℕ) (cells out : List A) where
  pub ends_refused : (r : Refusal) → said ≡ o → said ≡ Err r → answer ≡ answer_of said rows w → out ≡ replicate room z
      → (answer ≡ answer_of o rows w) × (out ≡ laid z o room cells)
  ends_refused r e h a b = (rw (← e) a, b ∙ laid_refused z o r room cells (sym e ∙ h))

  pub ends_done : (blank : List A) → said ≡ o → said ≡ Ok tt → answer ≡ answer_of said rows w → out ≡ over cells blank → blank ≡ replicate room z
      → (answer ≡ answer_of o rows w) × (out ≡ laid z o room cells)
  ends_done blank e h a f b = (rw (← e) a, f ∙ rw b (laid_done z o room cells (sym e ∙ h)))

-- ---- a buffer too short, by a division

-- two tests that hold together are one
pub same_test : (a b c d : ℕ) → (a < b → c < d) → (c < d → a < b) → ltb a b ≡ ltb c d
same_test a b c d f g =
    ⊎_elim
    (λ e. e ∙ sym (lt-ltb c d (f (ltb-true a b e))))
    (λ e. e ∙ sym (le-ltb c d (⊎_elim (λ h. absurd (let q : a < b = g (ltb-true c d h) in let p = ltb-false a b e in omega arith)) (λ h. ltb-false c d h) (either (ltb c d)))))
    (either (ltb a b))

-- so are two equalities
pub same_equal : (a b c d : ℕ) → (a ≡ b → c ≡ d) → (c ≡ d → a ≡ b) → eqb a b ≡ eqb c d
same_equal a b c d f g =
    ⊎_elim
    (λ e. eq-eqb a b e ∙ sym (eq-eqb c d (f e)))
    (λ n. ne_eqb a b n ∙ sym (ne_eqb c d (λ e. n (g e))))
    (same_or_not a b)

pub no_rows : (room n : ℕ) → n ≡ 0 → false ≡ ltb room (2 * (n - 1))
no_rows room n e = let q : 2 * (n - 1) ≤ room = omega arith in sym (le-ltb room (2 * (n - 1)) q)

pub rows_lack : (room n : ℕ) → ltb (room / 2) (n - 1) ≡ ltb room (2 * (n - 1))
rows_lack room n = same_test (room / 2) (n - 1) room (2 * (n - 1)) (λ h. omega arith) (λ h. omega arith)

pub no_cells : (room n : ℕ) → n ≡ 0 → false ≡ ltb room (n * n)
no_cells room n e = rw e (sym (le-ltb room 0 (omega arith)))

pub cells_lack : (room n : ℕ) → (n ≡ 0 → ⊥) → ltb (room / n) n ≡ ltb room (n * n)
cells_lack room n p =
    let q : 0 < n = omega arith in
    same_test (room / n) n room (n * n) (div-lt_iff_lt-mul q).0 (div-lt_iff_lt-mul q).1

-- how a call went, out of its answer
pub told_as : (o : Outcome) (rows w : ℕ) → told_of (answer_of o rows w) ≡ o
unfolding told_of answer_of
told_as (Ok _) rows w = refl
told_as (Err r) rows w = refl

-- ---- what an answer tells is what the outcome that it was made from does

pub answer_tells_lem : (o : Outcome) (rows w : ℕ) → answer_tells (answer_of o rows w) ≡ tells o (rows, w)
unfolding answer_of
answer_tells_lem (Ok _) rows w = refl
answer_tells_lem (Err r) rows w = refl
