-- What a call whose matrices are not refused knows of them, and what sampling and differencing say of each other. Assumes nothing.
use Prim.Native.Nat.{ℕ, ◌*◌, ◌-◌, ◌≤◌}
use mathlib.Core.Path.{◌≡◌, refl, sym, ◌∙◌, ap}
use mathlib.Core.Bool.{Bool, true, false, ◌||◌}
use mathlib.Core.List.{List, [], ◌∷◌}
use native.Mathlib.Nat.{mul-le-mul_right}
use native.Mathlib.Omega.{arith}
use borrow.Author.Tests.{ltb-false, le-ltb, eq-eqb}
use lib.Dec.{ltb}
use lib.ListN.{length, take}
use lib.Seq.{take_at}
use lib.Ieee.{Float}
use Rattle.arithmetic.specs.Constants.{pz}
use Rattle.refusal.specs.Table.{Line, first, or_else, and_then, Outcome}
use Rattle.refusal.specs.declared.Refusal.{Refusal}
use Rattle.refusal.specs.declared.Refusal.TheVariants.{NoData, ShortBuffer}
use Rattle.refusal.proofs.Tables.{none, table, table_pass, table_end, first_append, first_done, first_refused, both_done}
use Rattle.lent.specs.Grid.{zeros}
use Rattle.lent.specs.Lent.{over_limit, other_length, too_big, misfits, sizes, laid, answer_of, Answer, Shape, size}
use Rattle.lent.proofs.Laws.{length_grid}
use Rattle.lent.proofs.Sizes.{Sized, over_cells, within_limit, same_length, sized_done, laid_refused}
use Rattle.resample.specs.Resample.{kept_rows, sampled_cell, return_cell, breaks_price_rules, sampling_table, sampling_outcome, sampled_answer, sampled_prices, returns_table, returns_outcome, returns_answer, returns_of}
use Rattle.resample.proofs.Laws.{kept_le}
use Rattle.inputs.specs.Inputs.{matrix_lines, sampled, no_returns, made_returns, made_outcome, made_answer, made_laid}
use Rattle.lent.specs.declared.Size.{Size}
use Rattle.std.specs.Prelude.{Some, Ok, None, Err}

-- ---- the matrices of a call that is not refused for them

-- a given matrix has its sizes; of an absent one nothing is known
abbrev pub Fits : Shape → ℕ → Type 0
Fits None len = Unit
Fits (Some s) len = Sized len s.rows s.columns

pub fits : (s : Shape) (len : ℕ) → too_big s ≡ false → misfits s len ≡ false → Fits s len
unfolding too_big misfits
fits None len b m = tt
fits (Some s) len b m =
    let l = within_limit s.rows s.columns b in
    record { tall = l.0; wide = l.1; small = l.2; cells = same_length len s.rows s.columns m }

pub record Matrices (n : ℕ) (p : Shape) (pl : ℕ) (r : Shape) (rl : ℕ) (c : Shape) (cl : ℕ) : Type 0 where
  pub few : n ≤ 64
  pub prices : Fits p pl
  pub returns : Fits r rl
  pub covariance : Fits c cl

pub matrices_done : (n : ℕ) (p : Shape) (pl : ℕ) (r : Shape) (rl : ℕ) (c : Shape) (cl : ℕ) → first (matrix_lines n p pl r rl c cl) ≡ Ok tt → Matrices n p pl r rl c cl
unfolding matrix_lines
matrices_done n p pl r rl c cl e =
    let a = none (matrix_lines n p pl r rl c cl) e in
    record {
      few = ltb-false 64 n a.0;
      prices = fits p pl a.1.0 a.1.1.1.1.0;
      returns = fits r rl a.1.1.0 a.1.1.1.1.1.0;
      covariance = fits c cl a.1.1.1.0 a.1.1.1.1.1.1.0;
    }

-- ---- tables

-- a matrix of these sizes is not refused for them
pub sizes_pass : (len rows w : ℕ) → Sized len rows w → first (sizes len rows w) ≡ Ok tt
unfolding sizes other_length
sizes_pass len rows w z =
    let a : over_limit rows w ≡ false = over_cells rows w z.tall z.wide ∙ le-ltb 4096 (rows * w) z.small in
    table_pass _ _ _ a ∙ table_pass _ _ _ (rw (eq-eqb len (rows * w) z.cells)) ∙ table_end

no_or : (a b : Bool) → (a || b) ≡ false → (a ≡ false) × (b ≡ false)
no_or true b e = absurd (let z : ◌≡◌ {A = ℕ} 0 1 = cc in omega arith)
no_or false b e = (refl, e)

-- ---- a matrix's answer tells its outcome

pub answer_made : (o : Outcome) (rows w k v : ℕ) → answer_of o rows w ≡ Ok (size k v) → (o ≡ Ok tt) × (k ≡ rows)
unfolding answer_of
answer_made (Ok _) rows w k v e =
    let z : ◌≡◌ {A = Size} (size k v) (size rows w) = cc in
    (refl, ap (λ (x : Size). x.rows) z)
answer_made (Err r) rows w k v e = absurd (let z : ◌≡◌ {A = ℕ} 0 1 = cc in omega arith)

pub answer_refused : (o : Outcome) (rows w : ℕ) (r : Refusal) → answer_of o rows w ≡ Err r → o ≡ Err r
unfolding answer_of
answer_refused (Ok _) rows w r e = absurd (let z : ◌≡◌ {A = ℕ} 0 1 = cc in omega arith)
answer_refused (Err k) rows w r e = cc

-- what stands at the front of a buffer after a call that is done
pub laid_front : {A : Type 0} (z : A) (o : Outcome) (room k : ℕ) (cells d : List A) → d ≡ laid z o room cells → o ≡ Ok tt → length cells ≡ k → take k d ≡ cells
unfolding laid
laid_front z o room k cells d e h l = rw (e, h) (take_at cells _ k l)

-- ---- sampling, into a buffer that holds any matrix

module _ (prices : List Float) (rows w s : ℕ) where
  -- the sample has no more cells than the prices
  pub kept_cells : rows * w ≤ 4096 → kept_rows rows s * w ≤ 4096
  kept_cells h = let k : kept_rows rows s * w ≤ rows * w = mul-le-mul_right w (kept_le rows s) in omega arith

  pub length_sampled : length (sampled prices rows w s) ≡ kept_rows rows s * w
  unfolding sampled
  length_sampled = length_grid (kept_rows rows s) w (sampled_cell prices rows w s)

  rest : List Line
  rest = (ltb 4096 (kept_rows rows s * w), ShortBuffer) ∷ []

  sampling_parts : sampling_outcome prices rows w s 4096 ≡ and_then (first (sizes (length prices) rows w)) (first rest)
  unfolding sampling_outcome sampling_table rest
  sampling_parts = first_append (sizes (length prices) rows w) rest

  -- so its buffer is never too short
  rest_done : first (sizes (length prices) rows w) ≡ Ok tt → first rest ≡ Ok tt
  unfolding rest
  rest_done e = table_pass _ ShortBuffer [] (le-ltb 4096 (kept_rows rows s * w) (kept_cells (sized_done (length prices) rows w e).small)) ∙ table_end

  sampling_refused : (r : Refusal) → sampling_outcome prices rows w s 4096 ≡ Err r → first (sizes (length prices) rows w) ≡ Err r
  unfolding and_then
  sampling_refused r e = go (first (sizes (length prices) rows w)) rest_done (sym sampling_parts ∙ e)
    where
      go : (o : Outcome) → (o ≡ Ok tt → first rest ≡ Ok tt) → and_then o (first rest) ≡ Err r → o ≡ Err r
      go (Ok _) f e = sym (f refl) ∙ e
      go (Err k) f e = e

  -- a refused sample: the made returns are refused as well
  module _ (room : ℕ) (a : Answer) (r : Refusal) (e : a ≡ sampled_answer prices rows w s 4096) (h : a ≡ Err r) where
    refused_sizes : first (sizes (length prices) rows w) ≡ Err r
    unfolding sampled_answer
    refused_sizes = sampling_refused r (answer_refused _ _ _ r (sym e ∙ h))

    made_refused : made_outcome prices rows w s room ≡ Err r
    unfolding made_outcome
    made_refused = first_refused (sizes (length prices) rows w) _ r refused_sizes

    pub refused_answer : a ≡ made_answer prices rows w s room
    unfolding made_answer answer_of
    refused_answer = h ∙ rw made_refused

    pub refused_laid : (d : List Float) → d ≡ zeros room → d ≡ made_laid prices rows w s room
    unfolding made_laid
    refused_laid d z = z ∙ laid_refused pz _ r room _ made_refused

  -- an accepted sample of k rows, in d
  module _ (a : Answer) (k v : ℕ) (e : a ≡ sampled_answer prices rows w s 4096) (h : a ≡ Ok (size k v)) where
    told : (sampling_outcome prices rows w s 4096 ≡ Ok tt) × (k ≡ kept_rows rows s)
    unfolding sampled_answer
    told = answer_made _ _ _ k v (sym e ∙ h)

    accepted_sized : Sized (length prices) rows w
    accepted_sized = sized_done (length prices) rows w (both_done _ _ (sym sampling_parts ∙ told.0)).0

    pub accepted_small : k * w ≤ 4096
    accepted_small = rw told.1 (kept_cells accepted_sized.small)

    pub accepted_front : (d : List Float) → d ≡ sampled_prices prices rows w s 4096 → take (k * w) d ≡ sampled prices rows w s
    unfolding sampled_prices sampled
    accepted_front d f = laid_front pz _ 4096 (k * w) _ d f told.0 (rw told.1 length_sampled)

    -- the sizes of the sample
    sample_sizes : first (sizes (length (sampled prices rows w s)) (kept_rows rows s) w) ≡ Ok tt
    sample_sizes =
        sizes_pass _ (kept_rows rows s) w
        record { tall = omega (arith, kept_le rows s, accepted_sized.tall); wide = accepted_sized.wide; small = kept_cells accepted_sized.small; cells = length_sampled }

    -- its returns are the made ones
    pub returns_made : (room : ℕ) → returns_outcome (sampled prices rows w s) k w room ≡ made_outcome prices rows w s room
    unfolding returns_outcome returns_table made_outcome no_returns
    returns_made room =
        rw told.1
        (first_done _ _ sample_sizes
        ∙ sym (first_done (sizes (length prices) rows w) _ (both_done _ _ (sym sampling_parts ∙ told.0)).0))

    pub answer_is : (room : ℕ) (r : Answer) → r ≡ returns_answer (sampled prices rows w s) k w room → r ≡ made_answer prices rows w s room
    unfolding returns_answer made_answer
    answer_is room r f = f ∙ rw (returns_made room, told.1)

    pub laid_is : (room : ℕ) (d : List Float) → d ≡ returns_of (sampled prices rows w s) k w room → d ≡ made_laid prices rows w s room
    unfolding returns_of made_laid made_returns
    laid_is room d f = f ∙ rw (returns_made room, told.1)

-- ---- what callers know of the made returns

module _ (prices : List Float) (rows w s room : ℕ) where
  pub length_made : length (made_returns prices rows w s) ≡ (kept_rows rows s - 1) * w
  unfolding made_returns
  length_made = length_grid (kept_rows rows s - 1) w (return_cell (sampled prices rows w s) w)

  made_fits : Sized (length prices) rows w → (kept_rows rows s - 1) * w ≤ 4096
  made_fits z =
      let k : (kept_rows rows s - 1) * w ≤ kept_rows rows s * w = mul-le-mul_right w (omega arith) in
      omega (arith, kept_cells prices rows w s z.small)

  -- of a matrix that is not refused, in a buffer that holds any, the price rules are what is left
  pub made_judged : Sized (length prices) rows w → 4096 ≤ room → made_outcome prices rows w s room ≡ or_else (no_returns prices rows w s) NoData (Ok tt)
  unfolding made_outcome
  made_judged z h =
      first_done (sizes (length prices) rows w) _ (sizes_pass (length prices) rows w z)
      ∙ table_pass _ ShortBuffer _ (le-ltb room ((kept_rows rows s - 1) * w) (omega (arith, made_fits z)))
      ∙ simp (table, table_end)

  pub record Made : Type 0 where
    pub some : 2 ≤ kept_rows rows s
    pub sized : Sized (length (made_returns prices rows w s)) (kept_rows rows s - 1) w
    pub clean : no_returns prices rows w s ≡ false

  pub made_done : made_outcome prices rows w s room ≡ Ok tt → Made
  unfolding made_outcome no_returns breaks_price_rules
  made_done e =
      let b = both_done (first (sizes (length prices) rows w)) _ (sym (first_append (sizes (length prices) rows w) _) ∙ e) in
      let z = sized_done (length prices) rows w b.0 in
      let a = none _ b.1 in
      record {
        some = ltb-false (kept_rows rows s) 2 (no_or _ _ a.1.0).0;
        sized = record { tall = omega (arith, kept_le rows s, z.tall); wide = z.wide; small = made_fits z; cells = length_made };
        clean = a.1.0;
      }

  -- the answer and the buffer of an accepted call: k rows, and the returns at the front
  pub made_answer_lem : (a : Answer) (k v : ℕ) → a ≡ made_answer prices rows w s room → a ≡ Ok (size k v) → (made_outcome prices rows w s room ≡ Ok tt) × (k ≡ kept_rows rows s - 1)
  unfolding made_answer
  made_answer_lem a k v e h = answer_made _ _ _ k v (sym e ∙ h)

  pub made_refusal : (a : Answer) (r : Refusal) → a ≡ made_answer prices rows w s room → a ≡ Err r → made_outcome prices rows w s room ≡ Err r
  unfolding made_answer
  made_refusal a r e h = answer_refused _ _ _ r (sym e ∙ h)

  pub made_front : (d : List Float) (k : ℕ) → d ≡ made_laid prices rows w s room → made_outcome prices rows w s room ≡ Ok tt → k ≡ kept_rows rows s - 1 → take (k * w) d ≡ made_returns prices rows w s
  unfolding made_laid
  made_front d k e h i = laid_front pz _ room (k * w) _ d e h (rw i length_made)
