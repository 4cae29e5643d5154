-- What each stage of a call leaves, in the shape of the needs. Assumes nothing.
use Prim.Native.Nat.{ℕ, ◌*◌, ◌-◌, ◌≤◌}
use mathlib.Core.Path.{◌≡◌, refl, sym, ap, ◌∙◌}
use mathlib.Core.Bool.{Bool, true, false, not, ◌&&◌, cond}
use mathlib.Core.List.{List, [], ◌∷◌, ◌++◌}
use native.Mathlib.Omega.{arith}
use borrow.Author.Tests.{le-ltb}
use lib.Dec.{eqb}
use lib.ListN.{length, take}
use lib.Ieee.{Float}
use Rattle.arithmetic.specs.Constants.{pz}
use Rattle.refusal.specs.Table.{Line, first, or_else, and_then, Outcome}
use Rattle.refusal.specs.declared.Refusal.{Refusal}
use Rattle.refusal.specs.declared.Refusal.TheVariants.{NoData, DimensionMismatch, MissingExpectedReturnsForSharpe, UnknownReturns}
use Rattle.refusal.proofs.Tables.{table, first_append, then_refused, done_refused}
use Rattle.lent.specs.Grid.{grid, over}
use Rattle.lent.specs.Lent.{sizes, answer_of, Answer, Shape, size}
use Rattle.lent.proofs.Laws.{length_tab, length_grid, square_in}
use Rattle.lent.proofs.Copying.{copied_front}
use Rattle.lent.proofs.Sizes.{sized_done}
use Rattle.resample.specs.Resample.{kept_rows}
use Rattle.inputs.specs.Inputs.{absent, no_returns, made_outcome, made_answer, made_laid}
use Rattle.inputs.proofs.Laws.{made_judged, made_front, laid_front}
use Rattle.stats.specs.Covariance.{covariance_cell, covariance_outcome, covariances}
use Rattle.stats.specs.Expected.{mean_return, exponential_return, expected_outcome, mean_returns, exponential_returns}
use Rattle.stats.proofs.Laws.{covariance_sized, expected_sized}
use Rattle.metrics.specs.declared.Metric.{Metric}
use Rattle.sharing.specs.Down.{is_sharpe}
use Rattle.hcaa.specs.declared.Wanted.{Wanted}
use Rattle.hcaa.specs.declared.Wanted.TheVariants.{Nothing, Given, Mean, Exponential, Unknown}
use Rattle.hcaa.specs.Hcaa.{is_mean, is_exponential, hcaa_return_rows, return_columns, hcaa_return_cells, prices_refused, hcaa_covariance_by, rows_judged, sharpe_judged}
use Rattle.hcaa.specs.Inner.{wanted_by, sizes_of, source_outcome, Sources, Gathered, rest_outcome, Coverable, Hopeful, hopes_of, hoped_for}
use Rattle.std.specs.Prelude.{Some, Ok, None, Err}

-- ---- stages, each judged by itself

pub staged : (a b c : List Line) (x y z u r : Outcome) → x ≡ first a → y ≡ first b → z ≡ first c → u ≡ and_then y z → r ≡ and_then x u → r ≡ first (a ++ (b ++ c))
staged a b c x y z u r ex ey ez eu er = let p = first_append a (b ++ c) in let q = first_append b c in cc

-- what the expected returns refuse, by which of them are wanted
unfoldable pub want_judged : ℕ → ℕ → ℕ → Wanted → Outcome
want_judged n h len Nothing = Ok tt
want_judged n h len Given = or_else (not (eqb len n)) DimensionMismatch (Ok tt)
want_judged n h len Mean = or_else (eqb h 0) MissingExpectedReturnsForSharpe (Ok tt)
want_judged n h len Exponential = or_else (eqb h 0) MissingExpectedReturnsForSharpe (Ok tt)
want_judged n h len Unknown = or_else (eqb h 0) MissingExpectedReturnsForSharpe (Err UnknownReturns)

module _ (m : Metric) (given : Bool) (method : List ℕ) (len n h : ℕ) where
  pub want_lines : first (sharpe_judged m given method len n h) ≡ want_judged n h len (wanted_by m given method)
  unfolding first sharpe_judged want_judged wanted_by
  want_lines = go (is_sharpe m) given (is_mean method) (is_exponential method)
    where
      go : (s g a b : Bool)
          → first ((s && (g && not (eqb len n)), DimensionMismatch) ∷ (s && (not g && eqb h 0), MissingExpectedReturnsForSharpe) ∷ (s && (not g && (not a && not b)), UnknownReturns) ∷ [])
          ≡ want_judged n h len (cond s (cond g Given (cond a Mean (cond b Exponential Unknown))) Nothing)
      go false g a b = refl
      go true true a b = table (not (eqb len n)) DimensionMismatch ((false, MissingExpectedReturnsForSharpe) ∷ (false, UnknownReturns) ∷ [])
      go true false true b = table (eqb h 0) MissingExpectedReturnsForSharpe ((false, UnknownReturns) ∷ [])
      go true false false true = table (eqb h 0) MissingExpectedReturnsForSharpe ((false, UnknownReturns) ∷ [])
      go true false false false = table (eqb h 0) MissingExpectedReturnsForSharpe ((true, UnknownReturns) ∷ [])

  pub expects : (wanted : Wanted) (r : Outcome) → wanted ≡ wanted_by m given method → r ≡ want_judged n h len wanted → r ≡ first (sharpe_judged m given method len n h)
  expects wanted r e f = f ∙ ap (want_judged n h len) e ∙ sym want_lines

  pub rest_judged : (got : Answer) (w : ℕ) (cs : Shape) (rows expected r : Outcome) → got ≡ Ok (size h w) → rows ≡ first (rows_judged n h w cs) → expected ≡ first (sharpe_judged m given method len n h)
      → r ≡ and_then rows expected → r ≡ rest_outcome got n cs len m given method
  unfolding rest_outcome
  rest_judged got w cs rows expected r g a b e = rw (g, e, a, b)

-- ---- a list that fits, copied into the front

pub copied : (from to after : List Float) (room : ℕ) → length from ≤ room → after ≡ over (take room from) to → room ≡ length to → take (length from) after ≡ from
copied from to after room h e q =
    let g : length from ≤ length to = omega arith in
    ap (take (length from)) (e ∙ ap (λ (k : ℕ). over (take k from) to) q) ∙ copied_front from to g

-- ---- the returns

of_sizes : (s : Shape) (len h w : ℕ) → s ≡ Some (size h w) → first (sizes_of s len) ≡ Ok tt → first (sizes len h w) ≡ Ok tt
unfolding sizes_of
of_sizes s len h w e f = rw e at f

pub given_fits : (said : Outcome) (pl : ℕ) (ps : Shape) (rl : ℕ) (rs : Shape) (h w room : ℕ) → said ≡ Ok tt → rs ≡ Some (size h w) → Sources said pl ps rl rs → room ≡ 4096 → rl ≤ room
given_fits said pl ps rl rs h w room d q z full = let b = sized_done rl h w (of_sizes rs rl h w q (z.returns d)) in omega (arith, b.small, b.cells)

module _ (said : Outcome) (p : List Float) (ps : Shape) (xs : List Float) (rs : Shape) (s : ℕ) where
  pub gathered_refused : (r : Answer) (out : List Float) (k : Refusal) → said ≡ Err k → r ≡ answer_of said 0 0 → Gathered said p ps xs rs s r out
  unfolding source_outcome answer_of
  gathered_refused r out k e f =
      let o : and_then said (or_else (prices_refused p s rs ps) NoData (Ok tt)) ≡ Err k = then_refused said _ k e in
      record { answer = f ∙ rw (o, e); cells = λ d. absurd (done_refused k (sym d ∙ o)) }

  module _ (d : said ≡ Ok tt) where
    pub gathered_given : (h w : ℕ) (out : List Float) → rs ≡ Some (size h w) → Sources said (length p) ps (length xs) rs → take (length xs) out ≡ xs → Gathered said p ps xs rs s (Ok (size h w)) out
    unfolding source_outcome prices_refused hcaa_return_rows hcaa_return_cells return_columns answer_of and_then or_else
    gathered_given h w out q z f =
        let b = sized_done (length xs) h w (of_sizes rs (length xs) h w q (z.returns d)) in
        rw (d, q) record { answer = refl; cells = λ _. rw (← b.cells) f }

    pub gathered_none : (r : Answer) (out : List Float) → rs ≡ None → ps ≡ None → r ≡ answer_of said 0 0 → Gathered said p ps xs rs s r out
    unfolding source_outcome prices_refused hcaa_return_rows hcaa_return_cells return_columns answer_of and_then or_else
    gathered_none r out q t f = rw (q, t, d) record { answer = f ∙ rw d; cells = λ _. refl }

    pub gathered_made : (h w room : ℕ) (r : Answer) (out : List Float) → rs ≡ None → ps ≡ Some (size h w) → Sources said (length p) ps (length xs) rs → room ≡ 4096
        → r ≡ made_answer p h w s room → out ≡ made_laid p h w s room → Gathered said p ps xs rs s r out
    unfolding source_outcome prices_refused hcaa_return_rows hcaa_return_cells return_columns and_then made_answer
    gathered_made h w room r out q t z full f g =
        let o : made_outcome p h w s room ≡ or_else (no_returns p h w s) NoData (Ok tt) = made_judged p h w s room (sized_done (length p) h w (of_sizes ps (length p) h w t (z.prices d))) (omega arith) in
        rw (d, q, t) record { answer = f ∙ rw o; cells = λ e. made_front p h w s room out (kept_rows h s - 1) g (o ∙ e) refl }

-- ---- the covariance

small : (len h n : ℕ) → first (sizes len h n) ≡ Ok tt → n * n ≤ 4096
small len h n ok = square_in n (sized_done len h n ok).wide

pub covered_fits : (cl len h n : ℕ) (cs : Shape) (room : ℕ) → first (sizes len h n) ≡ Ok tt → Coverable cs cl h n → room ≡ 4096 → absent cs ≡ false → cl ≤ room
covered_fits cl len h n cs room ok z full t = omega (arith, z.cells t, small len h n ok)

module _ (c xs : List Float) (h n : ℕ) (cs : Shape) (ok : first (sizes (length xs) h n) ≡ Ok tt) (z : Coverable cs (length c) h n) where
  pub covered_given : (out : List Float) → absent cs ≡ false → take (length c) out ≡ c → take (n * n) out ≡ hcaa_covariance_by c xs h n cs
  unfolding hcaa_covariance_by absent
  covered_given out t f = rw (← z.cells t) (f ∙ go cs t)
    where
      go : (a : Shape) → absent a ≡ false → c ≡ hcaa_covariance_by c xs h n a
      go (Some s) e = refl
      go None e = absurd (let b : ◌≡◌ {A = ℕ} 0 1 = cc in omega arith)

  pub covered_made : (room : ℕ) (out : List Float) → room ≡ 4096 → absent cs ≡ true → out ≡ covariances xs h n room → take (n * n) out ≡ hcaa_covariance_by c xs h n cs
  unfolding hcaa_covariance_by absent covariances or_else
  covered_made room out full t f =
      let o : covariance_outcome xs h n room ≡ (Ok tt) = covariance_sized xs h n room ok ∙ rw (le-ltb room (n * n) (omega (arith, small (length xs) h n ok)), le-ltb h 2 (z.enough t)) in
      laid_front pz _ room (n * n) _ out f o (length_grid n n (covariance_cell xs h n)) ∙ go cs t
    where
      go : (a : Shape) → absent a ≡ true → grid n n (covariance_cell xs h n) ≡ hcaa_covariance_by c xs h n a
      go (Some s) e = absurd (let b : ◌≡◌ {A = ℕ} 0 1 = cc in omega arith)
      go None e = refl

-- ---- the expected returns

pub hoped_fits : (el n : ℕ) (wanted : Wanted) (len h room : ℕ) → Hopeful el wanted n → wanted ≡ Given → room ≡ 64 → first (sizes len h n) ≡ Ok tt → el ≤ room
hoped_fits el n wanted len h room z t full ok = omega (arith, z.whole t, (sized_done len h n ok).wide)

module _ (e xs : List Float) (h n : ℕ) (wanted : Wanted) where
  abbrev Hoped : ℕ → List Float → Type 0
  Hoped r ys = (r ≡ hopes_of wanted n) × (ys ≡ hoped_for e xs h n wanted)

  pub hoped_nothing : wanted ≡ Nothing → Hoped 0 []
  unfolding hoped_for hopes_of
  hoped_nothing t = rw t (refl, refl)

  pub hoped_unknown : wanted ≡ Unknown → Hoped 0 []
  unfolding hoped_for hopes_of
  hoped_unknown t = rw t (refl, refl)

  pub hoped_given : (out : List Float) → wanted ≡ Given → Hopeful (length e) wanted n → take (length e) out ≡ e → Hoped n (take n out)
  unfolding hoped_for hopes_of
  hoped_given out t z f = let f' : take n out ≡ e = rw (z.whole t) at f in rw t (refl, f')

  module _ (room : ℕ) (out : List Float) (full : room ≡ 64) (ok : first (sizes (length xs) h n) ≡ Ok tt) where
    expected_done : expected_outcome xs h n room ≡ Ok tt
    unfolding or_else
    expected_done = expected_sized xs h n room ok ∙ rw (le-ltb room n (omega (arith, (sized_done (length xs) h n ok).wide)))

    pub hoped_mean : wanted ≡ Mean → out ≡ mean_returns xs h n room → Hoped n (take n out)
    unfolding mean_returns hoped_for hopes_of
    hoped_mean t f = rw t (refl, laid_front pz _ room n _ out f expected_done (length_tab n (mean_return xs h n)))

    pub hoped_exponential : wanted ≡ Exponential → out ≡ exponential_returns xs h n room → Hoped n (take n out)
    unfolding exponential_returns hoped_for hopes_of
    hoped_exponential t f = rw t (refl, laid_front pz _ room n _ out f expected_done (length_tab n (exponential_return xs h n)))
