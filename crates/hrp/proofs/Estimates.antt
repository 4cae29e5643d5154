-- The covariance of a call that gives none: what the steps that make it say of the definitions. Assumes nothing.
use Prim.Native.Nat.{ℕ, ◌*◌, ◌-◌, ◌≤◌}
use mathlib.Core.Path.{◌≡◌, refl, sym, ap, ◌∙◌}
use mathlib.Core.Bool.{Bool, true, false, not, ◌&&◌, false≢true}
use mathlib.Core.List.{List}
use native.Mathlib.Omega.{arith}
use borrow.Author.Tests.{le-ltb, eq-eqb, not-true, not-false}
use lib.Dec.{ltb}
use lib.ListN.{length, take}
use lib.Ieee.{Float}
use Rattle.arithmetic.specs.Constants.{pz}
use Rattle.refusal.specs.Table.{first, or_else, and_then, Outcome}
use Rattle.refusal.specs.declared.Refusal.{Refusal}
use Rattle.refusal.specs.declared.Refusal.TheVariants.{NoData}
use Rattle.refusal.proofs.Tables.{done_refused, table_pass, table_end, then_refused}
use Rattle.lent.specs.Lent.{sizes, told_of, Answer, Shape, size}
use Rattle.lent.proofs.Laws.{square_in, length_grid}
use Rattle.lent.proofs.Sizes.{Sized, sized_done, squared_sized, told_as}
use Rattle.resample.specs.Resample.{kept_rows}
use Rattle.stats.specs.Covariance.{covariance_cell, covariance_outcome, covariance_answer, covariances, shrunk_cell, shrink_outcome, shrink_answer, shrunk}
use Rattle.stats.proofs.Laws.{covariance_sized}
use Rattle.inputs.specs.Inputs.{absent, rows_of_shape, no_returns, made_returns, made_outcome, made_answer, made_laid}
use Rattle.inputs.proofs.Laws.{sizes_pass, laid_front, made_judged, made_done, made_answer_lem, made_refusal, made_front}
use Rattle.arranging.proofs.Laws.{done_never}
use Rattle.hrp.specs.Hrp.{estimated, shrunk_if}
use Rattle.hrp.specs.Inner.{HrpEstimated, HrpSampled, HrpSource, gathered_rows, gathered_cells, gather_sizes, gathered_covariance, gather_outcome, HrpFitting, HrpGathered, HrpGiven}
use Rattle.std.specs.Prelude.{Some, Ok, None, Err}
use Rattle.std.specs.Result.{is_err}

-- a line that refused
hit : (t : Bool) (k : Refusal) (o : Outcome) → or_else t NoData (Ok tt) ≡ Err k → Err k ≡ or_else t NoData o
unfolding or_else
hit true k o e = sym e
hit false k o e = absurd (done_refused k e)

else_pass : (t : Bool) (o : Outcome) → t ≡ false → o ≡ or_else t NoData o
unfolding or_else
else_pass t o e = rw e

pub and_no : (a : Bool) → (a && false) ≡ false
and_no true = refl
and_no false = refl

and_yes : (a : Bool) → (a && true) ≡ a
and_yes true = refl
and_yes false = refl

-- n by n cells fit
pub cells_fit : (len rows n : ℕ) → first (sizes len rows n) ≡ Ok tt → n * n ≤ 4096
cells_fit len rows n e = square_in n (sized_done len rows n e).wide

-- ---- of returns

module _ (xs : List Float) (rows n : ℕ) (ok : first (sizes (length xs) rows n) ≡ Ok tt) (a : Answer) (r : Outcome) (h : r ≡ told_of a) where
  length_estimated : length (estimated xs rows n) ≡ n * n
  unfolding estimated
  length_estimated = length_grid n n (covariance_cell xs rows n)

  module _ (room : ℕ) (full : room ≡ 4096) (e : a ≡ covariance_answer xs rows n room) where
    told_is : r ≡ covariance_outcome xs rows n room
    unfolding covariance_answer
    told_is = h ∙ ap told_of e ∙ told_as (covariance_outcome xs rows n room) n n

    answer_is : r ≡ or_else (ltb rows 2) NoData (Ok tt)
    unfolding or_else
    answer_is = told_is ∙ covariance_sized xs rows n room ok ∙ rw (le-ltb room (n * n) (omega (arith, full, cells_fit (length xs) rows n ok)))

    front : (d : List Float) → d ≡ covariances xs rows n room → r ≡ Ok tt → take (n * n) d ≡ estimated xs rows n
    unfolding covariances estimated
    front d f g = laid_front pz _ room (n * n) _ d f (sym told_is ∙ g) length_estimated

    pub estimated_refused : (k : Refusal) (b : Bool) (d : List Float) → r ≡ Err k → HrpEstimated xs rows n b (Err k) d
    estimated_refused k b d g = record { answer = sym g ∙ answer_is; front = λ q. absurd (done_refused k (sym q)) }

    pub estimated_plain : (b : Bool) (d : List Float) → b ≡ false → d ≡ covariances xs rows n room → HrpEstimated xs rows n b r d
    unfolding shrunk_if
    estimated_plain b d t f = rw t record { answer = answer_is; front = λ g. front d f g }

    shrink_passes : (room₁ : ℕ) → room₁ ≡ 4096 → shrink_outcome (estimated xs rows n) n n room₁ ≡ Ok tt
    unfolding shrink_outcome
    shrink_passes room₁ full₁ =
        let m = cells_fit (length xs) rows n ok in
        let w = (sized_done (length xs) rows n ok).wide in
        squared_sized (length (estimated xs rows n)) n n room₁ (sizes_pass (length (estimated xs rows n)) n n record { tall = omega (arith, w); wide = w; small = m; cells = length_estimated })
        ∙ table_pass _ _ _ (le-ltb room₁ (n * n) (omega (arith, full₁, m)))
        ∙ table_pass _ _ _ (rw (eq-eqb n n refl))
        ∙ table_end

    -- what was estimated is not refused for its sizes
    pub shrink_never : (p : List Float) (room₁ : ℕ) → room₁ ≡ 4096 → p ≡ covariances xs rows n room → r ≡ Ok tt → (b : Answer) → b ≡ shrink_answer (take (n * n) p) n n room₁ → (k : Refusal) → b ≡ Err k → ⊥
    unfolding shrink_answer
    shrink_never p room₁ full₁ f q b g k u =
        done_never (shrink_outcome (take (n * n) p) n n room₁) n n b k (ap (λ (x : List Float). shrink_outcome x n n room₁) (front p f q) ∙ shrink_passes room₁ full₁) g u

    -- p is what was estimated, d what it shrank to
    pub estimated_shrunk : (b : Bool) (p d : List Float) (room₁ : ℕ) → room₁ ≡ 4096 → b ≡ true → p ≡ covariances xs rows n room → d ≡ shrunk (take (n * n) p) n n room₁ → HrpEstimated xs rows n b r d
    unfolding shrunk shrunk_if
    estimated_shrunk b p d room₁ full₁ t f g =
        rw t
        record {
          answer = answer_is;
          front = λ q. laid_front pz _ room₁ (n * n) _ d (g ∙ ap (λ (x : List Float). shrunk x n n room₁) (front p f q)) (shrink_passes room₁ full₁) (length_grid n n (shrunk_cell (estimated xs rows n) n));
        }

-- ---- of prices

module _ (prices : List Float) (rows n s : ℕ) (ok : first (sizes (length prices) rows n) ≡ Ok tt) (a : Answer) (e : a ≡ made_answer prices rows n s 4096) where
  made_is : made_outcome prices rows n s 4096 ≡ or_else (no_returns prices rows n s) NoData (Ok tt)
  made_is = made_judged prices rows n s 4096 (sized_done (length prices) rows n ok) (omega arith)

  pub sampled_refused : (k : Refusal) (shrink : Bool) (d : List Float) → a ≡ Err k → HrpSampled prices rows n s shrink (Err k) d
  sampled_refused k shrink d h =
      record {
        answer = hit (no_returns prices rows n s) k _ (sym made_is ∙ made_refusal prices rows n s 4096 a k e h);
        front = λ g. absurd (done_refused k (sym g));
      }

  -- accepted: k rows of returns at the front of made
  module _ (k v : ℕ) (made : List Float) (h : a ≡ Ok (size k v)) (f : made ≡ made_laid prices rows n s 4096) where
    done : (made_outcome prices rows n s 4096 ≡ Ok tt) × (k ≡ kept_rows rows s - 1)
    done = made_answer_lem prices rows n s 4096 a k v e h

    returns_are : take (k * n) made ≡ made_returns prices rows n s
    returns_are = made_front prices rows n s 4096 made k f done.0 done.1

    made_sized : Sized (length (take (k * n) made)) k n
    made_sized = rw (returns_are, done.1) (made_done prices rows n s 4096 done.0).sized

    pub returns_fit : k * n ≤ 4096
    returns_fit = made_sized.small

    pub returns_pass : first (sizes (length (take (k * n) made)) k n) ≡ Ok tt
    returns_pass = sizes_pass _ k n made_sized

    pub sampled_done : (shrink : Bool) (r : Outcome) (d : List Float) → HrpEstimated (take (k * n) made) k n shrink r d → HrpSampled prices rows n s shrink r d
    sampled_done shrink r d z =
        let z' : HrpEstimated (made_returns prices rows n s) (kept_rows rows s - 1) n shrink r d = rw (returns_are, done.1) at z in
        record {
          answer = z'.answer ∙ else_pass (no_returns prices rows n s) _ (made_done prices rows n s 4096 done.0).clean;
          front = z'.front;
        }

-- ---- of a call

module _ (said : Outcome) (q : HrpSource) where
  pub gathered_refused : (k : Refusal) (out : List Float) → said ≡ Err k → HrpGathered said q (Err k) out
  gathered_refused k out h = record { answer = sym (then_refused _ _ k h); front = λ g. absurd (done_refused k (sym g)) }

  module _ (d : said ≡ Ok tt) where
    pub gathered_given : (r : Outcome) → r ≡ Ok tt → (out : List Float) → absent q.covariance_shape ≡ false → HrpGathered said q r out
    unfolding gather_outcome and_then or_else
    gathered_given r e out t = record { answer = e ∙ rw (d, t, and_no (absent q.returns_shape)); front = λ g w. absurd (let z : ◌≡◌ {A = Bool} false true = sym t ∙ w in let y : ◌≡◌ {A = ℕ} 0 1 = cc in omega arith) }

    module _ (t : absent q.covariance_shape ≡ true) where
      pub gathered_returns : (rows w : ℕ) (r : Outcome) (out : List Float) → q.returns_shape ≡ Some (size rows w) → HrpEstimated q.returns rows q.assets q.use_shrinkage r out → HrpGathered said q r out
      unfolding gather_outcome gathered_covariance gathered_rows gathered_cells absent and_then or_else
      gathered_returns rows w r out e z =
          record {
            answer = z.answer ∙ rw (d, t, e);
            front = λ g w. z.front g ∙ rw e;
          }

      pub gathered_prices : (r : Outcome) (out : List Float) → q.returns_shape ≡ None → HrpSampled q.prices (rows_of_shape q.prices_shape) q.assets q.step q.use_shrinkage r out → HrpGathered said q r out
      unfolding gather_outcome gathered_covariance gathered_rows gathered_cells absent and_then or_else
      gathered_prices r out e z =
          record {
            answer = z.answer ∙ rw (d, t, e);
            front = λ g w. z.front g ∙ rw e;
          }

      module _ (f : HrpFitting said q) where
        pub returns_sized : (rows w : ℕ) → q.returns_shape ≡ Some (size rows w) → first (sizes (length q.returns) rows q.assets) ≡ Ok tt
        unfolding gather_sizes
        returns_sized rows w e = rw e at (f.sized d t)

        pub prices_sized : q.returns_shape ≡ None → first (sizes (length q.prices) (rows_of_shape q.prices_shape) q.assets) ≡ Ok tt
        unfolding gather_sizes
        prices_sized e = rw e at (f.sized d t)

-- ---- a given covariance

pub given_refused : (said : Outcome) (t : Shape) → is_err said ≡ true → HrpGiven said t false
given_refused (Ok _) t h = absurd (false≢true h)
given_refused (Err k) t h = record { done = λ e. absurd (false≢true e); given = λ e. absurd (false≢true e); none = λ e d. absurd (done_refused k (sym d)) }

done_as : (said : Outcome) → is_err said ≡ false → said ≡ Ok tt
done_as (Ok _) h = refl
done_as (Err k) h = absurd (false≢true (sym h))

pub given_as : (said : Outcome) (t : Shape) (r : Bool) → is_err said ≡ false → r ≡ absent t → HrpGiven said t (not r)
given_as said t r h e =
    let d = done_as said h in
    record { done = λ f. d; given = λ f. sym e ∙ not-true r f; none = λ f g. sym e ∙ not-false r f }
