-- The laws of specs/Clusters.antt in the shape of the needs. Assumes nothing.
use Prim.Native.Nat.{ℕ, ◌*◌, ◌<◌, ◌≤◌, ◌+◌}
use mathlib.Core.Path.{◌≡◌, refl, sym, ap, ◌∙◌}
use mathlib.Core.Bool.{Bool, true, false, not}
use mathlib.Core.List.{List, ◌∷◌}
use native.Mathlib.Omega.{arith}
use borrow.Author.Tests.{ltb-false, leb-false, eqb-true, not-false}
use lib.Dec.{ltb, leb, eqb}
use lib.ListN.{length, get_or, take}
use Rattle.std.specs.Bool.{MatchBool}
use Rattle.std.specs.List.{list_any, Any, All}
use Rattle.std.proofs.Common.{zero, suc, ◌||◌, take_all, take-suc, le_refl}
use Rattle.std.proofs.lemmas.List.Folds.{list_any-append, list_any-from_Any, list_any_none}
use lib.Ieee.{Float, nan, binary64, mul}
use Rattle.arithmetic.specs.Constants.{pz}
use Rattle.arithmetic.specs.Arithmetic.{max_of}
use Rattle.refusal.specs.Table.{Line, first, or_else, and_then, Outcome}
use Rattle.refusal.specs.Telling.{tells}
use Rattle.refusal.specs.declared.Refusal.{Refusal}
use Rattle.refusal.specs.declared.Refusal.TheVariants.{DimensionMismatch, ShortBuffer}
use Rattle.refusal.proofs.Tables.{none, both_done, first_append}
use Rattle.lent.specs.Grid.{zeros, over, sum_to, sum_rows, any_to}
use Rattle.lent.specs.Lent.{answer_of, size}
use Rattle.lent.proofs.Laws.{length_tab, get_d_over, cell_in}
use Rattle.lent.proofs.Sums.{sum_ext, sums_ext, any_no}
use Rattle.lent.proofs.Sizes.{same_length, laid_done, laid_refused}
use Rattle.clusters.specs.Clusters.{nth, shares, term, variance_of, expectation, ratio, ratio_of, outside, risk_table, size_table, shares_outcome, shares_answer, shares_laid, variance_outcome, variance_answer, sharpe_outcome, sharpe_answer, risk_of, risk_tells}
use Rattle.clusters.specs.Inner.{ListedAssets}
use Rattle.std.specs.Prelude.{Ok, Err}

-- ---- what an answer tells

pub risk_tells_lem : (o : Outcome) (v : Float) → risk_tells (risk_of o v) ≡ tells o v
risk_tells_lem (Ok _) v = refl
risk_tells_lem (Err r) v = refl

-- ---- a test of each asset listed

any_taken : (p : ℕ → Bool) (l : List ℕ) (i : ℕ) → i ≤ length l → list_any p (take i l) ≡ any_to i (λ k. p (get_or l k 0))
unfolding any_to
any_taken p l zero h = refl
any_taken p l (suc i) h =
    let e : list_any p (take i l) ≡ any_to i (λ k. p (get_or l k 0)) = any_taken p l i (omega arith) in
    rw (take-suc l i 0 h, list_any-append, e) (ap (λ (b : Bool). any_to i (λ k. p (get_or l k 0)) || b) (or_false (p (get_or l i 0))))
  where
    or_false : (b : Bool) → (b || false) ≡ b
    or_false true = refl
    or_false false = refl

pub any_listed : (p : ℕ → Bool) (l : List ℕ) (b : Bool) → MatchBool b (Any (λ a. p a ≡ true) l) (All (λ a. p a ≡ false) l) → b ≡ any_to (length l) (λ k. p (get_or l k 0))
any_listed p l b m = said b m ∙ rw (take_all (length l) l (le_refl _)) at (any_taken p l (length l) (le_refl _))
  where
    said : (b : Bool) → MatchBool b (Any (λ a. p a ≡ true) l) (All (λ a. p a ≡ false) l) → b ≡ list_any p l
    said true m = sym (list_any-from_Any p l m)
    said false m = sym (list_any_none p l m)

-- ---- assets of a square matrix

pub listed_cell : {cov : List Float} {n : ℕ} {assets : List ℕ} → ListedAssets cov n assets → (i j : ℕ) → i < length assets → j < length assets
    → nth assets i * n + nth assets j < length cov
listed_cell {cov} {n} {assets} p i j h k = cell_in cov n n (nth assets i) (nth assets j) p.cells (p.each i h) (p.each j k)

pub listed_in : {cov : List Float} {n : ℕ} {assets : List ℕ} → ListedAssets cov n assets → (expected : List Float) → length expected ≡ n
    → (k : ℕ) → k < length assets → nth assets k < length expected
listed_in p expected e k h = omega (arith, p.each k h)

pub listed : (cov : List Float) (n : ℕ) (assets : List ℕ) → length cov ≡ n * n → length assets ≤ 64 → outside n assets ≡ false → ListedAssets cov n assets
unfolding outside
listed cov n assets c f o =
    record { cells = c; few = f; each = λ k h. leb-false n (nth assets k) (any_no (λ i. leb n (nth assets i)) (length assets) o k h) }

-- ---- the weights at the front of a longer list serve as well

pub length_shares : (cov : List Float) (n : ℕ) (assets : List ℕ) → length (shares cov n assets) ≡ length assets
unfolding shares
length_shares cov n assets = length_tab (length assets) _

module _ (cov : List Float) (n : ℕ) (assets : List ℕ) (w l : List Float) (e : w ≡ over (shares cov n assets) l) where
  same_share : (k : ℕ) → k < length assets → get_or w k nan ≡ get_or (shares cov n assets) k nan
  same_share k h = let z = length_shares cov n assets in rw e (get_d_over (shares cov n assets) l k nan (omega arith))

  pub same_variance : max_of (sum_rows (length assets) (length assets) (term cov n assets w)) pz ≡ variance_of cov n assets
  unfolding term variance_of
  same_variance =
      ap (λ (s : Float). max_of s pz)
      (sums_ext (length assets) (length assets) (term cov n assets w) (term cov n assets (shares cov n assets)) (λ i j hi hj. rw (same_share i hi, same_share j hj)))

  pub same_expectation : (expected : List Float)
      → sum_to (length assets) (λ k. mul binary64 (get_or w k nan) (get_or expected (nth assets k) nan)) ≡ expectation expected cov n assets
  unfolding expectation
  same_expectation expected = sum_ext (length assets) _ _ (λ k h. rw (same_share k h))

  pub same_ratio : (expected : List Float) (mu v r : Float)
      → mu ≡ sum_to (length assets) (λ k. mul binary64 (get_or w k nan) (get_or expected (nth assets k) nan))
      → v ≡ max_of (sum_rows (length assets) (length assets) (term cov n assets w)) pz → r ≡ ratio mu v → r ≡ ratio_of expected cov n assets
  unfolding ratio_of
  same_ratio expected mu v r a b h = rw (h, a, b, same_expectation expected, same_variance)

-- ---- the refusals: of the sizes, of what comes between, of the risk

-- a line's refusal, and then the lines after it
line_first : (t : Bool) (r : Refusal) (l : List Line) → first ((t, r) ∷ l) ≡ and_then (or_else t r (Ok tt)) (first l)
unfolding first or_else and_then
line_first true r l = refl
line_first false r l = refl

-- a line that does not refuse
pub passed : (t : Bool) (r : Refusal) → or_else t r (Ok tt) ≡ Ok tt → t ≡ false
unfolding or_else
passed true r e = absurd (let z : ◌≡◌ {A = ℕ} 0 1 = cc in omega arith)
passed false r e = refl

pub same_number : (m n : ℕ) → or_else (not (eqb m n)) DimensionMismatch (Ok tt) ≡ Ok tt → m ≡ n
same_number m n e = eqb-true m n (not-false (eqb m n) (passed (not (eqb m n)) DimensionMismatch e))

module _ (cov : List Float) (rows w : ℕ) (assets : List ℕ) where
  -- the outcomes, stage by stage
  pub shares_stages : (room : ℕ) → shares_outcome cov rows w assets room
      ≡ and_then (first (size_table cov rows w assets))
      (and_then (or_else (ltb room (length assets)) ShortBuffer (Ok tt))
      (and_then (or_else (not (eqb rows w)) DimensionMismatch (Ok tt)) (first (risk_table cov w assets))))
  unfolding shares_outcome
  shares_stages room =
      first_append (size_table cov rows w assets) _
      ∙ ap (and_then (first (size_table cov rows w assets))) (line_first _ _ _ ∙ ap (and_then _) (line_first _ _ (risk_table cov w assets)))

  pub variance_stages : variance_outcome cov rows w assets
      ≡ and_then (first (size_table cov rows w assets))
      (and_then (or_else (not (eqb rows w)) DimensionMismatch (Ok tt)) (first (risk_table cov w assets)))
  unfolding variance_outcome
  variance_stages =
      first_append (size_table cov rows w assets) _
      ∙ ap (and_then (first (size_table cov rows w assets))) (line_first _ _ (risk_table cov w assets))

  pub sharpe_stages : (expected : List Float) → sharpe_outcome expected cov rows w assets
      ≡ and_then (first (size_table cov rows w assets))
      (and_then (or_else (not (eqb rows w)) DimensionMismatch (Ok tt))
      (and_then (or_else (not (eqb (length expected) w)) DimensionMismatch (Ok tt)) (first (risk_table cov w assets))))
  unfolding sharpe_outcome
  sharpe_stages expected =
      first_append (size_table cov rows w assets) _
      ∙ ap (and_then (first (size_table cov rows w assets))) (line_first _ _ _ ∙ ap (and_then _) (line_first _ _ (risk_table cov w assets)))

  -- what the stages that are done know
  pub sized : first (size_table cov rows w assets) ≡ Ok tt → (length cov ≡ rows * w) × (length assets ≤ 64)
  unfolding size_table
  sized e =
      let a = none _ e in
      (same_length (length cov) rows w a.1.1.0, ltb-false 64 (length assets) a.1.0)

  module _ (s : first (size_table cov rows w assets) ≡ Ok tt) (q : or_else (not (eqb rows w)) DimensionMismatch (Ok tt) ≡ Ok tt) where
    pub squared : (length cov ≡ w * w) × (length assets ≤ 64)
    squared =
        let a = sized s in
        (a.0 ∙ ap (λ (k : ℕ). k * w) (same_number rows w q), a.1)

    pub all_listed : first (risk_table cov w assets) ≡ Ok tt → ListedAssets cov w assets
    unfolding risk_table
    all_listed e = listed cov w assets squared.0 squared.1 (none _ e).0

  pub variance_accepted : variance_outcome cov rows w assets ≡ Ok tt → (rows ≡ w) × ListedAssets cov w assets
  variance_accepted e =
      let a = both_done _ _ (sym variance_stages ∙ e) in
      let b = both_done _ _ a.1 in
      (same_number rows w b.0, all_listed a.0 b.0 b.1)

  -- ---- of `inverse_variance_weights`
  module _ (room : ℕ) where
    pub shares_accepted : shares_outcome cov rows w assets room ≡ Ok tt → (rows ≡ w) × ListedAssets cov w assets × (length assets ≤ room)
    shares_accepted e =
        let a = both_done _ _ (sym (shares_stages room) ∙ e) in
        let b = both_done _ _ a.1 in
        let d = both_done _ _ b.1 in
        (same_number rows w d.0, all_listed a.0 d.0 d.1, ltb-false room (length assets) (passed (ltb room (length assets)) ShortBuffer b.0))

    pub shares_refused : (r : Refusal) → shares_outcome cov rows w assets room ≡ Err r → shares_answer cov rows w assets room ≡ Err r
    unfolding shares_answer answer_of
    shares_refused r d = rw d

    pub laid_refused_shares : (r : Refusal) → shares_outcome cov rows w assets room ≡ Err r → shares_laid cov rows w assets room ≡ zeros room
    unfolding shares_laid
    laid_refused_shares r d = sym (laid_refused pz _ r room _ d)

    pub shares_done : shares_outcome cov rows w assets room ≡ Ok tt → shares_answer cov rows w assets room ≡ Ok (size 1 (length assets))
    unfolding shares_answer answer_of
    shares_done d = rw d

    pub laid_done_shares : shares_outcome cov rows w assets room ≡ Ok tt → shares_laid cov rows w assets room ≡ over (shares cov w assets) (zeros room)
    unfolding shares_laid
    laid_done_shares d = sym (laid_done pz _ room _ d)

  -- ---- of `cluster_variance`
  pub variance_refused : (r : Refusal) → variance_outcome cov rows w assets ≡ Err r → variance_answer cov rows w assets ≡ Err r
  unfolding variance_answer
  variance_refused r d = rw d

  pub variance_done : variance_outcome cov rows w assets ≡ Ok tt → variance_answer cov rows w assets ≡ Ok (variance_of cov w assets)
  unfolding variance_answer
  variance_done d = rw d

  -- ---- of `cluster_sharpe`
  module _ (expected : List Float) where
    pub sharpe_accepted : sharpe_outcome expected cov rows w assets ≡ Ok tt → (rows ≡ w) × ListedAssets cov w assets × (length expected ≡ w)
    sharpe_accepted e =
        let a = both_done _ _ (sym (sharpe_stages expected) ∙ e) in
        let b = both_done _ _ a.1 in
        let d = both_done _ _ b.1 in
        (same_number rows w b.0, all_listed a.0 b.0 d.1, same_number (length expected) w d.0)

    pub sharpe_refused : (r : Refusal) → sharpe_outcome expected cov rows w assets ≡ Err r → sharpe_answer expected cov rows w assets ≡ Err r
    unfolding sharpe_answer
    sharpe_refused r d = rw d

    pub sharpe_done : sharpe_outcome expected cov rows w assets ≡ Ok tt → sharpe_answer expected cov rows w assets ≡ Ok (ratio_of expected cov w assets)
    unfolding sharpe_answer
    sharpe_done d = rw d
