-- What the judge of a call and the covariance made for it say of its table, and how a call ends. Assumes nothing.
use Prim.Native.Nat.{ℕ, ◌*◌, ◌≤◌}
use mathlib.Core.Path.{◌≡◌, refl, sym, ap, ◌∙◌}
use mathlib.Core.Bool.{Bool, true, false, not, ◌&&◌, ◌||◌, true≢false, false≢true}
use mathlib.Core.List.{List, [], ◌∷◌, ◌++◌}
use native.Mathlib.Omega.{arith}
use borrow.Author.Tests.{eqb-true, eq-eqb, not-false}
use lib.Dec.{ltb, eqb}
use lib.ListN.{length, take}
use lib.Ieee.{Float}
use Rattle.refusal.specs.Table.{Line, first, or_else, and_then, Outcome}
use Rattle.refusal.specs.declared.Refusal.{Refusal}
use Rattle.refusal.specs.declared.Refusal.TheVariants.{NoData, DimensionMismatch}
use Rattle.refusal.proofs.Tables.{none, table, table_pass, table_end, first_append, first_done, then_done, both_done, parts_done}
use Rattle.lent.specs.Lent.{sizes, Shape, size}
use Rattle.lent.proofs.Laws.{square_in, length_grid}
use Rattle.lent.proofs.Sizes.{Sized}
use Rattle.resample.specs.Resample.{step_of}
use Rattle.linkage.specs.declared.Distance.{Distance}
use Rattle.inputs.specs.Inputs.{absent, rows_of_shape, other_columns, other_size, matrix_lines, no_returns}
use Rattle.inputs.proofs.Laws.{sizes_pass, Fits, Matrices, matrices_done}
use Rattle.rooms.specs.Rooms.{ParityRoom, parity_room_lines, parity_judge_table, shapes_judged, hrp_judge_table, ParityCleared, square_lines}
use Rattle.parity.specs.Parity.{hrp_risk_lines, parity_outcome, ParityLaid, ParityAnswered}
use Rattle.parity.proofs.Answers.{parity_said, laid_cleared}
use Rattle.hrp.specs.Hrp.{HrpJob, prices_alone, hrp_return_rows, hrp_return_cells, estimated, shrunk_if, hrp_covariance_by, hrp_covariance, hrp_shape_lines, number_lines, hrp_table, hrp_outcome, HrpAllocated}
use Rattle.hrp.specs.Inner.{HrpSource, gathered_rows, gathered_cells, gather_sizes, gathered_covariance, gather_outcome, HrpFitting, HrpGathered, HrpGiven}
use Rattle.hrp.proofs.Estimates.{and_no, gathered_given}
use Rattle.std.specs.Prelude.{Some, Ok, None, Err}

-- ---- the given matrices

-- the columns, and the size, of a given matrix
columns_are : (rows w n : ℕ) → other_columns (Some (size rows w)) n ≡ false → w ≡ n
unfolding other_columns
columns_are rows w n e = eqb-true w n (not-false _ e)

size_is : (rows w n : ℕ) → other_size (Some (size rows w)) n ≡ false → (rows ≡ n) × (w ≡ n)
unfolding other_size
size_is rows w n e = go (eqb rows n) (eqb w n) (eqb-true rows n) (eqb-true w n) e
  where
    go : (a b : Bool) → (a ≡ true → rows ≡ n) → (b ≡ true → w ≡ n) → (not a || not b) ≡ false → (rows ≡ n) × (w ≡ n)
    go true true f g e = (f refl, g refl)
    go true false f g e = absurd (let z : ◌≡◌ {A = ℕ} 0 1 = cc in omega arith)
    go false b f g e = absurd (let z : ◌≡◌ {A = ℕ} 0 1 = cc in omega arith)

-- what a covariance is made from has its sizes
source_sized : (q : HrpSource) (ps rs cs : Shape) → ps ≡ q.prices_shape → Fits ps (length q.prices) → Fits rs (length q.returns) → absent cs ≡ true → (absent ps && (absent rs && absent cs)) ≡ false
    → other_columns rs q.assets ≡ false → ((absent rs && absent cs) && other_columns ps q.assets) ≡ false → first (gather_sizes q rs) ≡ Ok tt
unfolding gather_sizes absent rows_of_shape
source_sized q ps (Some s) cs e fp fr t g o u = sizes_pass (length q.returns) s.rows q.assets (rw (columns_are s.rows s.columns q.assets o) at fr)
source_sized q None None cs e fp fr t g o u = absurd (let y : absent cs ≡ false = g in let z : ◌≡◌ {A = ℕ} 0 1 = cc in omega arith)
source_sized q (Some s) None cs e fp fr t g o u =
    let v : other_columns (Some (size s.rows s.columns)) q.assets ≡ false = rw t at u in
    rw (← e) (sizes_pass (length q.prices) s.rows q.assets (rw (columns_are s.rows s.columns q.assets v) at fp))

given_cells : (n : ℕ) (cs : Shape) (len : ℕ) → Fits cs len → absent cs ≡ false → other_size cs n ≡ false → len ≡ n * n
unfolding absent
given_cells n None len f s o = absurd (let z : ◌≡◌ {A = ℕ} 0 1 = cc in omega arith)
given_cells n (Some z) len f s o = let q = size_is z.rows z.columns n o in rw (q.0, q.1) at f.cells

-- ---- outcomes one after the other

in_stages : (a b c d e : Outcome) → and_then a (and_then b (and_then c (and_then d e))) ≡ and_then (and_then a (and_then b (and_then c d))) e
unfolding and_then
in_stages (Err r) b c d e = refl
in_stages (Ok _) (Err r) c d e = refl
in_stages (Ok _) (Ok _) (Err r) d e = refl
in_stages (Ok _) (Ok _) (Ok _) (Err r) e = refl
in_stages (Ok _) (Ok _) (Ok _) (Ok _) e = refl

stops : (a b c : Outcome) (k : Refusal) → and_then a b ≡ Err k → and_then a (and_then b c) ≡ Err k
unfolding and_then
stops (Err r) b c k e = e
stops (Ok _) (Err r) c k e = e
stops (Ok _) (Ok _) c k e = absurd (let z : ◌≡◌ {A = ℕ} 0 1 = cc in omega arith)

goes_on : (a b c : Outcome) → and_then a b ≡ Ok tt → and_then a (and_then b c) ≡ c
unfolding and_then
goes_on (Err r) b c e = absurd (let z : ◌≡◌ {A = ℕ} 0 1 = cc in omega arith)
goes_on (Ok _) (Err r) c e = absurd (let z : ◌≡◌ {A = ℕ} 0 1 = cc in omega arith)
goes_on (Ok _) (Ok _) c e = refl

-- ---- buffers that are cleared are what a refusal leaves

pub cleared : (o : Outcome) (k : Refusal) (d : Distance) (cov : List Float) (n : ℕ) (room : ParityRoom) (rows order : List ℕ) (weights correlations distances scratch : List Float)
    → o ≡ Err k → ParityCleared room rows order weights correlations distances scratch → ParityLaid o d cov n room rows order weights correlations distances scratch
cleared o k d cov n room rows order weights correlations distances scratch e z = laid_cleared d cov n o room rows order weights correlations distances scratch k e z

-- ---- on a covariance that is held: what `parity` says is what its risk says

held : (d : Distance) (cov : List Float) (n : ℕ) (room : ParityRoom) → n ≤ 64 → eqb n 0 ≡ false → first (parity_room_lines n room) ≡ Ok tt → length cov ≡ n * n → parity_outcome d cov n n room ≡ first (hrp_risk_lines d cov n)
unfolding parity_judge_table square_lines
held d cov n room few some roomy cells =
    let z : Sized (length cov) n n = record { tall = omega (arith, few); wide = few; small = square_in n few; cells = cells } in
    let p : first (parity_judge_table (length cov) n n room) ≡ (Ok tt) =
    first_done (sizes (length cov) n n) _ (sizes_pass (length cov) n n z) ∙ first_done (parity_room_lines n room) _ roomy ∙ table_pass _ NoData _ some ∙ table_pass _ DimensionMismatch _ (rw (eq-eqb n n refl)) ∙ table_end in
    parity_said d cov n n room ∙ then_done _ _ p

length_used : (j : HrpJob) → (absent j.covariance_shape ≡ false → length j.covariance ≡ j.assets * j.assets) → length (hrp_covariance j) ≡ j.assets * j.assets
unfolding hrp_covariance hrp_covariance_by absent shrunk_if estimated
length_used j f = go j.covariance_shape f
  where
    by : (b : Bool) (xs : List Float) (h n : ℕ) → length (shrunk_if b (estimated xs h n) n) ≡ n * n
    by true xs h n = length_grid n n _
    by false xs h n = length_grid n n _

    go : (t : Shape) → (absent t ≡ false → length j.covariance ≡ j.assets * j.assets) → length (hrp_covariance_by j t) ≡ j.assets * j.assets
    go (Some s) f = f refl
    go None f = by j.use_shrinkage _ _ j.assets

-- ---- the table of a call

-- what a covariance is made from, by a step s
abbrev pub source_with : HrpJob → ℕ → HrpSource
source_with j s = record {
  assets = j.assets;
  prices = j.prices;
  prices_shape = j.prices_shape;
  returns = j.returns;
  returns_shape = j.returns_shape;
  covariance_shape = j.covariance_shape;
  step = s;
  use_shrinkage = j.use_shrinkage;
}

-- three lines, and more after them
three_lines : (a b c : Bool) (l : List Line) → first ((a, NoData) ∷ (b, NoData) ∷ (c, DimensionMismatch) ∷ l) ≡ or_else a NoData (or_else b NoData (or_else c DimensionMismatch (first l)))
three_lines a b c l = simp (table)

-- the last is first to tell where the others cannot
turned : (a b c : Bool) (o : Outcome) → (c ≡ true → (a ≡ false) × (b ≡ false)) → or_else a NoData (or_else b NoData (or_else c DimensionMismatch o)) ≡ and_then (or_else c DimensionMismatch (Ok tt)) (and_then (or_else a NoData (or_else b NoData (Ok tt))) o)
unfolding or_else and_then
turned a b true o f = let p = f refl in rw (p.0, p.1)
turned true b false o f = refl
turned false true false o f = refl
turned false false false o f = refl

given_only : (j : HrpJob) (s : Shape) (n : ℕ) → other_size s n ≡ true → absent s ≡ false
unfolding other_size absent
given_only j None n e = absurd (let z : ◌≡◌ {A = ℕ} 0 1 = cc in omega arith)
given_only j (Some s) n e = refl

module _ (j : HrpJob) (s : ℕ) (e : s ≡ step_of j.resample_by) where
  abbrev q : HrpSource
  q = source_with j s

  rows_same : (t : Shape) → gathered_rows q t ≡ hrp_return_rows j t
  unfolding gathered_rows hrp_return_rows
  rows_same None = rw e
  rows_same (Some s) = refl

  cells_same : (t : Shape) → gathered_cells q t ≡ hrp_return_cells j t
  unfolding gathered_cells hrp_return_cells
  cells_same None = rw e
  cells_same (Some s) = refl

  given_same : absent j.covariance_shape ≡ false → j.covariance ≡ hrp_covariance j
  unfolding hrp_covariance hrp_covariance_by absent
  given_same f = go j.covariance_shape f
    where
      go : (t : Shape) → absent t ≡ false → j.covariance ≡ hrp_covariance_by j t
      go (Some s) f = refl
      go None f = absurd (true≢false f)

  made_same : absent j.covariance_shape ≡ true → gathered_covariance q ≡ hrp_covariance j
  unfolding hrp_covariance hrp_covariance_by gathered_covariance absent
  made_same f = go j.covariance_shape f
    where
      go : (t : Shape) → absent t ≡ true → gathered_covariance q ≡ hrp_covariance_by j t
      go (Some s) f = absurd (false≢true f)
      go None f = rw (cells_same j.returns_shape, rows_same j.returns_shape)

  last : List Line
  last = (other_size j.covariance_shape j.assets, DimensionMismatch) ∷ []

  last_is : first last ≡ or_else (other_size j.covariance_shape j.assets) DimensionMismatch (Ok tt)
  unfolding last
  last_is = simp (table, table_end)

  number_is : first (number_lines j) ≡ and_then (first last) (and_then (gather_outcome q) (first (hrp_risk_lines j.distance (hrp_covariance j) j.assets)))
  unfolding number_lines prices_alone gather_outcome
  number_is =
      let lows : Bool = absent j.covariance_shape && ltb (hrp_return_rows j j.returns_shape) 2 in
      let nones : Bool = (absent j.returns_shape && absent j.covariance_shape) && no_returns j.prices (rows_of_shape j.prices_shape) j.assets (step_of j.resample_by) in
      three_lines nones lows (other_size j.covariance_shape j.assets) (hrp_risk_lines j.distance (hrp_covariance j) j.assets)
      ∙ turned nones lows (other_size j.covariance_shape j.assets) _ (λ t. let g = given_only j j.covariance_shape j.assets t in (rw (g, and_no (absent j.returns_shape)), rw g))
      ∙ rw (last_is, rows_same j.returns_shape, e)

  -- ---- a call that was judged

  module _ (room : ParityRoom) (said : Outcome) (h : said ≡ first (hrp_judge_table j.assets j.prices_shape (length j.prices) j.returns_shape (length j.returns) j.covariance_shape (length j.covariance) room)) where
    shapes_are : shapes_judged j.assets j.prices_shape j.returns_shape j.covariance_shape ≡ hrp_shape_lines j ++ last
    unfolding shapes_judged hrp_shape_lines last
    shapes_are = refl

    -- the judge's lines, then those of the matrix that is made, then the risk
    outcome_is : hrp_outcome j room ≡ and_then said (and_then (gather_outcome q) (first (hrp_risk_lines j.distance (hrp_covariance j) j.assets)))
    unfolding hrp_outcome hrp_table hrp_judge_table
    outcome_is =
        let m = matrix_lines j.assets j.prices_shape (length j.prices) j.returns_shape (length j.returns) j.covariance_shape (length j.covariance) in
        let r = parity_room_lines j.assets room in
        let t = hrp_shape_lines j in
        let a : hrp_outcome j room ≡ and_then (first m) (and_then (first r) (and_then (first t) (first (number_lines j)))) =
        first_append m (r ++ (t ++ number_lines j)) ∙ ap (and_then (first m)) (first_append r (t ++ number_lines j) ∙ ap (and_then (first r)) (first_append t (number_lines j))) in
        let b : said ≡ and_then (first m) (and_then (first r) (and_then (first t) (first last))) =
        h ∙ first_append m _ ∙ ap (and_then (first m)) (first_append r _ ∙ ap (and_then (first r)) (ap first shapes_are ∙ first_append t last)) in
        a ∙ rw number_is (in_stages (first m) (first r) (first t) (first last) _) ∙ ap (λ (o : Outcome). and_then o (and_then (gather_outcome q) (first (hrp_risk_lines j.distance (hrp_covariance j) j.assets)))) (sym b)

    record Accepted : Type 0 where
      pub matrices : Matrices j.assets j.prices_shape (length j.prices) j.returns_shape (length j.returns) j.covariance_shape (length j.covariance)
      pub roomy : first (parity_room_lines j.assets room) ≡ Ok tt
      pub given : (absent j.prices_shape && (absent j.returns_shape && absent j.covariance_shape)) ≡ false
      pub some : eqb j.assets 0 ≡ false
      pub returns_wide : other_columns j.returns_shape j.assets ≡ false
      pub prices_wide : ((absent j.returns_shape && absent j.covariance_shape) && other_columns j.prices_shape j.assets) ≡ false
      pub square : other_size j.covariance_shape j.assets ≡ false

    accepted : said ≡ Ok tt → Accepted
    unfolding hrp_judge_table shapes_judged
    accepted d =
        let a = parts_done (matrix_lines j.assets j.prices_shape (length j.prices) j.returns_shape (length j.returns) j.covariance_shape (length j.covariance)) _ (sym h ∙ d) in
        let b = parts_done (parity_room_lines j.assets room) _ a.1 in
        let t = none (shapes_judged j.assets j.prices_shape j.returns_shape j.covariance_shape) b.1 in
        record {
          matrices = matrices_done j.assets j.prices_shape (length j.prices) j.returns_shape (length j.returns) j.covariance_shape (length j.covariance) a.0;
          roomy = b.0;
          given = t.0;
          some = t.1.0;
          returns_wide = t.1.1.0;
          prices_wide = t.1.1.1.0;
          square = t.1.1.1.1.0;
        }

    pub fitting : HrpFitting said q
    fitting = record {
      sized = λ d t.
          let a = accepted d in
          source_sized q j.prices_shape j.returns_shape j.covariance_shape refl a.matrices.prices a.matrices.returns t a.given a.returns_wide a.prices_wide;
    }

    -- ---- and whose covariance was made

    module _ (r : Outcome) (made : List Float) (g : HrpGathered said q r made) where
      pub few_assets : r ≡ Ok tt → j.assets ≤ 64
      few_assets d = (accepted (both_done said (gather_outcome q) (sym g.answer ∙ d)).0).matrices.few

      module _ (rows order : List ℕ) (weights correlations distances scratch : List Float) where
        pub ends_refused : (k : Refusal) → r ≡ Err k → ParityCleared room rows order weights correlations distances scratch → HrpAllocated j room r rows order weights correlations distances scratch
        ends_refused k d z =
            let o : hrp_outcome j room ≡ Err k = outcome_is ∙ stops said (gather_outcome q) _ k (sym g.answer ∙ d) in
            record { answer = d ∙ sym o; buffers = cleared _ k j.distance (hrp_covariance j) j.assets room rows order weights correlations distances scratch o z }

        ends : (r₁ : Outcome) (used : List Float) → r ≡ Ok tt → used ≡ hrp_covariance j
            → ParityAnswered j.distance used j.assets j.assets room r₁ rows order weights correlations distances scratch → HrpAllocated j room r₁ rows order weights correlations distances scratch
        ends r₁ used d v z =
            let a = accepted (both_done said (gather_outcome q) (sym g.answer ∙ d)).0 in
            let w : ParityAnswered j.distance (hrp_covariance j) j.assets j.assets room r₁ rows order weights correlations distances scratch = rw v at z in
            let l : length (hrp_covariance j) ≡ j.assets * j.assets = length_used j (λ t. given_cells j.assets j.covariance_shape (length j.covariance) a.matrices.covariance t a.square) in
            let o : hrp_outcome j room ≡ parity_outcome j.distance (hrp_covariance j) j.assets j.assets room =
            outcome_is ∙ goes_on said (gather_outcome q) _ (sym g.answer ∙ d) ∙ sym (held j.distance (hrp_covariance j) j.assets room a.matrices.few a.some a.roomy l) in
            record { answer = w.answer ∙ sym o; buffers = rw o w.buffers }

        pub ends_made : (b : Bool) → HrpGiven said j.covariance_shape b → b ≡ false → (r₁ : Outcome) → r ≡ Ok tt
            → ParityAnswered j.distance (take (j.assets * j.assets) made) j.assets j.assets room r₁ rows order weights correlations distances scratch → HrpAllocated j room r₁ rows order weights correlations distances scratch
        ends_made b u f r₁ d z =
            let t = u.none f (both_done said (gather_outcome q) (sym g.answer ∙ d)).0 in
            ends r₁ _ d (g.front d t ∙ made_same t) z

    pub ends_given : (b : Bool) → HrpGiven said j.covariance_shape b → b ≡ true → (r₁ : Outcome) (rows order : List ℕ) (weights correlations distances scratch : List Float)
        → ParityAnswered j.distance j.covariance j.assets j.assets room r₁ rows order weights correlations distances scratch → HrpAllocated j room r₁ rows order weights correlations distances scratch
    ends_given b u f r₁ rows order weights correlations distances scratch z =
        let d = u.done f in
        let t = u.given f in
        ends said [] (gathered_given said q d said d [] t) rows order weights correlations distances scratch r₁ j.covariance d (given_same t) z
