-- A walk over the fields of a line that looks at each, and what it fills. Assumes nothing.
use Prim.Native.Nat.{ℕ, ◌+◌, ◌-◌, ◌<◌, ◌≤◌}
use mathlib.Core.Path.{◌≡◌, refl, sym, ap, ◌∙◌}
use mathlib.Core.Bool.{Bool, true, false, and-false, and-true}
use mathlib.Core.List.{List, []}
use native.Mathlib.Omega.{arith}
use borrow.Author.Tests.{eqb-true}
use lib.Dec.{eqb}
use lib.ListN.{length, take, drop}
use lib.Ieee.{Float, nan}
use Rattle.fields.specs.Split.{split, piece, end_of, all}
use Rattle.fields.proofs.Every.{all_end, all_yes, all_no}
use Rattle.decimals.specs.Decimal.{is_cell, cell_of, cell_read}
use Rattle.decimals.proofs.Reading.{cell_no, cell_yes}
use Rattle.names.specs.Names.{is_name}
use Rattle.reading.specs.Reading.{is_row, is_names, start_of}
use Rattle.reading.specs.Inner.{cell_at, RowRead, NamesRead}
use Rattle.reading.proofs.Starts.{start_in, piece_within, piece_cut, start_next, there_is}
use Rattle.reading.proofs.Front.{Front, front_start, front_end}
use Rattle.std.specs.Prelude.{Some, None}
use Rattle.fields.specs.Outcomes.{Cell}

-- j fields of a line were looked at, each passed, and the next begins at `at`
pub record Walk (test : List ℕ → Bool) (line : List ℕ) (j at : ℕ) : Type 0 where
  pub few : j ≤ length (split 9 line)
  pub begun : at ≡ start_of 9 line j
  pub deep : j ≤ at
  pub told : all test (split 9 line) ≡ all test (drop j (split 9 line))

pub walk_start : (test : List ℕ → Bool) (line : List ℕ) → Walk test line 0 0
unfolding start_of
walk_start test line = record { few = omega arith; begun = refl; deep = omega arith; told = refl }

module _ {test : List ℕ → Bool} {line : List ℕ} {j at : ℕ} (w : Walk test line j at) where
  -- a field begins within the line
  module _ (within : at ≤ length line) where
    pub field_is : j < length (split 9 line)
    field_is = there_is 9 line j w.few (rw (sym w.begun) within)

    module _ (e : ℕ) (ends : e ≡ end_of 9 line at) where
      pub field_within : (at ≤ e) × (e ≤ length line)
      field_within = piece_within 9 line j field_is at e w.begun ends

      pub field_cut : take (e - at) (drop at line) ≡ piece 9 line j
      field_cut = piece_cut 9 line j field_is at e w.begun ends

      pub walk_bad : test (take (e - at) (drop at line)) ≡ false → all test (split 9 line) ≡ false
      walk_bad b = w.told ∙ all_no test (split 9 line) j [] field_is (ap test (sym field_cut) ∙ b)

      pub walk_step : test (take (e - at) (drop at line)) ≡ true → Walk test line (j + 1) (e + 1)
      walk_step g = record {
        few = omega (arith, field_is);
        begun = start_next 9 line j field_is at e w.begun ends;
        deep = omega (arith, w.deep, field_within);
        told = w.told ∙ all_yes test (split 9 line) j [] field_is (ap test (sym field_cut) ∙ g);
      }

  pub walk_end : length line < at → (j ≡ length (split 9 line)) × (all test (split 9 line) ≡ true)
  walk_end past =
      let f = w.few in
      let none : j < length (split 9 line) → ⊥ = λ h. let i = start_in 9 line j h in let b = w.begun in omega arith in
      let n : length (split 9 line) ≤ j = omega (arith, none) in
      (omega arith, w.told ∙ all_end test (split 9 line) j n)

-- ---- a row's cells, into a buffer as far as it reaches

pub record Rowing (line : List ℕ) (row₀ : List Float) (j at : ℕ) (row : List Float) : Type 0 where
  pub walk : Walk is_cell line j at
  pub sized : length row ≡ length row₀
  pub front : Front nan (cell_at (split 9 line)) j row

pub rowing_start : (line : List ℕ) (row : List Float) → Rowing line row 0 0 row
rowing_start line row = record { walk = walk_start is_cell line; sized = refl; front = front_start nan (cell_at (split 9 line)) row }

module _ {line : List ℕ} {row₀ : List Float} {j at : ℕ} {row : List Float} (w : Rowing line row₀ j at row) where
  module _ (within : at ≤ length line) (e : ℕ) (ends : e ≡ end_of 9 line at) (r : Cell) (is_read : r ≡ cell_read (take (e - at) (drop at line))) where
    pub row_bad : (n : ℕ) → r ≡ None → RowRead n line false row
    unfolding is_row
    row_bad n c = record {
      told = sym (rw (walk_bad w.walk within e ends (cell_no _ (sym is_read ∙ c))) (and-false (eqb (length (split 9 line)) n)));
      cells = λ z. absurd (let y : ◌≡◌ {A = ℕ} 0 1 = cc in omega arith);
    }

    module _ (v : Float) (c : r ≡ Some v) where
      -- the cell read is the field's
      pub cell_is : v ≡ cell_at (split 9 line) j
      unfolding cell_at
      cell_is = (cell_yes _ v (sym is_read ∙ c)).1 ∙ ap cell_of (field_cut w.walk within e ends)

      pub rowing_step : (row' : List Float) → length row' ≡ length row → Front nan (cell_at (split 9 line)) (j + 1) row' → Rowing line row₀ (j + 1) (e + 1) row'
      rowing_step row' same front' = record {
        walk = walk_step w.walk within e ends (cell_yes _ v (sym is_read ∙ c)).0;
        sized = same ∙ w.sized;
        front = front';
      }

  pub row_end : (n : ℕ) → length row₀ ≤ n → length line < at → RowRead n line (eqb j n) row
  unfolding is_row
  row_end n h past =
      let f = walk_end w.walk past in
      let s = w.sized in
      record {
        told = sym (rw (f.1, ← f.0) (and-true (eqb j n)));
        cells = λ z. let q = eqb-true j n z in front_end nan (cell_at (split 9 line)) j row w.front (omega arith);
      }

-- ---- names, and where they begin

pub record Naming (line : List ℕ) (from : ℕ) (starts₀ : List ℕ) (i at : ℕ) (starts : List ℕ) : Type 0 where
  pub walk : Walk is_name line i at
  pub sized : length starts ≡ length starts₀
  pub front : Front 0 (λ k. from + start_of 9 line k) i starts

pub naming_start : (line : List ℕ) (from : ℕ) (starts : List ℕ) → Naming line from starts 0 0 starts
naming_start line from starts = record { walk = walk_start is_name line; sized = refl; front = front_start 0 (λ k. from + start_of 9 line k) starts }

module _ {line : List ℕ} {from : ℕ} {starts₀ : List ℕ} {i at : ℕ} {starts : List ℕ} (w : Naming line from starts₀ i at starts) where
  module _ (within : at ≤ length line) (e : ℕ) (ends : e ≡ end_of 9 line at) (starts' : List ℕ) (same : length starts' ≡ length starts) where
    pub names_bad : is_name (take (e - at) (drop at line)) ≡ false → NamesRead line from false starts'
    unfolding is_names
    names_bad b = record {
      told = sym (walk_bad w.walk within e ends b);
      placed = λ z. absurd (let y : ◌≡◌ {A = ℕ} 0 1 = cc in omega arith);
    }

    pub naming_step : is_name (take (e - at) (drop at line)) ≡ true → Front 0 (λ k. from + start_of 9 line k) (i + 1) starts' → Naming line from starts₀ (i + 1) (e + 1) starts'
    naming_step g front' = record { walk = walk_step w.walk within e ends g; sized = same ∙ w.sized; front = front' }

  pub names_end : length starts₀ ≤ length (split 9 line) → length line < at → NamesRead line from true starts
  unfolding is_names
  names_end h past =
      let f = walk_end w.walk past in
      let s = w.sized in
      record {
        told = sym f.1;
        placed = λ z. front_end 0 (λ k. from + start_of 9 line k) i starts w.front (omega arith);
      }
