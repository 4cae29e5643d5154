-- The lines with cells, walked from where one begins to where the next does. Assumes nothing.
use Prim.Native.Nat.{ℕ, ◌+◌, ◌-◌, ◌*◌, ◌<◌, ◌≤◌}
use mathlib.Core.Path.{◌≡◌, refl, sym, ap, ◌∙◌}
use mathlib.Core.Bool.{Bool, true, false, and-false, and-true}
use mathlib.Core.List.{List, [], ◌++◌, append_assoc}
use native.Mathlib.Nat.{suc-mul, zero-add}
use native.Mathlib.Numerals.{add-one}
use native.Mathlib.Omega.{arith}
use lib.Dec.{eqb}
use lib.ListN.{length, get_or, take, drop, length-drop}
use lib.Seq.{get_or-take, drop-drop, length-take-le, take_at, drop_at}
use lib.Ieee.{Float}
use Rattle.lent.specs.Grid.{tab, grid, over}
use Rattle.lent.proofs.Laws.{length_grid, grid_more, tab_ext, rows_le, next_row}
use Rattle.lent.proofs.Fill.{rows_start}
use Rattle.fields.specs.Split.{split, end_of, all}
use Rattle.fields.proofs.Every.{all_end, all_yes, all_no}
use Rattle.reading.specs.Reading.{lines, line, rest, start_of}
use Rattle.reading.specs.Inner.{cell_at, is_line, cell_fields, LineRead, are_named, line_cell, LinesAsked, LinesRead}
use Rattle.reading.proofs.Starts.{piece_within, piece_cut, start_next, rest_none}
use Rattle.reading.proofs.Front.{Front, front_start, front_end}

-- the part of a buffer from a to b, put back as `row`
rows_put : (w : ℕ) (f : ℕ → ℕ → Float) (d d' l row : List Float) (i a b : ℕ) → d ≡ over (grid i w f) l → a ≡ i * w → b ≡ a + w → b ≤ length l
    → d' ≡ take a d ++ (row ++ drop (b - a) (drop a d)) → row ≡ tab w (f i) → d' ≡ over (grid (i + 1) w f) l
unfolding over
rows_put w f d d' l row i a b e p q h e' r =
    let g : length (grid i w f) ≡ a = length_grid i w f ∙ sym p in
    let g' : length (grid (i + 1) w f) ≡ b = length_grid (i + 1) w f ∙ rw add-one (suc-mul i w ∙ omega arith) in
    let m : b - a ≡ w = omega arith in
    let t : take a d ≡ grid i w f = rw e (take_at (grid i w f) (drop (length (grid i w f)) l) a g) in
    let u : drop a d ≡ drop a l = rw e (drop_at (grid i w f) (drop (length (grid i w f)) l) a g) ∙ ap (λ (k : ℕ). drop k l) g in
    let v : drop w (drop a l) ≡ drop b l = drop-drop w a l ∙ ap (λ (k : ℕ). drop k l) (sym q) in
    e' ∙ rw (t, u, m, r, g', grid_more, v) (sym (append_assoc (grid i w f) (tab w (f i)) (drop b l)))

-- the part of a buffer from a for w entries has w
pub part_length : (d : List Float) (a b w : ℕ) → b ≡ a + w → a + w ≤ length d → length (take (b - a) (drop a d)) ≡ w
part_length d a b w e h =
    let m : b - a ≡ w = omega arith in
    rw m (length-take-le w (drop a d) (omega (arith, length-drop a d)))

-- i of the lines with cells are read, and the next begins at `at`
pub record Lined (text : List ℕ) (before rows n w : ℕ) (cells₀ : List Float) (starts₀ : List ℕ) (i at : ℕ) (cells : List Float) (starts : List ℕ) : Type 0 where
  pub few : i ≤ rows
  pub begun : at ≡ start_of 10 text (i + before)
  pub cells_wide : length cells ≡ length cells₀
  pub starts_wide : length starts ≡ length starts₀
  pub told : all (is_line (are_named before) n) (drop (before) (lines text)) ≡ all (is_line (are_named before) n) (drop (i + before) (lines text))
  pub filled : cells ≡ over (grid i w (line_cell text before)) cells₀
  pub front : Front 0 (λ k. start_of 10 text (k + before)) i starts

module _ (text : List ℕ) (from before rows n w room places : ℕ) (asked : LinesAsked text from before rows n w room places) where
  pub lined_start : (cells : List Float) (starts : List ℕ) → Lined text before rows n w cells starts 0 from cells starts
  lined_start cells starts = record {
    few = omega arith;
    begun = asked.begun ∙ ap (start_of 10 text) (sym (zero-add (before)));
    cells_wide = refl;
    starts_wide = refl;
    told = ap (λ (k : ℕ). all (is_line (are_named before) n) (drop k (lines text))) (sym (zero-add (before)));
    filled = rows_start w (line_cell text before) cells;
    front = front_start 0 (λ k. start_of 10 text (k + before)) starts;
  }

  lines_are : length (lines text) ≡ before + rows
  lines_are = let p = asked.pieces in length-take-le (length (split 10 text) - 1) (split 10 text) (omega arith) ∙ omega arith

  module _ {cells₀ : List Float} {starts₀ : List ℕ} {i at : ℕ} {cells : List Float} {starts : List ℕ} (l : Lined text before rows n w cells₀ starts₀ i at cells starts) where
    -- row i is in the buffer
    pub row_in : i < rows → room ≡ length cells₀ → i * w + w ≤ length cells
    row_in more sized =
        let c = l.cells_wide in
        let r = asked.roomy in
        let f = rows_le rows w (i + 1) (omega arith) in
        let o = next_row i w in
        omega arith

    module _ (more : i < rows) (e : ℕ) (ends : e ≡ end_of 10 text at) where
      line_is : i + before < length (split 10 text)
      line_is = let p = asked.pieces in omega arith

      pub line_within : (at ≤ e) × (e ≤ length text)
      line_within = piece_within 10 text (i + before) line_is at e l.begun ends

      line_cut : take (e - at) (drop at text) ≡ line text (i + before)
      line_cut = piece_cut 10 text (i + before) line_is at e l.begun ends

      listed : get_or (lines text) (i + before) [] ≡ line text (i + before)
      listed = let p = asked.pieces in get_or-take (length (split 10 text) - 1) (split 10 text) (i + before) [] (omega arith)

      module _ (r : Bool) (row : List Float) (was : LineRead (are_named before) n (take (e - at) (drop at text)) r row) where
        line_told : (t : Bool) → r ≡ t → is_line (are_named before) n (get_or (lines text) (i + before) []) ≡ t
        line_told t q = ap (is_line (are_named before) n) (listed ∙ sym line_cut) ∙ sym was.told ∙ q

        in_lines : i + before < length (lines text)
        in_lines = omega (arith, lines_are)

        pub lined_bad : (cells' : List Float) (starts' : List ℕ) → r ≡ false → LinesRead text before rows n w false cells₀ starts₀ cells' starts'
        lined_bad cells' starts' q =
            let f = l.told ∙ all_no (is_line (are_named before) n) (lines text) (i + before) [] in_lines (line_told false q) in
            record {
              told = sym (rw f (and-false (eqb (length (rest text)) 0)));
              filled = λ z. absurd (let y : ◌≡◌ {A = ℕ} 0 1 = cc in omega arith);
              placed = λ z. absurd (let y : ◌≡◌ {A = ℕ} 0 1 = cc in omega arith);
            }

        -- the cells of row i
        row_is : length row ≡ w → r ≡ true → row ≡ tab w (line_cell text before i)
        unfolding line_cell
        row_is sized q =
            was.cells q
            ∙ ap (λ (k : ℕ). tab k (cell_at (cell_fields (are_named before) (take (e - at) (drop at text))))) sized
            ∙ ap (λ (t : List ℕ). tab w (cell_at (cell_fields (are_named before) t))) line_cut
            ∙ tab_ext w (cell_at (cell_fields (are_named before) (line text (i + before)))) (line_cell text before i) (λ j h. refl)

        pub lined_step : (cells' : List Float) (starts' : List ℕ) (a b : ℕ) → r ≡ true → room ≡ length cells₀ → length row ≡ w → a ≡ i * w → b ≡ a + w
            → length cells' ≡ length cells → cells' ≡ take a cells ++ (row ++ drop (b - a) (drop a cells))
            → length starts' ≡ length starts → Front 0 (λ k. start_of 10 text (k + before)) (i + 1) starts'
            → Lined text before rows n w cells₀ starts₀ (i + 1) (e + 1) cells' starts'
        lined_step cells' starts' a b q sized wide p p' same put same' front' =
            let c = l.cells_wide in
            let g : i + 1 + before ≡ i + before + 1 = omega arith in
            let o = row_in more sized in
            record {
              few = omega arith;
              begun = start_next 10 text (i + before) line_is at e l.begun ends ∙ ap (start_of 10 text) (sym g);
              cells_wide = same ∙ c;
              starts_wide = same' ∙ l.starts_wide;
              told = l.told
                  ∙ all_yes (is_line (are_named before) n) (lines text) (i + before) [] in_lines (line_told true q)
                  ∙ ap (λ (k : ℕ). all (is_line (are_named before) n) (drop k (lines text))) (sym g);
              filled = rows_put w (line_cell text before) cells cells' cells₀ row i a b l.filled p p' (omega arith) put (row_is wide q);
              front = front';
            }

    pub lined_end : places ≡ length starts₀ → rows ≤ i → LinesRead text before rows n w (eqb at (length text)) cells₀ starts₀ cells starts
    lined_end placed h =
        let f = l.few in
        let p = asked.pieces in
        let few = asked.few in
        let s = l.starts_wide in
        let q : i ≡ rows = omega arith in
        let k = length (split 10 text) - 1 in
        let m : i + before ≡ k = omega arith in
        let b : at ≡ start_of 10 text k = l.begun ∙ ap (start_of 10 text) m in
        let t = l.told ∙ all_end (is_line (are_named before) n) (lines text) (i + before) (omega (arith, lines_are)) in
        record {
          told = sym (rw (t, rest_none 10 text k (omega arith), b) (and-true (eqb (start_of 10 text k) (length text))));
          filled = λ z. l.filled ∙ ap (λ (j : ℕ). over (grid j w (line_cell text before)) cells₀) q;
          placed = λ z.
              front_end 0 (λ j. start_of 10 text (j + before)) i starts l.front (omega arith)
              ∙ ap (λ (j : ℕ). tab j (λ (v : ℕ). start_of 10 text (v + before))) s;
        }
