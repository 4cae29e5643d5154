-- The names and the cells after a first line: a covariance, or names and days. Assumes nothing.
use Prim.Native.Nat.{ℕ, ◌+◌, ◌-◌, ◌*◌, ◌<◌, ◌≤◌}
use mathlib.Core.Path.{◌≡◌, refl, sym, ap, ◌∙◌, subst}
use mathlib.Core.Bool.{Bool, true, false, cond, ◌&&◌, and-false}
use mathlib.Core.List.{List, [], ◌∷◌, ◌++◌}
use mathlib.Core.Logic.{⊎_elim}
use native.Mathlib.Nat.{mul-zero}
use native.Mathlib.Omega.{arith}
use borrow.Author.Tests.{le-leb, lt-leb, ne_eqb}
use lib.Dec.{eqb, leb}
use lib.ListN.{length, get_or, take, drop, length-drop}
use lib.Seq.{get_or-drop, length-take-le}
use lib.Ieee.{Float}
use Rattle.lent.specs.Count.{one}
use Rattle.lent.specs.Grid.{tab, grid, over}
use Rattle.lent.proofs.Laws.{either, length_tab, tab_ext, grid_ext}
use Rattle.fields.specs.Split.{split, end_of, all}
use Rattle.fields.proofs.Pieces.{pieces, pieces_le}
use Rattle.decimals.specs.Decimal.{cell_of}
use Rattle.heading.specs.Heading.{field, fields_in}
use Rattle.reading.specs.Reading.{lines, line, rest, priced, ceiled, head_in, rows_in, assets, is_day, is_names, text_cell, cells_in, start_of, name_start, starts_in, is_over}
use Rattle.reading.specs.Inner.{cell_at, is_named, is_line, cell_fields, are_named, line_cell, LinesAsked, LinesRead, NamesRead, has_rows, found_in, BlockAsked, DaysAsked, BlockRead}
use Rattle.reading.proofs.Starts.{piece_within, piece_cut, start_next}
use Rattle.reading.proofs.Table.{within, ends}
use Rattle.std.specs.Prelude.{Some, None}
use Rattle.reading.specs.Outcomes.{Found, extent}
use Rattle.std.specs.Bool.{then_some}

pub all_ext : (f g : List ℕ → Bool) → ((w : List ℕ) → f w ≡ g w) → (l : List (List ℕ)) → all f l ≡ all g l
unfolding all
all_ext f g h [] = refl
all_ext f g h (w ∷ l) = rw (h w, all_ext f g h l)

-- a test counted
pub one_le : (t : Bool) → one t ≤ 1
one_le true = omega arith
one_le false = omega arith

-- the front of a list
pub front_length : {A : Type 0} (w : ℕ) (l : List A) → w ≤ length l → w ≡ length (take w l)
front_length w l h = sym (length-take-le w l h)

-- fields counted by the tabs between them, of a line known by another name
pub fields_are : (k : ℕ) (l l' : List ℕ) → k ≡ length (split 9 l) - 1 → l ≡ l' → k + 1 ≡ length (split 9 l')
fields_are k l l' e q = let p = pieces 9 l in let f : length (split 9 l) ≡ length (split 9 l') = ap (λ (s : List ℕ). length (split 9 s)) q in omega arith

-- names that were found good
pub names_true : {l : List ℕ} {at : ℕ} {r : Bool} {starts : List ℕ} → NamesRead l at r starts → r ≡ true → NamesRead l at true starts
names_true {l} {at} {r} {starts} h e = subst (λ (b : Bool). NamesRead l at b starts) e h

-- what is lent to nobody is put back
pub put_none : (l m : List ℕ) → length l ≡ 0 → l ++ drop 0 m ≡ m
put_none [] m e = refl
put_none (a ∷ l) m e = absurd (omega arith)

-- a block by the test of its lines
block_is : {text : List ℕ} {o p : Found} {cells : List Float} {starts : List ℕ} {cells' : List Float} {starts' : List ℕ} → o ≡ p → BlockRead text p cells starts cells' starts' → BlockRead text o cells starts cells' starts'
block_is e b = record { told = e ∙ b.told; held = b.held }

-- ---- how much of a row is held

module _ (rows n w : ℕ) (is : w ≡ cond (is_over rows n) 0 n) where
  held_none : is_over rows n ≡ true → w ≡ 0
  held_none e = is ∙ rw e

  pub held_whole : is_over rows n ≡ false → w ≡ n
  held_whole e = is ∙ rw e

  pub held_narrow : w ≤ n
  held_narrow = ⊎_elim (λ e. omega (arith, held_none e)) (λ e. omega (arith, held_whole e)) (either (is_over rows n))

  pub held_few : w ≤ 64
  held_few = ⊎_elim (λ e. omega (arith, held_none e)) (λ e. omega (arith, held_whole e, (within rows n e).0)) (either (is_over rows n))

  pub held_room : rows * w ≤ 4096
  held_room =
      ⊎_elim
      (λ e. rw (held_none e, mul-zero rows) (omega arith))
      (λ e. rw (held_whole e) (within rows n e).1)
      (either (is_over rows n))

-- the front of a buffer, put back
pub front_put : (l p : List ℕ) (w : ℕ) (f : ℕ → ℕ) → p ≡ tab (length p) f → length p ≡ w → p ++ drop w l ≡ over (tab w f) l
unfolding over
front_put l p w f e h =
    let t : p ≡ tab w f = e ∙ ap (λ (k : ℕ). tab k f) h in
    rw (length_tab w f, ← t)

-- ---- which of the two is asked for

module _ {text : List ℕ} {from count : ℕ} {daily : Bool} {more room places : ℕ} (asked : BlockAsked text from count daily more room places) where
  pub prices_wanted : daily ≡ true → BlockAsked text from count true more room places
  prices_wanted e = subst (λ (b : Bool). BlockAsked text from count b more room places) e asked

  pub covariance_wanted : daily ≡ false → BlockAsked text from (count - 1 + 1) false more room places
  covariance_wanted e =
      let n : count ≡ count - 1 + 1 = omega (arith, asked.some) in
      subst (λ (k : ℕ). BlockAsked text from k false more room places) n (subst (λ (b : Bool). BlockAsked text from count b more room places) e asked)

-- ---- where the days begin

module _ {text : List ℕ} {at more : ℕ} (asked : DaysAsked text at more) where
  pub days_here : more ≡ 0 → at ≡ start_of 10 text (2 + more)
  days_here e = asked.begun ∙ ap (λ (k : ℕ). start_of 10 text (2 + k)) (sym e)

  module _ (e : ℕ) (ends_at : e ≡ end_of 10 text at) where
    pub days_short : e ≤ 65536
    days_short = omega (arith, (piece_within 10 text 2 asked.there at e asked.begun ends_at).1, asked.short)

    pub days_after : (more ≡ 0 → ⊥) → e + 1 ≡ start_of 10 text (2 + more)
    days_after q =
        let one_more : more ≡ 1 = omega (arith, asked.few) in
        start_next 10 text 2 asked.there at e asked.begun ends_at ∙ ap (λ (k : ℕ). start_of 10 text (2 + k)) (sym one_more)

module _ (text : List ℕ) where
  -- by what the first line says
  pub assets_by : (t : Bool) → priced text ≡ t → assets text ≡ cond t (fields_in (line text 1)) (rows_in text)
  unfolding assets
  assets_by t e = ap (λ (b : Bool). cond b (fields_in (line text 1)) (rows_in text)) e

  pub head_by : (t : Bool) → priced text ≡ t → head_in text ≡ cond t (2 + one (ceiled text)) 1
  unfolding head_in
  head_by t e = ap (λ (b : Bool). cond b (2 + one (ceiled text)) 1) e

  pub rows_by : (k : ℕ) → head_in text ≡ k → rows_in text ≡ length (lines text) - k
  unfolding rows_in
  rows_by k e = ap (λ (m : ℕ). length (lines text) - m) e

  cell_by : (t : Bool) (k i j : ℕ) → priced text ≡ t → head_in text ≡ k → text_cell text i j ≡ cond t (cell_of (field (line text (i + k)) j)) (cell_of (field (line text (i + 1)) (j + 1)))
  unfolding text_cell
  cell_by t k i j e q =
      ap (λ (b : Bool). cond b (cell_of (field (line text (i + head_in text)) j)) (cell_of (field (line text (i + 1)) (j + 1)))) e
      ∙ ap (λ (m : ℕ). cond t (cell_of (field (line text (i + m)) j)) (cell_of (field (line text (i + 1)) (j + 1)))) q

  cells_by : (rows n : ℕ) → rows_in text ≡ rows → assets text ≡ n → cells_in text ≡ grid rows n (text_cell text)
  unfolding cells_in
  cells_by rows n p q = ap (λ (k : ℕ). grid k (assets text) (text_cell text)) p ∙ ap (λ (k : ℕ). grid rows k (text_cell text)) q

  starts_by : (n : ℕ) → assets text ≡ n → starts_in text ≡ tab n (name_start text)
  unfolding starts_in
  starts_by n q = ap (λ (k : ℕ). tab k (name_start text)) q

  start_by : (t : Bool) (i : ℕ) → priced text ≡ t → name_start text i ≡ cond t (start_of 10 text 1 + start_of 9 (line text 1) i) (start_of 10 text (i + 1))
  unfolding name_start
  start_by t i e = ap (λ (b : Bool). cond b (start_of 10 text 1 + start_of 9 (line text 1) i) (start_of 10 text (i + 1))) e

  pub plain_has : (n more : ℕ) → priced text ≡ false → assets text ≡ n → one (ceiled text) ≡ more
      → has_rows text ≡ (eqb (length (rest text)) 0 && all (is_named (n + more)) (drop 1 (lines text)))
  unfolding has_rows
  plain_has n more e q m =
      let ws = lines text in
      let none = eqb (length (rest text)) 0 in
      ap (λ (b : Bool). none && cond b (leb (head_in text) (length ws) && (is_names (line text 1) && all (is_day (assets text)) (drop (head_in text) ws))) (all (is_named (assets text + one (ceiled text))) (drop 1 ws))) e
      ∙ ap (λ (k : ℕ). none && all (is_named (k + one (ceiled text))) (drop 1 ws)) q
      ∙ ap (λ (k : ℕ). none && all (is_named (n + k)) (drop 1 ws)) m

  pub priced_has : (n k : ℕ) → priced text ≡ true → assets text ≡ n → head_in text ≡ k
      → has_rows text ≡ (eqb (length (rest text)) 0 && (leb k (length (lines text)) && (is_names (line text 1) && all (is_day n) (drop k (lines text)))))
  unfolding has_rows
  priced_has n k e q m =
      let ws = lines text in
      let none = eqb (length (rest text)) 0 in
      ap (λ (b : Bool). none && cond b (leb (head_in text) (length ws) && (is_names (line text 1) && all (is_day (assets text)) (drop (head_in text) ws))) (all (is_named (assets text + one (ceiled text))) (drop 1 ws))) e
      ∙ ap (λ (j : ℕ). none && (leb (head_in text) (length ws) && (is_names (line text 1) && all (is_day j) (drop (head_in text) ws)))) q
      ∙ ap (λ (j : ℕ). none && (leb j (length ws) && (is_names (line text 1) && all (is_day n) (drop j ws)))) m

  block_told : (n rows : ℕ) → has_rows text ≡ true → assets text ≡ n → rows_in text ≡ rows → Some (extent n rows) ≡ found_in text
  unfolding found_in
  block_told n rows g p q =
      sym
      (ap (λ (b : Bool). cond b (Some (extent (assets text) (rows_in text))) None) g
      ∙ ap (λ (k : ℕ). Some (extent k (rows_in text))) p
      ∙ ap (λ (k : ℕ). Some (extent n k)) q)

  block_none : has_rows text ≡ false → (cells : List Float) (starts : List ℕ) (cells' : List Float) (starts' : List ℕ) → BlockRead text None cells starts cells' starts'
  unfolding found_in
  block_none e cells starts cells' starts' = record {
    told = rw e;
    held = λ y. absurd (let z : ◌≡◌ {A = Bool} true false = sym y ∙ e in let x : ◌≡◌ {A = ℕ} 0 1 = cc in omega arith);
  }

  -- ---- a covariance: a first line, a line for each of n assets, and nothing after them

  module _ (n more from room places : ℕ) (asked : BlockAsked text from (n + 1) false more room places) where
    covariance_rows : rows_in text ≡ n
    covariance_rows = rows_by 1 (head_by false asked.kind) ∙ omega (arith, ends text, asked.cut)

    covariance_assets : assets text ≡ n
    covariance_assets = assets_by false asked.kind ∙ covariance_rows

    covariance_is : has_rows text ≡ (eqb (length (rest text)) 0 && all (is_line true (n + more)) (drop 1 (lines text)))
    unfolding is_line
    covariance_is =
        plain_has n more asked.kind covariance_assets (sym asked.limits)
        ∙ ap (λ (b : Bool). eqb (length (rest text)) 0 && b) (all_ext (is_named (n + more)) (is_line true (n + more)) (λ l. refl) (drop 1 (lines text)))

    covariance_cells : grid n n (line_cell text 1) ≡ cells_in text
    unfolding line_cell cell_fields cell_at
    covariance_cells =
        grid_ext n n (line_cell text 1) (text_cell text)
        (λ i j h k.
        let l = split 9 (line text (i + 1)) in
        let a : 1 + j ≡ j + 1 = omega arith in
        ap cell_of (get_or-drop 1 l j [] ∙ ap (λ (m : ℕ). get_or l m []) a) ∙ sym (cell_by false (head_in text) i j asked.kind refl))
        ∙ sym (cells_by n n covariance_rows covariance_assets)

    covariance_starts : tab n (λ (i : ℕ). start_of 10 text (i + 1)) ≡ starts_in text
    covariance_starts =
        tab_ext n (λ (i : ℕ). start_of 10 text (i + 1)) (name_start text) (λ i h. sym (start_by false i asked.kind)) ∙ sym (starts_by n covariance_assets)

    pub covariance_short : n + more ≤ 65536
    covariance_short = omega (arith, asked.short, asked.cut, asked.limits, one_le (ceiled text), pieces_le 10 text)

    module _ (w : ℕ) (is : w ≡ cond (is_over n n) 0 n) where
      pub covariance_asked : (held : ℕ) → held ≡ w → LinesAsked text from 1 n (n + more) w room held
      covariance_asked held sized = record {
        short = asked.short;
        pieces = omega (arith, asked.cut);
        begun = asked.begun;
        narrow = omega (arith, held_narrow n n w is);
        roomy = omega (arith, held_room n n w is, asked.roomy);
        few = omega (arith, held_narrow n n w is);
      }

      module _ (r : Bool) (cells : List Float) (part starts : List ℕ) (cells' : List Float) (part' : List ℕ) (sized : length part ≡ w) (was : LinesRead text 1 n (n + more) w r cells part cells' part') where
        covariance_bad : r ≡ false → (starts' : List ℕ) → BlockRead text None cells starts cells' starts'
        covariance_bad e starts' = block_none (covariance_is ∙ sym was.told ∙ e) cells starts cells' starts'

        covariance_good : r ≡ true → BlockRead text (Some (extent n n)) cells starts cells' (part' ++ drop w starts)
        covariance_good e =
            let g : has_rows text ≡ true = covariance_is ∙ sym was.told ∙ e in
            let p : part' ≡ tab w (λ (i : ℕ). start_of 10 text (i + 1)) = was.placed e ∙ ap (λ (k : ℕ). tab k (λ (i : ℕ). start_of 10 text (i + 1))) sized in
            let q : length part' ≡ w = ap length p ∙ length_tab w (λ (i : ℕ). start_of 10 text (i + 1)) in
            record {
              told = block_told n n g covariance_assets covariance_rows;
              held = λ y o.
                  let m : w ≡ n = held_whole n n w is (ap (λ (k : ℕ). is_over k n) (sym covariance_rows) ∙ ap (is_over (rows_in text)) (sym covariance_assets) ∙ o) in
                  record {
                    filled = was.filled e ∙ ap (λ (k : ℕ). over (grid n k (line_cell text 1)) cells) m ∙ ap (λ (x : List Float). over x cells) covariance_cells;
                    placed = front_put starts part' w (λ (i : ℕ). start_of 10 text (i + 1)) (p ∙ ap (λ (k : ℕ). tab k (λ (i : ℕ). start_of 10 text (i + 1))) (sym q)) q
                        ∙ ap (λ (k : ℕ). over (tab k (λ (i : ℕ). start_of 10 text (i + 1))) starts) m
                        ∙ ap (λ (x : List ℕ). over x starts) covariance_starts;
                  };
            }

        pub covariance_told : (o : Found) → o ≡ then_some r (extent n n) → BlockRead text o cells starts cells' (part' ++ drop w starts)
        covariance_told o e =
            ⊎_elim
            (λ y. block_is (e ∙ ap (λ (t : Bool). then_some t (extent n n)) y) (covariance_good y))
            (λ f. block_is (e ∙ ap (λ (t : Bool). then_some t (extent n n)) f) (covariance_bad f (part' ++ drop w starts)))
            (either r)

  -- ---- prices: a first line, a line of names, one of ceilings where there are any, a line for each day, and nothing after them

  module _ (more count from room places : ℕ) (asked : BlockAsked text from count true more room places) where
    prices_head : head_in text ≡ 2 + more
    prices_head = head_by true asked.kind ∙ ap (λ (k : ℕ). 2 + k) (sym asked.limits)

    pub prices_more : more ≤ 1
    prices_more = omega (arith, asked.limits, one_le (ceiled text))

    prices_short : count < 2 + more → has_rows text ≡ false
    prices_short h =
        priced_has (assets text) (2 + more) asked.kind refl prices_head
        ∙ rw (lt-leb (2 + more) (length (lines text)) (omega (arith, ends text, asked.cut))) (and-false (eqb (length (rest text)) 0))

    pub prices_none : count < 2 + more → (cells : List Float) (starts : List ℕ) → BlockRead text None cells starts cells starts
    prices_none h cells starts = block_none (prices_short h) cells starts cells starts

    -- a day's line has no name
    unnamed : are_named (2 + more) ≡ false
    unnamed = ne_eqb (2 + more) 1 (λ q. omega arith)

    module _ (some : 2 + more ≤ count) (n : ℕ) (counted : n ≡ length (split 9 (line text 1))) where
      prices_rows : rows_in text ≡ count - (2 + more)
      prices_rows = rows_by (2 + more) prices_head ∙ ap (λ (k : ℕ). k - (2 + more)) (omega (arith, ends text, asked.cut))

      prices_assets : assets text ≡ n
      prices_assets = assets_by true asked.kind ∙ sym counted

      names_then : has_rows text ≡ (eqb (length (rest text)) 0 && (is_names (line text 1) && all (is_line (are_named (2 + more)) n) (drop (2 + more) (lines text))))
      unfolding is_line
      names_then =
          let f : all (is_day n) (drop (2 + more) (lines text)) ≡ all (is_line (are_named (2 + more)) n) (drop (2 + more) (lines text)) =
          all_ext (is_day n) (is_line (are_named (2 + more)) n) (λ l. rw unnamed) (drop (2 + more) (lines text)) in
          priced_has n (2 + more) asked.kind prices_assets prices_head
          ∙ ap (λ (b : Bool). eqb (length (rest text)) 0 && (b && (is_names (line text 1) && all (is_day n) (drop (2 + more) (lines text))))) (le-leb (2 + more) (length (lines text)) (omega (arith, ends text, asked.cut)))
          ∙ ap (λ (b : Bool). eqb (length (rest text)) 0 && (is_names (line text 1) && b)) f

      pub names_wrong : is_names (line text 1) ≡ false → (cells : List Float) (starts : List ℕ) (cells' : List Float) (starts' : List ℕ)
          → BlockRead text None cells starts cells' starts'
      names_wrong e = block_none (names_then ∙ rw e (and-false (eqb (length (rest text)) 0)))

      prices_cells : grid (count - (2 + more)) n (line_cell text (2 + more)) ≡ cells_in text
      unfolding line_cell cell_fields cell_at
      prices_cells =
          grid_ext (count - (2 + more)) n (line_cell text (2 + more)) (text_cell text)
          (λ i j h k.
          ap (λ (b : Bool). cell_of (get_or (drop (cond b 1 0) (split 9 (line text (i + (2 + more))))) j [])) unnamed
          ∙ sym (cell_by true (2 + more) i j asked.kind prices_head))
          ∙ sym (cells_by (count - (2 + more)) n prices_rows prices_assets)

      name_starts : ℕ → ℕ
      name_starts i = from + start_of 9 (line text 1) i

      prices_starts : tab n name_starts ≡ starts_in text
      unfolding name_starts
      prices_starts =
          tab_ext n name_starts (name_start text) (λ i h. ap (λ (k : ℕ). k + start_of 9 (line text 1) i) asked.begun ∙ sym (start_by true i asked.kind))
          ∙ sym (starts_by n prices_assets)

      -- the line of names
      module _ (e : ℕ) (ends_at : e ≡ end_of 10 text from) where
        names_are : 1 < length (split 10 text)
        names_are = omega (arith, asked.cut)

        pub names_within : (from ≤ e) × (e ≤ length text)
        names_within = piece_within 10 text 1 names_are from e asked.begun ends_at

        pub names_room : from + length (take (e - from) (drop from text)) ≤ length text
        names_room =
            let h = names_within in
            let d = length-drop from text in
            omega (arith, length-take-le (e - from) (drop from text) (omega arith))

        pub names_cut : take (e - from) (drop from text) ≡ line text 1
        names_cut = piece_cut 10 text 1 names_are from e asked.begun ends_at

        pub days_asked : DaysAsked text (e + 1) more
        days_asked = record {
          short = asked.short;
          there = omega (arith, asked.cut);
          begun = start_next 10 text 1 names_are from e asked.begun ends_at;
          few = prices_more;
        }

        module _ (w : ℕ) (is : w ≡ cond (is_over (count - (2 + more)) n) 0 n) where
          pub prices_asked : (at held : ℕ) → at ≡ start_of 10 text (2 + more) → held ≡ 0 → LinesAsked text at (2 + more) (count - (2 + more)) n w room held
          prices_asked at held begun sized = record {
            short = asked.short;
            pieces = omega (arith, asked.cut);
            begun = begun;
            narrow = held_narrow (count - (2 + more)) n w is;
            roomy = omega (arith, held_room (count - (2 + more)) n w is, asked.roomy);
            few = omega arith;
          }

          -- the names were read into the front of the lent numbers
          module _ (l : List ℕ) (part starts : List ℕ) (is-line : l ≡ line text 1) (named : NamesRead l from true part) (sized : length part ≡ w)
              (r : Bool) (cells : List Float) (none : List ℕ) (cells' : List Float) (none' : List ℕ) (was : LinesRead text (2 + more) (count - (2 + more)) n w r cells none cells' none') where
            names_right : is_names (line text 1) ≡ true
            names_right = ap is_names (sym is-line) ∙ sym named.told

            days_then : has_rows text ≡ r
            days_then = names_then ∙ rw names_right (sym was.told)

            prices_bad : r ≡ false → (starts' : List ℕ) → BlockRead text None cells starts cells' starts'
            prices_bad e starts' = block_none (days_then ∙ e) cells starts cells' starts'

            prices_good : r ≡ true → (starts' : List ℕ) → starts' ≡ part ++ drop w starts → BlockRead text (Some (extent n (count - (2 + more)))) cells starts cells' starts'
            unfolding name_starts
            prices_good e starts' put =
                let g : has_rows text ≡ true = days_then ∙ e in
                let p : part ≡ tab (length part) name_starts = named.placed refl ∙ ap (λ (s : List ℕ). tab (length part) (λ (i : ℕ). from + start_of 9 s i)) is-line in
                record {
                  told = block_told n (count - (2 + more)) g prices_assets prices_rows;
                  held = λ y o.
                      let m : w ≡ n = held_whole (count - (2 + more)) n w is (ap (λ (k : ℕ). is_over k n) (sym prices_rows) ∙ ap (is_over (rows_in text)) (sym prices_assets) ∙ o) in
                      record {
                        filled = was.filled e ∙ ap (λ (k : ℕ). over (grid (count - (2 + more)) k (line_cell text (2 + more))) cells) m ∙ ap (λ (x : List Float). over x cells) prices_cells;
                        placed = put
                            ∙ front_put starts part w name_starts p sized
                            ∙ ap (λ (k : ℕ). over (tab k name_starts) starts) m
                            ∙ ap (λ (x : List ℕ). over x starts) prices_starts;
                      };
                }

            pub prices_told : (o : Found) → o ≡ then_some r (extent n (count - (2 + more))) → (starts' : List ℕ) → starts' ≡ part ++ drop w starts → BlockRead text o cells starts cells' starts'
            prices_told o e starts' put =
                ⊎_elim
                (λ y. block_is (e ∙ ap (λ (t : Bool). then_some t (extent n (count - (2 + more)))) y) (prices_good y starts' put))
                (λ f. block_is (e ∙ ap (λ (t : Bool). then_some t (extent n (count - (2 + more)))) f) (prices_bad f starts'))
                (either r)
