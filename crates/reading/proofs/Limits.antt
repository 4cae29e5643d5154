-- A text's ceilings: on the line after the names, or each at the end of an asset's line. Assumes nothing.
use Prim.Native.Nat.{ℕ, suc, ◌+◌, ◌-◌, ◌≤◌}
use mathlib.Core.Path.{◌≡◌, refl, sym, ap, ◌∙◌}
use mathlib.Core.Bool.{Bool, true, false, cond, not, ◌&&◌, ◌||◌, and-false, and-true}
use mathlib.Core.List.{List, [], ◌∷◌}
use mathlib.Core.Logic.{⊎_elim}
use native.Mathlib.Nat.{add-zero}
use native.Mathlib.Omega.{arith}
use borrow.Author.Tests.{le-leb, leb-true, ne_eqb}
use lib.Dec.{eqb, leb}
use lib.ListN.{length, get_or, take, drop, length-drop}
use lib.Seq.{length-take-le, take_all}
use Rattle.lent.specs.Count.{one}
use Rattle.lent.proofs.Laws.{either}
use Rattle.lent.proofs.Sizes.{same_equal}
use Rattle.fields.specs.Split.{onto, split, all}
use Rattle.fields.specs.Numerals.{digit, in_base, is_numeral}
use Rattle.fields.proofs.Every.{both_left, both_right, three_yes}
use Rattle.decimals.specs.Decimal.{signed, bare, shaped, is_bare, is_decimal, is_cell}
use Rattle.names.specs.Names.{is_name}
use Rattle.decimals.proofs.Forms.{decimal_cell}
use Rattle.ceilings.specs.Written.{is_ceiling}
use Rattle.ceilings.proofs.Written.{ceiling_is}
use Rattle.heading.specs.Heading.{field, fields_in, last_field}
use Rattle.reading.specs.Reading.{lines, line, rest, priced, ceiled, head_in, rows_in, assets, is_row, row_fields, is_asset, is_day, is_names, is_ceilings, is_covariance, is_prices, is_block}
use Rattle.reading.specs.Inner.{is_named, has_rows, has_ceilings}
use Rattle.reading.proofs.Blocks.{all_ext, plain_has, priced_has}

-- ---- a ceiling has the form of a cell: digits have no minus and no point

other : (d b : ℕ) → in_base 10 d ≡ false → in_base 10 b ≡ true → eqb b d ≡ false
other d b n y = ne_eqb b d (λ e. absurd (let z : ◌≡◌ {A = Bool} true false = sym y ∙ ap (in_base 10) e ∙ n in let q : ◌≡◌ {A = ℕ} 0 1 = cc in omega arith))

uncut : (d : ℕ) (w : List ℕ) → in_base 10 d ≡ false → all (in_base 10) w ≡ true → split d w ≡ w ∷ []
unfolding split all onto
uncut d [] n y = refl
uncut d (b ∷ w) n y = rw (other d b n (both_left (in_base 10 b) (all (in_base 10) w) y), uncut d w n (both_right (in_base 10 b) (all (in_base 10) w) y))

unsigned : (w : List ℕ) → all (in_base 10) w ≡ true → signed w ≡ false
unfolding signed all digit
unsigned [] y = refl
unsigned (b ∷ w) y = other 0x2d b refl (both_left (in_base 10 b) (all (in_base 10) w) y)

digits_bare : (w : List ℕ) → 1 ≤ length w → length w ≤ 15 → all (in_base 10) w ≡ true → is_bare w ≡ true
unfolding is_bare shaped all digit
digits_bare w a b y = rw (uncut 0x2e w refl y, le-leb 1 (length w) a, le-leb (length w + 0) 15 (omega arith), y)

pub ceiling_cell : (w : List ℕ) → is_ceiling w ≡ true → is_cell w ≡ true
unfolding is_numeral is_decimal bare
ceiling_cell w e =
    let n = ceiling_is w e in
    let y = three_yes (leb 1 (length w)) (leb (length w) 9) (all (in_base 10) w) n.0 in
    let b : bare w ≡ w = ap (λ (t : Bool). cond t (drop 1 w) w) (unsigned w y.2) in
    (decimal_cell w (ap is_bare b ∙ digits_bare w (leb-true 1 (length w) y.0) (omega (arith, n.1)) y.2)).0

-- ---- an asset's line with a ceiling: one more cell, the last of which is one

eqb_more : (m n : ℕ) → eqb m n ≡ eqb (suc m) (n + 1)
eqb_more m n = same_equal m n (suc m) (n + 1) (λ e. omega arith) (λ e. omega arith)

all_but_last : (f : List ℕ → Bool) (w : List ℕ) (l : List (List ℕ)) → f (get_or (w ∷ l) (length l) []) ≡ true → all f (take (length l) (w ∷ l)) ≡ all f (w ∷ l)
unfolding all
all_but_last f w [] e = sym (rw e)
all_but_last f w (v ∷ l) e = ap (λ (t : Bool). f w && t) (all_but_last f v l e)

row_last : (n : ℕ) (w : List ℕ) (l : List (List ℕ)) → is_ceiling (get_or (w ∷ l) (length l) []) ≡ true → is_row n (take (length l) (w ∷ l)) ≡ is_row (n + 1) (w ∷ l)
unfolding is_row
row_last n w l e =
    let t : length (take (length l) (w ∷ l)) ≡ length l = length-take-le (length l) (w ∷ l) (omega arith) in
    ap (λ (k : ℕ). eqb k n && all is_cell (take (length l) (w ∷ l))) t
    ∙ ap (λ (b : Bool). b && all is_cell (take (length l) (w ∷ l))) (eqb_more (length l) n)
    ∙ ap (λ (b : Bool). eqb (suc (length l)) (n + 1) && b) (all_but_last is_cell w l (ceiling_cell (get_or (w ∷ l) (length l) []) e))

no_row : (k : ℕ) → 1 ≤ k → is_row k [] ≡ false
unfolding is_row
no_row k h = rw (ne_eqb 0 k (λ e. omega arith))

-- tests of which the third makes the second the same
swapped : (a x y c : Bool) → (c ≡ true → x ≡ y) → (a && (x && c)) ≡ ((a && y) && c)
swapped true x y true h = ap (λ (t : Bool). t && true) (h refl)
swapped true x y false h = and-false x ∙ sym (and-false y)
swapped false x y c h = refl

fields_last : (n : ℕ) (ws : List (List ℕ)) → 1 ≤ n → is_ceiling (get_or ws (length ws - 1) []) ≡ true → is_row n (take (length ws - 2) (drop 1 ws)) ≡ is_row (n + 1) (drop 1 ws)
fields_last n [] p e = no_row n p ∙ sym (no_row (n + 1) (omega arith))
fields_last n (w ∷ []) p e = no_row n p ∙ sym (no_row (n + 1) (omega arith))
fields_last n (w ∷ v ∷ l) p e =
    let a : suc (suc (length l)) - 2 ≡ length l = omega arith in
    let b : suc (suc (length l)) - 1 ≡ suc (length l) = omega arith in
    ap (λ (k : ℕ). is_row n (take k (v ∷ l))) a ∙ row_last n v l (ap (λ (k : ℕ). is_ceiling (get_or (w ∷ v ∷ l) k [])) (sym b) ∙ e)

asset_limited : (n : ℕ) (l : List ℕ) → 1 ≤ n → is_asset true n l ≡ (is_named (n + 1) l && is_ceiling (last_field l))
unfolding is_asset is_named row_fields
asset_limited n l p = swapped (is_name (field l 0)) (is_row n (take (fields_in l - 2) (drop 1 (split 9 l)))) (is_row (n + 1) (drop 1 (split 9 l))) (is_ceiling (last_field l)) (fields_last n (split 9 l) p)

asset_plain : (n : ℕ) (l : List ℕ) → is_asset false n l ≡ is_named (n + 0) l
unfolding is_asset is_named row_fields
asset_plain n l =
    let t : take (fields_in l - 1) (drop 1 (split 9 l)) ≡ drop 1 (split 9 l) = take_all (fields_in l - 1) (drop 1 (split 9 l)) (omega (arith, length-drop 1 (split 9 l))) in
    ap (λ (b : Bool). is_name (field l 0) && b) (and-true (is_row n (take (fields_in l - 1) (drop 1 (split 9 l)))) ∙ ap (is_row n) t ∙ ap (λ (k : ℕ). is_row k (drop 1 (split 9 l))) (sym (add-zero n)))

abbrev pub ended : List ℕ → Bool
ended l = is_ceiling (last_field l)

-- two tests of each line, or one after the other of all
paired : (a b x y : Bool) → ((a && b) && (x && y)) ≡ ((a && x) && (b && y))
paired true true x y = refl
paired true false true y = refl
paired true false false y = refl
paired false b x y = refl

assets_limited : (n : ℕ) → 1 ≤ n → (ls : List (List ℕ)) → all (is_asset true n) ls ≡ (all (is_named (n + 1)) ls && all ended ls)
unfolding all
assets_limited n p [] = refl
assets_limited n p (l ∷ ls) =
    ap (λ (t : Bool). t && all (is_asset true n) ls) (asset_limited n l p)
    ∙ ap (λ (t : Bool). (is_named (n + 1) l && ended l) && t) (assets_limited n p ls)
    ∙ paired (is_named (n + 1) l) (ended l) (all (is_named (n + 1)) ls) (all ended ls)

-- as many lines as assets, or fewer
assets_lined : (c : Bool) (n : ℕ) (ls : List (List ℕ)) → length ls ≤ n → all (is_asset c n) ls ≡ (all (is_named (n + one c)) ls && (not c || all ended ls))
unfolding all
assets_lined true n [] h = refl
assets_lined true n (l ∷ ls) h = assets_limited n (omega arith) (l ∷ ls)
assets_lined false n ls h = all_ext (is_asset false n) (is_named (n + 0)) (asset_plain n) ls ∙ sym (and-true (all (is_named (n + 0)) ls))

-- ---- a block: its names and cells, and its ceilings

module _ (text : List ℕ) where
  block_by : (t : Bool) → priced text ≡ t → is_block text ≡ (eqb (length (rest text)) 0 && cond t (is_prices text) (is_covariance text))
  unfolding is_block
  block_by t e = ap (λ (b : Bool). eqb (length (rest text)) 0 && cond b (is_prices text) (is_covariance text)) e

  covariance_are : is_covariance text ≡ all (is_asset (ceiled text) (assets text)) (drop 1 (lines text))
  unfolding is_covariance
  covariance_are = refl

  prices_are : is_prices text
      ≡ (leb (head_in text) (length (lines text)) && (is_names (line text 1) && ((not (ceiled text) || is_ceilings (assets text) (line text 2)) && all (is_day (assets text)) (drop (head_in text) (lines text)))))
  unfolding is_prices
  prices_are = refl

  pub ceilings_by : (t : Bool) → priced text ≡ t → has_ceilings text ≡ cond t (is_ceilings (assets text) (line text 2)) (all ended (drop 1 (lines text)))
  unfolding has_ceilings
  ceilings_by t e = ap (λ (b : Bool). cond b (is_ceilings (assets text) (line text 2)) (all ended (drop 1 (lines text)))) e

  plain_lines : priced text ≡ false → length (drop 1 (lines text)) ≤ assets text
  unfolding assets rows_in head_in
  plain_lines e = rw e (omega (arith, length-drop 1 (lines text)))

  parted : (e a n k d : Bool) → (e && (a && (n && (k && d)))) ≡ ((e && (a && (n && d))) && k)
  parted true true true true d = sym (and-true d)
  parted true true true false d = sym (and-false d)
  parted true true false k d = refl
  parted true false n k d = refl
  parted false a n k d = refl

  grouped : (e a b : Bool) → (e && (a && b)) ≡ ((e && a) && b)
  grouped true a b = refl
  grouped false a b = refl

  pub block_parts : is_block text ≡ (has_rows text && (not (ceiled text) || has_ceilings text))
  block_parts = ⊎_elim of_prices of_assets (either (priced text))
    where
      none : Bool
      none = eqb (length (rest text)) 0

      of_prices : priced text ≡ true → is_block text ≡ (has_rows text && (not (ceiled text) || has_ceilings text))
      of_prices e =
          let days = all (is_day (assets text)) (drop (head_in text) (lines text)) in
          let names = is_names (line text 1) in
          let headed = leb (head_in text) (length (lines text)) in
          let limits = not (ceiled text) || is_ceilings (assets text) (line text 2) in
          block_by true e
          ∙ ap (λ (b : Bool). none && b) prices_are
          ∙ parted none headed names limits days
          ∙ ap (λ (b : Bool). b && limits) (sym (priced_has text (assets text) (head_in text) e refl refl))
          ∙ ap (λ (b : Bool). has_rows text && (not (ceiled text) || b)) (sym (ceilings_by true e))

      of_assets : priced text ≡ false → is_block text ≡ (has_rows text && (not (ceiled text) || has_ceilings text))
      of_assets e =
          let named = all (is_named (assets text + one (ceiled text))) (drop 1 (lines text)) in
          let limits = not (ceiled text) || all ended (drop 1 (lines text)) in
          block_by false e
          ∙ ap (λ (b : Bool). none && b) (covariance_are ∙ assets_lined (ceiled text) (assets text) (drop 1 (lines text)) (plain_lines e))
          ∙ grouped none named limits
          ∙ ap (λ (b : Bool). b && limits) (sym (plain_has text (assets text) (one (ceiled text)) e refl refl))
          ∙ ap (λ (b : Bool). has_rows text && (not (ceiled text) || b)) (sym (ceilings_by false e))
