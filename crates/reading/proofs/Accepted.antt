-- What an accepted job text gives its caller: its assets, their names, its cells and ceilings, and what its first line asks for. Assumes nothing.
use Prim.Native.Nat.{ℕ, zero, suc, ◌+◌, ◌-◌, ◌*◌, ◌<◌, ◌≤◌}
use mathlib.Core.Path.{◌≡◌, refl, sym, ap, ◌∙◌}
use mathlib.Core.Bool.{Bool, true, false, cond, not, ◌&&◌, and-false}
use mathlib.Core.List.{List, [], ◌∷◌}
use mathlib.Core.Logic.{⊎_elim}
use native.Mathlib.Omega.{arith}
use borrow.Author.Tests.{leb-true, eq-eqb}
use lib.Dec.{eqb, leb, ltb}
use lib.ListN.{length, get_or, drop, length-drop}
use lib.Seq.{get_or-drop, get_or-take, drop-drop}
use Rattle.refusal.specs.Table.{first, Outcome}
use Rattle.refusal.specs.declared.Refusal.{Refusal}
use Rattle.lent.specs.Grid.{tab}
use Rattle.lent.proofs.Laws.{either, length_tab, get_d_tab}
use Rattle.text.specs.Bytes.{bytes, same}
use Rattle.fields.specs.Split.{split, first_piece, all}
use Rattle.fields.proofs.Every.{both_left, both_right, three_yes, all_at}
use Rattle.fields.proofs.Pieces.{piece_upto}
use Rattle.ceilings.specs.Figures.{are_unlike}
use Rattle.heading.specs.Heading.{field, fields_in, head_of}
use Rattle.linkage.specs.declared.Distance.{Distance}
use Rattle.linkage.specs.declared.Linkage.{Linkage}
use Rattle.names.specs.Names.{in_name, is_name, name_from}
use Rattle.reading.specs.Reading.{lines, rest, line, priced, ceiled, head_in, rows_in, assets, is_asset, is_names, is_covariance, is_prices, is_block, is_job, name_of, start_of, name_start, starts_in, text_ceiling, ceilings_in, text_lines, ReadRoom, read_outcome, job_of, block_in, job_in, read_as, read_of}
use Rattle.reading.specs.declared.Block.{Block}
use Rattle.reading.proofs.Starts.{start_in, piece_at}
use Rattle.reading.proofs.Table.{within, ends, block_good, done_job, done_within, kept}
use Rattle.reading.proofs.Blocks.{head_by, rows_by}
use Rattle.reading.proofs.Answer.{outcome_done, refused_is}
use Rattle.std.specs.Prelude.{Ok, Err}
use Rattle.heading.specs.Outcomes.{Heading}
use Rattle.reading.specs.Outcomes.{Reading}
use Rattle.heading.specs.declared.Task.TheVariants as task
use Rattle.reading.specs.declared.Job.TheVariants as jobs

-- what stands before the first d, from a place in it on
upto_drop : (d : ℕ) (s : List ℕ) (b : ℕ) → b ≤ length (first_piece d s) → first_piece d (drop b s) ≡ drop b (first_piece d s)
unfolding first_piece
upto_drop d s zero h = refl
upto_drop d [] (suc b) h = absurd (omega arith)
upto_drop d (x ∷ s) (suc b) h = go (eqb x d) (upto_drop d s b) h
  where
    go : (t : Bool) → (b ≤ length (first_piece d s) → first_piece d (drop b s) ≡ drop b (first_piece d s)) → suc b ≤ length (cond t [] (x ∷ first_piece d s))
        → first_piece d (drop b s) ≡ drop (suc b) (cond t [] (x ∷ first_piece d s))
    go true ih q = absurd (omega arith)
    go false ih q = ih (omega arith)

-- a test picked by another
picked : (p x y : Bool) → p ≡ true → cond p x y ≡ true → x ≡ true
picked true x y e h = h
picked false x y e h = absurd (let z : ◌≡◌ {A = ℕ} 0 1 = cc in omega arith)

passed : (p x y : Bool) → p ≡ false → cond p x y ≡ true → y ≡ true
passed true x y e h = absurd (let z : ◌≡◌ {A = ℕ} 0 1 = cc in omega arith)
passed false x y e h = h

-- ---- either block

module _ (text : List ℕ) where
  -- a covariance is square
  pub square : priced text ≡ false → rows_in text ≡ assets text
  unfolding assets
  square e = rw e

  plain_rows : priced text ≡ false → rows_in text ≡ length (lines text) - 1
  plain_rows e = rows_by text 1 (head_by text false e)

  priced_assets : priced text ≡ true → assets text ≡ fields_in (line text 1)
  unfolding assets
  priced_assets e = rw e

  plain_block : priced text ≡ false → is_block text ≡ true → all (is_asset (ceiled text) (assets text)) (drop 1 (lines text)) ≡ true
  unfolding is_block is_covariance
  plain_block e b = passed (priced text) (is_prices text) (is_covariance text) e (both_right (eqb (length (rest text)) 0) _ b)

  priced_block : priced text ≡ true → is_block text ≡ true → (2 ≤ length (lines text)) × (is_names (line text 1) ≡ true)
  unfolding is_block is_prices
  priced_block e b =
      let h = leb (head_in text) (length (lines text)) in
      let t = picked (priced text) (is_prices text) (is_covariance text) e (both_right (eqb (length (rest text)) 0) _ b) in
      let n = both_right h _ t in
      (omega (arith, leb-true (head_in text) (length (lines text)) (both_left h _ t), head_by text true e), both_left (is_names (line text 1)) _ n)

  module _ (i : ℕ) where
    plain_name : priced text ≡ false → name_of text i ≡ field (line text (i + 1)) 0
    unfolding name_of
    plain_name e = rw e

    priced_name : priced text ≡ true → name_of text i ≡ field (line text 1) i
    unfolding name_of
    priced_name e = rw e

    plain_start : priced text ≡ false → name_start text i ≡ start_of 10 text (i + 1)
    unfolding name_start
    plain_start e = rw e

    priced_start : priced text ≡ true → name_start text i ≡ start_of 10 text 1 + start_of 9 (line text 1) i
    unfolding name_start
    priced_start e = rw e

    module _ (job : is_job text ≡ true) (h : i < assets text) where
      -- ---- of a covariance: the first field of asset i's line

      module _ (e : priced text ≡ false) where
        low : i + 1 < length (split 10 text) - 1
        low = omega (arith, square e, plain_rows e, ends text)

        line_in : get_or (drop 1 (lines text)) i [] ≡ line text (i + 1)
        line_in =
            let a : 1 + i ≡ i + 1 = omega arith in
            get_or-drop 1 (lines text) i [] ∙ ap (λ (k : ℕ). get_or (lines text) k []) a ∙ get_or-take (length (split 10 text) - 1) (split 10 text) (i + 1) [] low

        asset_good : is_asset (ceiled text) (assets text) (line text (i + 1)) ≡ true
        asset_good =
            sym (ap (is_asset (ceiled text) (assets text)) line_in)
            ∙ all_at (is_asset (ceiled text) (assets text)) (drop 1 (lines text)) [] (plain_block e (block_good text job)) i (omega (arith, length-drop 1 (lines text), ends text, low))

        plain_good : is_name (name_of text i) ≡ true
        unfolding is_asset
        plain_good = ap is_name (plain_name e) ∙ both_left (is_name (field (line text (i + 1)) 0)) _ asset_good

        plain_at : name_from text (name_start text i) ≡ name_of text i
        plain_at =
            ap (name_from text) (plain_start e)
            ∙ ap (first_piece 9) (sym (piece_at 10 text (i + 1) (omega (arith, low))))
            ∙ sym (piece_upto 9 (line text (i + 1)))
            ∙ sym (plain_name e)

      -- ---- of prices: field i of the line of names

      module _ (e : priced text ≡ true) where
        field_in : i < length (split 9 (line text 1))
        field_in = omega (arith, priced_assets e)

        second : 1 < length (split 10 text)
        second = omega (arith, (priced_block e (block_good text job)).0, ends text)

        priced_good : is_name (name_of text i) ≡ true
        unfolding is_names
        priced_good = ap is_name (priced_name e) ∙ all_at is_name (split 9 (line text 1)) [] (priced_block e (block_good text job)).1 i field_in

        priced_at : name_from text (name_start text i) ≡ name_of text i
        priced_at =
            let a = start_of 10 text 1 in
            let b = start_of 9 (line text 1) i in
            let l : line text 1 ≡ first_piece 10 (drop a text) = piece_at 10 text 1 second in
            let m : b ≤ length (first_piece 10 (drop a text)) = omega (arith, start_in 9 (line text 1) i field_in, ap length l) in
            ap (name_from text) (priced_start e)
            ∙ ap (λ (s : List ℕ). first_piece 9 (first_piece 10 s)) (sym (drop-drop b a text))
            ∙ ap (first_piece 9) (upto_drop 10 (drop a text) b m ∙ ap (drop b) (sym l))
            ∙ sym (piece_at 9 (line text 1) i field_in)
            ∙ sym (priced_name e)

      -- ---- of either

      pub name_good : is_name (name_of text i) ≡ true
      name_good = ⊎_elim priced_good plain_good (either (priced text))

      -- "a name of 1 to 16 bytes"
      pub name_short : (1 ≤ length (name_of text i)) × (length (name_of text i) ≤ 16)
      unfolding is_name
      name_short =
          let w = name_of text i in
          let y = three_yes (leb 1 (length w)) (leb (length w) 16) (all in_name w && (not (same w (bytes "order")) && not (same w (bytes "refused")))) name_good in
          (leb-true 1 (length w) y.0, leb-true (length w) 16 y.1)

      -- `name` finds it where it begins ..
      pub name_at : name_from text (name_start text i) ≡ name_of text i
      name_at = ⊎_elim priced_at plain_at (either (priced text))

      -- .. which the lent numbers hold
      pub start_kept : get_or (starts_in text) i 0 ≡ name_start text i
      unfolding starts_in
      start_kept = get_d_tab (assets text) (name_start text) i 0 h

-- ---- an accepted call

pub record Accepted (text : List ℕ) : Type 0 where
  pub job : is_job text ≡ true
  -- "0 to 64 assets", and 4,096 cells
  pub few : assets text ≤ 64
  pub cells_few : rows_in text * assets text ≤ 4096
  pub tabled : first (text_lines text) ≡ Ok tt

pub accepted : (text : List ℕ) (room : ReadRoom) → read_outcome text room ≡ Ok tt → Accepted text
accepted text room e =
    let p = outcome_done text room e in
    let j = done_job text p.1 in
    let w = within (rows_in text) (assets text) (done_within text j p.1) in
    record { job = j; few = w.0; cells_few = w.1; tabled = p.1 }

-- ---- its ceilings

-- one for each asset, where the first line says `ceilings`, and else none
pub ceilings_length : (text : List ℕ) → length (ceilings_in text) ≡ cond (ceiled text) (assets text) 0
unfolding ceilings_in
ceilings_length text = go (ceiled text)
  where
    go : (t : Bool) → length (cond t (tab (assets text) (text_ceiling text)) []) ≡ cond t (assets text) 0
    go true = length_tab (assets text) (text_ceiling text)
    go false = refl

-- so that they are never refused for their number
pub ceilings_like : (text : List ℕ) → are_unlike (ceilings_in text) (assets text) ≡ false
unfolding are_unlike
ceilings_like text = ap (λ (k : ℕ). ltb 0 k && not (eqb k (assets text))) (ceilings_length text) ∙ go (ceiled text)
  where
    go : (t : Bool) → (ltb 0 (cond t (assets text) 0) && not (eqb (cond t (assets text) 0) (assets text))) ≡ false
    go true = ap (λ (b : Bool). ltb 0 (assets text) && not b) (eq-eqb (assets text) (assets text) refl) ∙ and-false (ltb 0 (assets text))
    go false = refl

-- ---- what an answer says

-- the text's block, and what the first line asks for
pub record Answered (text : List ℕ) (b : Block) (asked : Heading) : Type 0 where
  pub block_is : b ≡ block_in text
  pub asked_for : head_of (line text 0) ≡ asked
  pub counted : b.assets ≡ assets text
  pub lined : b.rows ≡ rows_in text
  pub kind : b.priced ≡ priced text
  pub limits : b.ceiled ≡ ceiled text

answered : (text : List ℕ) (b : Block) (asked : Heading) → b ≡ block_in text → head_of (line text 0) ≡ asked → Answered text b asked
unfolding block_in
answered text b asked e h = record {
  block_is = e;
  asked_for = h;
  counted = ap (λ (x : Block). x.assets) e;
  lined = ap (λ (x : Block). x.rows) e;
  kind = ap (λ (x : Block). x.priced) e;
  limits = ap (λ (x : Block). x.ceiled) e;
}

of_hrp : (a : Block) (h : Heading) (b : Block) (d : Distance) → job_of a h ≡ Ok (jobs.Hrp b d) → (b ≡ a) × (h ≡ Ok (task.Hrp d))
of_hrp a (Err r) b d e = absurd (let z : ◌≡◌ {A = ℕ} 0 1 = cc in omega arith)
of_hrp a (Ok (task.Hrp f)) b d e = (cc, cc)
of_hrp a (Ok (task.Hcaa l f)) b d e = absurd (let z : ◌≡◌ {A = ℕ} 0 1 = cc in omega arith)

of_hcaa : (a : Block) (h : Heading) (b : Block) (l : Linkage) (d : Distance) → job_of a h ≡ Ok (jobs.Hcaa b l d) → (b ≡ a) × (h ≡ Ok (task.Hcaa l d))
of_hcaa a (Err r) b l d e = absurd (let z : ◌≡◌ {A = ℕ} 0 1 = cc in omega arith)
of_hcaa a (Ok (task.Hrp f)) b l d e = absurd (let z : ◌≡◌ {A = ℕ} 0 1 = cc in omega arith)
of_hcaa a (Ok (task.Hcaa k f)) b l d e = (cc, cc)

as_hrp : (o : Outcome) (j : Reading) (b : Block) (d : Distance) → read_as o j ≡ Ok (jobs.Hrp b d) → (o ≡ Ok tt) × (j ≡ Ok (jobs.Hrp b d))
as_hrp (Ok _) j b d e = (refl, e)
as_hrp (Err r) j b d e = absurd (let z : ◌≡◌ {A = ℕ} 0 1 = cc in omega arith)

as_hcaa : (o : Outcome) (j : Reading) (b : Block) (l : Linkage) (d : Distance) → read_as o j ≡ Ok (jobs.Hcaa b l d) → (o ≡ Ok tt) × (j ≡ Ok (jobs.Hcaa b l d))
as_hcaa (Ok _) j b l d e = (refl, e)
as_hcaa (Err r) j b l d e = absurd (let z : ◌≡◌ {A = ℕ} 0 1 = cc in omega arith)

-- a job of the text is of its block
pub job_hrp : (text : List ℕ) (b : Block) (d : Distance) → job_in text ≡ Ok (jobs.Hrp b d) → Answered text b (Ok (task.Hrp d))
unfolding job_in
job_hrp text b d e = let y = of_hrp (block_in text) (head_of (line text 0)) b d e in answered text b (Ok (task.Hrp d)) y.0 y.1

pub job_hcaa : (text : List ℕ) (b : Block) (l : Linkage) (d : Distance) → job_in text ≡ Ok (jobs.Hcaa b l d) → Answered text b (Ok (task.Hcaa l d))
unfolding job_in
job_hcaa text b l d e = let y = of_hcaa (block_in text) (head_of (line text 0)) b l d e in answered text b (Ok (task.Hcaa l d)) y.0 y.1

module _ (text : List ℕ) (room : ReadRoom) where
  pub read_hrp : (b : Block) (d : Distance) → read_of text room ≡ Ok (jobs.Hrp b d) → (read_outcome text room ≡ Ok tt) × (job_in text ≡ Ok (jobs.Hrp b d))
  unfolding read_of
  read_hrp b d e = as_hrp (read_outcome text room) (job_in text) b d e

  pub read_hcaa : (b : Block) (l : Linkage) (d : Distance) → read_of text room ≡ Ok (jobs.Hcaa b l d) → (read_outcome text room ≡ Ok tt) × (job_in text ≡ Ok (jobs.Hcaa b l d))
  unfolding read_of
  read_hcaa b l d e = as_hcaa (read_outcome text room) (job_in text) b l d e

  pub read_refused : (k : Refusal) → read_of text room ≡ Err k → read_outcome text room ≡ Err k
  unfolding read_of
  read_refused k e = refused_is (read_outcome text room) (job_in text) k (λ h. let a = accepted text room h in kept text a.job a.tabled) e
