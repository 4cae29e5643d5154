-- The whole text: its first line and its block, and the answer that they give. Assumes nothing.
use Prim.Native.Nat.{ℕ, ◌+◌, ◌-◌, ◌≤◌}
use mathlib.Core.Path.{◌≡◌, refl, sym, ap, ◌∙◌}
use mathlib.Core.Bool.{Bool, true, false, cond, not, ◌&&◌, ◌||◌, and-false}
use mathlib.Core.List.{List, ◌++◌}
use mathlib.Core.Logic.{◌⊎◌, inl, inr, ⊎_elim}
use native.Mathlib.Omega.{arith}
use borrow.Author.Tests.{leb-true}
use lib.Dec.{eqb, leb}
use lib.ListN.{length, take, drop}
use lib.Ieee.{Float}
use Rattle.refusal.specs.Table.{Outcome, first, or_else}
use Rattle.refusal.specs.declared.Refusal.{Refusal}
use Rattle.refusal.specs.declared.Refusal.TheVariants.{OverLimit, MalformedText}
use Rattle.refusal.proofs.Tables.{done_refused}
use Rattle.lent.specs.Count.{one}
use Rattle.lent.proofs.Laws.{either}
use Rattle.fields.specs.Split.{split, end_of}
use Rattle.fields.proofs.Every.{both_left, both_right}
use Rattle.fields.proofs.Pieces.{pieces, pieces_le, piece_upto, cut_front}
use Rattle.heading.specs.Heading.{is_priced, is_ceiled, head_of}
use Rattle.reading.specs.Reading.{lines, line, rest, priced, ceiled, head_in, rows_in, assets, is_block, is_job, start_of, is_over, text_lines, job_of, block_in, job_in, read_as}
use Rattle.reading.specs.Inner.{limited, has_rows, found_in, BlockAsked, BlockRead, has_ceilings, CeilingsAsked, CeilingsRead, TextRead}
use Rattle.reading.specs.declared.Block.{Block}
use Rattle.reading.proofs.Blocks.{held_narrow, held_whole, head_by, rows_by, priced_has}
use Rattle.reading.proofs.Limits.{block_parts}
use Rattle.reading.proofs.Ceilings.{limits_put}
use Rattle.reading.proofs.Table.{ends, job_refused, table_none, table_over, table_done, job_lineless, job_blockless, asked_refused, asked_job}
use Rattle.std.specs.Prelude.{Result, Some, Ok, None, Err}
use Rattle.std.specs.Result.{IsErrAnd}
use Rattle.heading.specs.Outcomes.{Heading}
use Rattle.reading.specs.declared.Extent.{Extent}
use Rattle.reading.specs.Outcomes.{Found, Reading, extent}
use Rattle.reading.specs.declared.Job.TheVariants as jobs

-- ---- a job, and the limits

pub limited_refused : (over : Bool) (j : Reading) (r : Refusal) → j ≡ Err r → limited over j ≡ Err r
limited_refused over j r e = rw e

pub limited_known : (over t : Bool) (j : Reading) → over ≡ t → ((r : Refusal) → j ≡ Err r → ⊥) → limited over j ≡ cond t (Err OverLimit) j
limited_known over t (Err r) o h = absurd (h r refl)
limited_known over t (Ok (jobs.Hrp b d)) o h = rw o
limited_known over t (Ok (jobs.Hcaa b l d)) o h = rw o

-- or it is refused already
refused_or : (j : Reading) → ((r : Refusal) × (j ≡ Err r)) ⊎ ((r : Refusal) → j ≡ Err r → ⊥)
refused_or (Err r) = inl (r, refl)
refused_or (Ok (jobs.Hrp b d)) = inr (λ r e. let z : ◌≡◌ {A = ℕ} 0 1 = cc in omega arith)
refused_or (Ok (jobs.Hcaa b l d)) = inr (λ r e. let z : ◌≡◌ {A = ℕ} 0 1 = cc in omega arith)

-- ---- what the exit of a `?` returns; a test that refuses, and one that passes

pub err_is : {A : Type 0} (r : Result A Refusal) (k : Refusal) → IsErrAnd r (λ y. y ≡ k) → r ≡ Err k
err_is (Ok x) k h = absurd h
err_is (Err y) k h = ap Err h

pub refused_by : (t : Bool) (r k : Refusal) (o : Outcome) → o ≡ or_else t r (Ok tt) → o ≡ Err k → (t ≡ true) × (k ≡ r)
unfolding or_else
refused_by true r k o e f = (refl, cc)
refused_by false r k o e f = absurd (let z : ◌≡◌ {A = ℕ} 0 1 = cc in omega arith)

pub passed_by : (t : Bool) (r : Refusal) (o : Outcome) → o ≡ or_else t r (Ok tt) → o ≡ Ok tt → t ≡ false
unfolding or_else
passed_by true r o e f = absurd (let z : ◌≡◌ {A = ℕ} 0 1 = cc in omega arith)
passed_by false r o e f = refl

pub not_true : (t : Bool) → not t ≡ true → t ≡ false
not_true true e = sym e
not_true false e = refl

pub not_false : (t : Bool) → not t ≡ false → t ≡ true
not_false true e = refl
not_false false e = sym e

-- ---- the first line, as the code cuts it out, and where the next begins
pub line_cut : (text : List ℕ) (e : ℕ) → e ≡ end_of 10 text 0 → take e text ≡ line text 0
line_cut text e ends = ap (λ (k : ℕ). take k text) ends ∙ cut_front 10 text ∙ sym (piece_upto 10 text)

pub second_begins : (text : List ℕ) (e : ℕ) → e ≡ end_of 10 text 0 → e + 1 ≡ start_of 10 text 1
unfolding start_of
second_begins text e ends = ap (λ (k : ℕ). k + 1) ends

pub priced_is : (text l : List ℕ) (t : Bool) → t ≡ is_priced l → l ≡ line text 0 → t ≡ priced text
unfolding priced
priced_is text l t e q = e ∙ ap is_priced q

pub ceiled_is : (text l : List ℕ) (t : Bool) → t ≡ is_ceiled l → l ≡ line text 0 → t ≡ ceiled text
unfolding ceiled
ceiled_is text l t e q = e ∙ ap is_ceiled q

pub cut_is : (text : List ℕ) (count : ℕ) → count ≡ length (split 10 text) - 1 → length (split 10 text) ≡ count + 1
cut_is text count e = let p = pieces 10 text in omega arith

-- what read_block is asked
pub block_asked : (text : List ℕ) (e count : ℕ) (p c : Bool) (more room places : ℕ) → length text ≤ 65536 → e ≡ end_of 10 text 0 → count ≡ length (split 10 text) - 1 → 1 ≤ count → p ≡ priced text → c ≡ ceiled text
    → more ≡ one c → 4096 ≤ room → 64 ≤ places → BlockAsked text (e + 1) count p more room places
block_asked text e count p c more room places short ends_at counted some kind limits is roomy placed = record {
  short = short;
  kind = sym kind;
  limits = is ∙ ap one limits;
  some = some;
  cut = cut_is text count counted;
  begun = second_begins text e ends_at;
  roomy = roomy;
  placed = placed;
}

-- ---- the names and the cells, by what was read

-- no more lines than bytes
rows_le : (text : List ℕ) → rows_in text ≤ length text
rows_le text = omega (arith, rows_by text (head_in text) refl, ends text, pieces_le 10 text)

no_block : (text : List ℕ) → None ≡ found_in text → has_rows text ≡ false
unfolding found_in
no_block text e = go (has_rows text) e
  where
    go : (t : Bool) → None ≡ cond t (Some (extent (assets text) (rows_in text))) None → t ≡ false
    go true q = absurd (let z : ◌≡◌ {A = ℕ} 0 1 = cc in omega arith)
    go false q = refl

some_block : (text : List ℕ) (n rows : ℕ) → Some (extent n rows) ≡ found_in text → (has_rows text ≡ true) × ((n ≡ assets text) × (rows ≡ rows_in text))
unfolding found_in
some_block text n rows e = go (has_rows text) e
  where
    go : (t : Bool) → Some (extent n rows) ≡ cond t (Some (extent (assets text) (rows_in text))) None → (t ≡ true) × ((n ≡ assets text) × (rows ≡ rows_in text))
    go true q =
        let z : ◌≡◌ {A = Extent} (extent n rows) (extent (assets text) (rows_in text)) = cc in
        (refl, (ap (λ (x : Extent). x.assets) z, ap (λ (x : Extent). x.rows) z))
    go false q = absurd (let z : ◌≡◌ {A = ℕ} 0 1 = cc in omega arith)

-- the lines before those with cells are there
headed : (text : List ℕ) → has_rows text ≡ true → 1 ≤ length (split 10 text) - 1 → head_in text ≤ length (lines text)
headed text h some =
    ⊎_elim
    (λ e.
    let y = both_right (eqb (length (rest text)) 0) _ (sym (priced_has text (assets text) (head_in text) e refl refl) ∙ h) in
    leb-true (head_in text) (length (lines text)) (both_left (leb (head_in text) (length (lines text))) _ y))
    (λ e. omega (arith, head_by text false e, ends text))
    (either (priced text))

-- the block that is handed on
abbrev made : ℕ → ℕ → Bool → Bool → Block
made n rows p c = record { assets = n; rows = rows; priced = p; ceiled = c }

-- ---- a block of rows of n assets

module _ {text : List ℕ} {b : Found} {cells : List Float} {starts : List ℕ} {cells' : List Float} {starts' : List ℕ} (was : BlockRead text b cells starts cells' starts')
    (n rows : ℕ) (is : b ≡ Some (extent n rows)) where
  good : (has_rows text ≡ true) × ((n ≡ assets text) × (rows ≡ rows_in text))
  good = some_block text n rows (sym is ∙ was.told)

  pub rows_short : length text ≤ 65536 → rows ≤ 65536
  rows_short h = omega (arith, good.1.1, rows_le text)

  -- its ceilings, as many as are held
  pub ceilings_asked : {from count : ℕ} {p : Bool} {more room places : ℕ} → BlockAsked text from count p more room places → (c : Bool) → c ≡ ceiled text
      → (w held : ℕ) → w ≡ cond (is_over rows n) 0 n → held ≡ w → CeilingsAsked text from p c n held
  ceilings_asked asked c limits w held e same = record {
    short = asked.short;
    kind = asked.kind;
    limits = sym limits;
    begun = asked.begun;
    headed = headed text good.0 (omega (arith, asked.cut, asked.some));
    counted = good.1.0;
    few = omega (arith, held_narrow rows n w e);
  }

-- ---- a text refused, by its table

module _ (text : List ℕ) (cells : List Float) (starts ceilings : List ℕ) (cells' : List Float) (starts' ceilings' : List ℕ) where
  pub text_as : (r s : Reading) → r ≡ s → TextRead text s cells starts ceilings cells' starts' ceilings' → TextRead text r cells starts ceilings cells' starts' ceilings'
  text_as r s e u = record { told = e ∙ u.told; held = u.held }

  refused_so : (r : Refusal) → first (text_lines text) ≡ Err r → TextRead text (Err r) cells starts ceilings cells' starts' ceilings'
  refused_so r f = record { told = ap (λ o. read_as o (job_in text)) (sym f); held = λ d. absurd (done_refused r (sym d ∙ f)) }

  pub text_lineless : (count : ℕ) → count ≡ length (split 10 text) - 1 → count ≤ 0 → TextRead text (Err MalformedText) cells starts ceilings cells' starts' ceilings'
  text_lineless count e h = refused_so MalformedText (table_none text (job_lineless text (omega arith)))

  unblocked : (has_rows text && (not (ceiled text) || has_ceilings text)) ≡ false → TextRead text (Err MalformedText) cells starts ceilings cells' starts' ceilings'
  unblocked e = refused_so MalformedText (table_none text (job_blockless text (block_parts text ∙ e)))

  -- ---- by the block that was read

  module _ (b : Found) (was : BlockRead text b cells starts cells' starts') where
    pub text_blockless : b ≡ None → TextRead text (Err MalformedText) cells starts ceilings cells' starts' ceilings'
    text_blockless e = unblocked (ap (λ (t : Bool). t && (not (ceiled text) || has_ceilings text)) (no_block text (sym e ∙ was.told)))

    -- rows of n assets, and their ceilings
    module _ (n rows : ℕ) (is : b ≡ Some (extent n rows)) (w : ℕ) (held : w ≡ cond (is_over rows n) 0 n)
        (t : Bool) (part' : List ℕ) (roomy : w ≤ length ceilings) (read : CeilingsRead text t (take w ceilings) part') where
      pub text_unlimited : t ≡ false → TextRead text (Err MalformedText) cells starts ceilings cells' starts' ceilings'
      text_unlimited e = unblocked (ap (λ (u : Bool). has_rows text && u) (sym read.told ∙ e) ∙ and-false (has_rows text))

      -- and what the first line asks for
      module _ (right : t ≡ true) (put : ceilings' ≡ part' ++ drop w ceilings) (some : 1 ≤ length (split 10 text) - 1)
          (asked_for : Heading) (head : asked_for ≡ head_of (line text 0)) (p : Bool) (kind : p ≡ priced text) (c : Bool) (limits : c ≡ ceiled text) where
        sound : (has_rows text ≡ true) × ((n ≡ assets text) × (rows ≡ rows_in text))
        sound = good was n rows is

        block : is_block text ≡ true
        block = block_parts text ∙ ap (λ (u : Bool). u && (not (ceiled text) || has_ceilings text)) sound.0 ∙ sym read.told ∙ right

        job : Reading
        job = job_of (made n rows p c) asked_for

        job_is : job ≡ job_in text
        unfolding job_in block_in job
        job_is =
            ap (λ (k : ℕ). job_of (made k rows p c) asked_for) sound.1.0
            ∙ ap (λ (k : ℕ). job_of (made (assets text) k p c) asked_for) sound.1.1
            ∙ ap (λ (u : Bool). job_of (made (assets text) (rows_in text) u c) asked_for) kind
            ∙ ap (λ (u : Bool). job_of (made (assets text) (rows_in text) (priced text) u) asked_for) limits
            ∙ ap (job_of (made (assets text) (rows_in text) (priced text) (ceiled text))) head

        over_is : is_over rows n ≡ is_over (rows_in text) (assets text)
        over_is = ap (λ (k : ℕ). is_over rows k) sound.1.0 ∙ ap (λ (k : ℕ). is_over k (assets text)) sound.1.1

        told_refused : (r : Refusal) → job ≡ Err r → first (text_lines text) ≡ Err r
        unfolding job
        told_refused r e = asked_refused text some block r (sym head ∙ job_refused (made n rows p c) asked_for r e)

        module _ (known : (r : Refusal) → job ≡ Err r → ⊥) where
          head_known : (r : Refusal) → head_of (line text 0) ≡ Err r → ⊥
          unfolding job
          head_known r e = known r (ap (job_of (made n rows p c)) (head ∙ e))

          is_job_lem : is_job text ≡ true
          is_job_lem = asked_job text some block head_known

          told_over : is_over rows n ≡ true → first (text_lines text) ≡ Err OverLimit
          told_over o = table_over text is_job_lem head_known (sym over_is ∙ o)

          told_done : is_over rows n ≡ false → first (text_lines text) ≡ Ok tt
          told_done o = table_done text is_job_lem head_known (sym over_is ∙ o)

        pub text_judged : (said : Reading) → said ≡ limited (is_over rows n) (job_of (made n rows p c) asked_for) → TextRead text said cells starts ceilings cells' starts' ceilings'
        unfolding job
        text_judged said is_said =
            ⊎_elim
            (λ h. text_as said (Err h.0) (is_said ∙ limited_refused (is_over rows n) job h.0 h.1) (refused_so h.0 (told_refused h.0 h.1)))
            (λ known.
            ⊎_elim
            (λ o. text_as said (Err OverLimit) (is_said ∙ limited_known (is_over rows n) true job o known) (refused_so OverLimit (told_over known o)))
            (λ o.
            let f = told_done known o in
            record {
              told = is_said ∙ limited_known (is_over rows n) false job o known ∙ job_is ∙ ap (λ o'. read_as o' (job_in text)) (sym f);
              held = λ d. (was.held sound.0 (sym over_is ∙ o), put ∙ limits_put text ceilings part' w roomy (held_whole rows n w held o ∙ sound.1.0) (read.placed right));
            })
            (either (is_over rows n)))
            (refused_or job)
