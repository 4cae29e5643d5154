-- What the table of a text lets through: "15, 8, 7", then the allocator's 9. Assumes nothing.
use Prim.Native.Nat.{ℕ, ◌-◌, ◌*◌, ◌<◌, ◌≤◌}
use mathlib.Core.Path.{◌≡◌, refl, sym, ap, ◌∙◌}
use mathlib.Core.Bool.{Bool, true, false, not, ◌&&◌, ◌||◌}
use mathlib.Core.List.{List, [], ◌∷◌, ◌++◌}
use mathlib.Core.Logic.{⊎_elim}
use native.Mathlib.Omega.{arith}
use borrow.Author.Tests.{le-leb, lt-leb, leb-true, ltb-false, not-false}
use lib.Dec.{leb, ltb}
use lib.ListN.{length}
use lib.Seq.{length-take-le}
use Rattle.refusal.specs.Table.{first, Outcome}
use Rattle.refusal.specs.declared.Refusal.{Refusal}
use Rattle.refusal.specs.declared.Refusal.TheVariants.{OverLimit, MalformedText}
use Rattle.refusal.proofs.Tables.{table_hit, table_pass, table_end, none, first_done, first_refused, parts_done}
use Rattle.lent.proofs.Laws.{either}
use Rattle.fields.specs.Split.{split}
use Rattle.fields.proofs.Every.{three_yes}
use Rattle.heading.specs.Heading.{is_hrp, is_hcaa, unknown_lines, head_of}
use Rattle.heading.proofs.Judged.{head_as, asked_is, asked_kept, asked_none, or_none}
use Rattle.reading.specs.Reading.{lines, line, rows_in, assets, is_block, is_job, is_over, text_lines, job_of, job_in}
use Rattle.reading.specs.declared.Block.{Block}
use Rattle.std.specs.Prelude.{Ok, Err}
use Rattle.heading.specs.Outcomes.{Heading}
use Rattle.heading.specs.declared.Task.TheVariants as task

-- ---- a block that is not over the limits

pub within : (rows n : ℕ) → is_over rows n ≡ false → (n ≤ 64) × (rows * n ≤ 4096)
unfolding is_over
within rows n e = let f = or_none (ltb 64 n) (ltb 4096 (rows * n)) e in (ltb-false 64 n f.0, ltb-false 4096 (rows * n) f.1)

-- ---- what the first line asks for, by how its table went

head_refused : (o : Outcome) (h : Heading) (r : Refusal) → h ≡ head_as o h → (o ≡ Ok tt → h ≡ Err r → ⊥) → h ≡ Err r → o ≡ Err r
head_refused (Ok _) h r a n e = absurd (n refl e)
head_refused (Err k) h r a n e = let f : k ≡ r = cc in ap Err f

head_known : (o : Outcome) (h : Heading) → h ≡ head_as o h → ((r : Refusal) → h ≡ Err r → ⊥) → o ≡ Ok tt
head_known (Ok _) h a n = refl
head_known (Err k) h a n = absurd (n k a)

pub job_refused : (b : Block) (h : Heading) (k : Refusal) → job_of b h ≡ Err k → h ≡ Err k
job_refused b (Err r) k e = let f : r ≡ k = cc in ap Err f
job_refused b (Ok (task.Hrp d)) k e = absurd (let z : ◌≡◌ {A = ℕ} 0 1 = cc in omega arith)
job_refused b (Ok (task.Hcaa l d)) k e = absurd (let z : ◌≡◌ {A = ℕ} 0 1 = cc in omega arith)

-- ---- the table of a text

module _ (text : List ℕ) where
  -- the lines, by the newlines that end them
  pub ends : length (lines text) ≡ length (split 10 text) - 1
  ends = length-take-le (length (split 10 text) - 1) (split 10 text) (omega arith)

  pub table_none : is_job text ≡ false → first (text_lines text) ≡ Err MalformedText
  unfolding text_lines
  table_none e = table_hit (not (is_job text)) MalformedText _ (ap not e)

  pub done_job : first (text_lines text) ≡ Ok tt → is_job text ≡ true
  unfolding text_lines
  done_job d = not-false (is_job text) (none _ d).0

  -- the job asks for what the first line does
  pub asked_as : (k : Refusal) → job_in text ≡ Err k → head_of (line text 0) ≡ Err k
  unfolding job_in
  asked_as k e = job_refused _ (head_of (line text 0)) k e

  -- ---- of a job's text

  module _ (job : is_job text ≡ true) where
    tests : (leb 1 (length (lines text)) ≡ true) × ((is_hrp (line text 0) || is_hcaa (line text 0)) ≡ true) × (is_block text ≡ true)
    unfolding is_job
    tests = three_yes (leb 1 (length (lines text))) (is_hrp (line text 0) || is_hcaa (line text 0)) (is_block text) job

    pub lines_some : 1 ≤ length (lines text)
    lines_some = leb-true 1 (length (lines text)) tests.0

    -- the first line is one or the other
    pub first_line : (is_hrp (line text 0) || is_hcaa (line text 0)) ≡ true
    first_line = tests.1

    pub block_good : is_block text ≡ true
    block_good = tests.2

    pub table_job : first (text_lines text) ≡ first (unknown_lines (line text 0) ++ ((is_over (rows_in text) (assets text), OverLimit) ∷ []))
    unfolding text_lines
    table_job = table_pass (not (is_job text)) MalformedText _ (ap not job)

    pub table_refused : (r : Refusal) → head_of (line text 0) ≡ Err r → first (text_lines text) ≡ Err r
    table_refused r e =
        let l = line text 0 in
        let o = head_refused (first (unknown_lines l)) (head_of l) r (asked_is l first_line) (λ d h. asked_kept l first_line d r h) e in
        table_job ∙ first_refused (unknown_lines l) _ r o

    -- the first line's names are known
    module _ (known : (r : Refusal) → head_of (line text 0) ≡ Err r → ⊥) where
      table_known : first (text_lines text) ≡ first ((is_over (rows_in text) (assets text), OverLimit) ∷ [])
      table_known = let l = line text 0 in table_job ∙ first_done (unknown_lines l) _ (head_known (first (unknown_lines l)) (head_of l) (asked_is l first_line) known)

      pub table_over : is_over (rows_in text) (assets text) ≡ true → first (text_lines text) ≡ Err OverLimit
      table_over e = table_known ∙ table_hit (is_over (rows_in text) (assets text)) OverLimit [] e

      pub table_done : is_over (rows_in text) (assets text) ≡ false → first (text_lines text) ≡ Ok tt
      table_done e = table_known ∙ table_pass (is_over (rows_in text) (assets text)) OverLimit [] e ∙ table_end

    -- ---- whose table is done

    module _ (d : first (text_lines text) ≡ Ok tt) where
      parts : (first (unknown_lines (line text 0)) ≡ Ok tt) × (first ((is_over (rows_in text) (assets text), OverLimit) ∷ []) ≡ Ok tt)
      parts = parts_done (unknown_lines (line text 0)) _ (sym table_job ∙ d)

      pub done_known : (r : Refusal) → head_of (line text 0) ≡ Err r → ⊥
      done_known r e = asked_kept (line text 0) first_line parts.0 r e

      pub done_within : is_over (rows_in text) (assets text) ≡ false
      done_within = (none _ parts.1).0

      pub kept : (k : Refusal) → job_in text ≡ Err k → ⊥
      kept k e = done_known k (asked_as k e)

  -- ---- by the number of lines, the first line and the block

  pub job_lineless : length (split 10 text) - 1 < 1 → is_job text ≡ false
  unfolding is_job
  job_lineless h = rw (lt-leb 1 (length (lines text)) (omega (arith, ends)))

  pub job_blockless : is_block text ≡ false → is_job text ≡ false
  unfolding is_job
  job_blockless e = rw e (go (leb 1 (length (lines text))) (is_hrp (line text 0) || is_hcaa (line text 0)))
    where
      go : (a b : Bool) → (a && (b && false)) ≡ false
      go true true = refl
      go true false = refl
      go false b = refl

  module _ (h : 1 ≤ length (split 10 text) - 1) (block : is_block text ≡ true) where
    job_as : is_job text ≡ (is_hrp (line text 0) || is_hcaa (line text 0))
    unfolding is_job
    job_as = rw (le-leb 1 (length (lines text)) (omega (arith, ends)), block) (go (is_hrp (line text 0) || is_hcaa (line text 0)))
      where
        go : (b : Bool) → (true && (b && true)) ≡ b
        go true = refl
        go false = refl

    pub asked_refused : (r : Refusal) → head_of (line text 0) ≡ Err r → first (text_lines text) ≡ Err r
    asked_refused r e =
        ⊎_elim
        (λ one. table_refused (job_as ∙ one) r e)
        (λ no. let f : MalformedText ≡ r = same r (sym (asked_none (line text 0) no) ∙ e) in table_none (job_as ∙ no) ∙ ap Err f)
        (either (is_hrp (line text 0) || is_hcaa (line text 0)))
      where
        same : (k : Refusal) → ◌≡◌ {A = Heading} (Err MalformedText) (Err k) → MalformedText ≡ k
        same k q = cc

    module _ (known : (r : Refusal) → head_of (line text 0) ≡ Err r → ⊥) where
      pub asked_job : is_job text ≡ true
      asked_job =
          ⊎_elim
          (λ one. job_as ∙ one)
          (λ no. absurd (known MalformedText (asked_none (line text 0) no)))
          (either (is_hrp (line text 0) || is_hcaa (line text 0)))
