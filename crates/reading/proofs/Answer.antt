-- How a call of `read_job` ends: what it returns, and what its buffers hold. Assumes nothing.
use Prim.Native.Nat.{ℕ, ◌≤◌}
use mathlib.Core.Path.{◌≡◌, refl, sym, ap, ◌∙◌}
use mathlib.Core.Bool.{true, false}
use mathlib.Core.List.{List, ◌++◌}
use native.Mathlib.Omega.{arith}
use borrow.Author.Tests.{ltb-false}
use lib.ListN.{length}
use lib.Ieee.{Float}
use Rattle.arithmetic.specs.Constants.{pz}
use Rattle.refusal.specs.Table.{first, Outcome}
use Rattle.refusal.specs.declared.Refusal.{Refusal}
use Rattle.refusal.proofs.Tables.{none, first_done, first_refused, parts_done}
use Rattle.lent.specs.Grid.{zeros, noughts}
use Rattle.lent.proofs.Sizes.{laid_done, laid_refused}
use Rattle.reading.specs.Reading.{cells_in, starts_in, ceilings_in, text_lines, ReadRoom, read_table, read_outcome, job_in, read_as, read_of, cells_laid, starts_laid, ceilings_laid, JobRead}
use Rattle.reading.specs.Inner.{text_size_lines, TextRead}
use Rattle.reading.proofs.Table.{done_job, kept}
use Rattle.std.specs.Prelude.{Ok, Err}
use Rattle.std.specs.Result.{is_err}
use Rattle.reading.specs.Outcomes.{Reading}

-- what the sizes let through
pub record Fits (bytes : ℕ) (room : ReadRoom) : Type 0 where
  pub short : bytes ≤ 65536
  pub roomy : 4096 ≤ room.cells
  pub placed : 64 ≤ room.starts
  pub limits : 64 ≤ room.ceilings

pub sizes_fit : (bytes : ℕ) (room : ReadRoom) → first (text_size_lines bytes room) ≡ Ok tt → Fits bytes room
unfolding text_size_lines
sizes_fit bytes room e =
    let a = none _ e in
    record {
      short = ltb-false 65536 bytes a.0;
      roomy = ltb-false room.cells 4096 a.1.0;
      placed = ltb-false room.starts 64 a.1.1.0;
      limits = ltb-false room.ceilings 64 a.1.1.1.0;
    }

-- zeros in the buffers
pub record Blank (room : ReadRoom) (a : List Float) (b c : List ℕ) : Type 0 where
  pub cells : a ≡ zeros room.cells
  pub starts : b ≡ noughts room.starts
  pub ceilings : c ≡ noughts room.ceilings

-- an answer that is a refusal, and one that is none
some_err : (r : Reading) → is_err r ≡ true → (k : Refusal) × (r ≡ Err k)
some_err (Ok j) e = absurd (let z : ◌≡◌ {A = ℕ} 0 1 = cc in omega arith)
some_err (Err k) e = (k, refl)

not_err : (r : Reading) (k : Refusal) → is_err r ≡ false → r ≡ Err k → ⊥
not_err (Ok j) k e f = let z : ◌≡◌ {A = ℕ} 0 1 = cc in omega arith
not_err (Err x) k e f = let z : ◌≡◌ {A = ℕ} 0 1 = cc in omega arith

-- what a call answers, by another name
pub answer_as : {text : List ℕ} {room : ReadRoom} {r s : Reading} {a : List Float} {b c : List ℕ} → r ≡ s → JobRead text room s a b c → JobRead text room r a b c
answer_as e j = record { answer = e ∙ j.answer; cells_are = j.cells_are; starts_are = j.starts_are; ceilings_are = j.ceilings_are }

-- ---- what is read tells how the table went

pub refused_is : (o : Outcome) (j : Reading) (k : Refusal) → (o ≡ Ok tt → (r : Refusal) → j ≡ Err r → ⊥)
    → read_as o j ≡ Err k → o ≡ Err k
refused_is (Ok _) j k h e = absurd (h refl k e)
refused_is (Err r) j k h e = let f : r ≡ k = cc in ap Err f

done_is : (o : Outcome) (j : Reading) → ((k : Refusal) → read_as o j ≡ Err k → ⊥) → o ≡ Ok tt
done_is (Ok _) j h = refl
done_is (Err r) j h = absurd (h r refl)

module _ (text : List ℕ) (room : ReadRoom) where
  table_is : read_table text room ≡ text_size_lines (length text) room ++ text_lines text
  unfolding read_table text_size_lines
  table_is = refl

  pub outcome_refused : (r : Refusal) → first (text_size_lines (length text) room) ≡ Err r → read_outcome text room ≡ Err r
  unfolding read_outcome
  outcome_refused r e = ap first table_is ∙ first_refused (text_size_lines (length text) room) (text_lines text) r e

  pub outcome_sized : first (text_size_lines (length text) room) ≡ Ok tt → read_outcome text room ≡ first (text_lines text)
  unfolding read_outcome
  outcome_sized e = ap first table_is ∙ first_done (text_size_lines (length text) room) (text_lines text) e

  -- a call that is not refused
  pub outcome_done : read_outcome text room ≡ Ok tt → Fits (length text) room × (first (text_lines text) ≡ Ok tt)
  unfolding read_outcome
  outcome_done e =
      let p = parts_done (text_size_lines (length text) room) (text_lines text) (ap first (sym table_is) ∙ e) in
      (sizes_fit (length text) room p.0, p.1)

  -- the promises, where the call is refused with zeros in the buffers ..
  refused_laid : (r : Refusal) (a : List Float) (b c : List ℕ) → read_outcome text room ≡ Err r → Blank room a b c → JobRead text room (Err r) a b c
  unfolding read_of cells_laid starts_laid ceilings_laid
  refused_laid r a b c e z = record {
    answer = rw e;
    cells_are = z.cells ∙ laid_refused pz (read_outcome text room) r room.cells (cells_in text) e;
    starts_are = z.starts ∙ laid_refused 0 (read_outcome text room) r room.starts (starts_in text) e;
    ceilings_are = z.ceilings ∙ laid_refused 0 (read_outcome text room) r room.ceilings (ceilings_in text) e;
  }

  module _ (said : Outcome) (judged : said ≡ first (text_size_lines (length text) room)) where
    pub ends_small : (r : Refusal) (a : List Float) (b c : List ℕ) → said ≡ Err r → Blank room a b c → JobRead text room (Err r) a b c
    ends_small r a b c h z = refused_laid r a b c (outcome_refused r (sym judged ∙ h)) z

    -- .. and where the text was read
    module _ (r : Reading) (a : List Float) (b c : List ℕ) (a' : List Float) (b' c' : List ℕ) (sized : said ≡ Ok tt) (is_read : TextRead text r a b c a' b' c') where
      read_is : read_outcome text room ≡ first (text_lines text)
      read_is = outcome_sized (sym judged ∙ sized)

      refused_by : (k : Refusal) (x : List Float) (y z : List ℕ) → r ≡ Err k → Blank room x y z → JobRead text room r x y z
      refused_by k x y z e blank =
          let o = refused_is (first (text_lines text)) (job_in text) k (λ h. kept text (done_job text h) h) (sym is_read.told ∙ e) in
          let l = refused_laid k x y z (read_is ∙ o) blank in
          record { answer = e ∙ l.answer; cells_are = l.cells_are; starts_are = l.starts_are; ceilings_are = l.ceilings_are }

      -- a refusal clears what was read
      pub ends_refused : (x : List Float) (y z : List ℕ) → is_err r ≡ true → Blank room x y z → JobRead text room r x y z
      ends_refused x y z e blank = let k = some_err r e in refused_by k.0 x y z k.1 blank

      pub ends_done : is_err r ≡ false → Blank room a b c → JobRead text room r a' b' c'
      unfolding read_of cells_laid starts_laid ceilings_laid
      ends_done e blank =
          let o = done_is (first (text_lines text)) (job_in text) (λ k h. not_err r k e (is_read.told ∙ h)) in
          let f = is_read.held o in
          record {
            answer = is_read.told ∙ ap (λ (x : Outcome). read_as x (job_in text)) (sym read_is);
            cells_are = f.0.filled ∙ rw blank.cells (laid_done pz (read_outcome text room) room.cells (cells_in text) (read_is ∙ o));
            starts_are = f.0.placed ∙ rw blank.starts (laid_done 0 (read_outcome text room) room.starts (starts_in text) (read_is ∙ o));
            ceilings_are = f.1 ∙ rw blank.ceilings (laid_done 0 (read_outcome text room) room.ceilings (ceilings_in text) (read_is ∙ o));
          }
