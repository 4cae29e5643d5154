-- "Input is the concatenated output of `weights`": such input is never malformed to the report. Assumes nothing.
use Prim.Native.Nat.{ℕ, ◌+◌, ◌*◌, ◌≤◌}
use mathlib.Core.Path.{◌≡◌, refl, ap, ◌∙◌}
use mathlib.Core.List.{List, [], ◌∷◌, ◌++◌}
use mathlib.Core.Logic.{◌⊎◌, inl, inr, ⊎_elim}
use native.Mathlib.Omega.{arith}
use borrow.Author.Tests.{eq-eqb}
use lib.ListN.{length}
use Rattle.refusal.specs.Refusal.{number_of}
use Rattle.refusal.specs.declared.Refusal.{Refusal}
use Rattle.refusal.specs.declared.Refusal.TheVariants.{OverLimit}
use Rattle.fields.specs.Split.{newline, split}
use Rattle.month.specs.Month.{Books, opening, at, refused_by, lines_taken, broken_off, closed, whole_lines, report_on}
use Rattle.month.specs.Meaning.{Sound}
use Rattle.month.proofs.Totals.{sound_opening}
use Rattle.listing.specs.Listing.{refusal_line}
use Rattle.listing.specs.declared.Holding.{Holding}
use Rattle.claims.proofs.Parted.{AllFree, ended, whole_ended, last_ended}
use Rattle.claims.proofs.Slips.{refused_line, refusal_line_lem, refused_free}
use Rattle.claims.proofs.Taken.{lines_append, stays, Calm, HasRoom, OneJob, Over, listed_lines, Printable, page_free, page_length, page_either, page_taken, refusal_either, refusal_fits}

-- ---- a text that one job has printed, and what follows it

module _ (ls : List (List ℕ)) (free : AllFree newline ls) (s : Books) (t : List ℕ) where
  -- taken lines in front: the report goes on after them
  pub report_more : (u : Books) → lines_taken (at s) ls ≡ at u → report_on (at s) (ended newline ls ++ t) ≡ report_on (at u) t
  unfolding report_on
  report_more u e = rw (whole_ended ls t free, last_ended ls t free, lines_append (at s) ls (whole_lines t), e)

  -- refused lines in front: it stays refused
  pub report_over : (r : Refusal) (k : ℕ) → lines_taken (at s) ls ≡ refused_by r k → report_on (at s) (ended newline ls ++ t) ≡ refused_by r k
  unfolding report_on broken_off closed
  report_over r k e = rw (whole_ended ls t free, lines_append (at s) ls (whole_lines t), e, stays r k (whole_lines t))

-- a text is lines that are one job to the report, of up to so many names, accepted (1) or not (0), where there is room; else 9
pub record Print (t : List ℕ) (names taken : ℕ) : Type 0 where
  pub lines : List (List ℕ)
  pub free : AllFree newline lines
  pub is : t ≡ ended newline lines
  pub short : length lines ≤ 257
  pub fits : (s : Books) → HasRoom s names → OneJob s lines names taken
  pub booked : (s : Books) → Calm s → OneJob s lines names taken ⊎ Over s lines

-- a listing is one
pub listing_print : {n : ℕ} {name : ℕ → List ℕ} {h : ℕ → Holding} {names : List (List ℕ)} → Printable n name h names → n ≤ 256 → Print (ended newline (listed_lines n name h names)) n 1
listing_print {n} {name} {h} {names} p few = record {
  lines = listed_lines n name h names;
  free = page_free p;
  is = refl;
  short = omega (arith, page_length p);
  fits = λ s r. page_taken p r;
  booked = λ s c. page_either p c few;
}

-- and a refusal's line
pub refusal_print : (x : Refusal) → Print (refusal_line (number_of x)) 0 0
refusal_print x = record {
  lines = refused_line (number_of x) ∷ [];
  free = (refused_free (number_of x), tt);
  is = refusal_line_lem (number_of x);
  short = omega arith;
  fits = λ s r. refusal_fits s x r.calm r.few;
  booked = λ s c. refusal_either s x c;
}

-- ---- texts one after the other

module _ {J : Type 0} (print : J → List ℕ) (names taken : J → ℕ) where
  -- the output of each job, concatenated
  abbrev pub printed : List J → List ℕ
  printed [] = []
  printed (j ∷ js) = print j ++ printed js

  -- how many of them are accepted
  abbrev pub taken_of : List J → ℕ
  taken_of [] = 0
  taken_of (j ∷ js) = taken j + taken_of js

  -- how many names they have, each job's counted for itself
  abbrev pub names_of : List J → ℕ
  names_of [] = 0
  names_of (j ∷ js) = names j + names_of js

  -- the report has its books, with each job counted
  pub record Reported (s : Books) (js : List J) : Type 0 where
    pub after : Books
    pub is : report_on (at s) (printed js) ≡ at after
    pub jobs : after.jobs ≡ s.jobs + length js
    pub accepted : after.accepted ≡ s.accepted + taken_of js

  -- it is refused by 9
  pub record TooMany (s : Books) (js : List J) : Type 0 where
    pub line : ℕ
    pub is : report_on (at s) (printed js) ≡ refused_by OverLimit line

  -- books between two jobs
  record Begun (s : Books) : Type 0 where
    sound : Sound s
    shut : s.lines ≡ 0
    slow : s.line ≤ 257 * s.jobs + 1

  -- 200 jobs of at most 257 lines do not come near what can be added
  calm : {s : Books} → Begun s → Calm s
  calm b = let f = b.sound.few in record { sound = b.sound; shut = b.shut; early = omega (arith, b.slow) }

  -- a report begins so
  begun_opening : Begun opening
  unfolding opening
  begun_opening = record { sound = sound_opening; shut = refl; slow = omega arith }

  module _ (each : (j : J) → Print (print j) (names j) (taken j)) where
    -- with no more jobs, the report is closed as it stands
    reported_none : {s : Books} → Begun s → Reported s []
    unfolding report_on whole_lines split lines_taken broken_off closed
    reported_none {s} b = record { after = s; is = rw (eq-eqb s.lines 0 b.shut); jobs = omega arith; accepted = omega arith }

    module _ {s : Books} (b : Begun s) (j : J) (js : List J) where
      -- the next job has printed its lines ..
      abbrev p : Print (print j) (names j) (taken j)
      p = each j

      -- .. which stand in front
      front : report_on (at s) (printed (j ∷ js)) ≡ report_on (at s) (ended newline p.lines ++ printed js)
      front = ap (λ (t : List ℕ). report_on (at s) (t ++ printed js)) p.is

      -- after it the books are between two jobs again
      begun_next : (o : OneJob s p.lines (names j) (taken j)) → Begun o.after
      begun_next o = record { sound = o.sound; shut = o.lines; slow = omega (arith, o.line, o.jobs, p.short, b.slow) }

      -- and the report goes on with what follows
      next : (o : OneJob s p.lines (names j) (taken j)) → report_on (at s) (printed (j ∷ js)) ≡ report_on (at o.after) (printed js)
      next o = front ∙ report_more p.lines p.free s (printed js) o.after o.reported

      -- where 9 refuses it, 9 refuses the report
      over : Over s p.lines → TooMany s (j ∷ js)
      over o = record { line = o.line; is = front ∙ report_over p.lines p.free s (printed js) OverLimit o.line o.refused }

      -- one job more is counted
      counted : (o : OneJob s p.lines (names j) (taken j)) → Reported o.after js → Reported s (j ∷ js)
      counted o r = record { after = r.after; is = next o ∙ r.is; jobs = omega (arith, r.jobs, o.jobs); accepted = omega (arith, r.accepted, o.accepted) }

      -- however the rest is reported
      go_on : (o : OneJob s p.lines (names j) (taken j)) → Reported o.after js ⊎ TooMany o.after js → Reported s (j ∷ js) ⊎ TooMany s (j ∷ js)
      go_on o (inl r) = inl (counted o r)
      go_on o (inr q) = inr (record { line = q.line; is = next o ∙ q.is })

    -- from any books between two jobs on
    read_from : (js : List J) (s : Books) → Begun s → Reported s js ⊎ TooMany s js
    read_from [] s b = inl (reported_none b)
    read_from (j ∷ js) s b =
        ⊎_elim
        (λ o. go_on b j js o (read_from js o.after (begun_next b j js o)))
        (λ o. inr (over b j js o))
        ((each j).booked s (calm b))

    -- the report on the output of jobs, concatenated: it counts each of them, or is refused by 9, and so never by 15
    pub months_read : (js : List J) → Reported opening js ⊎ TooMany opening js
    months_read js = read_from js opening begun_opening

    -- where there is room for each, each is counted
    fit_from : (js : List J) (s : Books) → Begun s → s.jobs + length js ≤ 200 → length s.positions + names_of js ≤ 256 → Reported s js
    fit_from [] s b f n = reported_none b
    fit_from (j ∷ js) s b f n =
        let o = (each j).fits s (record { calm = calm b; few = omega arith; roomy = omega arith }) in
        counted b j js o (fit_from js o.after (begun_next b j js o) (omega (arith, o.jobs)) (omega (arith, o.names)))

    -- up to 200 jobs with up to 256 names in all are never refused
    pub months_fit : (js : List J) → length js ≤ 200 → names_of js ≤ 256 → Reported opening js
    unfolding opening
    months_fit js f n = fit_from js opening begun_opening (omega arith) (omega arith)
