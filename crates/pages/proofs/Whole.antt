-- A whole input by one call: begun, taken in one piece, ended, printed. Assumes nothing.
use Prim.Native.Nat.{ℕ, ◌+◌, ◌<◌, ◌≤◌}
use mathlib.Core.Path.{◌≡◌, sym, ap, subst, ◌∙◌}
use mathlib.Core.List.{List, [], ◌∷◌, append-nil}
use mathlib.Core.Logic.{⊎_elim}
use native.Mathlib.Omega.{arith}
use borrow.Author.Tests.{lt-ltb, le-ltb, ltb-true, ltb-false, eq-eqb, ne_eqb}
use lib.Dec.{ltb, eqb}
use lib.ListN.{length, length-replicate}
use Rattle.lent.specs.Grid.{noughts}
use Rattle.lent.proofs.Laws.{either, same_or_not}
use Rattle.refusal.specs.Table.{first, and_then, Outcome}
use Rattle.refusal.proofs.Tables.{none}
use Rattle.refusal.specs.declared.Refusal.{Refusal}
use Rattle.refusal.specs.declared.Refusal.TheVariants.{SliceLength, ShortBuffer}
use Rattle.ledger.specs.Ledger.{most_names, table_cells}
use Rattle.slips.specs.Slips.{most_line}
use Rattle.month.specs.Month.{opening, Report, at, refused_by, closed, broken_off, report_of}
use Rattle.month.specs.Calls.{books_of, standing, tally_of, progress_of}
use Rattle.month.proofs.Totals.{report_totals}
use Rattle.month.proofs.Steps.{go_on_at}
use Rattle.cutting.specs.Cutting.{Stream, dry, gathered}
use Rattle.cutting.specs.Calls.{feed_lines, feed_report, streaming, rested_by, fed_by, pieces_fed, feed_of, ended_by, FeedBegun, TookBytes, FeedEnded}
use Rattle.cutting.specs.declared.Feed.{Feed}
use Rattle.cutting.proofs.Streams.{bytes_refused}
use Rattle.cutting.proofs.Begun.{dry_again, ended_again}
use Rattle.cutting.proofs.Fed.{fed_anywhere}
use Rattle.lent.specs.Lent.{laid}
use Rattle.listing.specs.Listing.{listed_as, ListingMade}
use Rattle.pages.specs.Pages.{page_in, report_says, names_in, page_lines, end_outcome, ReportEnded, report_lines, report_outcome, TextReported}
use Rattle.std.specs.Prelude.{Ok, Err}
use Rattle.listing.specs.Outcomes.{Listed}
use Rattle.month.specs.Outcomes.{Progress, fault}

-- ---- the input in one piece

fed_whole : (text : List ℕ) → closed (broken_off (fed_by dry text).report (fed_by dry text).held) ≡ report_of text
unfolding pieces_fed gathered
fed_whole text = fed_anywhere (text ∷ []) ∙ ap report_of (append-nil text)

-- ---- what the end says, where table and buffer are what they should be, and where not

module _ (text : List ℕ) (cells longest room : ℕ) where
  no_table : (cells ≡ table_cells → ⊥) → report_outcome text cells longest room ≡ Err SliceLength
  unfolding report_outcome report_lines first and_then
  no_table n = rw (ne_eqb cells table_cells n)

  no_room : cells ≡ table_cells → longest ≤ most_line → report_outcome text cells longest room ≡ Err ShortBuffer
  unfolding report_outcome report_lines first and_then
  no_room e h = rw (eq-eqb cells table_cells e, lt-ltb longest (most_line + 1) (omega arith)) (⊎_elim (λ t. rw t) (λ t. rw t) (either (ltb room 32768)))

  -- the same words as the end of a report that has its table
  in_room : (p : Progress) (t : List ℕ) → names_in p ≤ most_names → length t ≡ cells → cells ≡ table_cells → most_line < longest → closed (standing p t) ≡ report_of text → end_outcome p t room ≡ report_outcome text cells longest room
  unfolding end_outcome page_lines report_outcome report_lines first and_then
  in_room p t n l e h q =
      rw (q, l, le-ltb most_names (names_in p) n, eq-eqb cells table_cells e, le-ltb longest (most_line + 1) (omega arith)) (⊎_elim (λ b. rw b) (λ b. rw b) (either (ltb room 32768)))

-- a report that was refused from its first byte on: 10 for the table, else what it was refused by, where that is 11
module _ (t : List ℕ) (room k : ℕ) where
  end_no_table : (length t ≡ table_cells → ⊥) → end_outcome (Err (fault SliceLength k)) t room ≡ Err SliceLength
  unfolding end_outcome page_lines names_in first and_then
  end_no_table n = rw (ne_eqb (length t) table_cells n)

  end_no_room : length t ≡ table_cells → end_outcome (Err (fault ShortBuffer k)) t room ≡ Err ShortBuffer
  unfolding end_outcome page_lines names_in first and_then standing closed report_says
  end_no_room e = rw (eq-eqb (length t) table_cells e) (⊎_elim (λ b. rw b) (λ b. rw b) (either (ltb room 32768)))

-- a refused call's promise does not speak of what it would have written
refused_alike : (x : Refusal) (o o' : Outcome) (s s' : List ℕ) (room : ℕ) {r : Listed} {page : List ℕ} → o ≡ Err x → o' ≡ Err x → ListingMade o s room r page → ListingMade o' s' room r page
unfolding listed_as laid
refused_alike x o o' s s' room {r} {page} e f m =
    let q : ListingMade (Err x) s room r page = subst (λ (z : Outcome). ListingMade z s room r page) e m in
    subst (λ (z : Outcome). ListingMade z s' room r page) (sym f) (record { answer = q.answer; bytes_are = q.bytes_are; within = q.within; told = q.told })

-- ---- the counts after the piece

fits : (names n cells room : ℕ) → first (feed_lines names n cells room) ≡ Ok tt → names ≤ most_names
unfolding feed_lines
fits names n cells room d = ltb-false most_names names (none (feed_lines names n cells room) d).0

-- counts that stand for their report have no more names than a table
names_few : (R : Report) (n : ℕ) (t : List ℕ) (room : ℕ) → feed_report (progress_of R) n t room ≡ R → names_in (ended_by (progress_of R) n) ≤ most_names
unfolding feed_report progress_of ended_by names_in
names_few (refused_by r k) n t room e = omega arith
names_few (at s) n t room e =
    let y = tally_of s in
    let d = (go_on_at (first (feed_lines y.names n (length t) room)) y.line (books_of y t) s e).0 in
    let f : y.names ≤ most_names = fits y.names n (length t) room d in
    ⊎_elim (λ b. rw b f) (λ b. rw b (omega arith)) (either (eqb n 0))

-- a stream that was refused from its first byte on stays so
fed_refused : (S : Stream) (x : Refusal) (k : ℕ) (s : List ℕ) → S.report ≡ refused_by x k → (feed_of (fed_by S s)).progress ≡ Err (fault x k)
unfolding fed_by rested_by feed_of progress_of
fed_refused S x k s e = rw (bytes_refused s S x k e)

-- ---- the whole call

-- counts of a report on nothing, and no byte held
abbrev none_fed : Feed
none_fed = record { progress = Ok (tally_of opening); held = 0 }

module _ (text t h : List ℕ) (room : ℕ) (f : Feed) (t₂ h₂ : List ℕ) (p : Progress)
    (took : TookBytes (noughts (length t)) (noughts (length h)) none_fed text f t₂ h₂) (ended : p ≡ ended_by f.progress f.held) (same : length t₂ ≡ length t) where
  -- the stream that the piece is taken into
  abbrev begun : Stream
  begun = streaming none_fed (noughts (length t)) (noughts (length h))

  -- refused before the first byte
  refused_first : (x : Refusal) → begun.report ≡ refused_by x 1 → p ≡ Err (fault x 1)
  unfolding ended_by
  refused_first x e =
      let a : f.progress ≡ Err (fault x 1) = ap (λ (g : Feed). g.progress) took.answer ∙ fed_refused begun x 1 text e in
      ended ∙ rw a

  begun_no_table : (length t ≡ table_cells → ⊥) → begun.report ≡ refused_by SliceLength 1
  unfolding streaming feed_report feed_lines first tally_of opening
  begun_no_table n = rw (length-replicate {A = ℕ} (length t) 0, ne_eqb (length t) table_cells n)

  begun_no_room : length t ≡ table_cells → length h ≤ most_line → begun.report ≡ refused_by ShortBuffer 1
  unfolding streaming feed_report feed_lines first tally_of opening
  begun_no_room e l = rw (length-replicate {A = ℕ} (length t) 0, length-replicate {A = ℕ} (length h) 0, eq-eqb (length t) table_cells e, lt-ltb (length h) (most_line + 1) (omega arith))

  module _ {r : Listed} {page : List ℕ} (made : ListingMade (end_outcome p t₂ room) (page_in (closed (standing p t₂))) room r page) where
    made_no_table : (length t ≡ table_cells → ⊥) → ListingMade (report_outcome text (length t) (length h) room) (page_in (report_of text)) room r page
    made_no_table n =
        refused_alike SliceLength (end_outcome p t₂ room) (report_outcome text (length t) (length h) room) (page_in (closed (standing p t₂))) (page_in (report_of text)) room
        (ap (λ (q : Progress). end_outcome q t₂ room) (refused_first SliceLength (begun_no_table n)) ∙ end_no_table t₂ room 1 (λ e. n (sym same ∙ e)))
        (no_table text (length t) (length h) room n) made

    made_no_room : length t ≡ table_cells → length h ≤ most_line → ListingMade (report_outcome text (length t) (length h) room) (page_in (report_of text)) room r page
    made_no_room e l =
        refused_alike ShortBuffer (end_outcome p t₂ room) (report_outcome text (length t) (length h) room) (page_in (closed (standing p t₂))) (page_in (report_of text)) room
        (ap (λ (q : Progress). end_outcome q t₂ room) (refused_first ShortBuffer (begun_no_room e l)) ∙ end_no_room t₂ room 1 (same ∙ e))
        (no_room text (length t) (length h) room e l) made

    -- begun as it should be: what the end says of the counts is what the report says of the text
    module _ (e : length t ≡ table_cells) (l : most_line < length h) (whole : begun ≡ dry) (stood : standing p t₂ ≡ broken_off (fed_by dry text).report (fed_by dry text).held) where
      closed_whole : closed (standing p t₂) ≡ report_of text
      closed_whole = ap closed stood ∙ fed_whole text

      few_names : names_in p ≤ most_names
      unfolding feed_of streaming
      few_names =
          let R = (fed_by begun text).report in
          let a : f.progress ≡ progress_of R = ap (λ (g : Feed). g.progress) took.answer in
          let b : feed_report f.progress f.held t₂ (length h₂) ≡ R = ap (λ (S : Stream). S.report) took.stands in
          subst (λ (q : Progress). names_in q ≤ most_names) (sym (ended ∙ ap (λ (q : Progress). ended_by q f.held) a))
          (names_few R f.held t₂ (length h₂) (ap (λ (q : Progress). feed_report q f.held t₂ (length h₂)) (sym a) ∙ b))

      made_whole : ListingMade (report_outcome text (length t) (length h) room) (page_in (report_of text)) room r page
      made_whole =
          subst (λ (o : Outcome). ListingMade o (page_in (report_of text)) room r page) (in_room text (length t) (length h) room p t₂ few_names same e l closed_whole)
          (subst (λ (R : Report). ListingMade (end_outcome p t₂ room) (page_in R) room r page) closed_whole made)

    -- table and room as they are
    whole_made : ListingMade (report_outcome text (length t) (length h) room) (page_in (report_of text)) room r page
    whole_made =
        ⊎_elim
        (λ e. ⊎_elim
        (λ b. let l = ltb-true most_line (length h) b in let w = dry_again t h e l in
        made_whole e l w
        (ap (λ (q : Progress). standing q t₂) ended
        ∙ ended_again f t₂ h₂ (fed_by dry text) (took.answer ∙ ap (λ (S : Stream). feed_of (fed_by S text)) w) (took.stands ∙ ap (λ (S : Stream). fed_by S text) w)))
        (λ b. made_no_room e (ltb-false most_line (length h) b))
        (either (ltb most_line (length h))))
        made_no_table
        (same_or_not (length t) table_cells)

-- begun, taken, ended and printed, as the calls say it
pub text_reported : (text t h : List ℕ) (room : ℕ) {b : Feed} {t₁ h₁ : List ℕ} {f : Feed} {t₂ h₂ : List ℕ} {p : Progress} {h₃ : List ℕ} {r : Listed} {t₄ page : List ℕ}
    → FeedBegun t h b t₁ h₁ → TookBytes t₁ h₁ b text f t₂ h₂ → FeedEnded h₂ f p h₃ → ReportEnded t₂ p room r t₄ page → length t₂ ≡ length t → length h₂ ≡ length h
    → TextReported text t h room r t₄ h₃ page
text_reported text t h room {b} {t₁} {h₁} {f} {t₂} {h₂} {p} {h₃} {r} {t₄} {page} g k d m e l =
    let took : TookBytes (noughts (length t)) (noughts (length h)) none_fed text f t₂ h₂ =
    subst (λ (z : Feed). TookBytes (noughts (length t)) (noughts (length h)) z text f t₂ h₂) g.answer
    (subst (λ (z : List ℕ). TookBytes (noughts (length t)) z b text f t₂ h₂) g.held_is (subst (λ (z : List ℕ). TookBytes z h₁ b text f t₂ h₂) g.table_is k)) in
    record {
      made = whole_made text t h room f t₂ h₂ p took d.answer e m.made;
      table_is = m.table_is ∙ ap noughts e;
      held_is = d.held_is ∙ ap noughts l;
      adds_up = λ s q. (report_totals text s q).0;
    }
