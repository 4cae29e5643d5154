-- The input taken byte by byte, however it is cut into pieces, gives the report of the whole text. Assumes nothing.
use Prim.Native.Nat.{ℕ, suc, ◌-◌, ◌<◌, ◌≤◌}
use mathlib.Core.Path.{◌≡◌, refl, sym, ap, ◌∙◌}
use mathlib.Core.Bool.{true, false}
use mathlib.Core.List.{List, [], ◌∷◌, ◌++◌, append-nil}
use mathlib.Core.Logic.{⊎_elim}
use native.Mathlib.Omega.{arith}
use borrow.Author.Tests.{ltb-false, ltb-true, eq-eqb, ne_eqb}
use lib.Dec.{ltb}
use lib.ListN.{length, length-append}
use lib.Seq.{append_snoc}
use Rattle.refusal.specs.Table.{first}
use Rattle.refusal.specs.declared.Refusal.{Refusal}
use Rattle.refusal.specs.declared.Refusal.TheVariants.{MalformedText}
use Rattle.lent.proofs.Laws.{either, same_or_not}
use Rattle.fields.specs.Split.{newline, onto, split}
use Rattle.fields.proofs.Pieces.{pieces}
use Rattle.slips.specs.Slips.{most_line}
use Rattle.slips.proofs.Meaning.{long_other}
use Rattle.month.specs.Month.{Books, slip_lines, Report, at, refused_by, book_line, line_taken, lines_taken, broken_off, closed, whole_lines, report_on, report_of}
use Rattle.cutting.specs.Cutting.{Stream, dry, byte_taken, bytes_taken, pieces_taken, gathered}

-- ---- one piece after another

pub bytes_append : (f : Stream) (a b : List ℕ) → bytes_taken f (a ++ b) ≡ bytes_taken (bytes_taken f a) b
unfolding bytes_taken
bytes_append f [] b = refl
bytes_append f (x ∷ a) b = bytes_append (byte_taken f x) a b

pub pieces_joined : (f : Stream) (ss : List (List ℕ)) → pieces_taken f ss ≡ bytes_taken f (gathered ss)
unfolding bytes_taken pieces_taken gathered
pieces_joined f [] = refl
pieces_joined f (s ∷ ss) = pieces_joined (bytes_taken f s) ss ∙ sym (bytes_append f s (gathered ss))

-- ---- a text whose first line is known

-- bytes within a line
abbrev Plain : List ℕ → Type 0
Plain [] = Unit
Plain (b ∷ h) = (b ≡ newline → ⊥) × Plain h

plain_more : (h : List ℕ) (b : ℕ) → Plain h → (b ≡ newline → ⊥) → Plain (h ++ (b ∷ []))
plain_more [] b p n = (n, tt)
plain_more (x ∷ h) b p n = (p.0, plain_more h b p.1 n)

split_line : (h s : List ℕ) → Plain h → split newline (h ++ newline ∷ s) ≡ h ∷ split newline s
unfolding split onto
split_line [] s p = refl
split_line (b ∷ h) s p = rw (ne_eqb b newline p.0) (ap (onto b) (split_line h s p.1))

split_plain : (h : List ℕ) → Plain h → split newline h ≡ h ∷ []
unfolding split onto
split_plain [] p = refl
split_plain (b ∷ h) p = rw (ne_eqb b newline p.0) (ap (onto b) (split_plain h p.1))

-- the first line is taken, then the others
report_line : (r : Report) (h s : List ℕ) → Plain h → report_on r (h ++ newline ∷ s) ≡ report_on (line_taken r h) s
unfolding report_on whole_lines lines_taken
report_line r h s p =
    let e : suc (length (split newline s)) - 1 ≡ suc (length (split newline s) - 1) = omega (arith, pieces newline s) in
    rw (split_line h s p, e)

-- a line that has no end
report_rest : (r : Report) (h : List ℕ) → Plain h → report_on r h ≡ closed (broken_off r h)
unfolding report_on whole_lines lines_taken
report_rest r h p = rw (split_plain h p)

-- ---- a refusal stays

unfoldable pub told : Stream → Report
told f = closed (broken_off f.report f.held)

lines_refused : (x : Refusal) (k : ℕ) (ls : List (List ℕ)) → lines_taken (refused_by x k) ls ≡ refused_by x k
unfolding lines_taken
lines_refused x k [] = refl
lines_refused x k (l ∷ ls) = lines_refused x k ls

report_refused : (x : Refusal) (k : ℕ) (s : List ℕ) → report_on (refused_by x k) s ≡ refused_by x k
unfolding report_on broken_off closed
report_refused x k s = rw (lines_refused x k (whole_lines s))

-- ---- one byte

pub byte_end : (f : Stream) (b : ℕ) → b ≡ newline → byte_taken f b ≡ record { report = line_taken f.report f.held; held = [] }
unfolding byte_taken
byte_end f b e = rw (eq-eqb b newline e)

pub byte_kept : (f : Stream) (b : ℕ) → (b ≡ newline → ⊥) → ltb (length f.held) most_line ≡ true → byte_taken f b ≡ record { report = f.report; held = f.held ++ (b ∷ []) }
unfolding byte_taken
byte_kept f b n t = rw (ne_eqb b newline n, t)

pub byte_over : (f : Stream) (b : ℕ) → (b ≡ newline → ⊥) → ltb (length f.held) most_line ≡ false → byte_taken f b ≡ record { report = line_taken f.report (f.held ++ (b ∷ [])); held = [] }
unfolding byte_taken
byte_over f b n t = rw (ne_eqb b newline n, t)

-- a refused stream stays refused
byte_refused : (f : Stream) (x : Refusal) (k b : ℕ) → f.report ≡ refused_by x k → (byte_taken f b).report ≡ refused_by x k
byte_refused f x k b e =
    ⊎_elim
    (λ z. rw (byte_end f b z, e))
    (λ n. ⊎_elim (λ t. rw (byte_kept f b n t, e)) (λ t. rw (byte_over f b n t, e)) (either (ltb (length f.held) most_line)))
    (same_or_not b newline)

pub bytes_refused : (s : List ℕ) (f : Stream) (x : Refusal) (k : ℕ) → f.report ≡ refused_by x k → (bytes_taken f s).report ≡ refused_by x k
unfolding bytes_taken
bytes_refused [] f x k e = e
bytes_refused (b ∷ s) f x k e = bytes_refused s (byte_taken f b) x k (byte_refused f x k b e)

pub told_refused : (s : List ℕ) (f : Stream) (x : Refusal) (k : ℕ) → f.report ≡ refused_by x k → told (bytes_taken f s) ≡ refused_by x k
unfolding told broken_off closed
told_refused s f x k e = rw (bytes_refused s f x k e)

-- ---- a line longer than any can be

long_line : (s : Books) (h : List ℕ) → most_line < length h → book_line s h ≡ refused_by MalformedText s.line
unfolding book_line slip_lines first
long_line s h p = rw (long_other h p)

long_text : (s : Books) (t h : List ℕ) → Plain h → most_line < length h → report_on (at s) (h ++ t) ≡ refused_by MalformedText s.line
unfolding broken_off closed
long_text s [] [] p l = absurd (omega arith)
long_text s [] (x ∷ h) p l = rw append-nil (report_rest (at s) (x ∷ h) p)
long_text s (b ∷ t) h p l =
    ⊎_elim
    (λ e. ap (λ (c : ℕ). report_on (at s) (h ++ c ∷ t)) e ∙ report_line (at s) h t p ∙ ap (λ (r : Report). report_on r t) (long_line s h l) ∙ report_refused MalformedText s.line t)
    (λ n. ap (report_on (at s)) (sym (append_snoc h b t)) ∙ long_text s t (h ++ (b ∷ [])) (plain_more h b p n) (omega (arith, length-append h (b ∷ []))))
    (same_or_not b newline)

-- ---- a stream

stream_report : (s : List ℕ) (f : Stream) → Plain f.held → length f.held ≤ most_line → told (bytes_taken f s) ≡ report_on f.report (f.held ++ s)
unfolding told bytes_taken
stream_report [] f p l = rw append-nil (sym (report_rest f.report f.held p))
stream_report (b ∷ s) f p l =
    ⊎_elim
    (λ e.
    ap (λ (g : Stream). told (bytes_taken g s)) (byte_end f b e)
    ∙ stream_report s (record { report = line_taken f.report f.held; held = [] }) tt (omega arith)
    ∙ sym (report_line f.report f.held s p)
    ∙ ap (λ (c : ℕ). report_on f.report (f.held ++ c ∷ s)) (sym e))
    (λ n.
    ⊎_elim
    (λ t.
    ap (λ (g : Stream). told (bytes_taken g s)) (byte_kept f b n t)
    ∙ stream_report s (record { report = f.report; held = f.held ++ (b ∷ []) }) (plain_more f.held b p n) (omega (arith, ltb-true (length f.held) most_line t, length-append f.held (b ∷ [])))
    ∙ ap (report_on f.report) (append_snoc f.held b s))
    (λ t.
    ap (λ (g : Stream). told (bytes_taken g s)) (byte_over f b n t)
    ∙ over s f.report (f.held ++ (b ∷ [])) (plain_more f.held b p n) (omega (arith, ltb-false (length f.held) most_line t, length-append f.held (b ∷ [])))
    ∙ ap (report_on f.report) (append_snoc f.held b s))
    (either (ltb (length f.held) most_line)))
    (same_or_not b newline)
  where
    over : (s : List ℕ) (r : Report) (h : List ℕ) → Plain h → most_line < length h → told (bytes_taken (record { report = line_taken r h; held = [] }) s) ≡ report_on r (h ++ s)
    over s (at u) h p l = told_refused s (record { report = book_line u h; held = [] }) MalformedText u.line (long_line u h l) ∙ sym (long_text u s h p l)
    over s (refused_by x k) h p l = told_refused s (record { report = refused_by x k; held = [] }) x k refl ∙ sym (report_refused x k (h ++ s))

-- the bytes of a text, taken one after another, give its report ..
pub text_taken : (text : List ℕ) → closed (broken_off (bytes_taken dry text).report (bytes_taken dry text).held) ≡ report_of text
unfolding dry report_of told
text_taken text = stream_report text dry tt (omega arith)

-- .. however they are cut into pieces
pub cut_anywhere : (ss : List (List ℕ)) → closed (broken_off (pieces_taken dry ss).report (pieces_taken dry ss).held) ≡ report_of (gathered ss)
cut_anywhere ss = rw (pieces_joined dry ss) (text_taken (gathered ss))
