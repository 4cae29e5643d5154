-- A report begun stands for nothing read, and an input that ends is broken off by what is held. Assumes nothing.
use Prim.Native.Nat.{ℕ, ◌<◌}
use mathlib.Core.Path.{◌≡◌, refl, sym, ap, ◌∙◌}
use mathlib.Core.List.{List, [], ◌∷◌}
use native.Mathlib.Omega.{arith}
use borrow.Author.Tests.{ne_eqb}
use lib.ListN.{length, length-replicate}
use Rattle.lent.specs.Grid.{noughts}
use Rattle.refusal.specs.Table.{first}
use Rattle.ledger.specs.Ledger.{first_ones}
use Rattle.month.specs.Month.{Books, opening, Report, at, refused_by, broken_off}
use Rattle.month.specs.Calls.{books_of, standing, tally_of, progress_of}
use Rattle.month.specs.declared.Tally.{Tally}
use Rattle.month.proofs.Steps.{go_on_at}
use Rattle.cutting.specs.Cutting.{Stream, dry}
use Rattle.cutting.specs.Calls.{feed_lines, feed_report, streaming, feed_of, ended_by}
use Rattle.cutting.specs.declared.Feed.{Feed}
use Rattle.cutting.proofs.Steps.{feed_done, stands_at, again}
use Rattle.std.specs.Prelude.{Ok}
use Rattle.month.specs.Outcomes.{Progress}

stands_opening : (t : List ℕ) → length t ≡ 1792 → standing (Ok (tally_of opening)) t ≡ at opening
unfolding tally_of books_of first_ones opening
stands_opening t e = stands_at (tally_of opening) t e (omega arith)

pub dry_again : (t h : List ℕ) → length t ≡ 1792 → 4357 < length h → streaming (record { progress = Ok (tally_of opening); held = 0 }) (noughts (length t)) (noughts (length h)) ≡ dry
unfolding dry
dry_again t h e g =
    again (tally_of opening) 0 (noughts (length t)) (noughts (length h)) [] opening (stands_opening (noughts (length t)) (length-replicate {A = ℕ} (length t) 0 ∙ e)) (omega arith)
    (omega (arith, length-replicate {A = ℕ} (length h) 0)) refl

pub dry_counts : record { progress = Ok (tally_of opening); held = 0 } ≡ feed_of dry
unfolding feed_of dry progress_of
dry_counts = refl

-- ---- the input's end

stands_again : (y : Tally) (n : ℕ) (t : List ℕ) (room : ℕ) (s : Books) → feed_report (Ok y) n t room ≡ at s → standing (Ok y) t ≡ at s
unfolding feed_report
stands_again y n t room s e =
    let q = go_on_at (first (feed_lines y.names n (length t) room)) y.line (books_of y t) s e in
    let d = feed_done y.names n (length t) room q.0 in
    stands_at y t d.2 d.0 ∙ ap at q.1

ended_by_lem : (R : Report) (w : List ℕ) (p : Progress) (n : ℕ) (t : List ℕ) (room : ℕ) → p ≡ progress_of R → n ≡ length w → feed_report p n t room ≡ R → standing (ended_by p n) t ≡ broken_off R w
unfolding progress_of broken_off ended_by tally_of standing
ended_by_lem (refused_by q k) w p n t room e f g = rw e
ended_by_lem (at s) [] p n t room e f g = rw (e, f) (stands_again (tally_of s) n t room s (ap (λ (z : Progress). feed_report z n t room) (sym e) ∙ g))
ended_by_lem (at s) (b ∷ w) p n t room e f g = rw (e, ne_eqb n 0 (λ z. omega (arith, f, z)))

pub ended_again : (f : Feed) (t h : List ℕ) (S : Stream) → f ≡ feed_of S → streaming f t h ≡ S → standing (ended_by f.progress f.held) t ≡ broken_off S.report S.held
unfolding feed_of streaming
ended_again f t h S e g =
    ended_by_lem S.report S.held f.progress f.held t (length h) (ap (λ (z : Feed). z.progress) e) (ap (λ (z : Feed). z.held) e) (ap (λ (z : Stream). z.report) g)
