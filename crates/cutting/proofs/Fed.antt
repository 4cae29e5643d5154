-- Pieces fed to the call one after another, wherever the input is cut, give the report of the whole text. Assumes nothing.
use Prim.Native.Nat.{ℕ}
use mathlib.Core.Path.{◌≡◌, refl, sym, ap, ◌∙◌}
use mathlib.Core.List.{List, [], ◌∷◌}
use Rattle.month.specs.Month.{Report, at, refused_by, broken_off, closed, report_of}
use Rattle.cutting.specs.Cutting.{Stream, dry, bytes_taken, pieces_taken, gathered}
use Rattle.cutting.specs.Calls.{rested_by, fed_by, pieces_fed}
use Rattle.cutting.proofs.Streams.{told, told_refused, pieces_joined, cut_anywhere}

-- what is dropped once the report is refused changes nothing
rested_told : (r : Report) (w s : List ℕ) → told (bytes_taken (rested_by r w) s) ≡ told (bytes_taken (record { report = r; held = w }) s)
unfolding rested_by
rested_told (at s) w t = refl
rested_told (refused_by r k) w t = told_refused t (record { report = refused_by r k; held = [] }) r k refl ∙ sym (told_refused t (record { report = refused_by r k; held = w }) r k refl)

fed_told : (f : Stream) (s t : List ℕ) → told (bytes_taken (fed_by f s) t) ≡ told (bytes_taken (bytes_taken f s) t)
unfolding fed_by
fed_told f s t = rested_told (bytes_taken f s).report (bytes_taken f s).held t

pieces_told : (ss : List (List ℕ)) (f : Stream) → told (pieces_fed f ss) ≡ told (pieces_taken f ss)
unfolding pieces_fed pieces_taken
pieces_told [] f = refl
pieces_told (s ∷ ss) f =
    pieces_told ss (fed_by f s)
    ∙ ap told (pieces_joined (fed_by f s) ss)
    ∙ fed_told f s (gathered ss)
    ∙ ap told (sym (pieces_joined (bytes_taken f s) ss))

pub fed_anywhere : (ss : List (List ℕ)) → closed (broken_off (pieces_fed dry ss).report (pieces_fed dry ss).held) ≡ report_of (gathered ss)
unfolding told
fed_anywhere ss = pieces_told ss dry ∙ cut_anywhere ss
