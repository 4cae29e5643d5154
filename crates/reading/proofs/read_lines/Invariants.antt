-- What the loop of `reading::read_lines` keeps true. Assumes nothing.
use Rattle.reading.proofs.Lines.{Lined}
use Rattle.reading.proofs.read_lines.Given as goal

abbrev pub invariant-loop-i : goal.invariant-loop-i
invariant-loop-i l = Lined l.text l.before l.rows l.n l.w l.initial.cells l.initial.starts l.i l.at l.cells l.starts
