-- `foreign::tell` meets its contract. Assumes nothing.
use mathlib.Core.Path.{sym, ap, ◌∙◌}
use Rattle.foreign.proofs.Stages.{number_in}
use Rattle.foreign.proofs.Judges.{tell_done, tell_short, tell_put}
use native.Mathlib.Omega.{arith}
use Rattle.foreign.proofs.tell.Goals as goal

pub returns-in_default : goal.returns-in_default
returns-in_default c = record {
  value = sym (ap number_in c.in_default.is);
  asked_after = tell_done _ _ _ c.clear.ensures c.in_default.is;
}

pub returns-then-asked-lt2 : goal.returns-then-asked-lt2
returns-then-asked-lt2 c = record {
  value = c.number.ensures ∙ sym (ap number_in c.in-Err.is);
  asked_after = tell_short _ _ _ c.clear.ensures c.if-asked-lt2.true;
}

pub returns : goal.returns
returns c = record {
  value = c.number-2.ensures ∙ sym (ap number_in c.in-Err.is);
  asked_after = tell_put _ _ _ c.clear.ensures (omega (arith, c.if-asked-lt2.false)) _ c.in-Err.is _ _ c.requested.ensures c.assets.ensures;
}
