-- What the loop of `recorded::Tokens::skip` keeps true, and what falls. Assumes nothing.
use Rattle.std.proofs.Common.{◌≡◌, ◌-◌, length, drop}
use Rattle.recorded.specs.Tokens.{token_start}
use Rattle.recorded.proofs.Tokens.skip.Given as goal

abbrev pub invariant-loop-self : goal.invariant-loop-self
invariant-loop-self l = record {
  same_text : l.self.text.now ≡ l.fn.self.text.now;
  begins : token_start (drop l.self.at l.fn.self.text.now) l.self.at ≡ token_start (drop l.fn.self.at l.fn.self.text.now) l.fn.self.at;
}

abbrev pub decreases-loop-self : goal.decreases-loop-self
decreases-loop-self l = length l.self.text.now - l.self.at
