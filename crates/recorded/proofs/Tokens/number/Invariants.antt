-- What the loop of `recorded::Tokens::number` keeps true, and what falls. Assumes nothing.
use Rattle.std.proofs.Common.{◌≡◌, ◌-◌, length, drop}
use Rattle.recorded.specs.Tokens.{token_value, token_end}
use Rattle.recorded.proofs.Tokens.number.Given as goal

abbrev pub invariant-loop-self : goal.invariant-loop-self
invariant-loop-self l = record {
  same_text : l.self.text.now ≡ l.fn.self.text.now;
  value : token_value (drop l.self.at l.fn.self.text.now) l.w ≡ token_value (drop l.fn.self.at l.fn.self.text.now) 0;
  ends : token_end (drop l.self.at l.fn.self.text.now) l.self.at ≡ token_end (drop l.fn.self.at l.fn.self.text.now) l.fn.self.at;
}

abbrev pub decreases-loop-self : goal.decreases-loop-self
decreases-loop-self l = length l.self.text.now - l.self.at
