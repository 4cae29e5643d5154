-- What the loop of `recorded::Tokens::fill` keeps true. Assumes nothing.
use Rattle.std.proofs.Common.{◌≡◌, ◌≤◌, length}
use Rattle.lent.specs.Grid.{tab, over}
use Rattle.recorded.specs.Tokens.{place_after, token_at}
use Rattle.recorded.proofs.Tokens.fill.Given as goal

abbrev pub invariant-loop-i : goal.invariant-loop-i
invariant-loop-i g l = record {
  in_range : l.i ≤ l.i-end;
  same_length : length l.list ≡ length l.fn.list;
  same_text : l.self.text.now ≡ l.fn.self.text.now;
  at_here : l.self.at ≡ place_after l.fn.self.text.now l.fn.self.at l.i;
  filled : l.list ≡ over (tab l.i (λ k. g.T.Entry.of_token (token_at l.fn.self.text.now l.fn.self.at k))) l.fn.list;
}
