-- `recorded::Tokens::expected` meets its contract. Assumes nothing.
use Rattle.recorded.proofs.Laws.{flag_read, token_second}
use Rattle.recorded.proofs.Tokens.expected.Goals as goal

pub returns-clause-given_value : goal.returns-clause-given_value
returns-clause-given_value c = flag_read _ _ _ c.next-given.ensures.value

pub returns-clause-len_value : goal.returns-clause-len_value
returns-clause-len_value c = token_second _ _ _ _ c.next-given.ensures.at_after (rw c.next-given.ensures.same_text at c.fill_from-len.ensures.value)
