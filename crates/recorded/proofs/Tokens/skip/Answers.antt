-- `recorded::Tokens::skip` meets its contract. Assumes nothing.
use Rattle.recorded.proofs.Laws.{start_here, start_on, start_none}
use Rattle.recorded.proofs.Tokens.skip.Goals as goal

pub loop-self-preserved : goal.loop-self-preserved
loop-self-preserved c = let s = c.loop-self.invariant.same_text in record {
  same_text = s;
  begins = start_on _ _ _ (rw s at c.loop-self-test.true) (rw s at c.if-self-le32.true) c.loop-self.invariant.begins;
}

pub returns-else-self-le32-clause-at_after : goal.returns-else-self-le32-clause-at_after
returns-else-self-le32-clause-at_after c = let s = c.loop-self.invariant.same_text in
    start_here _ _ _ (rw s at c.loop-self-test.true) (rw s at c.if-self-le32.false) c.loop-self.invariant.begins

pub returns-after-loop-self-clause-at_after : goal.returns-after-loop-self-clause-at_after
returns-after-loop-self-clause-at_after c = start_none _ _ _ (rw c.loop-self.invariant.same_text at c.loop-self-test.false) c.loop-self.invariant.begins
