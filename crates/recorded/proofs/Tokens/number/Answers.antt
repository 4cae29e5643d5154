-- `recorded::Tokens::number` meets its contract. Assumes nothing.
use Rattle.recorded.proofs.Laws.{value_here, value_on, value_none, end_here, end_on, end_none}
use Rattle.recorded.proofs.Tokens.number.Goals as goal

pub loop-self-preserved : goal.loop-self-preserved
loop-self-preserved c =
    let s = c.loop-self.invariant.same_text in
    let h = rw s at c.loop-self-test.true in
    let g = rw s at c.if-self-gt32.true in
    record {
      same_text = s;
      value = value_on _ _ _ _ _ h g (rw s at c.worth.ensures.value) c.loop-self.invariant.value;
      ends = end_on _ _ _ h g c.loop-self.invariant.ends;
    }

pub returns-else-self-gt32-clause-value : goal.returns-else-self-gt32-clause-value
returns-else-self-gt32-clause-value c = let s = c.loop-self.invariant.same_text in
    value_here _ _ _ _ (rw s at c.loop-self-test.true) (rw s at c.if-self-gt32.false) c.loop-self.invariant.value

pub returns-else-self-gt32-clause-at_after : goal.returns-else-self-gt32-clause-at_after
returns-else-self-gt32-clause-at_after c = let s = c.loop-self.invariant.same_text in
    end_here _ _ _ (rw s at c.loop-self-test.true) (rw s at c.if-self-gt32.false) c.loop-self.invariant.ends

pub returns-after-loop-self-clause-value : goal.returns-after-loop-self-clause-value
returns-after-loop-self-clause-value c = value_none _ _ _ _ (rw c.loop-self.invariant.same_text at c.loop-self-test.false) c.loop-self.invariant.value

pub returns-after-loop-self-clause-at_after : goal.returns-after-loop-self-clause-at_after
returns-after-loop-self-clause-at_after c = end_none _ _ _ (rw c.loop-self.invariant.same_text at c.loop-self-test.false) c.loop-self.invariant.ends
