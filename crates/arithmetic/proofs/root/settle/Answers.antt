-- `arithmetic::root::settle` meets its contract. Assumes nothing.
use Rattle.std.proofs.Common.{ℕ, ◌+◌, ◌-◌, ◌*◌, ◌%◌, ◌^◌, ◌<◌, ◌≡◌, refl, arith}
use Rattle.arithmetic.proofs.root.Laws.{parts, left_over, lower_twice}
use Rattle.arithmetic.proofs.root.settle.Goals as goal

pub overflow_mul-c : goal.overflow_mul-c
overflow_mul-c c = omega (arith, parts c.args.q c.requires.3)

pub overflow_mul-d : goal.overflow_mul-d
overflow_mul-d c = omega (arith, parts c.args.q c.requires.3)

pub overflow_mul-t : goal.overflow_mul-t
overflow_mul-t c = omega (arith, parts c.args.q c.requires.3)

pub overflow_add-t : goal.overflow_add-t
overflow_add-t c = omega (arith, parts c.args.q c.requires.3)

-- what is subtracted modulo 2^64 and added again
back : (a m : ℕ) → a < 2 ^ 64 → m < 2 ^ 64 → ((a + (2 ^ 64 - m)) % 2 ^ 64 + m) % 2 ^ 64 ≡ a
back a m h g = omega arith

-- what the last of the three sums is, where it is small: `left_over`, at the values here
pub returns-then-t-q : goal.returns-then-t-q
returns-then-t-q c =
    c.lowered.ensures (c.args.m * 2 ^ 52)
    (left_over c.args.m c.args.q _ _ _ (omega arith) c.requires.3 (back _ c.args.m (omega (arith, parts c.args.q c.requires.3)) (omega arith)) c.if-c-lt1073741824.true refl c.if-d-lt1073741824.true refl (omega arith))

pub returns-then-t-q-2 : goal.returns-then-t-q-2
returns-then-t-q-2 c =
    lower_twice (c.args.m * 2 ^ 52) c.args.q _ (omega arith) (left_over c.args.m c.args.q _ _ _ (omega arith) c.requires.3 (back _ c.args.m (omega (arith, parts c.args.q c.requires.3)) (omega arith)) c.if-c-lt1073741824.true refl c.if-d-lt1073741824.true refl (omega arith)) (omega arith) (omega arith)
