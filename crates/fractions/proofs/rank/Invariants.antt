-- What the loop of `fractions::rank` keeps true. Assumes nothing.
use Rattle.std.proofs.Common.{ℕ, List, ◌≡◌, ◌≤◌}
use Rattle.lent.specs.Count.{one, upto}
use Rattle.fractions.specs.Fractions.{sooner}
use Rattle.fractions.specs.Inner.{value_at}
use Rattle.fractions.specs.declared.Fraction.{Fraction}
use Rattle.fractions.proofs.rank.Given as goal

-- 1 where fraction a comes before fraction i
abbrev pub counted : List Fraction → ℕ → ℕ → ℕ
counted left i a = one (sooner (value_at left) a i)

abbrev pub invariant-loop-j : goal.invariant-loop-j
invariant-loop-j l = (l.k ≡ upto (counted l.left l.i) l.j) × (l.k ≤ l.j)
