-- What the loop of `keys::word` keeps true. Assumes nothing.
use mathlib.Core.Path.{◌≡◌}
use Prim.Native.Nat.{◌^◌, ◌<◌}
use Rattle.keys.specs.Keys.{word_from}
use Rattle.keys.proofs.word.Given as goal

abbrev pub invariant-loop-k : goal.invariant-loop-k
invariant-loop-k l = (l.w < 256 ^ l.k) × (l.w ≡ word_from l.s l.from l.k)
