-- What the answer tells is the report's outcome: 0 and its counts, or its refusal. Assumes nothing.
use Prim.Native.Nat.{ℕ}
use mathlib.Core.Path.{◌≡◌, refl}
use Rattle.refusal.specs.Telling.{accepts, refuses}
use Rattle.refusal.specs.declared.Refusal.{Refusal}
use Rattle.month.specs.Month.{Books, at, refused_by}
use Rattle.month.specs.Calls.{tally_of, progress_of, progress_tells}

pub progress_tells_lem : (s : Books) → progress_tells (progress_of (at s)) ≡ accepts (tally_of s)
unfolding progress_of
progress_tells_lem s = refl

pub refusal_tells : (r : Refusal) (k : ℕ) → progress_tells (progress_of (refused_by r k)) ≡ refuses r
unfolding progress_of
refusal_tells r k = refl
