-- What a call tells that writes bytes into a lent buffer. Assumes nothing.
use Prim.Native.Nat.{ℕ}
use mathlib.Core.Path.{◌≡◌, refl}
use Rattle.refusal.specs.Telling.{tells}
use Rattle.listing.specs.Listing.{listed_as, listed_tells}
use Rattle.std.specs.Prelude.{Ok, Err}
use Rattle.refusal.specs.Table.{Outcome}

-- 0 and how many bytes, or the refusal's number
pub listed_tells_lem : (o : Outcome) (bytes : ℕ) → listed_tells (listed_as o bytes) ≡ tells o bytes
unfolding listed_as
listed_tells_lem (Ok _) bytes = refl
listed_tells_lem (Err r) bytes = refl
