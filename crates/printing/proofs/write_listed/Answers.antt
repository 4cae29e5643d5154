-- `printing::write_listed` meets its contract. Assumes nothing.
use Prim.Native.Nat.{ℕ}
use mathlib.Core.Path.{◌≡◌, ap, sym, ◌∙◌}
use native.Mathlib.Omega.{arith}
use Rattle.listing.specs.Listing.{bytes_in}
use Rattle.printing.proofs.write_listed.Goals as goal

pub returns-in-Ok : goal.returns-in-Ok
returns-in-Ok c = λ e. c.write_front.ensures (ap bytes_in (sym c.in-Ok.is ∙ e))

pub returns-in-Err : goal.returns-in-Err
returns-in-Err c = λ e. absurd (let z : ◌≡◌ {A = ℕ} 0 1 = cc in omega arith)
