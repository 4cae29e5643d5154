-- `arithmetic::abs` meets its contract. Assumes nothing.
use Rattle.std.proofs.Common.{ℕ, ◌%◌, ◌^◌, ap, ◌∙◌}
use lib.Ieee.{binary64, of_bits}
use Rattle.arithmetic.proofs.Facts.{truth, abs_bits}
use Rattle.arithmetic.proofs.abs.Goals as goal

pub returns : goal.returns
returns c =
    c.from_bits.ensures
    ∙ ap (λ (b : ℕ). of_bits binary64 (b % 2 ^ 63)) c.to_bits.ensures
    ∙ abs_bits _ (truth c.well_formed.0.1)
