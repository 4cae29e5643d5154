-- `fractions::parts_of` meets its contract. Assumes nothing.
use Prim.Native.Nat.{ℕ, ◌*◌, ◌/◌, ◌%◌, ◌^◌}
use mathlib.Core.Path.{refl, ap, ◌∙◌}
use Rattle.arithmetic.proofs.Facts.{truth}
use Rattle.fractions.specs.Fractions.{whole_part, left_over}
use Rattle.fractions.proofs.Pattern.{up_to_one, units_worth}
use Rattle.fractions.proofs.Shifts.{whole_by, left_by}
use Rattle.fractions.proofs.parts_of.Goals as goal

pub digits_of-d-requires : goal.digits_of-d-requires
digits_of-d-requires c = up_to_one _ (truth c.well_formed.0.1) _ c.to_bits.ensures c.requires

pub returns : goal.returns
unfolding whole_part left_over
returns c =
    let fit = truth c.well_formed.0.1 in
    let u = c.digits_of-d.ensures.value ∙ units_worth _ fit _ c.to_bits.ensures (up_to_one _ fit _ c.to_bits.ensures c.requires) in
    record {
      whole_is = whole_by c.digits_of-d.result.m c.digits_of-d.result.place c.digits_of-d.ensures.small c.digits_of-d.ensures.low _ _ _ c.scaled-x.ensures c.right_of_whole-s.ensures refl ∙ ap (λ (a : ℕ). a * 1000000 / 2 ^ 1074) u;
      left_is = record {
        normal = c.normal.ensures.normal;
        value = c.normal.ensures.value ∙ left_by c.digits_of-d.result.m c.digits_of-d.result.place c.digits_of-d.ensures.small c.digits_of-d.ensures.low _ _ _ c.scaled-x.ensures c.right_of_whole-s.ensures c.lowest.ensures ∙ ap (λ (a : ℕ). a * 1000000 % 2 ^ 1074) u;
      };
    }
