-- `millionths::weights_in_millionths` meets its contract: judged, cleared, filled. Assumes nothing.
use Rattle.std.proofs.Common.{rules, sym, ◌∙◌}
use Rattle.millionths.proofs.Lists.{wholes_fit, said_is, serves, ends_refused, ends_done}
use Rattle.millionths.proofs.weights_in_millionths.Goals as goal

pub total-given-requires : goal.total-given-requires
total-given-requires c = wholes_fit _ _ c.rank_fractions-ranged.ensures.wholes_after c.rank_fractions-ranged.auto.wholes

pub returns-in_err-said : goal.returns-in_err-said
returns-in_err-said c = let said = said_is _ _ c.rank_fractions-ranged.ensures.wholes_after c.rank_fractions-ranged.auto.wholes _ _ _ _ c.rank_fractions-ranged.ensures.value c.total-given.ensures c.judge-said.ensures in
    record {
      value = search (rules, said);
      out_after = ends_refused _ _ _ said _ _ c.in_err-said.was c.clear.ensures;
    }

pub fill-requires : goal.fill-requires
fill-requires c =
    let said = said_is _ _ c.rank_fractions-ranged.ensures.wholes_after c.rank_fractions-ranged.auto.wholes _ _ _ _ c.rank_fractions-ranged.ensures.value c.total-given.ensures c.judge-said.ensures in
    serves _ _ _ said c.in_ok-said.was _ _ c.rank_fractions-ranged.ensures.wholes_after c.rank_fractions-ranged.ensures.ranks_after c.rank_fractions-ranged.auto.wholes c.rank_fractions-ranged.auto.ranks _ c.clear.auto.out

pub returns : goal.returns
returns c = let said = said_is _ _ c.rank_fractions-ranged.ensures.wholes_after c.rank_fractions-ranged.auto.wholes _ _ _ _ c.rank_fractions-ranged.ensures.value c.total-given.ensures c.judge-said.ensures in
    record {
      value = sym c.in_ok-said.was ∙ said;
      out_after = ends_done _ _ _ said c.in_ok-said.was _ _ c.rank_fractions-ranged.ensures.wholes_after c.rank_fractions-ranged.ensures.ranks_after c.rank_fractions-ranged.auto.wholes c.rank_fractions-ranged.auto.ranks _ _ _ _ c.total-given.ensures c.saturating_sub-missing.ensures c.clear.ensures c.fill.ensures;
    }
