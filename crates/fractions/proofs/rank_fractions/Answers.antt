-- `fractions::rank_fractions` meets its contract: judged, cleared, filled. Assumes nothing.

use native.Mathlib.Omega.{arith}
use Rattle.fractions.proofs.Weights.{fillable, wholes_refused, ranks_refused, wholes_done, ranks_done}
use Rattle.fractions.proofs.rank_fractions.Goals as goal

pub returns-in_err-said-clause-wholes_after : goal.returns-in_err-said-clause-wholes_after
returns-in_err-said-clause-wholes_after c = wholes_refused _ _ _ _ c.judge-said.ensures _ _ c.in_err-said.was c.clear.ensures

pub returns-in_err-said-clause-ranks_after : goal.returns-in_err-said-clause-ranks_after
returns-in_err-said-clause-ranks_after c = ranks_refused _ _ _ _ c.judge-said.ensures _ _ c.in_err-said.was c.clear-2.ensures

pub fill-requires : goal.fill-requires
fill-requires c =
    let f = fillable _ _ _ _ c.judge-said.ensures c.in_ok-said.was in
    record {
      few = f.few;
      wholes_roomy = omega (arith, f.wholes_roomy, c.clear.auto.out);
      ranks_roomy = omega (arith, f.ranks_roomy, c.clear-2.auto.out);
      ranged = f.ranged;
    }

pub returns-clause-wholes_after : goal.returns-clause-wholes_after
returns-clause-wholes_after c = wholes_done _ _ _ _ c.judge-said.ensures _ _ c.in_ok-said.was c.clear.ensures c.fill.ensures.wholes_after

pub returns-clause-ranks_after : goal.returns-clause-ranks_after
returns-clause-ranks_after c = ranks_done _ _ _ _ c.judge-said.ensures _ _ c.in_ok-said.was c.clear-2.ensures c.fill.ensures.ranks_after
