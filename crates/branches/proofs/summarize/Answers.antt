-- `branches::summarize` meets its contract. Judged, cleared, and then filled. Assumes nothing.
use mathlib.Core.Path.{refl, sym, ◌∙◌}
use native.Mathlib.Omega.{arith}
use Rattle.std.proofs.lemmas.Result.{err_from_is_err_and}
use Rattle.branches.proofs.Answer.{summary_done, emptied, summary_refused, summary_filled}
use Rattle.branches.proofs.Passes.{measured}
use Rattle.branches.proofs.summarize.Goals as goal

pub returns-in_err-said : goal.returns-in_err-said
returns-in_err-said c = let p = err_from_is_err_and c.from_residual.result c.from_residual.ensures.1 in
    record {
      value = rw (p.1, p.2) (sym c.in_err-said.was ∙ c.judge-said.ensures);
      firsts_after = summary_refused _ _ _ _ _ _ p.1 c.clear.ensures;
      sizes_after = summary_refused _ _ _ _ _ _ p.1 c.clear-2.ensures;
      depths_after = summary_refused _ _ _ _ _ _ p.1 c.clear-3.ensures;
    }

pub measure-requires : goal.measure-requires
measure-requires c = record {
  rooted = (summary_done _ _ _ _ _ (sym c.judge-said.ensures ∙ c.in_ok-said.was)).rooted;
  n_in_bounds = (emptied _ _ _ c.clear-2.ensures (summary_done _ _ _ _ _ (sym c.judge-said.ensures ∙ c.in_ok-said.was)).two).room;
}

pub descend-requires : goal.descend-requires
descend-requires c = record {
  measured = measured (summary_done _ _ _ _ _ (sym c.judge-said.ensures ∙ c.in_ok-said.was)).rooted _ _ _ c.measure.ensures (omega arith) (emptied _ _ _ c.clear-2.ensures (summary_done _ _ _ _ _ (sym c.judge-said.ensures ∙ c.in_ok-said.was)).two).room;
  emptied = emptied _ _ _ c.clear.ensures (summary_done _ _ _ _ _ (sym c.judge-said.ensures ∙ c.in_ok-said.was)).one;
  emptied_2 = emptied _ _ _ c.clear-3.ensures (summary_done _ _ _ _ _ (sym c.judge-said.ensures ∙ c.in_ok-said.was)).three;
}

pub returns : goal.returns
returns c = record {
  value = sym c.in_ok-said.was ∙ c.judge-said.ensures;
  firsts_after = summary_filled _ _ _ _ _ _ refl c.clear.ensures c.descend.ensures.firsts_after;
  sizes_after = summary_filled _ _ _ _ _ _ refl c.clear-2.ensures c.measure.ensures;
  depths_after = summary_filled _ _ _ _ _ _ refl c.clear-3.ensures c.descend.ensures.depths_after;
}
