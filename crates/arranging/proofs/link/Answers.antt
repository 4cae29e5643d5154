-- `arranging::link` meets its contract. Assumes nothing.
use mathlib.Core.Path.{ap, ◌∙◌}
use mathlib.Core.List.{List}
use native.Mathlib.Nat.{mul-le-mul}
use lib.ListN.{length}
use lib.Ieee.{Float}
use Rattle.lent.specs.Lent.{laid}
use Rattle.lent.proofs.Laws.{square_in}
use Rattle.linkage.specs.Merge.{merge_rows}
use Rattle.arranging.proofs.Laws.{rows_laid, tree_plain, rows_between}
use Rattle.arranging.proofs.link.Goals as goal
use Rattle.std.specs.Prelude.{Ok}

pub link_between-requires : goal.link_between-requires
link_between-requires c = record {
  n_bound = c.requires.n_bound;
  d_len = c.requires.d_len;
  n_in_bounds = mul-le-mul c.if-n-le16.true c.if-n-le16.true;
  n_in_bounds_2 = c.requires.n_in_bounds;
}

pub link_between-requires-else-n-le16 : goal.link_between-requires-else-n-le16
link_between-requires-else-n-le16 c = record {
  n_bound = c.requires.n_bound;
  d_len = c.requires.d_len;
  n_in_bounds = square_in _ c.requires.n_bound;
  n_in_bounds_2 = c.requires.n_in_bounds;
}

pub shape_of-rows-in-Correlation : goal.shape_of-rows-in-Correlation
shape_of-rows-in-Correlation c = c.linkage_children.auto.out

pub returns-in-Correlation : goal.returns-in-Correlation
returns-in-Correlation c =
    rows_laid c.args.n c.requires.n_bound c.args.linkage c.args.d.now _ c.requires.d_len _ c.requires.n_in_bounds c.linkage_children.ensures.out_after ∙ ap (λ (x : List Float). laid 0 (Ok tt) (length c.args.rows.now) (merge_rows c.args.linkage c.args.n x)) (tree_plain c.args.distance c.args.d.now c.args.n c.in-Correlation.is)

pub shape_of-rows-then-n-le16 : goal.shape_of-rows-then-n-le16
shape_of-rows-then-n-le16 c = c.link_between.auto.rows

pub returns-then-n-le16 : goal.returns-then-n-le16
returns-then-n-le16 c =
    rows_between c.args.distance c.args.linkage c.args.n c.args.d.now _ _ c.in-DistanceOfDistances.is c.link_between.ensures

pub shape_of-rows-else-n-le16 : goal.shape_of-rows-else-n-le16
shape_of-rows-else-n-le16 c = c.link_between-else-n-le16.auto.rows

pub returns-else-n-le16 : goal.returns-else-n-le16
returns-else-n-le16 c =
    rows_between c.args.distance c.args.linkage c.args.n c.args.d.now _ _ c.in-DistanceOfDistances.is c.link_between-else-n-le16.ensures
