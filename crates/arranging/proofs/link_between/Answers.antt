-- `arranging::link_between` meets its contract. Assumes nothing.
use Prim.Native.Nat.{◌*◌}
use mathlib.Core.Path.{sym, ap, ◌∙◌}
use mathlib.Core.List.{List}
use borrow.Author.Rules.{rules}
use lib.ListN.{length}
use lib.Seq.{length-take-le, length_front}
use lib.Ieee.{Float}
use Rattle.lent.specs.Lent.{laid}
use Rattle.lent.proofs.Laws.{length_grid}
use Rattle.linkage.specs.Merge.{merge_rows}
use Rattle.arranging.proofs.Laws.{betweens_front, rows_laid, tree_between}
use Rattle.arranging.proofs.link_between.Goals as goal
use Rattle.std.specs.Prelude.{Ok}

pub slice_bounds-distance_of_distances-end-2 : goal.slice_bounds-distance_of_distances-end-2
slice_bounds-distance_of_distances-end-2 c = sym (length-take-le _ _ c.requires.n_in_bounds)

pub slice_bounds-linkage_children-end-2 : goal.slice_bounds-linkage_children-end-2
slice_bounds-linkage_children-end-2 c = sym (length-take-le _ _ (search rules))

pub shape_of-room : goal.shape_of-room
shape_of-room c = length_front c.args.room.now c.distance_of_distances.new.out (c.args.n * c.args.n) c.distance_of_distances.auto.out

pub shape_of-rows : goal.shape_of-rows
shape_of-rows c = c.linkage_children.auto.out

pub returns : goal.returns
returns c =
    let f = betweens_front c.args.n c.requires.n_bound c.args.d.now _ _ c.requires.d_len _ (length-take-le _ _ c.requires.n_in_bounds) c.distance_of_distances.auto.out c.distance_of_distances.ensures.out_after in
    rows_laid c.args.n c.requires.n_bound c.args.linkage _ _ (ap length f ∙ length_grid c.args.n c.args.n _) _ c.requires.n_in_bounds_2 c.linkage_children.ensures.out_after ∙ ap (λ (x : List Float). laid 0 (Ok tt) (length c.args.rows.now) (merge_rows c.args.linkage c.args.n x)) (f ∙ tree_between c.args.d.now c.args.n)
