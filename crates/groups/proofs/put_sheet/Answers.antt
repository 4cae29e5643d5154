-- `groups::put_sheet` meets its contract. Assumes nothing.
use mathlib.Core.Path.{sym}
use lib.Seq.{length-take-le}
use native.Mathlib.Omega.{arith}
use Rattle.groups.proofs.Sheet.{looked, nodes_ready, lines_few, lined, sheet_written}
use Rattle.groups.proofs.put_sheet.Goals as goal

pub put_totals-requires : goal.put_totals-requires
put_totals-requires c = looked c.requires.sheetable _ _ _ _ _ c.summarize.ensures.value c.summarize.ensures.firsts_after c.summarize.ensures.sizes_after c.summarize.ensures.depths_after c.quasi_diagonalization.ensures.out_after

pub nodes_below-lines-requires : goal.nodes_below-lines-requires
nodes_below-lines-requires c = nodes_ready c.requires.sheetable

pub slice_bounds-nodes-end : goal.slice_bounds-nodes-end
slice_bounds-nodes-end c = omega (arith, c.nodes_below-lines.auto.out, lines_few c.requires.sheetable _ _ c.nodes_below-lines.ensures)

pub slice_bounds-put_lines-end : goal.slice_bounds-put_lines-end
slice_bounds-put_lines-end c = sym (length-take-le _ _ (omega (arith, c.nodes_below-lines.auto.out, lines_few c.requires.sheetable _ _ c.nodes_below-lines.ensures)))

pub put_lines-requires : goal.put_lines-requires
put_lines-requires c = record {
  named = c.requires.sheetable.named;
  lined = lined c.requires.sheetable _ _ _ _ _ c.summarize.ensures.value c.summarize.ensures.firsts_after c.summarize.ensures.sizes_after c.summarize.ensures.depths_after c.quasi_diagonalization.ensures.out_after _ _ _ c.put_totals.ensures c.nodes_below-lines.ensures;
  named_in_bounds = c.requires.named_in_bounds;
}

pub returns : goal.returns
returns c = sheet_written c.requires.sheetable _ _ _ _ _ c.summarize.ensures.value c.summarize.ensures.firsts_after c.summarize.ensures.sizes_after c.summarize.ensures.depths_after c.quasi_diagonalization.ensures.out_after _ _ _ c.put_totals.ensures c.nodes_below-lines.ensures _ c.put_lines.ensures
