-- `keys::put_key` meets its contract. Assumes nothing.
use mathlib.Core.Path.{sym}
use lib.Seq.{length-take-le}
use Rattle.writing.proofs.Writing.{renamed_put}
use Rattle.keys.proofs.Cut.{sixteen, end_in, cut_name}
use Rattle.keys.proofs.put_key.Goals as goal

pub slice_bounds-end_of-end : goal.slice_bounds-end_of-end
slice_bounds-end_of-end c = sixteen _ _ c.fill.ensures

pub slice_bounds-bytes-end : goal.slice_bounds-bytes-end
slice_bounds-bytes-end c = end_in _ _ c.end_of-e.ensures

pub slice_bounds-put_bytes-end : goal.slice_bounds-put_bytes-end
slice_bounds-put_bytes-end c = sym (length-take-le _ _ (end_in _ _ c.end_of-e.ensures))

pub returns : goal.returns
returns c =
    renamed_put _ c.put_bytes.ensures
    (cut_name _ _ _ c.fill.ensures c.end_of-e.ensures)
