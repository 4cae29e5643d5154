-- `listing::put_order` meets its contract: the first k names in the order are written. Assumes nothing.
use Prim.Native.Nat.{ℕ}
use mathlib.Core.Path.{ap}
use mathlib.Core.List.{List, [], ◌∷◌, ◌++◌}
use native.Mathlib.Omega.{arith}
use lib.ListN.{length, get_or}
use Rattle.writing.proofs.Writing.{none_yet, one_more, all_parts}
use Rattle.listing.specs.Listing.{ordered, name_in}
use Rattle.listing.proofs.Lines.{name_room, name_put}
use Rattle.listing.proofs.put_order.Goals as goal

pub loop-k-init : goal.loop-k-init
loop-k-init c = none_yet _ _ _ (omega arith)

pub loop-k-preserved : goal.loop-k-preserved
unfolding ordered name_in
loop-k-preserved c =
    let names = name_in c.args.text.now c.args.starts.now in
    let e = c.name.ensures in
    let short = c.requires.named.short (get_or c.args.order.now c.loop-k.k 0) (c.requires.by_index c.loop-k.k c.loop-k-test.true) in
    let room = name_room c.requires.named c.args.order.now c.requires.by_index c.loop-k.k c.loop-k.invariant c.loop-k-test.true c.requires.order_in_bounds in
    let wrote = name_put _ c.put_byte-tabbed.ensures c.put_bytes-at.ensures (omega (arith, short, ap length e)) room in
    one_more (ordered names c.args.order.now) c.loop-k.k c.loop-k.invariant wrote (ap (λ (l : List ℕ). (9 ∷ []) ++ l) e)

pub returns : goal.returns
returns c = all_parts _ c.loop-k.k _ c.loop-k.invariant (omega arith)
