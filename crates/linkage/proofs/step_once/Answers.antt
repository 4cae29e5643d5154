-- `linkage::step_once` meets its contract. Assumes nothing.
use native.Mathlib.Omega.{arith}
use Prim.Native.Nat.{ℕ, ◌*◌, ◌<◌}
use mathlib.Core.List.{List}
use mathlib.Core.Path.{◌≡◌, refl, sym, subst, ◌∙◌}
use lib.ListN.{take}
use lib.Ieee.{Float}
use Rattle.pairing.specs.declared.Best.{Best}
use Rattle.triangle.specs.Inner.{held_at}
use Rattle.triangle.specs.declared.Form.{Form}
use Rattle.linkage.specs.Inner.{meet_all}
use Rattle.slots.specs.Inner.{Below}
use Rattle.linkage.proofs.Scan.{In}
use Rattle.linkage.proofs.Packed.{all_in}
use Rattle.linkage.proofs.Stepped.{stepped}
use Rattle.linkage.proofs.step_once.Goals as goal

-- what the scan gave: its slots are below n
slots_in : (form : Form) (n m : ℕ) (d : List Float) (ids slots : List ℕ) → Below n m slots → 0 < n → (b : Best) → b ≡ meet_all (held_at form n d) ids slots m → In n b
slots_in form n m d ids slots below some b e = subst (In n) (sym e) (all_in n m (held_at form n d) ids slots below some)

pub scan_all-looked-requires : goal.scan_all-looked-requires
scan_all-looked-requires c =
    (c.requires.0, c.requires.2, c.requires.3, c.requires.4, c.requires.5, c.requires.8, c.requires.9)

pub offset_bounds-sizes-p : goal.offset_bounds-sizes-p
offset_bounds-sizes-p c = omega (arith, slots_in c.args.form c.args.n c.args.m c.args.d.now c.args.ids.now c.args.slots.now c.requires.4 (omega (arith, c.requires.1)) _ c.scan_all-looked.ensures.0, c.requires.0)

pub bounds-sizes-p : goal.bounds-sizes-p
bounds-sizes-p c = omega (arith, slots_in c.args.form c.args.n c.args.m c.args.d.now c.args.ids.now c.args.slots.now c.requires.4 (omega (arith, c.requires.1)) _ c.scan_all-looked.ensures.0, c.requires.0)

pub offset_bounds-sizes-q : goal.offset_bounds-sizes-q
offset_bounds-sizes-q c = omega (arith, slots_in c.args.form c.args.n c.args.m c.args.d.now c.args.ids.now c.args.slots.now c.requires.4 (omega (arith, c.requires.1)) _ c.scan_all-looked.ensures.0, c.requires.0)

pub bounds-sizes-q : goal.bounds-sizes-q
bounds-sizes-q c = omega (arith, slots_in c.args.form c.args.n c.args.m c.args.d.now c.args.ids.now c.args.slots.now c.requires.4 (omega (arith, c.requires.1)) _ c.scan_all-looked.ensures.0, c.requires.0)

pub move_all-requires : goal.move_all-requires
move_all-requires c =
    let i = slots_in c.args.form c.args.n c.args.m c.args.d.now c.args.ids.now c.args.slots.now c.requires.4 (omega (arith, c.requires.1)) _ c.scan_all-looked.ensures.0 in
    (c.requires.0, c.requires.3, c.requires.4, c.requires.8, c.requires.9, record { first = i.0; second = i.1; of_first = refl; of_second = refl })

pub offset_bounds-ids-p : goal.offset_bounds-ids-p
offset_bounds-ids-p c = omega (arith, slots_in c.args.form c.args.n c.args.m c.args.d.now c.args.ids.now c.args.slots.now c.requires.4 (omega (arith, c.requires.1)) _ c.scan_all-looked.ensures.0, c.requires.0)

pub bounds-ids-p : goal.bounds-ids-p
bounds-ids-p c = omega (arith, slots_in c.args.form c.args.n c.args.m c.args.d.now c.args.ids.now c.args.slots.now c.requires.4 (omega (arith, c.requires.1)) _ c.scan_all-looked.ensures.0, c.requires.0)

pub offset_bounds-sizes-p-2 : goal.offset_bounds-sizes-p-2
offset_bounds-sizes-p-2 c = omega (arith, slots_in c.args.form c.args.n c.args.m c.args.d.now c.args.ids.now c.args.slots.now c.requires.4 (omega (arith, c.requires.1)) _ c.scan_all-looked.ensures.0, c.requires.0)

pub bounds-sizes-p-2 : goal.bounds-sizes-p-2
bounds-sizes-p-2 c = omega (arith, slots_in c.args.form c.args.n c.args.m c.args.d.now c.args.ids.now c.args.slots.now c.requires.4 (omega (arith, c.requires.1)) _ c.scan_all-looked.ensures.0, c.requires.0)

pub returns : goal.returns
returns c = (
  (λ cells live held flags e.
      stepped c.args.method c.args.form c.args.n c.args.k c.args.m c.args.d.now cells c.args.ids.now c.args.slots.now c.args.sizes.now (take (2 * c.args.k) c.args.rows.now) live c.scan_all-looked.result.best _ c.close_gap.new.slots _
      c.requires.2 c.requires.3 c.requires.6 held flags e c.scan_all-looked.ensures.0 c.move_all.ensures c.close_gap.ensures c.put_row.ensures.0),
  c.put_row.ensures.1,
  c.close_gap.auto.slots ∙ c.requires.6,
  c.scan_all-looked.ensures.1,
)
