-- `triangle::above` meets its contract. The invariant: the rows below r are copied, and held to their mirrors. Assumes nothing.
use borrow.Author.Rules.{rules}
use borrow.Author.Tests.{le-leb, lt-leb, eq-eqb, ne_eqb}
use native.Mathlib.Omega.{arith}
use Prim.Native.Nat.{ℕ, ◌+◌, ◌-◌, ◌*◌, ◌/◌, ◌≤◌, ◌<◌, zero-le}
use mathlib.Core.Path.{◌≡◌, refl, sym, ap, ◌∙◌}
use mathlib.Core.Bool.{true, false}
use mathlib.Core.List.{List}
use lib.ListN.{length}
use lib.Ieee.{Float}
use Rattle.lent.specs.Range.{range}
use Rattle.lent.proofs.Range.{range_none, range_more, range_end}
use Rattle.triangle.specs.Triangle.{met, mirror_row, mirrored, has_room, upper_row, upper_of}
use Rattle.triangle.proofs.Places.{room_code}
use Rattle.triangle.proofs.above.Goals as goal
use Rattle.triangle.proofs.above.Goals.{then-n-gt64-via-then-n-gt64, then-n-gt64-via-else-n-gt64+then-xs-n, then-n-gt64-via-else-n-gt64+else-xs-n+then-d-n}

too_many : (n : ℕ) (xs d : List Float) → 64 < n → has_room n xs d ≡ false
unfolding has_room
too_many n xs d h = rw (lt-leb n 64 h) refl

other_length : (n : ℕ) (xs d : List Float) → n ≤ 64 → (length xs ≡ n * n → ⊥) → has_room n xs d ≡ false
unfolding has_room
other_length n xs d h ne = rw (le-leb n 64 h, ne_eqb (length xs) (n * n) ne) refl

too_short : (n : ℕ) (xs d : List Float) → n ≤ 64 → length xs ≡ n * n → length d < (n * n - n) / 2 → has_room n xs d ≡ false
unfolding has_room
too_short n xs d h e l = rw (le-leb n 64 h, eq-eqb (length xs) (n * n) e, lt-leb (met n n) (length d) (rw (← room_code n) l)) refl

room_for : (n : ℕ) (d : List Float) → (n * n - n) / 2 ≤ length d → met n n ≤ length d
room_for n d l = rw (← room_code n) l

has_room_lem : (n : ℕ) (xs d : List Float) → n ≤ 64 → length xs ≡ n * n → (n * n - n) / 2 ≤ length d → has_room n xs d ≡ true
unfolding has_room
has_room_lem n xs d h e l = rw (le-leb n 64 h, eq-eqb (length xs) (n * n) e, le-leb (met n n) (length d) (room_for n d l)) refl

-- one turn more
turn : {S : Type 0} (f : ℕ → S → S) (i : ℕ) (s t z : S) → z ≡ f i t → t ≡ range f 0 i s → z ≡ range f 0 (i + 1) s
turn f i s t z p q = p ∙ ap (f i) q ∙ sym (range_more f 0 i s zero-le)

pub returns-then-n-gt64 : goal.returns-then-n-gt64
returns-then-n-gt64 c =
    let e : has_room c.args.n c.args.xs.now c.args.d.now ≡ false = elim c.then-n-gt64.branch [
      | then-n-gt64-via-then-n-gt64 w ↦ too_many c.args.n c.args.xs.now c.args.d.now w.if-n-gt64.true
      | then-n-gt64-via-else-n-gt64+then-xs-n w ↦ other_length c.args.n c.args.xs.now c.args.d.now w.if-n-gt64.false w.if-xs-n.true
      | then-n-gt64-via-else-n-gt64+else-xs-n+then-d-n w ↦ too_short c.args.n c.args.xs.now c.args.d.now w.if-n-gt64.false w.if-xs-n.false w.if-d-n.true
    ] in record {
      value = rw e refl;
      d_after = rw e refl;
    }

pub loop-r-init : goal.loop-r-init
loop-r-init c = (sym (range_none _ _ _ _ (search rules)), sym (range_none _ _ _ _ (search rules)))

pub fill_row-same-requires : goal.fill_row-same-requires
fill_row-same-requires c = (
  c.if-n-gt64.false,
  omega arith,
  c.if-xs-n.false,
  omega (arith, room_for c.args.n c.args.d.now c.if-d-n.false, c.loop-r.auto.d),
)

pub loop-r-preserved : goal.loop-r-preserved
loop-r-preserved c = (
  turn (mirror_row c.args.n c.args.xs.now) _ _ _ _ c.fill_row-same.ensures.0 c.loop-r.invariant.0,
  turn (upper_row c.args.n c.args.xs.now) _ _ _ _ c.fill_row-same.ensures.1 c.loop-r.invariant.1,
)

pub returns : goal.returns
unfolding mirrored upper_of
returns c = let e = has_room_lem c.args.n c.args.xs.now c.args.d.now c.if-n-gt64.false c.if-xs-n.false c.if-d-n.false in record {
  value = rw e (range_end _ _ _ _ _ _ c.loop-r.invariant.0 (omega arith) (omega arith));
  d_after = rw e (range_end _ _ _ _ _ _ c.loop-r.invariant.1 (omega arith) (omega arith));
}
