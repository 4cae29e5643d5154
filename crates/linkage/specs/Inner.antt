-- What the private functions ask of one another and promise: may be skipped. The scan and the update over the places of the packed slots, whatever form the
-- distances are held in (proofs/Packed.antt and proofs/Forms.antt have that they are those of specs/Merge.antt), and the arrays as a state. Definitions only.
use Rattle.std.specs.Prelude.{ℕ, ◌+◌, ◌-◌, ◌≤◌, ◌<◌, ◌≡◌, Bool, true, false, not, ◌&&◌, cond, List, eqb, length, get_or, set, Float, Some, None}
use Rattle.std.specs.Float.{nan}
use Rattle.lent.specs.Range.{range}
use Rattle.pairing.specs.declared.Best.{Best}
use Rattle.pairing.specs.Pairing.{nothing, offer}
use Rattle.pairing.specs.Inner.{Far}
use Rattle.slots.specs.Inner.{packed}
use Rattle.triangle.specs.declared.Form.{Form}
use Rattle.triangle.specs.Inner.{held_at, write_of, Holds}
use Rattle.linkage.specs.declared.Linkage.{Linkage}
use Rattle.linkage.specs.declared.Merging.{Merging}
use Rattle.linkage.specs.Merge.{State, update_f}
use Rattle.linkage.specs.Outcomes.{Tried}

-- what a function holds in its arrays, as one state
abbrev pub state : List Float → List ℕ → List Bool → List Float → List ℕ → State
state d i v z r = record { cells = d; ids = i; live = v; sizes = z; rows = r }

-- slot k begins with asset k, and stands at place k
unfoldable pub numbered : ℕ → List ℕ → List ℕ
numbered k ids = set ids k k

-- the pair of slot a and the slot at place j, the distance between a and b being d a b; the pairs of the slot at place i with those after it; all pairs of m places
unfoldable pub meet : (ℕ → ℕ → Float) → List ℕ → List ℕ → ℕ → ℕ → Best → Best
meet d ids slots a j best = offer a (get_or slots j 0) (d a (get_or slots j 0)) (get_or ids a 0) (get_or ids (get_or slots j 0) 0) best

unfoldable pub meet_row : (ℕ → ℕ → Float) → List ℕ → List ℕ → ℕ → ℕ → Best → Best
unfolding meet
meet_row d ids slots m i best = range (meet d ids slots (get_or slots i 0)) (i + 1) m best

unfoldable pub meet_all : (ℕ → ℕ → Float) → List ℕ → List ℕ → ℕ → Best
unfolding meet_row
meet_all d ids slots m = range (meet_row d ids slots m) 0 m nothing

-- each slot at the places from lo to hi has a distance in its row; and each is too far off to replace a best at this distance
abbrev pub OnRow : List Float → List ℕ → ℕ → ℕ → Type 0
OnRow row slots lo hi = (j : ℕ) → lo ≤ j → j < hi → (0 < get_or slots j 0) × (get_or slots j 0 - 1 < length row)

abbrev pub FarTo : List Float → List ℕ → Float → ℕ → ℕ → Type 0
FarTo row slots limit lo hi = (j : ℕ) → lo ≤ j → j < hi → Far (get_or row (get_or slots j 0 - 1) nan) limit

-- the slots of a pair that is merged are below n, and its sizes are theirs
pub record Merges (n : ℕ) (sizes : List Float) (pair : Merging) : Type 0 where
  pub first : pair.x.0 < n
  pub second : pair.y.0 < n
  pub of_first : pair.nx ≡ get_or sizes pair.x.0 nan
  pub of_second : pair.ny ≡ get_or sizes pair.y.0 nan

-- the distance of a live slot i, and of the slot at place j
unfoldable pub drawn : Linkage → Form → ℕ → List Float → ℕ → ℕ → Float → ℕ → List Float → List Float
unfolding write_of
drawn l form n sizes x y dxy i d =
    cond (not (eqb i x) && not (eqb i y))
    (write_of form n x i (update_f l (held_at form n d x i) (held_at form n d y i) dxy (get_or sizes x nan) (get_or sizes y nan) (get_or sizes i nan)) d)
    d

unfoldable pub drawn_at : Linkage → Form → ℕ → List Float → List ℕ → ℕ → ℕ → Float → ℕ → List Float → List Float
unfolding drawn
drawn_at l form n sizes slots x y dxy j d = drawn l form n sizes x y dxy (get_or slots j 0) d

-- what stands in the arrays is the state s, whose live slots are packed
pub record Stands (form : Form) (n : ℕ) (s : State) (d : List Float) (ids slots : List ℕ) (sizes : List Float) (rows : List ℕ) : Type 0 where
  pub cells : Holds form n d s.cells
  pub names : ids ≡ s.ids
  pub places : slots ≡ packed n s.live
  pub counts : sizes ≡ s.sizes
  pub made : rows ≡ s.rows

-- what the triangle gives: the pairs, where every cell is its mirror
unfoldable pub tried_of : Bool → ℕ → Tried
tried_of true pairs = Some pairs
tried_of false pairs = None
