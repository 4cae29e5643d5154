-- What the private functions of the merge step ask of one another and promise of the distances that they hold: may be skipped. Definitions only.
use Rattle.std.specs.Prelude.{ℕ, ◌*◌, ◌<◌, ◌≤◌, ◌≡◌, List, length, get_or, set, Float}
use Rattle.std.specs.Float.{nan}
use Rattle.lent.specs.Grid.{cell}
use Rattle.triangle.specs.declared.Form.{Form}
use Rattle.triangle.specs.declared.Form.TheVariants.{Square, Triangle}
use Rattle.triangle.specs.Triangle.{met, place_of, shift_at}

-- how many places a form has
unfoldable pub room_of : Form → ℕ → ℕ
unfolding met
room_of Square n = n * n
room_of Triangle n = met n n

-- the distance between r and c, read, and written: in both cells, or in their one place
abbrev pub held_at : Form → ℕ → List Float → ℕ → ℕ → Float
held_at form n d r c = get_or d (place_of form n r c) nan

unfoldable pub write_of : Form → ℕ → ℕ → ℕ → Float → List Float → List Float
unfolding place_of
write_of Square n x i v d = set (set d (place_of Square n x i) v) (place_of Square n i x) v
write_of Triangle n x i v d = set d (place_of Triangle n x i) v

-- the shifts of the rows stand in a list
abbrev pub Lined : Form → ℕ → List ℕ → Type 0
Lined form n shifts = (r : ℕ) → r < n → get_or shifts r 0 ≡ shift_at form n r

-- d holds what the cells of an n by n matrix are, off the diagonal
pub record Holds (form : Form) (n : ℕ) (d cells : List Float) : Type 0 where
  pub same : (r c : ℕ) → r < n → c < n → (r ≡ c → ⊥) → held_at form n d r c ≡ cell cells n r c
  pub room : room_of form n ≤ length d
  pub full : n * n ≤ length cells
