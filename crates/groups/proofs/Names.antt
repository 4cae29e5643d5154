-- The names that a sheet reads are those of its assets. Assumes nothing.
use Prim.Native.Nat.{ℕ, ◌<◌}
use mathlib.Core.Path.{◌≡◌, refl}
use mathlib.Core.Bool.{Bool, true, false}
use mathlib.Core.Logic.{⊎_elim}
use mathlib.Core.List.{List}
use borrow.Author.Tests.{ltb-true}
use lib.Dec.{ltb}
use lib.ListN.{length, get_or}
use Rattle.lent.proofs.Laws.{either}
use Rattle.writing.proofs.Writing.{joined_ext}
use Rattle.groups.specs.declared.Group.{Group}
use Rattle.groups.specs.Groups.{tag_of, group_line, group_of, nodes_down, line_down, group_sheet}

module _ (f g : ℕ → List ℕ) (n : ℕ) (h : (i : ℕ) → i < n → f i ≡ g i) where
  tag_ext : (v : ℕ) → tag_of f n v ≡ tag_of g n v
  unfolding tag_of
  tag_ext v = ⊎_elim (λ e. rw (e, h v (ltb-true v n e))) (λ e. rw e) (either (ltb v n))

  line_ext : (named : Bool) (v : ℕ) (x : Group) → group_line named f n v x ≡ group_line named g n v x
  unfolding group_line
  line_ext false v x = refl
  line_ext true v x = rw (tag_ext v)

  pub sheet_ext : (named : Bool) (rows parts : List ℕ) → group_sheet named f rows parts n ≡ group_sheet named g rows parts n
  unfolding group_sheet line_down
  sheet_ext named rows parts =
      joined_ext (length (nodes_down rows n)) (line_down named f rows parts n) (line_down named g rows parts n)
      (λ i l. line_ext named (get_or (nodes_down rows n) i 0) (group_of rows parts n (get_or (nodes_down rows n) i 0)))
