-- What it is for a ledger to be in order, to have each name once, and to be right. Definitions only.
use Rattle.std.specs.Prelude.{ℕ, ◌+◌, ◌≤◌, ◌≡◌, true, cond, List, [], ◌∷◌}
use Rattle.keys.specs.Keys.{key_before, key_same}
use Rattle.keys.specs.declared.Key.{Key}
use Rattle.ledger.specs.Ledger.{opened, added, entered}
use Rattle.ledger.specs.declared.Position.{Position}
use Rattle.ledger.specs.declared.Lot.{Lot}

-- every position's name stands after x
abbrev pub AllAfter : Key → List Position → Type 0
AllAfter x [] = Unit
AllAfter x (p ∷ l) = (key_before x p.name ≡ true) × AllAfter x l

-- strictly in byte order
abbrev pub InOrder : List Position → Type 0
InOrder [] = Unit
InOrder (p ∷ l) = AllAfter p.name l × InOrder l

-- each name's jobs are no more than the number of the last of them, and that is at most n
abbrev pub Dated : ℕ → List Position → Type 0
Dated n [] = Unit
Dated n (p ∷ l) = (p.jobs ≤ p.last) × (p.last ≤ n) × Dated n l

-- "The totals over all names"
unfoldable pub totals : List Position → ℕ
totals [] = 0
totals (p ∷ l) = p.total + totals l

-- the positions of a name
unfoldable pub only : Key → List Position → List Position
only x [] = []
only x (p ∷ l) = cond (key_same p.name x) (p ∷ only x l) (only x l)

-- the holdings of a name
unfoldable pub lots_of : Key → List Lot → List Lot
lots_of x [] = []
lots_of x (h ∷ hs) = cond (key_same h.name x) (h ∷ lots_of x hs) (lots_of x hs)

-- a ledger after holdings, first to last
unfoldable pub entered_all : List Position → List Lot → List Position
entered_all l [] = l
entered_all l (h ∷ hs) = entered_all (entered l h) hs

-- what is kept of one name alone: opened by its first holding, to which each later one is added
unfoldable pub bump : List Position → Lot → List Position
bump [] h = opened h ∷ []
bump (p ∷ l) h = added p h ∷ l

unfoldable pub bump_all : List Position → List Lot → List Position
bump_all l [] = l
bump_all l (h ∷ hs) = bump_all (bump l h) hs

-- the millionths of holdings added up
unfoldable pub lots_total : List Lot → ℕ
lots_total [] = 0
lots_total (h ∷ hs) = h.millionths + lots_total hs
