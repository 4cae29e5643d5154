-- Document 02, request 1: "the list sorted ascending with −0 before +0 and every NaN last". Definitions only.
use Rattle.std.specs.Prelude.{Bool, false, cond, not, ◌&&◌, ◌||◌, List, [], ◌∷◌, is_nan, Float}
use Rattle.std.specs.Float.{nan, inf, fin}
use Rattle.std.specs.Float.Ieee.{lt, eq}

-- with a minus sign
unfoldable pub has_minus : Float → Bool
has_minus nan = false
has_minus (inf s) = s
has_minus (fin s m e) = s

-- x stands strictly before y. Equal numbers of unlike signs are the two zeros.
unfoldable pub before : Float → Float → Bool
before x y = not (is_nan x) && (is_nan y || (lt x y || (eq x y && (has_minus x && not (has_minus y)))))

-- the earlier and the later of two
abbrev pub earlier : Float → Float → Float
earlier x y = cond (before x y) x y

abbrev pub later : Float → Float → Float
later x y = cond (before x y) y x

-- x put into an ordered list: at each place the earlier stays, and the later goes on
unfoldable pub insert : Float → List Float → List Float
insert x [] = x ∷ []
insert x (y ∷ l) = earlier x y ∷ insert (later x y) l

-- the entries of l put into an ordered list, first to last
unfoldable pub insert_all : List Float → List Float → List Float
insert_all done [] = done
insert_all done (x ∷ l) = insert_all (insert x done) l

unfoldable pub sorted : List Float → List Float
sorted l = insert_all [] l
