-- What a name tells: 0 and the distance or linkage of that name, else 7 or 8; and what the merge step tells. Assumes nothing.
use Prim.Native.Nat.{ℕ}
use mathlib.Core.Path.{◌≡◌, refl}
use mathlib.Core.Bool.{Bool, true, false, cond}
use mathlib.Core.List.{List}
use Rattle.text.specs.Bytes.{bytes, is_word}
use Rattle.refusal.specs.Telling.{accepts, refuses, tells}
use Rattle.refusal.specs.declared.Refusal.TheVariants.{UnknownDistance, UnknownLinkage}
use Rattle.linkage.specs.declared.Distance.TheVariants.{Correlation, DistanceOfDistances}
use Rattle.linkage.specs.declared.Linkage.TheVariants.{Single, Complete, Average, Ward}
use Rattle.linkage.specs.Children.{joined_of, joined_tells}
use Rattle.linkage.specs.Names.{distance_named, linkage_named, distance_tells, linkage_tells}
use Rattle.std.specs.Prelude.{Ok, Err}
use Rattle.linkage.specs.Outcomes.{NamedDistance, NamedLinkage}
use Rattle.refusal.specs.Table.{Outcome}

-- what is picked by a test tells what each of the two does
told_distance : (b : Bool) (x y : NamedDistance) → distance_tells (cond b x y) ≡ cond b (distance_tells x) (distance_tells y)
told_distance true x y = refl
told_distance false x y = refl

told_linkage : (b : Bool) (x y : NamedLinkage) → linkage_tells (cond b x y) ≡ cond b (linkage_tells x) (linkage_tells y)
told_linkage true x y = refl
told_linkage false x y = refl

pub distance_tells_lem : (name : List ℕ) → distance_tells (distance_named name)
    ≡ cond (is_word name (bytes "correlation")) (accepts Correlation)
    (cond (is_word name (bytes "distance_of_distances")) (accepts DistanceOfDistances)
    (refuses UnknownDistance))
unfolding distance_named
distance_tells_lem name = rw (told_distance (is_word name (bytes "correlation")) _ _, told_distance (is_word name (bytes "distance_of_distances")) _ _)

pub linkage_tells_lem : (name : List ℕ) → linkage_tells (linkage_named name)
    ≡ cond (is_word name (bytes "single")) (accepts Single)
    (cond (is_word name (bytes "complete")) (accepts Complete)
    (cond (is_word name (bytes "average")) (accepts Average)
    (cond (is_word name (bytes "ward")) (accepts Ward)
    (refuses UnknownLinkage))))
unfolding linkage_named
linkage_tells_lem name =
    rw (
      told_linkage (is_word name (bytes "single")) _ _,
      told_linkage (is_word name (bytes "complete")) _ _,
      told_linkage (is_word name (bytes "average")) _ _,
      told_linkage (is_word name (bytes "ward")) _ _,
    )

-- the rows made and the pairs looked at, or the refusal
pub joined_tells_lem : (o : Outcome) (rows pairs : ℕ) → joined_tells (joined_of o rows pairs) ≡ tells o (rows, pairs)
unfolding joined_of
joined_tells_lem (Ok _) rows pairs = refl
joined_tells_lem (Err r) rows pairs = refl
