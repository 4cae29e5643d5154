-- `fractions::all_in_range` meets its contract. Assumes nothing.
use Rattle.std.proofs.Common.{rules, List, [], ◌∷◌, Float, Bool, ◌≡◌, ◌&&◌, refl, ap, ◌∙◌}
use Rattle.std.proofs.lemmas.Iterator.{YieldsList-from_slice}
use Rattle.std.proofs.lemmas.Iterator.Search.{all_from_yields_List}
use Rattle.std.specs.List.{list_all}
use borrow.Author.Tests.{tests}
use Rattle.fields.specs.Split.{all}
use Rattle.fractions.specs.Fractions.{in_range}
use Rattle.fractions.proofs.all_in_range.Goals as goal

is_all : (f : Float → Bool) (l : List Float) → list_all f l ≡ all f l
unfolding all
is_all f [] = refl
is_all f (x ∷ l) = ap (λ (b : Bool). f x && b) (is_all f l)

pub returns : goal.returns
returns c = all_from_yields_List in_range _ _ _ c.all.ensures.ran (YieldsList-from_slice c.args.weights.now cc) (λ x b q k. search (rules, tests)) ∙ is_all in_range c.args.weights.now
