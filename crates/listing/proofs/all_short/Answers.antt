-- `listing::all_short` meets its contract. Assumes nothing.
use Rattle.std.proofs.Common.{rules}
use mathlib.Core.Path.{◌∙◌}
use borrow.Author.Tests.{tests}
use Rattle.std.proofs.lemmas.Iterator.{YieldsList-from_slice}
use Rattle.std.proofs.lemmas.Iterator.Search.{all_from_yields_List}
use Rattle.fields.proofs.Every.{all_list}
use Rattle.listing.specs.Listing.{is_short}
use Rattle.listing.proofs.all_short.Goals as goal

pub returns : goal.returns
unfolding is_short
returns c =
    all_from_yields_List (is_short c.args.text.now) c.all.new.self _ _ c.all.ensures.ran (YieldsList-from_slice c.args.starts.now cc) (λ x b q k. search (rules, tests))
    ∙ all_list (is_short c.args.text.now) c.args.starts.now
