-- `names::all_in_name` meets its contract. Assumes nothing.
use Rattle.std.proofs.Common.{rules}
use mathlib.Core.Path.{◌∙◌}
use borrow.Author.Tests.{tests}
use Rattle.std.proofs.lemmas.Iterator.{YieldsList-from_slice}
use Rattle.std.proofs.lemmas.Iterator.Search.{all_from_yields_List}
use Rattle.fields.proofs.Every.{all_list}
use Rattle.names.specs.Names.{in_name}
use Rattle.names.proofs.all_in_name.Goals as goal

pub returns : goal.returns
returns c =
    all_from_yields_List in_name c.all.new.self _ _ c.all.ensures.ran (YieldsList-from_slice c.args.w.now cc) (λ x b q k. search (rules, tests))
    ∙ all_list in_name c.args.w.now
