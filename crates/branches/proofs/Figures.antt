-- Figures of summaries, lookups and subtotals, computed by antt as one table. Assumes nothing.
use mathlib.Core.Path.{◌≡◌, refl}
use mathlib.Core.Bool.{Bool, true, false, ◌&&◌}
use mathlib.Core.List.{List, [], ◌∷◌, map}
use Prim.Native.Nat.{ℕ}
use lib.Dec.{eqb}
use Rattle.refusal.specs.Refusal.{number_of}
use Rattle.refusal.specs.Table.{first, Outcome}
use Rattle.lent.specs.Count.{count, over_all}
use Rattle.lent.specs.Grid.{tab}
use Rattle.lent.specs.Lent.{laid}
use Rattle.tree.specs.Rows.{below, once, is_tree}
use Rattle.tree.specs.Tree.{grow, tree_at, leaves}
use Rattle.branches.specs.Branch.{walk, branches, find, first_of, size_of, depth_of, members_of, subtotal}
use Rattle.branches.specs.Summary.{lacks_nodes, summary_table, summary_outcome, summary_laid, lacks_part, members_table, members_outcome, part_at, part_of}
use Rattle.std.specs.Prelude.{Ok, Err}

abbrev all : List Bool → Bool
all [] = true
all (b ∷ bs) = b && all bs

abbrev are : List ℕ → List ℕ → Bool
are [] [] = true
are [] (y ∷ ys) = false
are (x ∷ xs) [] = false
are (x ∷ xs) (y ∷ ys) = eqb x y && are xs ys

abbrev done : Outcome → Bool
done (Ok _) = true
done (Err r) = false

abbrev refused : Outcome → ℕ → Bool
refused (Ok _) number = false
refused (Err r) number = eqb (number_of r) number

-- document 01's job: "rows [0,1],[2,3], leaves 2, 0, 1"
abbrev three : List ℕ
three = 0 ∷ 1 ∷ 2 ∷ 3 ∷ []

-- "[0,1],[2,3],[4,5]"
abbrev four : List ℕ
four = 0 ∷ 1 ∷ 2 ∷ 3 ∷ 4 ∷ 5 ∷ []

abbrev summaries : List Bool
summaries =
    -- in lists with an entry to spare
    done (summary_outcome three 3 6 5 5)
    ∷ are (summary_laid (first_of three 3) (Ok tt) 3 6) (1 ∷ 2 ∷ 0 ∷ 1 ∷ 0 ∷ 0 ∷ [])
    ∷ are (summary_laid (size_of three 3) (Ok tt) 3 6) (1 ∷ 1 ∷ 1 ∷ 2 ∷ 3 ∷ 0 ∷ [])
    ∷ are (summary_laid (depth_of three 3) (Ok tt) 3 6) (2 ∷ 2 ∷ 1 ∷ 1 ∷ 0 ∷ 0 ∷ [])
    ∷ are (summary_laid (first_of four 4) (Ok tt) 4 7) (0 ∷ 1 ∷ 2 ∷ 3 ∷ 0 ∷ 2 ∷ 0 ∷ [])
    ∷ are (summary_laid (size_of four 4) (Ok tt) 4 7) (1 ∷ 1 ∷ 1 ∷ 1 ∷ 2 ∷ 2 ∷ 4 ∷ [])
    ∷ are (summary_laid (depth_of four 4) (Ok tt) 4 7) (2 ∷ 2 ∷ 2 ∷ 2 ∷ 1 ∷ 1 ∷ 0 ∷ [])
    -- one asset
    ∷ are (summary_laid (first_of [] 1) (Ok tt) 1 1) (0 ∷ [])
    ∷ are (summary_laid (size_of [] 1) (Ok tt) 1 1) (1 ∷ [])
    ∷ are (summary_laid (depth_of [] 1) (Ok tt) 1 1) (0 ∷ [])
    -- "from the root down, left first"
    ∷ are (map (λ b. b.node) (branches three 3)) (4 ∷ 2 ∷ 3 ∷ 0 ∷ 1 ∷ [])
    ∷ are (map (λ b. b.node) (branches four 4)) (6 ∷ 4 ∷ 0 ∷ 1 ∷ 5 ∷ 2 ∷ 3 ∷ [])
    -- 9, 11 for each list, 1, then 14
    ∷ refused (summary_outcome [] 65 0 0 0) 9
    ∷ refused (summary_outcome [] 3 4 5 5) 11
    ∷ refused (summary_outcome [] 3 5 4 5) 11
    ∷ refused (summary_outcome [] 3 5 5 4) 11
    ∷ refused (summary_outcome three 0 0 0 0) 1
    ∷ refused (summary_outcome (0 ∷ 1 ∷ []) 3 5 5 5) 14
    ∷ are (summary_laid (first_of three 3) (summary_outcome three 3 4 5 5) 3 4) (0 ∷ 0 ∷ 0 ∷ 0 ∷ [])
    ∷ []

abbrev order : List ℕ
order = 2 ∷ 0 ∷ 1 ∷ []

abbrev firsts : List ℕ
firsts = 1 ∷ 2 ∷ 0 ∷ 1 ∷ 0 ∷ []

abbrev sizes : List ℕ
sizes = 1 ∷ 1 ∷ 1 ∷ 2 ∷ 3 ∷ []

abbrev lookups : List Bool
lookups =
    are (part_of order firsts sizes 3 4) order
    ∷ are (part_of order firsts sizes 3 3) (0 ∷ 1 ∷ [])
    ∷ are (part_of order firsts sizes 3 2) (2 ∷ [])
    ∷ are (part_of order firsts sizes 3 1) (1 ∷ [])
    ∷ are (members_of three 3 3) (0 ∷ 1 ∷ [])
    -- a node above 2n − 2, a node that the summary has not, a part that does not fit; n = 0 is 1; 9 comes before
    ∷ refused (members_outcome order firsts sizes 3 5) 14
    ∷ are (part_of order firsts sizes 3 5) []
    ∷ refused (members_outcome order (1 ∷ []) sizes 3 3) 14
    ∷ refused (members_outcome order firsts (1 ∷ []) 3 3) 14
    ∷ refused (members_outcome (2 ∷ 0 ∷ []) firsts sizes 3 3) 14
    ∷ refused (members_outcome order firsts sizes 0 9) 1
    ∷ refused (members_outcome order firsts sizes 65 0) 9
    ∷ []

-- the job's listing: 250000, 250000, 500000
abbrev shares : List ℕ
shares = 250000 ∷ 250000 ∷ 500000 ∷ []

abbrev subtotals : List Bool
subtotals =
    eqb (subtotal shares (members_of three 3 4)) 1000000
    ∷ eqb (subtotal shares (members_of three 3 3)) 500000
    ∷ eqb (subtotal shares (members_of three 3 2)) 500000
    ∷ eqb (subtotal shares (members_of three 3 0)) 250000
    ∷ []

pub figures : all summaries && all lookups && all subtotals ≡ true
unfolding count over_all tab laid first below once is_tree grow tree_at leaves walk branches find first_of size_of depth_of members_of subtotal lacks_nodes summary_table summary_outcome summary_laid lacks_part members_table members_outcome part_at part_of
figures = refl
