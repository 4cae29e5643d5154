-- Figures of trees, leaf orders and seriated matrices, computed by antt as one table. Assumes nothing.
use mathlib.Core.Path.{◌≡◌, refl}
use mathlib.Core.Bool.{Bool, true, false, not, ◌&&◌}
use mathlib.Core.List.{List, [], ◌∷◌, map}
use Prim.Native.Nat.{ℕ}
use lib.Count.{count_trailing_zeros}
use lib.Dec.{eqb}
use lib.Ieee.{Float, binary64, size, span, climb, odd, units, round, of_fields, of_bits, to_bits}
use Rattle.refusal.specs.Refusal.{number_of}
use Rattle.refusal.specs.Table.{first}
use Rattle.lent.specs.Count.{count}
use Rattle.lent.specs.Grid.{tab, grid}
use Rattle.lent.specs.Lent.{over_limit, other_length, sizes, squares, laid, answer_of, Answer}
use Rattle.tree.specs.Rows.{below, once, is_tree, is_order}
use Rattle.tree.specs.Tree.{grow, tree_at, leaves, leaves_of}
use Rattle.tree.specs.Order.{order_table, order_outcome, order_answer, order_laid, seriated_cell, seriate_outcome, seriate_answer, seriated}
use Rattle.std.specs.Prelude.{Ok, Err}

abbrev all : List Bool → Bool
all [] = true
all (b ∷ bs) = b && all bs

abbrev are : List ℕ → List ℕ → Bool
are [] [] = true
are [] (y ∷ ys) = false
are (x ∷ xs) [] = false
are (x ∷ xs) (y ∷ ys) = eqb x y && are xs ys

-- an answer's rows and columns, or its refusal's number
abbrev made : Answer → ℕ → ℕ → Bool
made (Ok s) rows columns = eqb s.rows rows && eqb s.columns columns
made (Err r) rows columns = false

abbrev refused : Answer → ℕ → Bool
refused (Ok s) number = false
refused (Err r) number = eqb (number_of r) number

-- "rows [0,1],[2,3], leaves 2, 0, 1"
abbrev three : List ℕ
three = 0 ∷ 1 ∷ 2 ∷ 3 ∷ []

abbrev trees : List Bool
trees =
    is_tree three 3
    -- a row that names itself, an id twice, a row short, a row that has one entry, too few assets
    ∷ not (is_tree (0 ∷ 1 ∷ 2 ∷ 4 ∷ []) 3)
    ∷ not (is_tree (0 ∷ 1 ∷ 0 ∷ 3 ∷ []) 3)
    ∷ not (is_tree (0 ∷ 1 ∷ []) 3)
    ∷ not (is_tree (0 ∷ 1 ∷ 2 ∷ []) 3)
    ∷ not (is_tree three 2)
    -- the larger id may come first
    ∷ is_tree (1 ∷ 0 ∷ 3 ∷ 2 ∷ []) 3
    -- "Merge rows of n = 0 or 1: accepted, none"
    ∷ is_tree [] 0
    ∷ is_tree [] 1
    ∷ not (is_tree (0 ∷ 0 ∷ []) 0)
    ∷ is_order (2 ∷ 0 ∷ 1 ∷ []) 3
    ∷ not (is_order (0 ∷ 0 ∷ 1 ∷ []) 3)
    ∷ not (is_order (0 ∷ 1 ∷ []) 3)
    ∷ not (is_order (0 ∷ 1 ∷ 2 ∷ 3 ∷ []) 3)
    ∷ is_order [] 0
    ∷ []

abbrev orders : List Bool
orders =
    are (leaves_of three 3 4) (2 ∷ 0 ∷ 1 ∷ [])
    -- in a buffer with an entry to spare; and the leaves of row 0 and of an asset
    ∷ made (order_answer three 3 4 4) 1 3
    ∷ are (order_laid three 3 4 4) (2 ∷ 0 ∷ 1 ∷ 0 ∷ [])
    ∷ made (order_answer three 3 3 3) 1 2
    ∷ are (order_laid three 3 3 3) (0 ∷ 1 ∷ 0 ∷ [])
    ∷ made (order_answer three 3 2 3) 1 1
    ∷ are (order_laid three 3 2 3) (2 ∷ 0 ∷ 0 ∷ [])
    ∷ are (order_laid [] 1 0 1) (0 ∷ [])
    -- a node above 2n − 2, no tree
    ∷ refused (order_answer three 3 5 3) 14
    ∷ are (order_laid three 3 5 3) (0 ∷ 0 ∷ 0 ∷ [])
    ∷ refused (order_answer (0 ∷ 1 ∷ []) 3 4 3) 14
    -- n = 0 is 1, also where there is no tree and no node; 9 and 11 come before
    ∷ refused (order_answer [] 0 0 0) 1
    ∷ refused (order_answer three 0 5 2) 1
    ∷ refused (order_answer [] 65 0 0) 9
    ∷ refused (order_answer [] 3 9 2) 11
    ∷ are (order_laid [] 3 9 2) (0 ∷ 0 ∷ [])
    ∷ []

-- rows 1 2 3, 4 5 6 and 7 8 9, each number a double's bits
abbrev nine : List Float
nine = map (of_bits binary64) (1 ∷ 2 ∷ 3 ∷ 4 ∷ 5 ∷ 6 ∷ 7 ∷ 8 ∷ 9 ∷ [])

abbrev bits : List Float → List ℕ
bits xs = map (to_bits binary64) xs

abbrev seriations : List Bool
seriations =
    made (seriate_answer nine 3 3 (2 ∷ 0 ∷ 1 ∷ []) 10) 3 3
    ∷ are (bits (seriated nine 3 3 (2 ∷ 0 ∷ 1 ∷ []) 10)) (9 ∷ 7 ∷ 8 ∷ 3 ∷ 1 ∷ 2 ∷ 6 ∷ 4 ∷ 5 ∷ 0 ∷ [])
    -- an order that is not each asset once
    ∷ refused (seriate_answer nine 3 3 (0 ∷ 0 ∷ 1 ∷ []) 9) 14
    ∷ are (bits (seriated nine 3 3 (0 ∷ 0 ∷ 1 ∷ []) 9)) (0 ∷ 0 ∷ 0 ∷ 0 ∷ 0 ∷ 0 ∷ 0 ∷ 0 ∷ 0 ∷ [])
    ∷ refused (seriate_answer nine 3 3 (2 ∷ 0 ∷ 1 ∷ 0 ∷ []) 9) 14
    -- 9, 10, 11 and 3 come before
    ∷ refused (seriate_answer [] 5000 3 [] 9) 9
    ∷ refused (seriate_answer nine 3 4 [] 9) 10
    ∷ refused (seriate_answer nine 3 3 [] 8) 11
    ∷ refused (seriate_answer nine 9 1 [] 9) 3
    -- 0 by 0 is accepted, empty
    ∷ made (seriate_answer [] 0 0 [] 0) 0 0
    ∷ []

pub figures : all trees && all orders && all seriations ≡ true
unfolding count below once is_tree is_order grow tree_at leaves first order_table order_outcome order_answer order_laid over_limit other_length sizes squares laid answer_of tab grid seriated_cell seriate_outcome seriate_answer seriated round units odd count_trailing_zeros size span climb of_fields of_bits to_bits
figures = refl
