-- Document 01, "Tree and leaf order": what the public calls answer and leave in their buffers. Definitions only.
use Rattle.std.specs.Prelude.{ℕ, ◌-◌, ◌*◌, not, List, [], ◌∷◌, ◌++◌, ltb, eqb, length, get_or, Float}
use Rattle.arithmetic.specs.Constants.{pz}
use Rattle.refusal.specs.Table.{Line, first, Outcome}
use Rattle.refusal.specs.declared.Refusal.TheVariants.{NoData, OverLimit, ShortBuffer, NoTree}
use Rattle.lent.specs.Grid.{cell, grid}
use Rattle.lent.specs.Lent.{most_assets, squares, laid, answer_of, Answer}
use Rattle.tree.specs.Rows.{is_tree, is_order}
use Rattle.tree.specs.Tree.{leaves_of}

-- 9, 11, then "Leaf order ..: n = 0 is 1, then 14": "merge rows are no tree, a node number is above 2n − 2"
unfoldable pub order_table : List ℕ → ℕ → ℕ → ℕ → List Line
order_table rows n v room =
    (ltb most_assets n, OverLimit)
    ∷ (ltb room n, ShortBuffer)
    ∷ (eqb n 0, NoData)
    ∷ (not (is_tree rows n), NoTree)
    ∷ (ltb (2 * n - 2) v, NoTree)
    ∷ []

unfoldable pub order_outcome : List ℕ → ℕ → ℕ → ℕ → Outcome
unfolding order_table
order_outcome rows n v room = first (order_table rows n v room)

-- one row of as many numbers as the node has leaves
unfoldable pub order_answer : List ℕ → ℕ → ℕ → ℕ → Answer
order_answer rows n v room = answer_of (order_outcome rows n v room) 1 (length (leaves_of rows n v))

unfoldable pub order_laid : List ℕ → ℕ → ℕ → ℕ → List ℕ
order_laid rows n v room = laid 0 (order_outcome rows n v room) room (leaves_of rows n v)

-- seriated: cell (i, j) is the cell of the i-th and j-th asset of the order
unfoldable pub seriated_cell : List Float → ℕ → List ℕ → ℕ → ℕ → Float
seriated_cell m n order i j = cell m n (get_or order i 0) (get_or order j 0)

-- 9, 10, 11, 3, then 14: "a given leaf order isn't each asset once"
unfoldable pub seriate_outcome : List Float → ℕ → ℕ → List ℕ → ℕ → Outcome
seriate_outcome m rows w order room = first (squares (length m) rows w room ++ ((not (is_order order w), NoTree) ∷ []))

unfoldable pub seriate_answer : List Float → ℕ → ℕ → List ℕ → ℕ → Answer
seriate_answer m rows w order room = answer_of (seriate_outcome m rows w order room) w w

unfoldable pub seriated : List Float → ℕ → ℕ → List ℕ → ℕ → List Float
unfolding seriated_cell
seriated m rows w order room = laid pz (seriate_outcome m rows w order room) room (grid w w (seriated_cell m w order))
