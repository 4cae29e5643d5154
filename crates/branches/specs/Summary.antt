-- Document 02, request 13: what the public calls answer and leave in their lists. Definitions only.
use Rattle.std.specs.Prelude.{ℕ, ◌+◌, ◌-◌, ◌*◌, Bool, not, ◌||◌, List, [], ◌∷◌, ltb, eqb, length, get_or, take, drop, Ok, Err}
use Rattle.refusal.specs.Table.{Line, first, Outcome}
use Rattle.refusal.specs.declared.Refusal.TheVariants.{NoData, OverLimit, ShortBuffer, NoTree}
use Rattle.lent.specs.Grid.{tab}
use Rattle.lent.specs.Lent.{most_assets, laid}
use Rattle.tree.specs.Rows.{is_tree}

-- a list of a, b or c numbers is too short for the 2n − 1 nodes
unfoldable pub lacks_nodes : ℕ → ℕ → ℕ → ℕ → Bool
lacks_nodes n a b c = ltb a (2 * n - 1) || (ltb b (2 * n - 1) || ltb c (2 * n - 1))

-- 9, 11, then "n = 0 is 1, then 14"
unfoldable pub summary_table : List ℕ → ℕ → ℕ → ℕ → ℕ → List Line
unfolding lacks_nodes
summary_table rows n a b c =
    (ltb most_assets n, OverLimit) ∷ (lacks_nodes n a b c, ShortBuffer) ∷ (eqb n 0, NoData) ∷ (not (is_tree rows n), NoTree) ∷ []

unfoldable pub summary_outcome : List ℕ → ℕ → ℕ → ℕ → ℕ → Outcome
unfolding summary_table
summary_outcome rows n a b c = first (summary_table rows n a b c)

-- a list of the summary after an outcome: f of each node 0 to 2n − 2, and zeros after them
unfoldable pub summary_laid : (ℕ → ℕ) → Outcome → ℕ → ℕ → List ℕ
summary_laid f o n room = laid 0 o room (tab (2 * n - 1) f)

-- the summary has no node v, or its part ends past the end of an order of len
unfoldable pub lacks_part : ℕ → List ℕ → List ℕ → ℕ → Bool
lacks_part len firsts sizes v = not (ltb v (length firsts)) || (not (ltb v (length sizes)) || ltb len (get_or firsts v 0 + get_or sizes v 0))

-- 9, 1, then "14 for a node above 2n − 2", and for a part that is not there
unfoldable pub members_table : List ℕ → List ℕ → List ℕ → ℕ → ℕ → List Line
unfolding lacks_part
members_table order firsts sizes n v =
    (ltb most_assets n, OverLimit) ∷ (eqb n 0, NoData) ∷ (ltb (2 * n - 2) v, NoTree) ∷ (lacks_part (length order) firsts sizes v, NoTree) ∷ []

unfoldable pub members_outcome : List ℕ → List ℕ → List ℕ → ℕ → ℕ → Outcome
unfolding members_table
members_outcome order firsts sizes n v = first (members_table order firsts sizes n v)

-- "handed back as that part": as many entries as the node's size, from its first place on; none where the call refuses
unfoldable pub part_at : Outcome → List ℕ → ℕ → ℕ → List ℕ
part_at (Ok _) order start size = take size (drop start order)
part_at (Err r) order start size = []

unfoldable pub part_of : List ℕ → List ℕ → List ℕ → ℕ → ℕ → List ℕ
part_of order firsts sizes n v = part_at (members_outcome order firsts sizes n v) order (get_or firsts v 0) (get_or sizes v 0)
