-- Document 02, request 13, "Group lines on the sheet": "a line per node from the root down, left first: depth, size, subtotal of the listing's millionths, tabs between"; request 10: these are after ceilings. Definitions only.
use Rattle.std.specs.Prelude.{ℕ, zero, suc, Bool, true, false, not, cond, List, [], ◌∷◌, ◌++◌, map, ltb, eqb, length, get_or, Float}
use Rattle.refusal.specs.Table.{Line, first, and_then, Outcome}
use Rattle.refusal.specs.declared.Refusal.TheVariants.{NoData, DimensionMismatch, OverLimit, ShortBuffer, NoTree, MalformedText}
use Rattle.lent.specs.Lent.{most_assets}
use Rattle.text.specs.Bytes.{bytes}
use Rattle.fields.specs.Split.{newline, tabulator, all}
use Rattle.ceilings.specs.Figures.{are_unlike, figures_lines}
use Rattle.tree.specs.Rows.{is_tree}
use Rattle.branches.specs.Branch.{branches, depth_of, size_of, members_of, subtotal}
use Rattle.reading.specs.Reading.{most_bytes}
use Rattle.writing.specs.Writing.{decimal, joined}
use Rattle.listing.specs.Listing.{is_short}
use Rattle.groups.specs.declared.Group.{Group}

-- ---- a node's line

-- its depth, its size, and the "subtotal of the listing's millionths" over its assets
unfoldable pub group_of : List ℕ → List ℕ → ℕ → ℕ → Group
unfolding depth_of size_of members_of subtotal
group_of rows parts n v = record { depth = depth_of rows n v; size = size_of rows n v; total = subtotal parts (members_of rows n v) }

-- "depth, size, subtotal .., tabs between"
unfoldable pub group_fields : Group → List ℕ
unfolding decimal
group_fields g = decimal g.depth ++ (tabulator ∷ []) ++ decimal g.size ++ (tabulator ∷ []) ++ decimal g.total

-- for a person to read, the same line "indented by depth", by two spaces for each node above, ..
unfoldable pub indent : ℕ → List ℕ
indent zero = []
indent (suc depth) = indent depth ++ bytes "  "

-- .. "with the assets' names on the leaves": node v is an asset where it is below n
unfoldable pub tag_of : (ℕ → List ℕ) → ℕ → ℕ → List ℕ
tag_of name n v = cond (ltb v n) (tabulator ∷ name v) []

unfoldable pub group_line : Bool → (ℕ → List ℕ) → ℕ → ℕ → Group → List ℕ
unfolding group_fields indent tag_of
group_line false name n v g = group_fields g ++ (newline ∷ [])
group_line true name n v g = indent g.depth ++ group_fields g ++ tag_of name n v ++ (newline ∷ [])

-- ---- the sheet of a tree of n assets by their millionths

-- the nodes "from the root down, left first"
unfoldable pub nodes_down : List ℕ → ℕ → List ℕ
unfolding branches
nodes_down rows n = map (λ b. b.node) (branches rows n)

-- the line at a place of the sheet
unfoldable pub line_down : Bool → (ℕ → List ℕ) → List ℕ → List ℕ → ℕ → ℕ → List ℕ
unfolding group_line group_of nodes_down
line_down named name rows parts n i = group_line named name n (get_or (nodes_down rows n) i 0) (group_of rows parts n (get_or (nodes_down rows n) i 0))

-- "a line per node"
unfoldable pub group_sheet : Bool → (ℕ → List ℕ) → List ℕ → List ℕ → ℕ → List ℕ
unfolding joined line_down nodes_down
group_sheet named name rows parts n = joined (length (nodes_down rows n)) (line_down named name rows parts n)

-- ---- the sheet of the assets whose names begin at `starts` in a text, by their weights and the rows of their tree

-- 8,192 bytes hold every sheet, and 32,768 every sheet with names
unfoldable pub least_sheet : Bool → ℕ
least_sheet named = cond named 32768 8192

-- 9 of the text and of the assets, 11; then 3: a weight for each asset, and a ceiling for each or none; 1: no asset; 14: "merge rows are no tree"; 15
unfoldable pub group_lines : List ℕ → List ℕ → ℕ → List ℕ → List ℕ → Bool → ℕ → List Line
unfolding least_sheet are_unlike is_tree all is_short
group_lines text starts count cs rows named room =
    (ltb most_bytes (length text), OverLimit)
    ∷ (ltb most_assets (length starts), OverLimit)
    ∷ (ltb room (least_sheet named), ShortBuffer)
    ∷ (not (eqb count (length starts)), DimensionMismatch)
    ∷ (are_unlike cs (length starts), DimensionMismatch)
    ∷ (eqb (length starts) 0, NoData)
    ∷ (not (is_tree rows (length starts)), NoTree)
    ∷ (not (all (is_short text) starts), MalformedText)
    ∷ []

-- then 13, 18 and 20
unfoldable pub group_outcome : List ℕ → List ℕ → List Float → List ℕ → List ℕ → Bool → ℕ → Outcome
unfolding group_lines figures_lines
group_outcome text starts ws cs rows named room = and_then (first (group_lines text starts (length ws) cs rows named room)) (first (figures_lines ws cs))
