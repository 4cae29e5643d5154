-- Document 02, request 11: "the number of pairs looked at": 1 for each live pair a < b of document 01's scan, over all steps. Definitions only.
use Rattle.std.specs.Prelude.{ℕ, ◌+◌, ◌-◌, Bool, false, cond, List, get_or, Float}
use Rattle.lent.specs.Range.{range}
use Rattle.linkage.specs.declared.Linkage.{Linkage}
use Rattle.linkage.specs.Merge.{state_at}

-- the scan of specs/Merge.antt, with 1 more for each pair that it offers
unfoldable pub count_one : List Bool → ℕ → ℕ → ℕ
count_one live b c = cond (get_or live b false) (c + 1) c

unfoldable pub count_row : ℕ → List Bool → ℕ → ℕ → ℕ
unfolding count_one
count_row n live a c = range (count_one live) (a + 1) n c

unfoldable pub count_from : ℕ → List Bool → ℕ → ℕ → ℕ
unfolding count_row
count_from n live a c = cond (get_or live a false) (count_row n live a c) c

unfoldable pub count_all : ℕ → List Bool → ℕ
unfolding count_from
count_all n live = range (count_from n live) 0 n 0

-- those of the steps before row k, and of all n − 1 steps
unfoldable pub pairs_at : Linkage → ℕ → List Float → ℕ → ℕ
unfolding count_all
pairs_at l n xs k = range (λ j c. c + count_all n (state_at l n xs j).live) 0 k 0

unfoldable pub pairs_visited : Linkage → ℕ → List Float → ℕ
unfolding pairs_at
pairs_visited l n xs = pairs_at l n xs (n - 1)
