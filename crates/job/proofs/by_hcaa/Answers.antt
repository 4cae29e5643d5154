-- `job::by_hcaa` meets its contract. Assumes nothing.
use Prim.Native.Nat.{ℕ}
use mathlib.Core.Path.{ap, ◌∙◌}
use mathlib.Core.List.{List}
use Rattle.heading.specs.Heading.{field, clusters_of}
use Rattle.job.specs.Job.{clusters_as}
use Rattle.job.proofs.Jobs.{hcaa_allotted}
use Rattle.job.proofs.by_hcaa.Goals as goal

pub returns : goal.returns
returns c =
    hcaa_allotted _ _ _ _ _ c.requires _ _ _ _ c.cells_if.ensures c.shape_if.ensures c.cells_if-2.ensures c.shape_if-2.ensures _ _ (c.piece.ensures ∙ ap (λ (x : List ℕ). field x 1) c.piece-line.ensures) (c.clusters_in.ensures ∙ ap (λ (x : List ℕ). clusters_as (clusters_of (field x 4))) c.piece-line.ensures) _ _ c.allocate-said.ensures
