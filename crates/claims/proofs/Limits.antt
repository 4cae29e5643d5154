-- Document 02, request 8: "the allocator's 9 for over 64 assets or 4,096 cells". What the reader refuses so the allocators refuse so, before all else. Assumes nothing.
use Prim.Native.Nat.{ℕ, ◌*◌}
use mathlib.Core.Path.{◌≡◌, refl, ◌∙◌}
use mathlib.Core.Bool.{Bool, true, false, not, ◌||◌}
use mathlib.Core.List.{List}
use mathlib.Core.Logic.{⊎_elim}
use lib.Dec.{ltb}
use lib.ListN.{length}
use Rattle.refusal.specs.Table.{first}
use Rattle.refusal.specs.declared.Refusal.TheVariants.{OverLimit}
use Rattle.refusal.proofs.Tables.{table_hit, table_pass, first_refused}
use Rattle.lent.specs.Lent.{over_limit, too_big, shape_of}
use Rattle.lent.proofs.Laws.{either}
use Rattle.heading.proofs.Judged.{or_right}
use Rattle.inputs.specs.Inputs.{matrix_lines}
use Rattle.linkage.specs.declared.Distance.{Distance}
use Rattle.linkage.specs.declared.Linkage.{Linkage}
use Rattle.reading.specs.Reading.{priced, rows_in, assets, is_over}
use Rattle.rooms.specs.Rooms.{ParityRoom}
use Rattle.hierarchy.specs.Hierarchy.{Room}
use Rattle.hrp.specs.Hrp as hrp
use Rattle.hcaa.specs.Hcaa as hcaa
use Rattle.job.specs.Job as job
use Rattle.std.specs.Prelude.{None, Err}

or_second : (a b : Bool) → b ≡ true → (a || b) ≡ true
or_second true b e = refl
or_second false b e = e

-- so many rows of n cells, as prices or as a covariance
module _ (rows n : ℕ) (over : is_over rows n ≡ true) where
  cells_over : ltb 64 n ≡ false → over_limit rows n ≡ true
  unfolding is_over over_limit
  cells_over e = or_second (ltb 4096 rows) _ (or_second (ltb 64 n) (ltb 4096 (rows * n)) (or_right (ltb 64 n) (ltb 4096 (rows * n)) e over))

  by_cells : (p : Bool) (pl rl cl : ℕ) → ltb 64 n ≡ false → first (matrix_lines n (shape_of p rows n) pl None rl (shape_of (not p) rows n) cl) ≡ Err OverLimit
  unfolding matrix_lines shape_of too_big
  by_cells true pl rl cl e = table_pass _ OverLimit _ e ∙ table_hit _ OverLimit _ (cells_over e)
  by_cells false pl rl cl e = table_pass _ OverLimit _ e ∙ table_pass _ OverLimit _ refl ∙ table_pass _ OverLimit _ refl ∙ table_hit _ OverLimit _ (cells_over e)

  nine : (p : Bool) (pl rl cl : ℕ) → first (matrix_lines n (shape_of p rows n) pl None rl (shape_of (not p) rows n) cl) ≡ Err OverLimit
  unfolding matrix_lines
  nine p pl rl cl = ⊎_elim (λ e. table_hit _ OverLimit _ e) (λ e. by_cells p pl rl cl e) (either (ltb 64 n))

-- the 9 of the matrices is an allocator's, whatever comes after it
hrp_first : (j : hrp.HrpJob) (room : ParityRoom)
    → first (matrix_lines j.assets j.prices_shape (length j.prices) j.returns_shape (length j.returns) j.covariance_shape (length j.covariance)) ≡ Err OverLimit
    → hrp.hrp_outcome j room ≡ Err OverLimit
unfolding hrp.hrp_outcome hrp.hrp_table
hrp_first j room e = first_refused (matrix_lines j.assets j.prices_shape (length j.prices) j.returns_shape (length j.returns) j.covariance_shape (length j.covariance)) _ OverLimit e

hcaa_first : (j : hcaa.HcaaJob) (room : Room)
    → first (matrix_lines j.assets j.prices_shape (length j.prices) j.returns_shape (length j.returns) j.covariance_shape (length j.covariance)) ≡ Err OverLimit
    → hcaa.hcaa_outcome j room ≡ Err OverLimit
unfolding hcaa.hcaa_outcome hcaa.hcaa_table
hcaa_first j room e = first_refused (matrix_lines j.assets j.prices_shape (length j.prices) j.returns_shape (length j.returns) j.covariance_shape (length j.covariance)) _ OverLimit e

module _ (text : List ℕ) (over : is_over (rows_in text) (assets text) ≡ true) where
  pub hrp_nine : (d : Distance) → hrp.hrp_outcome (job.hrp_job_in text d) job.room_of_hrp ≡ Err OverLimit
  unfolding job.hrp_job_in
  hrp_nine d =
      let j = job.hrp_job_in text d in
      hrp_first j job.room_of_hrp (nine (rows_in text) (assets text) over (priced text) (length j.prices) (length j.returns) (length j.covariance))

  pub hcaa_nine : (l : Linkage) (d : Distance) → hcaa.hcaa_outcome (job.hcaa_job_in text l d) job.room_of_hcaa ≡ Err OverLimit
  unfolding job.hcaa_job_in
  hcaa_nine l d =
      let j = job.hcaa_job_in text l d in
      hcaa_first j job.room_of_hcaa (nine (rows_in text) (assets text) over (priced text) (length j.prices) (length j.returns) (length j.covariance))
