-- What the private functions ask of one another and promise: may be skipped. Definitions only.
use Rattle.std.specs.Prelude.{◌≡◌, List, ℕ, ◌-◌, ◌*◌, ◌<◌, ◌≤◌, take, Float, Ok}
use Rattle.refusal.specs.Table.{or_else, and_then, Outcome}
use Rattle.refusal.specs.declared.Refusal.TheVariants.{NoData}
use Rattle.stats.specs.Covariance.{any_low}
use Rattle.linkage.specs.declared.Distance.{Distance}
use Rattle.linkage.specs.declared.Linkage.{Linkage}
use Rattle.hierarchy.specs.Hierarchy.{HierarchyCall, Room, hcaa_rows, hcaa_order, hierarchy_outcome, HierarchyLaid}

-- where nothing was refused: 1 to 64 assets, their covariance in a slice of len, and a scratch with room for a matrix
pub record Sown (said : Outcome) (len n scratch : ℕ) : Type 0 where
  pub some : said ≡ Ok tt → 0 < n
  pub few : said ≡ Ok tt → n ≤ 64
  pub cells : said ≡ Ok tt → len ≡ n * n
  pub for_scratch : said ≡ Ok tt → n * n ≤ scratch

-- the same where nothing was, with rooms for two matrices and the whole arrays of the tree and its leaf order
pub record Ground (len n corr scratch tree leaves : ℕ) : Type 0 where
  pub some : 0 < n
  pub few : n ≤ 64
  pub cells : len ≡ n * n
  pub for_corr : n * n ≤ corr
  pub for_scratch : n * n ≤ scratch
  pub rows : tree ≡ 126
  pub order : leaves ≡ 64

-- what was said before, then the variances; where nothing is refused, the tree and its leaf order at the fronts of two arrays
pub record Planted (said : Outcome) (d : Distance) (l : Linkage) (cov : List Float) (n : ℕ) (r : Outcome) (tree leaves : List ℕ) : Type 0 where
  pub answer : r ≡ and_then said (or_else (any_low cov n) NoData (Ok tt))
  pub rows_are : r ≡ Ok tt → take (2 * (n - 1)) tree ≡ hcaa_rows d l cov n
  pub order_is : r ≡ Ok tt → take n leaves ≡ hcaa_order d l cov n

-- what the steps of a whole call answer, and leave in the buffers where nothing is refused
pub record HierarchyWorked (q : HierarchyCall) (d : Distance) (l : Linkage) (cov : List Float) (rows_in w : ℕ) (room : Room)
    (r : Outcome) (rows order : List ℕ) (weights scratch : List Float) : Type 0 where
  pub answer : r ≡ hierarchy_outcome q d l cov rows_in w room
  pub filled : r ≡ Ok tt → HierarchyLaid (Ok tt) q.rule d l cov w room rows order weights scratch
