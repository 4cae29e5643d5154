-- Document 01, "Tree and leaf order": the merge step. Definitions only.
use Rattle.std.specs.Prelude.{ℕ, ◌+◌, ◌-◌, ◌*◌, Bool, true, false, not, ◌&&◌, cond, List, [], ◌∷◌, ◌++◌, get_or, set, replicate, eqb, Float}
use Rattle.std.specs.Float.{nan, binary64}
use Rattle.std.specs.Float.Ieee.{add, sub, mul, div}
use Rattle.arithmetic.specs.Constants.{pz, unit}
use Rattle.arithmetic.specs.Arithmetic.{min_of, max_of}
use Rattle.arithmetic.specs.Root.{root}
use Rattle.lent.specs.Grid.{cell, tab, zeros}
use Rattle.lent.specs.Range.{range}
use Rattle.linkage.specs.declared.Linkage.{Linkage}
use Rattle.linkage.specs.declared.Linkage.TheVariants.{Single, Complete, Average, Ward}
use Rattle.pairing.specs.declared.Best.{Best}
pub use Rattle.pairing.specs.Pairing.{eps, pair, nothing}
unfoldable pub use Rattle.pairing.specs.Pairing.{pair_before, near, better, offer}

-- ---- "by `Linkage::update` in `linkage.rs` and in its order of operations"

unfoldable pub ward_f : (dxi dyi dxy nx ny ni t : Float) → Float
ward_f dxi dyi dxy nx ny ni t =
    root (max_of
    (sub binary64
    (add binary64
    (mul binary64 (mul binary64 (mul binary64 (add binary64 ni nx) t) dxi) dxi)
    (mul binary64 (mul binary64 (mul binary64 (add binary64 ni ny) t) dyi) dyi))
    (mul binary64 (mul binary64 (mul binary64 ni t) dxy) dxy))
    pz)

unfoldable pub update_f : Linkage → (dxi dyi dxy nx ny ni : Float) → Float
update_f Single dxi dyi dxy nx ny ni = min_of dxi dyi
update_f Complete dxi dyi dxy nx ny ni = max_of dxi dyi
update_f Average dxi dyi dxy nx ny ni = div binary64 (add binary64 (mul binary64 nx dxi) (mul binary64 ny dyi)) (add binary64 nx ny)
update_f Ward dxi dyi dxy nx ny ni = ward_f dxi dyi dxy nx ny ni (div binary64 unit (add binary64 (add binary64 nx ny) ni))

-- ---- the scan

-- "Each of n − 1 steps scans live slots a < b in order.": the pair (a, b), where b is live
unfoldable pub look : ℕ → List Float → List ℕ → List Bool → ℕ → ℕ → Best → Best
look n d ids live a b best = cond (get_or live b false) (offer a b (cell d n a b) (get_or ids a 0) (get_or ids b 0) best) best

unfoldable pub scan_row : ℕ → List Float → List ℕ → List Bool → ℕ → Best → Best
scan_row n d ids live a best = range (look n d ids live a) (a + 1) n best

unfoldable pub scan_from : ℕ → List Float → List ℕ → List Bool → ℕ → Best → Best
scan_from n d ids live a best = cond (get_or live a false) (scan_row n d ids live a best) best

unfoldable pub scan_all : ℕ → List Float → List ℕ → List Bool → Best
scan_all n d ids live = range (scan_from n d ids live) 0 n nothing

-- ---- "Distances from the lower slot x to each other live slot i are updated in both cells from rows x and y"

-- both cells
unfoldable pub both : ℕ → ℕ → ℕ → Float → List Float → List Float
both n x i v d = set (set d (x * n + i) v) (i * n + x) v

unfoldable pub movable : List Bool → ℕ → ℕ → ℕ → Bool
movable live x y i = get_or live i false && (not (eqb i x) && not (eqb i y))

unfoldable pub moved : Linkage → ℕ → List Float → List Bool → ℕ → ℕ → Float → ℕ → List Float → List Float
moved l n sizes live x y dxy i d =
    cond (movable live x y i)
    (both n x i (update_f l (cell d n x i) (cell d n y i) dxy (get_or sizes x nan) (get_or sizes y nan) (get_or sizes i nan)) d)
    d

unfoldable pub moved_all : Linkage → ℕ → List Float → List Bool → ℕ → ℕ → Float → List Float → List Float
moved_all l n sizes live x y dxy d = range (moved l n sizes live x y dxy) 0 n d

-- ---- the steps

pub record State : Type 0 where
  pub cells : List Float
  pub ids : List ℕ
  pub live : List Bool
  pub sizes : List Float
  pub rows : List ℕ

-- "Row k holds the two ids, smaller first; the lower slot becomes id n + k with the summed size; the other dies."
unfoldable pub merged : Linkage → ℕ → ℕ → State → Best → State
merged l n k s best =
    record {
      cells = moved_all l n s.sizes s.live best.a.0 best.b.0 best.dist s.cells;
      ids = set s.ids best.a.0 (n + k);
      live = set s.live best.b.0 false;
      sizes = set s.sizes best.a.0 (add binary64 (get_or s.sizes best.a.0 nan) (get_or s.sizes best.b.0 nan));
      rows = s.rows ++ (best.low.0 ∷ best.high.0 ∷ []);
    }

unfoldable pub step : Linkage → ℕ → ℕ → State → State
step l n k s = merged l n k s (scan_all n s.cells s.ids s.live)

-- "Work on a working matrix of 4,096 cells, all zero at the start, filled from the caller's."
unfoldable pub copied : List Float → ℕ → List Float → List Float
copied xs k d = set d k (get_or xs k nan)

-- "Slots 0 to n − 1 begin with the assets, size 1."
unfoldable pub start : ℕ → List Float → State
unfolding tab
start n xs =
    record {
      cells = range (copied xs) 0 (n * n) (zeros 4096);
      ids = tab n (λ k. k);
      live = replicate n true;
      sizes = replicate n unit;
      rows = [];
    }

-- the state before row k, and the rows of an n by n matrix
unfoldable pub state_at : Linkage → ℕ → List Float → ℕ → State
state_at l n xs k = range (step l n) 0 k (start n xs)

unfoldable pub merge_rows : Linkage → ℕ → List Float → List ℕ
merge_rows l n xs = (state_at l n xs (n - 1)).rows
