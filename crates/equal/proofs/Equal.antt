-- Equal weighting keeps its promise, for every tree of 1 to 64 assets cut into 1 to n clusters: from each cluster to the whole.
-- Assumes nothing.
use mathlib.Core.Path.{◌≡◌, refl, sym, ap, ◌∙◌}
use mathlib.Core.Bool.{true}
use mathlib.Core.List.{List, [], ◌∷◌}
use Prim.Native.Nat.{ℕ, suc, ◌+◌, ◌-◌, ◌*◌, ◌^◌, ◌≤◌, ◌<◌}
use native.Mathlib.Nat.{le_trans, le_of_eq, add-mul, mul_assoc, eq_of_mul-eq-mul_right, le_of_mul-le-mul_right}
use native.Mathlib.Omega.{arith}
use native.Mathlib.Decide.{dec_lt}
use lib.Dec.{lit≤}
use lib.Pow.{pow-add, pow_pos}
use lib.ListN.{length, get_or, length-replicate}
use lib.Ieee.Digits.{back}
use lib.Ieee.{Float}
use borrow.Author.Tests.{eq-eqb, ne_eqb}
use Rattle.arithmetic.specs.Constants.{pz, unit}
use Rattle.arithmetic.specs.Arithmetic.{one_over}
use Rattle.arithmetic.specs.Exact.{units_of, halves}
use Rattle.arithmetic.proofs.Halves.{halves_plain, halves_units}
use Rattle.arithmetic.proofs.OneOver.{one_over_total, one_over_nearest, share_plain, share_units}
use Rattle.lent.specs.Count.{count, upto, over_all}
use Rattle.lent.specs.Grid.{zeros}
use Rattle.lent.proofs.Counting.{one_true, one_false, count_append, upto_same, upto_le, upto_add, upto_term, over_all_append, over_all_upto}
use Rattle.tree.specs.Rows.{is_tree}
use Rattle.tree.specs.Tree.{Tree, tree_at, leaves_of}
use Rattle.tree.proofs.Order.{order_size, order_each, leaves_low}
use Rattle.clusters.specs.Shares.{some}
use Rattle.metrics.specs.declared.Metric.TheVariants.{EqualWeighting}
use Rattle.sharing.specs.Split.{Inputs}
use Rattle.sharing.specs.Allot.{splits, down_shares}
use Rattle.equal.specs.Clusters.{Cluster, clusters, cluster_at}
use Rattle.equal.specs.Equal.{weight, total, portion, ClusterShare, Only, EqualShares}
use Rattle.equal.proofs.Cut.{each_at, one_alone, sum_leaves, Fits, all_fit, shares}
use Rattle.equal.proofs.Number.{number}
use Rattle.equal.proofs.Given.{Gets, given, allot_kept}

-- ---- lists

-- a number that no entry reaches
absent : (n a : ℕ) (xs : List ℕ) → ((j : ℕ) → j < length xs → get_or xs j 0 < n) → n ≤ a → count a xs ≡ 0
unfolding count
absent n a [] low h = refl
absent n a (x ∷ xs) low h =
    omega (arith, one_false _ (ne_eqb x a (λ e. omega (arith, low 0 (omega arith)))), absent n a xs (λ j lt. low (suc j) (omega arith)) h)

-- the same at each
over_all_const : (g : ℕ → ℕ) (u : ℕ) (xs : List ℕ) → ((a : ℕ) → 1 ≤ count a xs → g a ≡ u) → over_all g xs ≡ length xs * u
unfolding over_all count
over_all_const g u [] e = omega arith
over_all_const g u (x ∷ xs) e =
    let first : g x ≡ u = e x (omega (arith, one_true _ (eq-eqb x x refl))) in
    omega (arith, over_all_const g u xs (λ a i. e a (omega arith)))

-- ---- numbers

power : (d L : ℕ) → d ≤ L → 2 ^ (L - d) * 2 ^ d ≡ 2 ^ L
power d L h = sym (pow-add 2 (L - d) d) ∙ ap (λ (x : ℕ). 2 ^ x) (back L d h)

halves_power : (d : ℕ) → d ≤ 1074 → units_of (halves d) ≡ 2 ^ (1074 - d)
halves_power d h = eq_of_mul-eq-mul_right (2 ^ d) (pow_pos d) (units_of (halves d)) (2 ^ (1074 - d)) (halves_units d h ∙ sym (power d 1074 h))

-- m assets of u units each, against a share of x with y to spare, all taken p times
under : (m u g p x y X Y : ℕ) → 0 < p → u * p ≡ g → x * p ≡ X → y * p ≡ Y → m * g ≤ X + Y → m * u ≤ x + y
under m u g p x y X Y P a b c h =
    le_of_mul-le-mul_right (le_trans (le_of_eq (mul_assoc m u p ∙ ap (λ (z : ℕ). m * z) a)) (le_trans h (le_of_eq (sym (add-mul x y p ∙ ap (λ (z : ℕ). z + y * p) b ∙ ap (λ (z : ℕ). X + z) c))))) P

reach : (m u g p x y X Y : ℕ) → 0 < p → u * p ≡ g → x * p ≡ X → y * p ≡ Y → X ≤ m * g + Y → x ≤ m * u + y
reach m u g p x y X Y P a b c h =
    le_of_mul-le-mul_right (le_trans (le_of_eq b) (le_trans h (le_of_eq (sym (add-mul (m * u) y p ∙ ap (λ (z : ℕ). z + y * p) (mul_assoc m u p ∙ ap (λ (z : ℕ). m * z) a) ∙ ap (λ (z : ℕ). m * g + z) c))))) P

less_none : (E : ℕ) → E - 0 ≡ E
less_none E = omega arith

sum_most : (A F G H X Y : ℕ) → A ≡ F → F ≤ G + H → G ≡ X → H ≡ Y → A ≤ X + Y
sum_most A F G H X Y a b c d = omega arith

sum_least : (A F G H X Y : ℕ) → A ≡ F → G ≤ F + H → G ≡ X → H ≡ Y → X ≤ A + Y
sum_least A F G H X Y a b c d = omega arith

-- ---- one cluster

module _ (ws : List Float) (t : Tree) (c : Cluster) (f : Fits c) (g : Gets ws t c) where
  abbrev m : ℕ
  m = length c.assets

  -- the units of its assets' weights together
  abbrev held : ℕ
  held = over_all (λ a. units_of (weight ws a)) c.assets

  shallow : c.above ≤ 63
  shallow = omega (arith, f.some, f.most)

  small : m ≤ 64
  small = omega (arith, f.most)

  deep : c.above ≤ 1021
  deep = omega (arith, shallow)

  deeper : c.above ≤ 1074
  deeper = omega (arith, shallow)

  cluster_shares : ClusterShare ws c
  cluster_shares = record {
    some = f.some;
    exact_share = halves_plain c.above deeper;
    share = halves_units c.above deeper;
    near = one_over_nearest m f.some small;
    gets = g.gets;
    exact_weight = share_plain c.above m shallow f.some small;
    unrounded = share_units c.above m shallow f.some small;
  }

  held_is : held ≡ m * units_of (portion c)
  held_is = over_all_const (λ a. units_of (weight ws a)) (units_of (portion c)) c.assets (λ a i. ap units_of (g.gets a i))

  cluster_most : held ≤ 2 ^ (1074 - c.above) + 2 ^ (1021 - c.above)
  cluster_most =
      le_trans (le_of_eq held_is)
      (under m (units_of (portion c)) (units_of (one_over m)) (2 ^ c.above) (2 ^ (1074 - c.above)) (2 ^ (1021 - c.above)) (2 ^ 1074) (2 ^ 1021)
      (pow_pos c.above) (share_units c.above m shallow f.some small) (power c.above 1074 deeper) (power c.above 1021 deep) (one_over_total m f.some small).0)

  cluster_least : 2 ^ (1074 - c.above) ≤ held + 2 ^ (1021 - c.above)
  cluster_least =
      le_trans (reach m (units_of (portion c)) (units_of (one_over m)) (2 ^ c.above) (2 ^ (1074 - c.above)) (2 ^ (1021 - c.above)) (2 ^ 1074) (2 ^ 1021)
      (pow_pos c.above) (share_units c.above m shallow f.some small) (power c.above 1074 deeper) (power c.above 1021 deep) (one_over_total m f.some small).1)
      (le_of_eq (ap (λ (z : ℕ). z + 2 ^ (1021 - c.above)) (sym held_is)))

-- ---- the whole tree

module _ (x : Inputs) (cov : List Float) (n k : ℕ) (rows : List ℕ) (some_asset : 1 ≤ n) (limit : n ≤ 64) (tree : is_tree rows n ≡ true) (one_cluster : 1 ≤ k) (cut : k ≤ n)
    (ws : List Float) (e : down_shares EqualWeighting x cov rows n k ≡ some ws) where
  abbrev top : Tree
  top = tree_at rows n (2 * n - 2)

  abbrev order : List ℕ
  order = leaves_of rows n (2 * n - 2)

  fits : 0 + length order ≤ 64
  fits = omega (arith, order_size rows n tree some_asset)

  low : (j : ℕ) → j < length order → get_or order j 0 < n
  low = leaves_low rows n tree some_asset (2 * n - 2) (omega arith)

  none_else : (a : ℕ) → n ≤ a → count a order ≡ 0
  none_else a h = absent n a order low h

  at_most_once : (a : ℕ) → count a order ≤ 1
  at_most_once a =
      elim (dec_lt a n) [
        | yes lt ↦ omega (arith, order_each rows n tree some_asset a lt)
        | no ge ↦ omega (arith, none_else a (omega arith))
      ]

  inside : (a : ℕ) → 1 ≤ count a order → a < length (zeros n)
  inside a i =
      elim (dec_lt a n) [
        | yes lt ↦ omega (arith, length-replicate n pz)
        | no ge ↦ absurd (omega (arith, none_else a (omega arith)))
      ]

  many : length (clusters rows n k) ≡ k
  many = number rows n some_asset tree k one_cluster cut

  size : length ws ≡ n
  unfolding down_shares
  size = (allot_kept x cov n k top (splits n k top) unit (zeros n) ws e).size ∙ length-replicate n pz

  fit : (j : ℕ) → j < k → Fits (cluster_at rows n k j)
  fit j lt = each_at (all_fit n k top (splits n k top) 0 fits) j (omega (arith, many))

  gets : (j : ℕ) → j < k → Gets ws top (cluster_at rows n k j)
  unfolding down_shares halves
  gets j lt = each_at (given x cov n k top (splits n k top) 0 (zeros n) ws e at_most_once inside fits) j (omega (arith, many))

  -- the units of an asset's weight, and of those of a cluster's assets
  abbrev u : ℕ → ℕ
  u a = units_of (weight ws a)

  abbrev held_by : ℕ → ℕ
  held_by j = over_all u (cluster_at rows n k j).assets

  -- a cluster's share in units of 2^-E
  abbrev part : ℕ → ℕ → ℕ
  part E j = 2 ^ (E - (cluster_at rows n k j).above)

  counted : (a : ℕ) → upto (λ j. count a (cluster_at rows n k j).assets) k ≡ count a order
  counted a = ap (upto (λ j. count a (cluster_at rows n k j).assets)) (sym many) ∙ sum_leaves n k (count a) (count_append a) top (splits n k top) 0

  gathered : total ws n ≡ upto held_by k
  gathered =
      sym (over_all_upto u n order low (order_each rows n tree some_asset))
      ∙ sym (sum_leaves n k (over_all u) (over_all_append u) top (splits n k top) 0)
      ∙ ap (upto held_by) many

  parts : (E : ℕ) → 64 ≤ E → upto (part E) k ≡ 2 ^ E
  parts E h = ap (upto (part E)) (sym many) ∙ shares n k E h top (splits n k top) 0 fits ∙ ap (λ (x : ℕ). 2 ^ x) (less_none E)

  each_asset : (a : ℕ) → a < n → (j : ℕ) × Only rows n k a j
  each_asset a h =
      let r = one_alone (λ j. count a (cluster_at rows n k j).assets) k (counted a ∙ order_each rows n tree some_asset a h) in
      (r.0, record { one_of = r.1.below; once = r.1.is; alone = r.1.alone })

  assets_only : (a j : ℕ) → n ≤ a → j < k → count a (cluster_at rows n k j).assets ≡ 0
  assets_only a j h lt = omega (arith, upto_term (λ i. count a (cluster_at rows n k i).assets) k j lt, counted a, none_else a h)

  whole : upto (λ j. units_of (halves (cluster_at rows n k j).above)) k ≡ 2 ^ 1074
  whole =
      upto_same (λ j. units_of (halves (cluster_at rows n k j).above)) (part 1074) k (λ j lt. halves_power (cluster_at rows n k j).above (omega (arith, (fit j lt).most)))
      ∙ parts 1074 (lit≤ tt)

  pub equal_shares : EqualShares n k rows ws
  equal_shares =
      record {
        size = size;
        number = many;
        each_asset = each_asset;
        assets_only = assets_only;
        each_cluster = λ j lt. cluster_shares ws top (cluster_at rows n k j) (fit j lt) (gets j lt);
        whole = whole;
        least = sum_least (total ws n) (upto held_by k) (upto (part 1074) k) (upto (part 1021) k) (2 ^ 1074) (2 ^ 1021) gathered
            (le_trans (upto_le (part 1074) (λ j. held_by j + part 1021 j) k (λ j lt. cluster_least ws top (cluster_at rows n k j) (fit j lt) (gets j lt))) (le_of_eq (upto_add held_by (part 1021) k)))
            (parts 1074 (lit≤ tt)) (parts 1021 (lit≤ tt));
        most = sum_most (total ws n) (upto held_by k) (upto (part 1074) k) (upto (part 1021) k) (2 ^ 1074) (2 ^ 1021) gathered
            (le_trans (upto_le held_by (λ j. part 1074 j + part 1021 j) k (λ j lt. cluster_most ws top (cluster_at rows n k j) (fit j lt) (gets j lt))) (le_of_eq (upto_add (part 1074) (part 1021) k)))
            (parts 1074 (lit≤ tt)) (parts 1021 (lit≤ tt));
      }
