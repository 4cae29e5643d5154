-- What stands at each asset of a cluster once one has been shared out by equal weighting.
--     halved        the factor of every split is a half
--     allot_kept    sharing below a node keeps the number of weights, and the weights of the assets elsewhere
--     given         each asset of a cluster gets its portion
-- Assumes nothing.
use mathlib.Core.Path.{◌≡◌, refl, sym, ap, subst, ◌∙◌}
use mathlib.Core.Bool.{Bool, true, false}
use mathlib.Core.List.{List, [], ◌∷◌, ◌++◌}
use Prim.Native.Nat.{ℕ, suc, ◌+◌, ◌^◌, ◌≤◌, ◌<◌}
use native.Mathlib.Nat.{eq_of_mul-eq-mul_right}
use native.Mathlib.Decide.{dec_lt, ℕ_discrete}
use native.Mathlib.Omega.{arith}
use lib.Count.{count_trailing_zeros}
use lib.ListN.{length, set, length-set}
use lib.Pow.{pow_pos}
use lib.Seq.{get_or-set_same, get_or-set_other}
use lib.Ieee.{Float, nan, binary64, mul, sub, div, lt, of_int, of_bits, of_fields, odd, round, units, size, span, climb}
use borrow.Author.Tests.{eq-eqb, ne_eqb}
use Rattle.arithmetic.specs.Constants.{unit, half}
use Rattle.arithmetic.specs.Arithmetic.{count_of, one_over, clamp_of, finite_of}
use Rattle.arithmetic.specs.Exact.{units_of, halves}
use Rattle.arithmetic.proofs.Units.{plain_is, units_alone}
use Rattle.arithmetic.proofs.Halves.{other_half, halves_plain, halves_units}
use Rattle.arithmetic.proofs.OneOver.{share_plain, share_units}
use Rattle.lent.specs.Count.{count}
use Rattle.lent.proofs.Counting.{one_true, one_false, count_append}
use Rattle.tree.specs.Tree.{Tree, leaf, fork, leaves}
use Rattle.clusters.specs.Clusters.{variance_answer}
use Rattle.clusters.specs.Shares.{Shares, some, with_shares, weights_in}
use Rattle.clusters.specs.Shares as shares
use Rattle.metrics.specs.declared.Metric.TheVariants.{EqualWeighting}
use Rattle.metrics.specs.declared.Split.{Split}
use Rattle.sharing.specs.Split.{Inputs, bounded, split_by, scored, split_of_both, split_of}
use Rattle.sharing.specs.Allot.{splits, spread_of, equal_of, inside_of, onward, allotted}
use Rattle.equal.specs.Clusters.{Cluster, cut}
use Rattle.equal.specs.Equal.{weight, portion}
use Rattle.equal.proofs.Cut.{Each, none, also, each_append, each_map, sides}
use Rattle.std.specs.Prelude.{Ok, Err}
use Rattle.clusters.specs.Outcomes.{Risk}
use Rattle.metrics.specs.Outcomes.{Splitting}

-- ---- what was accepted, taken apart

some_is : (ws out : List Float) → some ws ≡ some out → out ≡ ws
unfolding weights_in
some_is ws out e = sym (ap weights_in e)

split_some : (x : Splitting) (g : Split → Shares) (out : List Float) → onward x g ≡ some out → (s : Split) × (x ≡ Ok s) × (g s ≡ some out)
split_some (Err r) g out e = absurd (let z : ◌≡◌ {A = ℕ} 0 1 = cc in omega arith)
split_some (Ok s) g out e = (s, refl, e)

then_some : (x : Shares) (g : List Float → Shares) (out : List Float) → with_shares x g ≡ some out → (mid : List Float) × (x ≡ some mid) × (g mid ≡ some out)
then_some shares.none g out e = absurd (let z : ◌≡◌ {A = ℕ} 0 1 = cc in omega arith)
then_some (some mid) g out e = (mid, refl, e)

-- ---- equal weighting's factor is a half

abbrev factor_in : Splitting → Float
factor_in (Err r) = half
factor_in (Ok s) = s.factor

all_same : (v u : Risk) (f : Float → Float → Split) → ((a b : Float) → (f a b).factor ≡ half) → factor_in (split_of_both v u f) ≡ half
all_same (Err r) u f h = refl
all_same (Ok a) (Err r) f h = refl
all_same (Ok a) (Ok b) f h = h a b

halved : (x : Inputs) (cov : List Float) (n : ℕ) (a b : List ℕ) (s : Split) → split_of EqualWeighting x cov n a b ≡ Ok s → s.factor ≡ half
unfolding split_of scored split_by bounded clamp_of finite_of lt of_bits
halved x cov n a b s e =
    sym (ap factor_in e) ∙ all_same (variance_answer cov n n a) (variance_answer cov n n b) (scored EqualWeighting x cov n a b) (λ l r. refl)

-- ---- how often an asset stands in a list

elsewhere : (x a : ℕ) (more : List ℕ) → (x ≡ a → ⊥) → count a (x ∷ more) ≡ count a more
unfolding count
elsewhere x a more n = omega (arith, one_false _ (ne_eqb x a n))

not_here : (x a : ℕ) (more : List ℕ) → count a (x ∷ more) ≡ 0 → x ≡ a → ⊥
unfolding count
not_here x a more z e = omega (arith, one_true _ (eq-eqb x a e))

nothing_more : (x a : ℕ) (more : List ℕ) → count a (x ∷ more) ≡ 0 → count a more ≡ 0
unfolding count
nothing_more x a more z = omega arith

only_here : (x a : ℕ) → 1 ≤ count a (x ∷ []) → x ≡ a
unfolding count
only_here x a i =
    elim (ℕ_discrete x a) [
      | yes e ↦ e
      | no n ↦ absurd (omega (arith, elsewhere x a [] n))
    ]

-- ---- one weight to each asset listed

spread_other : (ms : List ℕ) (w : Float) (ws : List Float) (a : ℕ) → count a ms ≡ 0 → weight (spread_of ms w ws) a ≡ weight ws a
unfolding spread_of
spread_other [] w ws a z = refl
spread_other (x ∷ ms) w ws a z =
    spread_other ms w (set ws x w) a (nothing_more x a ms z) ∙ get_or-set_other ws x a w nan (λ e. not_here x a ms z (sym e))

spread_hit : (ms : List ℕ) (w : Float) (ws : List Float) (a : ℕ) → 1 ≤ count a ms → a < length ws → weight (spread_of ms w ws) a ≡ w
unfolding spread_of count
spread_hit [] w ws a h lt = absurd (omega arith)
spread_hit (x ∷ ms) w ws a h lt =
    elim (dec_lt 0 (count a ms)) [
      | yes p ↦ spread_hit ms w (set ws x w) a p (omega (arith, length-set ws x w))
      | no q ↦ spread_other ms w (set ws x w) a (omega arith)
          ∙ elim (ℕ_discrete x a) [
            | yes e ↦ rw e (get_or-set_same ws a w nan lt)
            | no e ↦ absurd (omega (arith, elsewhere x a ms e))
          ]
    ]

spread_length : (ms : List ℕ) (w : Float) (ws : List Float) → length (spread_of ms w ws) ≡ length ws
unfolding spread_of
spread_length [] w ws = refl
spread_length (x ∷ ms) w ws = spread_length ms w (set ws x w) ∙ length-set ws x w

-- ---- a share times the double nearest 1/1

one_units : units_of (one_over 1) ≡ 2 ^ 1074
unfolding count_of one_over div of_int of_bits of_fields odd count_trailing_zeros round units size span climb
one_units = refl

times_one : (d : ℕ) → d ≤ 63 → mul binary64 (halves d) (one_over 1) ≡ halves d
times_one d h =
    let x = mul binary64 (halves d) (one_over 1) in
    let p = share_plain d 1 h (omega arith) (omega arith) in
    let q = halves_plain d (omega arith) in
    let e : units_of x ≡ units_of (halves d) = eq_of_mul-eq-mul_right (2 ^ d) (pow_pos d) (units_of x) (units_of (halves d)) (share_units d 1 h (omega arith) (omega arith) ∙ one_units ∙ sym (halves_units d (omega arith))) in
    units_alone x (halves d) p.double q.double (plain_is p) (plain_is q) e

-- ---- down the tree

-- as many weights as before, and those of the assets that do not stand below t
pub record Kept (t : Tree) (ws out : List Float) : Type 0 where
  pub size : length out ≡ length ws
  pub other : (a : ℕ) → count a (leaves t) ≡ 0 → weight out a ≡ weight ws a

-- each asset of the cluster stands below t, and has its portion
pub record Gets (ws : List Float) (t : Tree) (c : Cluster) : Type 0 where
  pub below : (a : ℕ) → 1 ≤ count a c.assets → 1 ≤ count a (leaves t)
  pub gets : (a : ℕ) → 1 ≤ count a c.assets → weight ws a ≡ portion c

one_leaf : (x d : ℕ) (ws : List Float) → ((a : ℕ) → 1 ≤ count a (x ∷ []) → a < length ws) → d ≤ 63 → Gets (set ws x (halves d)) (leaf x) (record { above = d; assets = x ∷ [] })
unfolding leaves
one_leaf x d ws room h = record {
  below = λ a i. i;
  gets = λ a i. let e : x ≡ a = only_here x a i in rw e (get_or-set_same ws a (halves d) nan (room a i) ∙ sym (times_one d h));
}

one_cluster : (r d : ℕ) (l t : Tree) (ws : List Float) → ((a : ℕ) → 1 ≤ count a (leaves l ++ leaves t) → a < length ws)
    → Gets (equal_of (leaves l ++ leaves t) (halves d) ws) (fork r l t) (record { above = d; assets = leaves l ++ leaves t })
unfolding leaves equal_of
one_cluster r d l t ws room = record {
  below = λ a i. i;
  gets = λ a i. spread_hit (leaves l ++ leaves t) (mul binary64 (halves d) (one_over (length (leaves l ++ leaves t)))) ws a i (room a i);
}

-- what the left side's clusters were given the right side leaves
join : (r : ℕ) (l t : Tree) (mid out : List Float) {cs ds : List Cluster} → ((a : ℕ) → count a (leaves l ++ leaves t) ≤ 1) → Kept t mid out
    → Each (Gets mid l) cs → Each (Gets out t) ds → Each (Gets out (fork r l t)) (cs ++ ds)
unfolding leaves
join r l t mid out once k p q =
    each_append
    (each_map (λ c g. record {
      below = λ a i. omega (arith, count_append a (leaves l) (leaves t), g.below a i);
      gets = λ a i. k.other a (omega (arith, count_append a (leaves l) (leaves t), g.below a i, once a)) ∙ g.gets a i;
    }) p)
    (each_map (λ c g. record { below = λ a i. omega (arith, count_append a (leaves l) (leaves t), g.below a i); gets = g.gets }) q)

module _ (x : Inputs) (cov : List Float) (n k : ℕ) where
  abbrev go : Tree → Float → List Float → Shares
  go t w ws = allotted EqualWeighting x cov n k t (splits n k t) w ws

  -- both sides of a split get half its weight
  record Halved (l t : Tree) (w : Float) (ws out : List Float) : Type 0 where
    mid : List Float
    left : allotted EqualWeighting x cov n k l (splits n k l) (mul binary64 w half) ws ≡ some mid
    right : allotted EqualWeighting x cov n k t (splits n k t) (mul binary64 w half) mid ≡ some out

  both_halved : (r : ℕ) (l t : Tree) (w : Float) (ws out : List Float) → allotted EqualWeighting x cov n k (fork r l t) true w ws ≡ some out → Halved l t w ws out
  unfolding allotted
  both_halved r l t w ws out e =
      let p = split_some (split_of EqualWeighting x cov n (leaves l) (leaves t)) _ out e in
      let f : Float = p.0.factor in
      let h : f ≡ half = halved x cov n (leaves l) (leaves t) p.0 p.1 in
      let q = then_some (go l (mul binary64 w f) ws) _ out p.2 in
      record {
        mid = q.0;
        left = subst (λ (x : Float). go l (mul binary64 w x) ws ≡ some q.0) h q.1;
        right = subst (λ (x : Float). go t (mul binary64 w x) q.0 ≡ some out) (ap (sub binary64 unit) h ∙ other_half) q.2;
      }

  pub allot_kept : (t : Tree) (b : Bool) (w : Float) (ws out : List Float) → allotted EqualWeighting x cov n k t b w ws ≡ some out → Kept t ws out
  unfolding allotted inside_of equal_of leaves
  allot_kept (leaf x) b w ws out e =
      rw (some_is (set ws x w) out e) (record { size = length-set ws x w; other = λ a z. get_or-set_other ws x a w nan (λ q. not_here x a [] z (sym q)) })
  allot_kept (fork r l t) true w ws out e =
      let h = both_halved r l t w ws out e in
      let p = allot_kept l (splits n k l) (mul binary64 w half) ws h.mid h.left in
      let q = allot_kept t (splits n k t) (mul binary64 w half) h.mid out h.right in
      record {
        size = q.size ∙ p.size;
        other = λ a z. let c = count_append a (leaves l) (leaves t) in q.other a (omega arith) ∙ p.other a (omega arith);
      }
  allot_kept (fork r l t) false w ws out e =
      let ms = leaves l ++ leaves t in
      let v = mul binary64 w (one_over (length ms)) in
      rw (some_is (spread_of ms v ws) out e) (record { size = spread_length ms v ws; other = spread_other ms v ws })

  pub given : (t : Tree) (b : Bool) (d : ℕ) (ws out : List Float) → allotted EqualWeighting x cov n k t b (halves d) ws ≡ some out
      → ((a : ℕ) → count a (leaves t) ≤ 1) → ((a : ℕ) → 1 ≤ count a (leaves t) → a < length ws) → d + length (leaves t) ≤ 64 → Each (Gets out t) (cut n k d t b)
  unfolding allotted inside_of leaves cut halves
  given (leaf x) b d ws out e once room h = rw (some_is (set ws x (halves d)) out e) (also (one_leaf x d ws room (omega arith)) none)
  given (fork r l t) true d ws out e once room h =
      let s = sides d l t h in
      let b = both_halved r l t (halves d) ws out e in
      let p = allot_kept l (splits n k l) (halves (suc d)) ws b.mid b.left in
      join r l t b.mid out once (allot_kept t (splits n k t) (halves (suc d)) b.mid out b.right)
      (given l (splits n k l) (suc d) ws b.mid b.left (λ a. omega (arith, count_append a (leaves l) (leaves t), once a)) (λ a i. room a (omega (arith, count_append a (leaves l) (leaves t)))) s.0)
      (given t (splits n k t) (suc d) b.mid out b.right (λ a. omega (arith, count_append a (leaves l) (leaves t), once a))
      (λ a i. omega (arith, p.size, room a (omega (arith, count_append a (leaves l) (leaves t))))) s.1)
  given (fork r l t) false d ws out e once room h = rw (some_is (equal_of (leaves l ++ leaves t) (halves d) ws) out e) (also (one_cluster r d l t ws room) none)
