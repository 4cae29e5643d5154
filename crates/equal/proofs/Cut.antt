-- What the clusters of a tree hold together. Everything here goes down the tree.
--     Each, sum_leaves       what holds of each cluster; what adds up over lists adds up over the clusters to what it is over the leaves
--     all_fit, shares        a cluster's size and depth, and that the shares come to the whole
--     one_alone              a sum of one has one term of one
-- Assumes nothing.
use mathlib.Core.Path.{◌≡◌, sym, ap, ap₂, ◌∙◌}
use mathlib.Core.Bool.{Bool, true, false}
use mathlib.Core.List.{List, [], ◌∷◌, ◌++◌}
use Prim.Native.Nat.{ℕ, zero, suc, ◌+◌, ◌-◌, ◌^◌, ◌≤◌, ◌<◌}
use native.Mathlib.Nat.{two-pow-succ}
use native.Mathlib.Omega.{arith}
use native.Mathlib.Decide.{dec_lt}
use lib.ListN.{length, get_or, length-append}
use Rattle.lent.specs.Count.{upto}
use Rattle.lent.proofs.Counting.{upto_term}
use Rattle.tree.specs.Tree.{Tree, leaf, fork, leaves}
use Rattle.sharing.specs.Allot.{splits}
use Rattle.equal.specs.Clusters.{Cluster, cut, nowhere}

-- ---- lists of clusters

-- P holds of each
pub data Each (P : Cluster → Type 0) : List Cluster → Type 0 where
  none : Each P []
  also : {c : Cluster} {cs : List Cluster} → P c → Each P cs → Each P (c ∷ cs)

pub each_at : {P : Cluster → Type 0} {cs : List Cluster} → Each P cs → (j : ℕ) → j < length cs → P (get_or cs j nowhere)
each_at none j lt = absurd (omega arith)
each_at (also p ps) zero lt = p
each_at (also p ps) (suc j) lt = each_at ps j (omega arith)

pub each_append : {P : Cluster → Type 0} {cs ds : List Cluster} → Each P cs → Each P ds → Each P (cs ++ ds)
each_append none q = q
each_append (also p ps) q = also p (each_append ps q)

pub each_map : {P Q : Cluster → Type 0} {cs : List Cluster} → ((c : Cluster) → P c → Q c) → Each P cs → Each Q cs
each_map f none = none
each_map f (also {c} p ps) = also (f c p) (each_map f ps)

-- ---- sums over the clusters

abbrev pub sum_of : (Cluster → ℕ) → List Cluster → ℕ
sum_of f cs = upto (λ j. f (get_or cs j nowhere)) (length cs)

-- the first term apart
upto_first : (f : ℕ → ℕ) (n : ℕ) → upto f (suc n) ≡ f 0 + upto (λ j. f (suc j)) n
unfolding upto
upto_first f zero = omega arith
upto_first f (suc n) = omega (arith, upto_first f n)

sum_cons : (f : Cluster → ℕ) (c : Cluster) (cs : List Cluster) → sum_of f (c ∷ cs) ≡ f c + sum_of f cs
sum_cons f c cs = upto_first (λ j. f (get_or (c ∷ cs) j nowhere)) (length cs)

sum_single : (f : Cluster → ℕ) (c : Cluster) → sum_of f (c ∷ []) ≡ f c
unfolding upto
sum_single f c = omega arith

sum_append : (f : Cluster → ℕ) (cs ds : List Cluster) → sum_of f (cs ++ ds) ≡ sum_of f cs + sum_of f ds
unfolding upto
sum_append f [] ds = omega arith
sum_append f (c ∷ cs) ds = omega (arith, sum_cons f c (cs ++ ds), sum_cons f c cs, sum_append f cs ds)

-- one term is one, and no other counts
pub record One (f : ℕ → ℕ) (n j : ℕ) : Type 0 where
  pub below : j < n
  pub is : f j ≡ 1
  pub alone : (i : ℕ) → i < n → 1 ≤ f i → i ≡ j

pub one_alone : (f : ℕ → ℕ) (n : ℕ) → upto f n ≡ 1 → (j : ℕ) × One f n j
unfolding upto
one_alone f zero e = absurd (omega arith)
one_alone f (suc n) e =
    elim (dec_lt 0 (f n)) [
      | yes p ↦ (n, record { below = omega arith; is = omega arith; alone = last p })
      | no q ↦
          let r = one_alone f n (omega arith) in
          (r.0, record { below = omega (arith, r.1.below); is = r.1.is; alone = earlier q r.0 r.1 })
    ]
  where
    last : 0 < f n → (i : ℕ) → i < suc n → 1 ≤ f i → i ≡ n
    last p i lt h =
        elim (dec_lt i n) [
          | yes l ↦ absurd (omega (arith, upto_term f n i l))
          | no g ↦ omega arith
        ]

    earlier : (0 < f n → ⊥) → (j : ℕ) → One f n j → (i : ℕ) → i < suc n → 1 ≤ f i → i ≡ j
    earlier q j r i lt h =
        elim (dec_lt i n) [
          | yes l ↦ r.alone i l h
          | no g ↦ let s : i ≡ n = omega arith in absurd (q (rw s at h))
        ]

-- ---- down the tree

-- what adds up over lists adds up over the clusters to what it is over the leaves
module _ (n k : ℕ) (f : List ℕ → ℕ) (adds : (xs ys : List ℕ) → f (xs ++ ys) ≡ f xs + f ys) where
  pub sum_leaves : (t : Tree) (b : Bool) (d : ℕ) → sum_of (λ c. f c.assets) (cut n k d t b) ≡ f (leaves t)
  unfolding cut leaves
  sum_leaves (leaf a) b d = sum_single (λ c. f c.assets) _
  sum_leaves (fork r l t) true d =
      let p = cut n k (suc d) l (splits n k l) in
      let q = cut n k (suc d) t (splits n k t) in
      omega (arith, sum_append (λ c. f c.assets) p q, sum_leaves l (splits n k l) (suc d), sum_leaves t (splits n k t) (suc d), adds (leaves l) (leaves t))
  sum_leaves (fork r l t) false d = sum_single (λ c. f c.assets) _

pub some_leaf : (t : Tree) → 1 ≤ length (leaves t)
unfolding leaves
some_leaf (leaf a) = omega arith
some_leaf (fork r l t) = omega (arith, length-append (leaves l) (leaves t), some_leaf l)

-- the two sides of a split: each has one more split above it, and fewer leaves
pub sides : (d : ℕ) (l t : Tree) → d + length (leaves l ++ leaves t) ≤ 64 → (suc d + length (leaves l) ≤ 64) × (suc d + length (leaves t) ≤ 64)
sides d l t h = (omega (arith, length-append (leaves l) (leaves t), some_leaf t), omega (arith, length-append (leaves l) (leaves t), some_leaf l))

-- a cluster's size and depth
pub record Fits (c : Cluster) : Type 0 where
  pub some : 1 ≤ length c.assets
  pub most : c.above + length c.assets ≤ 64

fit : (d : ℕ) (xs : List ℕ) → 1 ≤ length xs → d + length xs ≤ 64 → Fits (record { above = d; assets = xs })
fit d xs s h = record { some = s; most = h }

module _ (n k : ℕ) where
  pub all_fit : (t : Tree) (b : Bool) (d : ℕ) → d + length (leaves t) ≤ 64 → Each Fits (cut n k d t b)
  unfolding cut leaves
  all_fit (leaf a) b d h = also (fit d (a ∷ []) (omega arith) h) none
  all_fit (fork r l t) true d h =
      let s = sides d l t h in
      each_append (all_fit l (splits n k l) (suc d) s.0) (all_fit t (splits n k t) (suc d) s.1)
  all_fit (fork r l t) false d h = also (fit d (leaves l ++ leaves t) (some_leaf (fork r l t)) h) none

  -- the shares, in units of 2^-E, come to the node's
  pub shares : (E : ℕ) → 64 ≤ E → (t : Tree) (b : Bool) (d : ℕ) → d + length (leaves t) ≤ 64 → sum_of (λ c. 2 ^ (E - c.above)) (cut n k d t b) ≡ 2 ^ (E - d)
  unfolding cut leaves
  shares E e (leaf a) b d h = sum_single (λ c. 2 ^ (E - c.above)) _
  shares E e (fork r l t) true d h =
      let s = sides d l t h in
      let one : E - d ≡ suc (E - suc d) = omega (arith, some_leaf l) in
      let two : 2 ^ (E - d) ≡ 2 ^ (E - suc d) + 2 ^ (E - suc d) = ap (λ (x : ℕ). 2 ^ x) one ∙ two-pow-succ (E - suc d) in
      sum_append (λ c. 2 ^ (E - c.above)) (cut n k (suc d) l (splits n k l)) (cut n k (suc d) t (splits n k t))
      ∙ ap₂ ◌+◌ (shares E e l (splits n k l) (suc d) s.0) (shares E e t (splits n k t) (suc d) s.1)
      ∙ sym two
  shares E e (fork r l t) false d h = sum_single (λ c. 2 ^ (E - c.above)) _
