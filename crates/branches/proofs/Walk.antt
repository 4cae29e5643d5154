-- The nodes of a tree, from the root down: what holds of the root, and goes from a node to its two children, holds of each.
--     find_each      what holds of every node of a list holds of the one that is found
--     all_there      each node 0 to 2n − 2 is in the list
-- Assumes nothing.
use mathlib.Core.Path.{◌≡◌, refl, ap, subst}
use mathlib.Core.Bool.{false}
use mathlib.Core.Logic.{◌⊎◌, inl, inr, ⊎_elim}
use mathlib.Core.List.{List, [], ◌∷◌, ◌++◌}
use Prim.Native.Nat.{ℕ, zero, suc, ◌+◌, ◌-◌, ◌*◌, ◌/◌, ◌%◌, ◌≤◌, ◌<◌}
use native.Mathlib.Nat.{le_refl}
use native.Mathlib.Omega.{arith}
use native.Mathlib.Decide.{dec_lt}
use lib.Dec.{eqb}
use lib.ListN.{length, get_or}
use borrow.Author.Tests.{eqb-true, eqb-false, eq-eqb, ne_eqb}
use Rattle.lent.specs.Count.{one, count}
use Rattle.lent.proofs.Laws.{either, same_or_not}
use Rattle.tree.specs.Tree.{left, right, leaves, leaves_of, tree_at}
use Rattle.tree.proofs.Rows.{IsTree}
use Rattle.tree.proofs.Tree.{tree_leaf, tree_fork, node_ind}
use Rattle.tree.proofs.Walk.{leaves_leaf}
use Rattle.branches.specs.Branch.{Branch, walk, branches, find}

-- ---- lists of nodes

abbrev pub OnEach : (Branch → Type 0) → List Branch → Type 0
OnEach P [] = Unit
OnEach P (b ∷ bs) = P b × OnEach P bs

abbrev pub Has : ℕ → List Branch → Type 0
Has v [] = ⊥
Has v (b ∷ bs) = (b.node ≡ v) ⊎ Has v bs

each_append : (P : Branch → Type 0) (xs ys : List Branch) → OnEach P xs → OnEach P ys → OnEach P (xs ++ ys)
each_append P [] ys a b = b
each_append P (x ∷ xs) ys a b = (a.0, each_append P xs ys a.1 b)

has_left : (v : ℕ) (xs ys : List Branch) → Has v xs → Has v (xs ++ ys)
has_left v [] ys h = absurd h
has_left v (x ∷ xs) ys (inl e) = inl e
has_left v (x ∷ xs) ys (inr h) = inr (has_left v xs ys h)

has_right : (v : ℕ) (xs ys : List Branch) → Has v ys → Has v (xs ++ ys)
has_right v [] ys h = h
has_right v (x ∷ xs) ys h = inr (has_right v xs ys h)

has_cases : (v : ℕ) (xs ys : List Branch) → Has v (xs ++ ys) → Has v xs ⊎ Has v ys
has_cases v [] ys h = inr h
has_cases v (x ∷ xs) ys (inl e) = inl (inl e)
has_cases v (x ∷ xs) ys (inr h) = ⊎_elim (λ a. inl (inr a)) (λ b. inr b) (has_cases v xs ys h)

pub find_each : (P : Branch → Type 0) (v : ℕ) (bs : List Branch) → Has v bs → OnEach P bs → ((find v bs).node ≡ v) × P (find v bs)
unfolding find
find_each P v [] h a = absurd h
find_each P v (b ∷ bs) h a = ⊎_elim (λ e. rw e (eqb-true b.node v e, a.0)) (λ e. rw e (find_each P v bs (later e h) a.1)) (either (eqb b.node v))
  where
    later : eqb b.node v ≡ false → Has v (b ∷ bs) → Has v bs
    later e (inl q) = absurd (eqb-false b.node v e q)
    later e (inr k) = k

-- ---- where a number stands in a list, and that it stands at one place

pub record PlaceOf (x : ℕ) (l : List ℕ) : Type 0 where
  pub place : ℕ
  pub inside : place < length l
  pub is : get_or l place 0 ≡ x

pub stands : (x : ℕ) (l : List ℕ) → 1 ≤ count x l → PlaceOf x l
unfolding count
stands x [] h = absurd (omega arith)
stands x (y ∷ ys) h =
    ⊎_elim
    (λ e. record { place = 0; inside = omega arith; is = e })
    (λ ne.
    let g : 1 ≤ one false + count x ys = rw (ne_eqb y x ne) at h in
    let s = stands x ys (omega arith) in
    record { place = suc s.place; inside = omega (arith, s.inside); is = s.is })
    (same_or_not y x)

counted : (x : ℕ) (l : List ℕ) (i : ℕ) → i < length l → get_or l i 0 ≡ x → 1 ≤ count x l
unfolding count
counted x [] i lt e = absurd (omega arith)
counted x (y ∷ ys) zero lt e = rw (eq-eqb y x e) (omega arith)
counted x (y ∷ ys) (suc i) lt e = omega (arith, counted x ys i (omega arith) e)

pub one_place : (x : ℕ) (l : List ℕ) (i j : ℕ) → count x l ≡ 1 → i < length l → j < length l → get_or l i 0 ≡ x → get_or l j 0 ≡ x → i ≡ j
unfolding count
one_place x [] i j c hi hj ei ej = absurd (omega arith)
one_place x (y ∷ ys) zero zero c hi hj ei ej = refl
one_place x (y ∷ ys) zero (suc j) c hi hj ei ej = absurd (omega (arith, counted x ys j (omega arith) ej, rw (eq-eqb y x ei) at c))
one_place x (y ∷ ys) (suc i) zero c hi hj ei ej = absurd (omega (arith, counted x ys i (omega arith) ei, rw (eq-eqb y x ej) at c))
one_place x (y ∷ ys) (suc i) (suc j) c hi hj ei ej =
    ap suc (one_place x ys i j (omega (arith, counted x ys i (omega arith) ei)) (omega arith) (omega arith) ei ej)

-- ---- the nodes of a tree

back : (n v : ℕ) → n ≤ v → n + (v - n) ≡ v
back n v le = omega arith

same_row : (n v k : ℕ) → n + (v - n) ≡ n + k → v - n ≡ k
same_row n v k e = omega arith

-- a node but the root is a child of a row whose node has a larger id
pub record Child (rows : List ℕ) (n v : ℕ) : Type 0 where
  pub row : ℕ
  pub inside : row < n - 1
  pub above : v < n + row
  pub side : (left rows row ≡ v) ⊎ (right rows row ≡ v)

module _ (rows : List ℕ) (n : ℕ) (some : 1 ≤ n) (t : IsTree rows n) where
  pub child : (v : ℕ) → v < 2 * n - 2 → Child rows n v
  child v lt =
      let s = stands v rows (omega (arith, t.each v (omega arith))) in
      let j = s.place in
      record {
        row = j / 2;
        inside = omega (arith, s.inside, t.size);
        above = omega (arith, s.is, t.low j s.inside);
        side = ⊎_elim
            (λ e. let q : 2 * (j / 2) ≡ j = omega arith in inl (rw q s.is))
            (λ ne. let q : 2 * (j / 2) + 1 ≡ j = omega arith in inr (rw q s.is))
            (same_or_not (j % 2) 0);
      }

  left_node : (v : ℕ) → n ≤ v → v ≤ 2 * n - 2 → left rows (v - n) ≤ 2 * n - 2
  left_node v le h = omega (arith, t.size, t.low (2 * (v - n)) (omega (arith, t.size)))

  right_node : (v : ℕ) → n ≤ v → v ≤ 2 * n - 2 → right rows (v - n) ≤ 2 * n - 2
  right_node v le h = omega (arith, t.size, t.low (2 * (v - n) + 1) (omega (arith, t.size)))

  -- Q v p d: node v begins at place p, and d nodes are above it
  module _ (Q : ℕ → ℕ → ℕ → Type 0)
      (lefts : (v p d : ℕ) → n ≤ v → v ≤ 2 * n - 2 → Q v p d → Q (left rows (v - n)) p (suc d))
      (rights : (v p d : ℕ) → n ≤ v → v ≤ 2 * n - 2 → Q v p d → Q (right rows (v - n)) (p + length (leaves_of rows n (left rows (v - n)))) (suc d)) where
    abbrev Good : Branch → Type 0
    Good b = Q b.node b.first b.depth × (b.size ≡ length (leaves_of rows n b.node))

    pub walk_each : (v : ℕ) → v ≤ 2 * n - 2 → (p d : ℕ) → Q v p d → OnEach Good (walk n p d (tree_at rows n v))
    unfolding walk leaves
    walk_each = node_ind some t (λ v. (p d : ℕ) → Q v p d → OnEach Good (walk n p d (tree_at rows n v)))
        (λ v lt p d q. rw (tree_leaf rows n v lt) ((q, rw (leaves_leaf rows n v lt)), tt))
        (λ v le h a b p d q.
        let l = left rows (v - n) in
        let r = right rows (v - n) in
        let size : length (leaves_of rows n l ++ leaves_of rows n r) ≡ length (leaves_of rows n v) = rw (tree_fork some t v le h) in
        rw (tree_fork some t v le h, back n v le) (
          (q, size),
          each_append Good (walk n p (suc d) (tree_at rows n l)) (walk n (p + length (leaves_of rows n l)) (suc d) (tree_at rows n r))
              (a p (suc d) (lefts v p d le h q)) (b (p + length (leaves_of rows n l)) (suc d) (rights v p d le h q)),
        ))

  -- a tree's own node is the first of its nodes
  own_there : (v : ℕ) → v ≤ 2 * n - 2 → (p d : ℕ) → Has v (walk n p d (tree_at rows n v))
  unfolding walk
  own_there v h p d =
      elim (dec_lt v n) [
        | yes lt ↦ rw (tree_leaf rows n v lt) (inl refl)
        | no ge ↦ (let le : n ≤ v = omega arith in rw (tree_fork some t v le h) (inl (back n v le)))
      ]

  -- and where a row's node is there, its two children are
  abbrev Both : ℕ → List Branch → Type 0
  Both k bs = Has (left rows k) bs × Has (right rows k) bs

  no_row : (k v : ℕ) → v < n → (v ≡ n + k) ⊎ ⊥ → ⊥
  no_row k v l (inl e) = omega arith
  no_row k v l (inr e) = e

  kids_there : (k : ℕ) (v : ℕ) → v ≤ 2 * n - 2 → (p d : ℕ) → Has (n + k) (walk n p d (tree_at rows n v)) → Both k (walk n p d (tree_at rows n v))
  unfolding walk
  kids_there k = node_ind some t
      (λ v. (p d : ℕ) → Has (n + k) (walk n p d (tree_at rows n v)) → Both k (walk n p d (tree_at rows n v)))
      (λ v l p d h. absurd (no_row k v l (rw (tree_leaf rows n v l) at h)))
      (λ v le m a b p d h.
      let next = p + length (leaves_of rows n (left rows (v - n))) in
      let A = walk n p (suc d) (tree_at rows n (left rows (v - n))) in
      let B = walk n next (suc d) (tree_at rows n (right rows (v - n))) in
      let g : (n + (v - n) ≡ n + k) ⊎ Has (n + k) (A ++ B) = rw (tree_fork some t v le m) at h in
      rw (tree_fork some t v le m)
      (⊎_elim
      (λ e. (
        inr (has_left (left rows k) A B (subst (λ (j : ℕ). Has (left rows j) A) (same_row n v k e) (own_there (left rows (v - n)) (left_node v le m) p (suc d)))),
        inr (has_right (right rows k) A B (subst (λ (j : ℕ). Has (right rows j) B) (same_row n v k e) (own_there (right rows (v - n)) (right_node v le m) next (suc d)))),
      ))
      (λ q.
      ⊎_elim
      (λ x. let z = a p (suc d) x in (inr (has_left (left rows k) A B z.0), inr (has_left (right rows k) A B z.1)))
      (λ y. let z = b next (suc d) y in (inr (has_right (left rows k) A B z.0), inr (has_right (right rows k) A B z.1)))
      (has_cases (n + k) A B q))
      g))

  root_there : (v : ℕ) → v ≡ 2 * n - 2 → Has v (branches rows n)
  unfolding branches
  root_there v e = rw e (own_there (2 * n - 2) (le_refl (2 * n - 2)) 0 0)

  row_there : (k : ℕ) → Has (n + k) (branches rows n) → Both k (branches rows n)
  unfolding branches
  row_there k h = kids_there k (2 * n - 2) (le_refl (2 * n - 2)) 0 0 h

  -- from the root down
  reached : (d v : ℕ) → 2 * n - 2 - v ≤ d → v ≤ 2 * n - 2 → Has v (branches rows n)
  reached zero v f h = root_there v (omega arith)
  reached (suc d) v f h =
      elim (dec_lt v (2 * n - 2)) [
        | no ge ↦ root_there v (omega arith)
        | yes lt ↦
            let c = child v lt in
            let in_row : c.row < n - 1 = c.inside in
            let over : v < n + c.row = c.above in
            let z = row_there c.row (reached d (n + c.row) (omega arith) (omega arith)) in
            ⊎_elim
            (λ e. subst (λ (u : ℕ). Has u (branches rows n)) e z.0)
            (λ e. subst (λ (u : ℕ). Has u (branches rows n)) e z.1)
            c.side
      ]

  pub all_there : (v : ℕ) → v ≤ 2 * n - 2 → Has v (branches rows n)
  all_there v h = reached (2 * n - 2 - v) v (le_refl (2 * n - 2 - v)) h
