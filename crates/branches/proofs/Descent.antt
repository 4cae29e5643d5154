-- A pass from the root's row down to row 0, which gives each row's two children a number worked out from their parent's. A later row changes
-- no node that an earlier one has used: its children's ids are below its own, and each id is a child once.
--     descent_start, descent_step, descent_end
-- Assumes nothing.
use mathlib.Core.Path.{◌≡◌, refl, sym, ap, ◌∙◌}
use mathlib.Core.Logic.{⊎_elim}
use mathlib.Core.List.{List, ◌++◌}
use Prim.Native.Nat.{ℕ, ◌+◌, ◌-◌, ◌*◌, ◌/◌, ◌≤◌, ◌<◌}
use native.Mathlib.Nat.{le_refl, le_trans, lt_of_lt_of_le, sub-le}
use native.Mathlib.Omega.{arith}
use native.Mathlib.Decide.{dec_lt}
use lib.ListN.{length, get_or, set, length-set, length-replicate, get_or-replicate, get_or-eq_default}
use lib.Seq.{get_or-set_same, get_or-set_other, ext_get_or, get_or-append-add}
use Rattle.lent.specs.Grid.{tab, over, noughts}
use Rattle.lent.proofs.Laws.{same_or_not, length_tab, get_d_tab, length_over, get_d_over, over_replicate}
use Rattle.tree.specs.Tree.{left, right}
use Rattle.tree.proofs.Rows.{IsTree}
use Rattle.branches.proofs.Walk.{one_place}

-- the rows from k on are done: a row's left child has g of its node's number, its right child h of it; B is what may still be added below a node
pub record Descent (rows : List ℕ) (n : ℕ) (g h : ℕ → ℕ → ℕ) (B : ℕ → ℕ) (M room k : ℕ) (x : List ℕ) : Type 0 where
  pub few : k ≤ n - 1
  pub same : length x ≡ room
  pub past : (j : ℕ) → 2 * n - 1 ≤ j → get_or x j 0 ≡ 0
  pub root : get_or x (2 * n - 2) 0 ≡ 0
  pub lefts : (j : ℕ) → k ≤ j → j < n - 1 → get_or x (left rows j) 0 ≡ g j (get_or x (n + j) 0)
  pub rights : (j : ℕ) → k ≤ j → j < n - 1 → get_or x (right rows j) 0 ≡ h j (get_or x (n + j) 0)
  pub fits : (v : ℕ) → v ≤ 2 * n - 2 → get_or x v 0 + B v ≤ M

nought : (room j : ℕ) → get_or (noughts room) j 0 ≡ 0
nought room j =
    elim (dec_lt j room) [
      | yes lt ↦ get_or-replicate {A = ℕ} room j 0 0 lt
      | no ge ↦ get_or-eq_default (noughts room) 0 (omega (arith, length-replicate {A = ℕ} room 0))
    ]

above : (a b j : ℕ) → a < b → b ≤ j → j ≡ a → ⊥
above a b j h k e = omega arith

wide_node : (n m : ℕ) → 1 ≤ n → m < n - 1 → (n + m ≤ 2 * n - 1) × (n + m ≤ 2 * n - 2)
wide_node n m h k = (omega arith, omega arith)

kept : (M w z b y c : ℕ) → w ≡ z → z + b ≤ y + c → y + c ≤ M → w + b ≤ M
kept M w z b y c e a le = omega arith

raised : (n m j : ℕ) → m ≤ j → n + m ≤ n + j
raised n m j h = omega arith

after : (m k j : ℕ) → 0 < k → k - 1 ≤ j → (j ≡ k - 1 → ⊥) → k ≤ j
after m k j h le ne = omega arith

module _ {rows : List ℕ} {n : ℕ} (some : 1 ≤ n) (t : IsTree rows n) where
  lower : (j : ℕ) → j < 2 * (n - 1) → get_or rows j 0 < n + j / 2
  lower j lt = t.low j (omega (arith, t.size))

  pub left_below : (j : ℕ) → j < n - 1 → left rows j < n + j
  left_below j lt = omega (arith, lower (2 * j) (omega arith))

  pub right_below : (j : ℕ) → j < n - 1 → right rows j < n + j
  right_below j lt = omega (arith, lower (2 * j + 1) (omega arith))

  -- no two entries are the same
  apart : (i j : ℕ) → i < 2 * (n - 1) → j < 2 * (n - 1) → (i ≡ j → ⊥) → get_or rows i 0 ≡ get_or rows j 0 → ⊥
  apart i j hi hj ne e =
      ne (one_place (get_or rows j 0) rows i j (t.each (get_or rows j 0) (omega (arith, lower j hj))) (omega (arith, t.size)) (omega (arith, t.size)) e refl)

  left_left : (j m : ℕ) → j < n - 1 → m < n - 1 → (j ≡ m → ⊥) → left rows j ≡ left rows m → ⊥
  left_left j m hj hm ne = apart (2 * j) (2 * m) (omega arith) (omega arith) (λ e. ne (omega arith))

  left_right : (j m : ℕ) → j < n - 1 → m < n - 1 → left rows j ≡ right rows m → ⊥
  left_right j m hj hm = apart (2 * j) (2 * m + 1) (omega arith) (omega arith) (λ e. omega arith)

  right_right : (j m : ℕ) → j < n - 1 → m < n - 1 → (j ≡ m → ⊥) → right rows j ≡ right rows m → ⊥
  right_right j m hj hm ne = apart (2 * j + 1) (2 * m + 1) (omega arith) (omega arith) (λ e. ne (omega arith))

  module _ {g h : ℕ → ℕ → ℕ} {B : ℕ → ℕ} {M : ℕ} where
    pub descent_start : (room : ℕ) → ((v : ℕ) → v ≤ 2 * n - 2 → B v ≤ M) → Descent rows n g h B M room (n - 1) (noughts room)
    descent_start room b = record {
      few = omega arith;
      same = length-replicate room 0;
      past = λ j le. nought room j;
      root = nought room (2 * n - 2);
      lefts = λ j a b. absurd (omega arith);
      rights = λ j a b. absurd (omega arith);
      fits = λ v le. omega (arith, nought room v, b v le);
    }

    pub descent_step : (room k : ℕ) (x : List ℕ)
        → ((y : ℕ) → g (k - 1) y + B (left rows (k - 1)) ≤ y + B (n + (k - 1)))
        → ((y : ℕ) → h (k - 1) y + B (right rows (k - 1)) ≤ y + B (n + (k - 1)))
        → 2 * n - 1 ≤ room → 0 < k → Descent rows n g h B M room k x
        → Descent rows n g h B M room (k - 1) (set (set x (left rows (k - 1)) (g (k - 1) (get_or x (n + (k - 1)) 0))) (right rows (k - 1)) (h (k - 1) (get_or x (n + (k - 1)) 0)))
    descent_step room k x gl hr wide pos s =
        let m = k - 1 in
        let l = left rows m in
        let r = right rows m in
        let y = get_or x (n + m) 0 in
        let x₁ = set x l (g m y) in
        let x₂ = set x₁ r (h m y) in
        let few : k ≤ n - 1 = s.few in
        let m-in : m < n - 1 = omega arith in
        let top = wide_node n m some m-in in
        let ll : l < n + m = left_below m m-in in
        let rl : r < n + m = right_below m m-in in
        let here : n + m ≤ length x = omega (arith, top.0, s.same) in
        let at-l : get_or x₂ l 0 ≡ g m y = get_or-set_other x₁ r l (h m y) 0 (left_right m m m-in m-in) ∙ get_or-set_same x l (g m y) 0 (lt_of_lt_of_le ll here) in
        let at-r : get_or x₂ r 0 ≡ h m y = get_or-set_same x₁ r (h m y) 0 (rw (length-set x l (g m y)) (lt_of_lt_of_le rl here)) in
        let else : (j : ℕ) → (j ≡ l → ⊥) → (j ≡ r → ⊥) → get_or x₂ j 0 ≡ get_or x j 0 =
        λ j p q. get_or-set_other x₁ r j (h m y) 0 q ∙ get_or-set_other x l j (g m y) 0 p in
        let high : (j : ℕ) → n + m ≤ j → get_or x₂ j 0 ≡ get_or x j 0 = λ j le. else j (above l (n + m) j ll le) (above r (n + m) j rl le) in
        let node : (j : ℕ) → m ≤ j → get_or x₂ (n + j) 0 ≡ get_or x (n + j) 0 = λ j le. high (n + j) (raised n m j le) in
        record {
          few = le_trans (sub-le k 1) few;
          same = length-set x₁ r (h m y) ∙ length-set x l (g m y) ∙ s.same;
          past = λ j le. high j (le_trans top.0 le) ∙ s.past j le;
          root = high (2 * n - 2) top.1 ∙ s.root;
          lefts = λ j le lt.
              ⊎_elim
              (λ e. rw e (at-l ∙ ap (g m) (sym (node m (le_refl m)))))
              (λ ne.
              else (left rows j) (left_left j m lt m-in ne) (left_right j m lt m-in)
              ∙ s.lefts j (after m k j pos le ne) lt ∙ ap (g j) (sym (node j le)))
              (same_or_not j m);
          rights = λ j le lt.
              ⊎_elim
              (λ e. rw e (at-r ∙ ap (h m) (sym (node m (le_refl m)))))
              (λ ne.
              else (right rows j) (λ e. left_right m j m-in lt (sym e)) (right_right j m lt m-in ne)
              ∙ s.rights j (after m k j pos le ne) lt ∙ ap (h j) (sym (node j le)))
              (same_or_not j m);
          fits = λ v le.
              ⊎_elim
              (λ e. rw e (kept M (get_or x₂ l 0) (g m y) (B l) y (B (n + m)) at-l (gl y) (s.fits (n + m) top.1)))
              (λ p.
              ⊎_elim
              (λ e. rw e (kept M (get_or x₂ r 0) (h m y) (B r) y (B (n + m)) at-r (hr y) (s.fits (n + m) top.1)))
              (λ q. rw (else v p q) (s.fits v le))
              (same_or_not v r))
              (same_or_not v l);
        }

    -- a list of which each node's entry is known, and zeros after them
    pub descent_end : (room : ℕ) (f : ℕ → ℕ) (x : List ℕ) → 2 * n - 1 ≤ room → Descent rows n g h B M room 0 x → ((v : ℕ) → v ≤ 2 * n - 2 → f v ≡ get_or x v 0)
        → x ≡ over (tab (2 * n - 1) f) (noughts room)
    descent_end room f x wide s e =
        let w = 2 * n - 1 in
        let lt-room : length (tab w f) ≡ w = length_tab w f in
        let long : length (over (tab w f) (noughts room)) ≡ room = length_over (tab w f) (noughts room) (omega (arith, length-replicate {A = ℕ} room 0)) ∙ length-replicate room 0 in
        ext_get_or 0 x (over (tab w f) (noughts room)) (s.same ∙ sym long)
        (λ j lt.
        elim (dec_lt j w) [
          | yes a ↦ sym (e j (omega arith)) ∙ sym (get_d_tab w f j 0 a) ∙ sym (get_d_over (tab w f) (noughts room) j 0 (omega arith))
          | no b ↦
              let i = j - w in
              let q : length (tab w f) + i ≡ j = omega arith in
              let far : get_or (over (tab w f) (noughts room)) j 0 ≡ 0 =
              ap (λ (l : List ℕ). get_or l j 0) (over_replicate (tab w f) room 0)
              ∙ ap (λ (z : ℕ). get_or (tab w f ++ noughts (room - length (tab w f))) z 0) (sym q)
              ∙ get_or-append-add (tab w f) (noughts (room - length (tab w f))) i 0
              ∙ nought (room - length (tab w f)) i in
              s.past j (omega arith) ∙ sym far
        ])
