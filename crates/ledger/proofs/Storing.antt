-- The table as a list of positions: reading and storing one. Assumes nothing.
use Prim.Native.Nat.{ℕ, ◌+◌, ◌*◌, ◌<◌}
use mathlib.Core.Path.{◌≡◌, sym, ap, subst, ◌∙◌}
use mathlib.Core.List.{List, ◌++◌, append_assoc}
use mathlib.Core.Logic.{⊎_elim}
use native.Mathlib.Nat.{add-zero}
use native.Mathlib.Numerals.{towards_suc}
use native.Mathlib.Omega.{arith}
use lib.ListN.{length, get_or, set, take, drop, length-set}
use lib.Seq.{sets-eq, length-take-le, get_or-append-add, get_or-set_same, get_or-set_other, ext_get_or}
use Rattle.lent.proofs.Laws.{same_or_not, cell_inj, put_other, length_tab, get_d_tab}
use Rattle.ledger.specs.Ledger.{position_at, positions, numbers_of}
use Rattle.ledger.specs.declared.Position.{Position}

pub length_positions : (t : List ℕ) → length (positions t) ≡ 256
unfolding positions
length_positions t = length_tab 256 (position_at t)

pub position_there : (t : List ℕ) (i : ℕ) (d : Position) → i < 256 → get_or (positions t) i d ≡ position_at t i
unfolding positions
position_there t i d h = get_d_tab 256 (position_at t) i d h

-- the table with a position's seven numbers at position i
unfoldable pub stored : List ℕ → ℕ → Position → List ℕ
stored t i e =
    set (set (set (set (set (set (set t (i * 7) e.name.high) (i * 7 + 1) e.name.low) (i * 7 + 2) e.jobs) (i * 7 + 3) e.last) (i * 7 + 4) e.smallest) (i * 7 + 5) e.largest) (i * 7 + 6) e.total

module _ (t : List ℕ) (i : ℕ) (e : Position) (long : length t ≡ 1792) (h : i < 256) where
  as_part : stored t i e ≡ take (i * 7) t ++ (numbers_of e ++ drop (i * 7 + 7) t)
  unfolding stored numbers_of
  as_part = simp towards_suc (sets-eq (numbers_of e) t (i * 7) (omega arith) ∙ append_assoc (take (i * 7) t) (numbers_of e) _ ∙ simp towards_suc)

  cell_here : (j : ℕ) → get_or (stored t i e) (i * 7 + j) 0 ≡ get_or (numbers_of e ++ drop (i * 7 + 7) t) j 0
  cell_here j =
      rw as_part
      (subst (λ (m : ℕ). get_or (take (i * 7) t ++ (numbers_of e ++ drop (i * 7 + 7) t)) (m + j) 0 ≡ get_or (numbers_of e ++ drop (i * 7 + 7) t) j 0)
      (length-take-le (i * 7) t (omega arith))
      (get_or-append-add (take (i * 7) t) (numbers_of e ++ drop (i * 7 + 7) t) j 0))

  position_here : position_at (stored t i e) i ≡ e
  unfolding position_at numbers_of
  position_here =
      let z : get_or (stored t i e) (i * 7) 0 ≡ e.name.high = ap (λ (k : ℕ). get_or (stored t i e) k 0) (sym (add-zero (i * 7))) ∙ cell_here 0 in
      rw (z, cell_here 1, cell_here 2, cell_here 3, cell_here 4, cell_here 5, cell_here 6)

  cell_other : (k c : ℕ) → c < 7 → (k ≡ i → ⊥) → get_or (stored t i e) (k * 7 + c) 0 ≡ get_or t (k * 7 + c) 0
  unfolding stored
  cell_other k c l n =
      let t0 = set t (i * 7) e.name.high in
      let t1 = set t0 (i * 7 + 1) e.name.low in
      let t2 = set t1 (i * 7 + 2) e.jobs in
      let t3 = set t2 (i * 7 + 3) e.last in
      let t4 = set t3 (i * 7 + 4) e.smallest in
      let t5 = set t4 (i * 7 + 5) e.largest in
      put_other t5 7 i 6 k c e.total 0 l (omega arith) (λ q _. n q)
      ∙ put_other t4 7 i 5 k c e.largest 0 l (omega arith) (λ q _. n q)
      ∙ put_other t3 7 i 4 k c e.smallest 0 l (omega arith) (λ q _. n q)
      ∙ put_other t2 7 i 3 k c e.last 0 l (omega arith) (λ q _. n q)
      ∙ put_other t1 7 i 2 k c e.jobs 0 l (omega arith) (λ q _. n q)
      ∙ put_other t0 7 i 1 k c e.name.low 0 l (omega arith) (λ q _. n q)
      ∙ get_or-set_other t (i * 7) (k * 7 + c) e.name.high 0 (λ q. n (cell_inj 7 k c i 0 l (omega arith) (q ∙ sym (add-zero (i * 7)))).0)

  position_other : (k : ℕ) → (k ≡ i → ⊥) → position_at (stored t i e) k ≡ position_at t k
  unfolding position_at
  position_other k n =
      let a : (c : ℕ) → c < 7 → get_or (stored t i e) (k * 7 + c) 0 ≡ get_or t (k * 7 + c) 0 = λ c l. cell_other k c l n in
      let z : get_or (stored t i e) (k * 7) 0 ≡ get_or t (k * 7) 0 =
      ap (λ (m : ℕ). get_or (stored t i e) m 0) (sym (add-zero (k * 7))) ∙ a 0 (omega arith) ∙ ap (λ (m : ℕ). get_or t m 0) (add-zero (k * 7)) in
      rw (z, a 1 (omega arith), a 2 (omega arith), a 3 (omega arith), a 4 (omega arith), a 5 (omega arith), a 6 (omega arith))

  pub position_put : positions (stored t i e) ≡ set (positions t) i e
  position_put =
      ext_get_or e (positions (stored t i e)) (set (positions t) i e)
      (length_positions (stored t i e) ∙ sym (length-set (positions t) i e ∙ length_positions t))
      (λ k l.
      let g : k < 256 = omega (arith, length_positions (stored t i e)) in
      position_there (stored t i e) k e g
      ∙ ⊎_elim
      (λ q. subst (λ (m : ℕ). position_at (stored t i e) m ≡ get_or (set (positions t) i e) m e) (sym q) (position_here ∙ sym (get_or-set_same (positions t) i e e (omega (arith, length_positions t)))))
      (λ n. position_other k n ∙ sym (get_or-set_other (positions t) i k e e n ∙ position_there t k e g))
      (same_or_not k i))
