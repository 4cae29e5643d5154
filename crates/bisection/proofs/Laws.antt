-- The refusals of `recursive_bisection_min_var`, how it ends, and what its callers know of it:
--     bisection_accepted       an accepted call has weights, as many as assets
--     bisection_as_shares      where the sizes and the order are right, only a side can be refused
-- Assumes nothing.
use Prim.Native.Nat.{ℕ, zero, suc, ◌*◌, ◌<◌, ◌≤◌}
use mathlib.Core.Path.{◌≡◌, refl, sym, ap, ◌∙◌}
use mathlib.Core.Bool.{true, false, not}
use mathlib.Core.List.{List, [], ◌∷◌, ◌++◌}
use native.Mathlib.Nat.{not-suc-le-zero, le_of_suc-le-suc}
use native.Mathlib.Omega.{arith}
use borrow.Author.Tests.{ltb-false, le-ltb, eq-eqb, ne_eqb, not-false}
use lib.Dec.{ltb, eqb}
use lib.ListN.{length, get_or, take, drop, length-replicate}
use lib.Ieee.{Float}
use Rattle.arithmetic.specs.Constants.{pz}
use Rattle.refusal.specs.Table.{Line, first, and_then, Outcome}
use Rattle.refusal.specs.declared.Refusal.{Refusal}
use Rattle.refusal.specs.declared.Refusal.TheVariants.{NoData, DimensionMismatch, ShortBuffer, NoTree}
use Rattle.refusal.proofs.Tables.{table_end, table_hit, table_pass, none, first_append, first_done, first_refused, both_done, then_done, then_refused}
use Rattle.lent.specs.Grid.{zeros}
use Rattle.lent.specs.Lent.{over_limit, other_length, sizes, size, laid, answer_of}
use Rattle.lent.proofs.Laws.{square_in, drop_replicate}
use Rattle.lent.proofs.Sizes.{over_cells}
use Rattle.tree.specs.Rows.{is_order}
use Rattle.tree.proofs.Rows.{is_order_lem}
use Rattle.clusters.specs.Shares.{Shares, some, is_none, weights_in}
use Rattle.clusters.specs.Inner.{shared}
use Rattle.clusters.specs.Shares as shares
use Rattle.bisection.specs.Bisection.{bisection_shares, bisection_given, bisection_table, bisection_outcome, bisection_answer, bisection_weights}
use Rattle.bisection.proofs.Halves.{weights_length}
use Rattle.std.specs.Prelude.{Ok, Err, is_err}

-- ---- what the weights are, where there are some

shared_none : (s : Shares) (o : Outcome) (ws : List Float) → shared o ws ≡ s → is_err o ≡ true → is_none s ≡ true
unfolding shared is_none
shared_none s (Ok _) ws e h = absurd (let z : ◌≡◌ {A = ℕ} 0 1 = cc in omega arith)
shared_none s (Err r) ws e h = rw (← e)

shared_some : (s : Shares) (o : Outcome) (ws : List Float) → shared o ws ≡ s → is_err o ≡ false → s ≡ some ws
unfolding shared
shared_some s (Ok _) ws e h = sym e
shared_some s (Err r) ws e h = absurd (let z : ◌≡◌ {A = ℕ} 0 1 = cc in omega arith)

none_not : (s : Shares) → is_none s ≡ false → s ≡ some (weights_in s)
unfolding is_none weights_in
none_not shares.none e = absurd (let z : ◌≡◌ {A = ℕ} 0 1 = cc in omega arith)
none_not (some ws) e = refl

pub take_zeros : (k n : ℕ) → k ≤ n → take k (zeros n) ≡ zeros k
take_zeros zero n h = refl
take_zeros (suc k) zero h = absurd (not-suc-le-zero h)
take_zeros (suc k) (suc n) h = ap (λ (l : List Float). pz ∷ l) (take_zeros k n (le_of_suc-le-suc h))

-- ---- the refusals

abbrev side_table : List Float → ℕ → List ℕ → List Line
side_table cov w order = (is_none (bisection_shares cov w order), NoData) ∷ []

module _ (cov : List Float) (rows w : ℕ) (order : List ℕ) (room : ℕ) where
  staged : bisection_outcome cov rows w order room ≡ and_then (first (bisection_given cov rows w order room)) (first (side_table cov w order))
  unfolding bisection_outcome bisection_table
  staged = first_append (bisection_given cov rows w order room) (side_table cov w order)

  pub bisection_accepted : bisection_outcome cov rows w order room ≡ Ok tt
      → (is_none (bisection_shares cov w order) ≡ false) × (length (weights_in (bisection_shares cov w order)) ≡ w)
  bisection_accepted e =
      let some : is_none (bisection_shares cov w order) ≡ false = (none (side_table cov w order) (both_done _ _ (sym staged ∙ e)).1).0 in
      (some, weights_length cov w order _ (none_not (bisection_shares cov w order) some))

  -- the sizes, and what is tested after them
  pub given_refused : (r : Refusal) → first (sizes (length cov) rows w) ≡ Err r → first (bisection_given cov rows w order room) ≡ Err r
  unfolding bisection_given
  given_refused r e = first_refused (sizes (length cov) rows w) _ r e

  pub given_sized : first (sizes (length cov) rows w) ≡ Ok tt
      → first (bisection_given cov rows w order room)
      ≡ first ((ltb room w, ShortBuffer) ∷ (not (eqb rows w), DimensionMismatch) ∷ (not (is_order order w), NoTree) ∷ (eqb w 0, NoData) ∷ [])
  unfolding bisection_given
  given_sized e = first_done (sizes (length cov) rows w) _ e

  module _ (said : Outcome) (e : said ≡ first (bisection_given cov rows w order room)) where
    -- what is known where the first stage is done
    pub call_roomy : said ≡ Ok tt → w ≤ room
    unfolding bisection_given sizes
    call_roomy h = ltb-false room w (none (bisection_given cov rows w order room) (sym e ∙ h)).1.1.0

    call_order : said ≡ Ok tt → is_order order w ≡ true
    unfolding bisection_given sizes
    call_order h = not-false (is_order order w) (none (bisection_given cov rows w order room) (sym e ∙ h)).1.1.1.1.0

    pub call_low : said ≡ Ok tt → (k : ℕ) → k < length order → get_or order k 0 < w
    call_low h k l =
        let o = is_order_lem order w (call_order h) in
        let q : length order ≡ w = o.size in
        o.low k (omega arith)

    -- ---- how the call ends

    module _ (out : List Float) where
      pub ends_refused : (r : Refusal) → said ≡ Err r → out ≡ zeros room
          → (Err r ≡ bisection_answer cov rows w order room) × (out ≡ bisection_weights cov rows w order room)
      unfolding bisection_answer bisection_weights laid answer_of
      ends_refused r h z =
          let q : bisection_outcome cov rows w order room ≡ Err r = staged ∙ then_refused _ _ r (sym e ∙ h) in
          (rw q, rw q z)

      module _ (h : said ≡ Ok tt) (o : Outcome) (ws : List Float) (t : shared o ws ≡ bisection_shares cov w order) where
        side : bisection_outcome cov rows w order room ≡ first (side_table cov w order)
        side = staged ∙ then_done _ _ (sym e ∙ h)

        pub ends_side : is_err o ≡ true → (blank : List Float) → out ≡ zeros (length (ws ++ drop w blank)) → length out ≡ room
            → (Err NoData ≡ bisection_answer cov rows w order room) × (out ≡ bisection_weights cov rows w order room)
        unfolding bisection_answer bisection_weights laid answer_of
        ends_side q blank z l =
            let a : bisection_outcome cov rows w order room ≡ Err NoData = side ∙ table_hit _ _ _ (shared_none _ o ws t q) in
            let k : length (ws ++ drop w blank) ≡ room = sym (ap length z ∙ length-replicate _ pz) ∙ l in
            (rw a, rw a (z ∙ ap zeros k))

        pub ends_done : (blank : List Float) → is_err o ≡ false → blank ≡ zeros room → out ≡ ws ++ drop w blank
            → (Ok (size 1 w) ≡ bisection_answer cov rows w order room) × (out ≡ bisection_weights cov rows w order room)
        unfolding bisection_answer bisection_weights laid is_none weights_in answer_of
        ends_done blank q z f =
            let s : bisection_shares cov w order ≡ some ws = shared_some _ o ws t q in
            let n : length ws ≡ w = weights_length cov w order ws s in
            let no : is_none (bisection_shares cov w order) ≡ false = rw s in
            let a : bisection_outcome cov rows w order room ≡ (Ok tt) = side ∙ table_pass _ _ _ no ∙ table_end in
            (rw a, f ∙ rw (a, s, z, n) (ap (λ (l : List Float). ws ++ l) (drop_replicate w room pz)))

-- ---- where the sizes and the order are right

pub bisection_as_shares : (cov : List Float) (n : ℕ) (order : List ℕ) (room : ℕ) → 1 ≤ n → n ≤ 64 → length cov ≡ n * n → is_order order n ≡ true → n ≤ room
    → bisection_outcome cov n n order room ≡ first ((is_none (bisection_shares cov n order), NoData) ∷ [])
unfolding bisection_given sizes other_length
bisection_as_shares cov n order room pos wide cells o roomy =
    let a : over_limit n n ≡ false = over_cells n n (omega arith) wide ∙ le-ltb 4096 (n * n) (square_in n wide) in
    let b : not (eqb (length cov) (n * n)) ≡ false = rw (eq-eqb (length cov) (n * n) cells) in
    let c : ltb room n ≡ false = le-ltb room n roomy in
    let d : not (eqb n n) ≡ false = rw (eq-eqb n n refl) in
    let f : not (is_order order n) ≡ false = rw o in
    let g : eqb n 0 ≡ false = ne_eqb n 0 (λ q. omega arith) in
    let done : first (bisection_given cov n n order room) ≡ (Ok tt) = table_pass _ _ _ a ∙ table_pass _ _ _ b ∙ table_pass _ _ _ c ∙ table_pass _ _ _ d ∙ table_pass _ _ _ f ∙ table_pass _ _ _ g ∙ table_end in
    staged cov n n order room ∙ then_done _ _ done
