-- How the call over a list of weights ends: judged, cleared, filled. Assumes nothing.
use Prim.Native.Nat.{ℕ, zero, suc, ◌+◌, ◌-◌, ◌≤◌, ◌<◌}
use mathlib.Core.Path.{◌≡◌, refl, sym, ap, ◌∙◌}
use mathlib.Core.Bool.{Bool, true, false, not, ◌||◌}
use mathlib.Core.Logic.{⊎_elim}
use mathlib.Core.List.{List, [], ◌∷◌, ◌++◌}
use native.Mathlib.Nat.{eq-or-lt_of_le, le_trans, le_of_eq, add-le-add}
use native.Mathlib.Omega.{arith}
use borrow.Author.Tests.{ltb-true, ltb-false, le-ltb, not-false}
use lib.Dec.{ltb}
use lib.Ieee.{Float}
use lib.ListN.{length, get_or, get_or-replicate, get_or-append}
use lib.Seq.{get_or-append-add}
use Rattle.refusal.specs.Table.{first, or_else, and_then, Outcome}
use Rattle.refusal.specs.declared.Refusal.{Refusal}
use Rattle.refusal.specs.declared.Refusal.TheVariants.{OverLimit, ShortBuffer, WeightOutOfRange, TotalOutOfReach}
use Rattle.refusal.proofs.Tables.{table, table_end, table_hit, table_pass, none, then_done, then_refused}
use Rattle.fields.specs.Split.{all}
use Rattle.lent.specs.Count.{one, upto}
use Rattle.lent.specs.Grid.{noughts, tab, over}
use Rattle.lent.specs.Lent.{laid}
use Rattle.lent.proofs.Counting.{one_le, upto_same}
use Rattle.lent.proofs.Laws.{either, length_tab, get_d_tab, tab_ext}
use Rattle.lent.proofs.Sizes.{laid_done, laid_refused}
use Rattle.lent.proofs.Sums.{no_or}
use Rattle.fractions.specs.Fractions.{in_range, whole_at, left_at, rank_of, wholes_in, ranks_in, fractions_table, fractions_outcome, wholes_laid, ranks_laid}
use Rattle.fractions.proofs.Meaning.{whole_most}
use Rattle.millionths.specs.Millionths.{whole_total, missing, millionths_at, millionths_in, out_of_reach, millionths_lines, millionths_table, millionths_outcome, millionths_laid}
use Rattle.millionths.specs.Inner.{Wholes, judged, Served}
use Rattle.std.specs.Prelude.{Ok, Err}

-- ---- numbers at the front of a buffer, and zeros after them

module _ (cells : List ℕ) (room : ℕ) (h : length cells ≤ room) where
  at_front : (i : ℕ) → i < length cells → get_or (cells ++ noughts (room - length cells)) i 0 ≡ get_or cells i 0
  at_front i l = get_or-append cells (noughts (room - length cells)) 0 i l

  past_end : (i : ℕ) → length cells ≤ i → i < room → get_or (cells ++ noughts (room - length cells)) i 0 ≡ 0
  past_end i l g =
      let e : length cells + (i - length cells) ≡ i = omega arith in
      ap (λ (k : ℕ). get_or (cells ++ noughts (room - length cells)) k 0) (sym e)
      ∙ get_or-append-add cells (noughts (room - length cells)) (i - length cells) 0 ∙ get_or-replicate (room - length cells) (i - length cells) 0 0 (omega arith)

-- a sum whose last terms are 0
upto_stop : (f : ℕ → ℕ) (n m : ℕ) → n ≤ m → ((i : ℕ) → n ≤ i → i < m → f i ≡ 0) → upto f m ≡ upto f n
unfolding upto
upto_stop f n zero h z = let e : 0 ≡ n = omega arith in ap (upto f) e
upto_stop f n (suc m) h z =
    ⊎_elim
    (λ e. ap (upto f) (sym e))
    (λ l. omega (arith, upto_stop f n m (omega arith) (λ i a b. z i a (omega arith)), z m (omega arith) (omega arith)))
    (eq-or-lt_of_le h)

-- ---- weights of which `fractions` refuses none

module _ (ws : List Float) where
  module _ (d : fractions_outcome ws 64 64 ≡ Ok tt) where
    few : length ws ≤ 64
    unfolding fractions_outcome fractions_table
    few = ltb-false 64 (length ws) (none (fractions_table ws 64 64) d).0

    ranged : all in_range ws ≡ true
    unfolding fractions_outcome fractions_table
    ranged = not-false _ (none (fractions_table ws 64 64) d).1.1.0

    whole_at_lem : (i : ℕ) → i < length ws → get_or (wholes_laid ws 64 64) i 0 ≡ whole_at ws i
    unfolding wholes_laid wholes_in laid
    whole_at_lem i h =
        let n = length_tab (length ws) (whole_at ws) in
        ap (λ (o : Outcome). get_or (laid 0 o 64 (wholes_in ws)) i 0) d
        ∙ at_front (wholes_in ws) 64 (omega (arith, n, few)) i (omega (arith, n)) ∙ get_d_tab (length ws) (whole_at ws) i 0 h

    none_past : (i : ℕ) → length ws ≤ i → i < 64 → get_or (wholes_laid ws 64 64) i 0 ≡ 0
    unfolding wholes_laid wholes_in laid
    none_past i h g =
        let n = length_tab (length ws) (whole_at ws) in
        ap (λ (o : Outcome). get_or (laid 0 o 64 (wholes_in ws)) i 0) d ∙ past_end (wholes_in ws) 64 (omega (arith, n, few)) i (omega (arith, n)) g

    rank_at : (i : ℕ) → i < length ws → get_or (ranks_laid ws 64 64) i 0 ≡ rank_of (left_at ws) (length ws) i
    unfolding ranks_laid ranks_in laid
    rank_at i h =
        let n = length_tab (length ws) (rank_of (left_at ws) (length ws)) in
        ap (λ (o : Outcome). get_or (laid 0 o 64 (ranks_in ws)) i 0) d
        ∙ at_front (ranks_in ws) 64 (omega (arith, n, few)) i (omega (arith, n)) ∙ get_d_tab (length ws) (rank_of (left_at ws) (length ws)) i 0 h

  ranged_said : ltb 64 (length ws) ≡ false → fractions_outcome ws 64 64 ≡ first ((not (all in_range ws), WeightOutOfRange) ∷ [])
  unfolding fractions_outcome fractions_table
  ranged_said e = table_pass _ OverLimit _ e ∙ table_pass _ ShortBuffer _ (ap (λ (t : Bool). t || t) e)

  small : (i : ℕ) → i < 64 → get_or (wholes_laid ws 64 64) i 0 ≤ 1000000
  unfolding wholes_laid laid
  small i h = go (fractions_outcome ws 64 64) refl
    where
      go : (o : Outcome) → fractions_outcome ws 64 64 ≡ o → get_or (wholes_laid ws 64 64) i 0 ≤ 1000000
      go (Ok _) d =
          ⊎_elim
          (λ e. let l : i < length ws = ltb-true i (length ws) e in le_trans (le_of_eq (whole_at_lem d i l)) (whole_most ws (ranged d) i l))
          (λ e. le_trans (le_of_eq (none_past d i (ltb-false i (length ws) e) h)) (omega arith))
          (either (ltb i (length ws)))
      go (Err r) e = le_trans (le_of_eq (ap (λ (o : Outcome). get_or (laid 0 o 64 (wholes_in ws)) i 0) e ∙ get_or-replicate 64 i 0 0 h)) (omega arith)

  module _ (wholes : List ℕ) (w : wholes ≡ wholes_laid ws 64 64) (wide : length wholes ≡ 64) where
    pub wholes_fit : Wholes wholes
    wholes_fit = record { few = omega (arith, wide); small = λ i h. rw w (small i (omega (arith, wide))) }

    total_is : (given : ℕ) → given ≡ upto (λ i. get_or wholes i 0) (length wholes) → fractions_outcome ws 64 64 ≡ Ok tt → given ≡ whole_total ws
    unfolding whole_total
    total_is given g d =
        g ∙ ap (upto (λ i. get_or wholes i 0)) wide
        ∙ upto_stop (λ i. get_or wholes i 0) (length ws) 64 (few d) (λ i a b. ap (λ (l : List ℕ). get_or l i 0) w ∙ none_past d i a b)
        ∙ upto_same (λ i. get_or wholes i 0) (whole_at ws) (length ws) (λ i a. ap (λ (l : List ℕ). get_or l i 0) w ∙ whole_at_lem d i a)

    -- ---- what is said

    module _ (range said : Outcome) (given room : ℕ) (r : range ≡ fractions_outcome ws 64 64) (g : given ≡ upto (λ i. get_or wholes i 0) (length wholes)) (j : said ≡ judged range given (length ws) room) where
      off_said : ltb 64 (length ws) ≡ false → and_then range (or_else (ltb 1000000 given || ltb (length ws) (1000000 - given)) TotalOutOfReach (Ok tt)) ≡ first (millionths_lines ws)
      unfolding millionths_lines out_of_reach missing
      off_said few =
          ⊎_elim
          (λ e.
          let d : fractions_outcome ws 64 64 ≡ (Ok tt) = ranged_said few ∙ table_pass _ WeightOutOfRange [] (ap not e) ∙ table_end in
          then_done range _ (r ∙ d) ∙ ap (λ (t : ℕ). or_else (ltb 1000000 t || ltb (length ws) (1000000 - t)) TotalOutOfReach (Ok tt)) (total_is given g d)
          ∙ sym (table_pass _ WeightOutOfRange _ (ap not e) ∙ table _ TotalOutOfReach [] ∙ ap (or_else (out_of_reach ws) TotalOutOfReach) table_end))
          (λ e.
          then_refused range _ WeightOutOfRange (r ∙ ranged_said few ∙ table_hit _ WeightOutOfRange [] (ap not e)) ∙ sym (table_hit _ WeightOutOfRange _ (ap not e)))
          (either (all in_range ws))

      abbrev rest : Outcome
      rest = or_else (ltb room (length ws)) ShortBuffer (and_then range (or_else (ltb 1000000 given || ltb (length ws) (1000000 - given)) TotalOutOfReach (Ok tt)))

      pub said_is : said ≡ millionths_outcome ws room
      unfolding judged or_else millionths_outcome millionths_table
      said_is =
          ⊎_elim
          (λ e. j ∙ ap (λ (t : Bool). or_else t OverLimit rest) e ∙ sym (table_hit _ OverLimit _ e))
          (λ e.
          j ∙ ap (λ (t : Bool). or_else t OverLimit rest) e ∙ ap (or_else (ltb room (length ws)) ShortBuffer) (off_said e)
          ∙ sym (table_pass _ OverLimit _ e ∙ table _ ShortBuffer _))
          (either (ltb 64 (length ws)))

-- ---- how the call ends

pub record Accepted (ws : List Float) (room : ℕ) : Type 0 where
  pub few : length ws ≤ 64
  pub roomy : length ws ≤ room
  pub ranged : all in_range ws ≡ true
  pub under : whole_total ws ≤ 1000000
  pub near : missing ws ≤ length ws

pub accepted : (ws : List Float) (room : ℕ) → millionths_outcome ws room ≡ Ok tt → Accepted ws room
unfolding millionths_outcome millionths_table millionths_lines out_of_reach
accepted ws room d =
    let a = none (millionths_table ws room) d in
    let t = no_or _ _ a.1.1.1.0 in
    record {
      few = ltb-false 64 (length ws) a.0;
      roomy = ltb-false room (length ws) a.1.0;
      ranged = not-false _ a.1.1.0;
      under = ltb-false 1000000 (whole_total ws) t.0;
      near = ltb-false (length ws) (missing ws) t.1;
    }

-- of an accepted list `fractions` refuses nothing
measured : (ws : List Float) (room : ℕ) → Accepted ws room → fractions_outcome ws 64 64 ≡ Ok tt
measured ws room a = ranged_said ws (le-ltb 64 (length ws) a.few) ∙ table_pass _ WeightOutOfRange [] (ap not a.ranged) ∙ table_end

module _ (ws : List Float) (room : ℕ) (said : Outcome) (e : said ≡ millionths_outcome ws room) where
  pub ends_refused : (r : Refusal) (out : List ℕ) → said ≡ Err r → out ≡ noughts room → out ≡ millionths_laid ws room
  unfolding millionths_laid
  ends_refused r out h o = o ∙ laid_refused 0 (millionths_outcome ws room) r room (millionths_in ws) (sym e ∙ h)

  module _ (d : said ≡ Ok tt) (wholes ranks : List ℕ) (w : wholes ≡ wholes_laid ws 64 64) (k : ranks ≡ ranks_laid ws 64 64) (wide : length wholes ≡ 64) (deep : length ranks ≡ 64) where
    pub serves : (room' : ℕ) → room' ≡ room → Served wholes ranks (length ws) room'
    serves room' q =
        let a = accepted ws room (sym e ∙ d) in
        record { wholes_are = wholes_fit ws wholes w wide; wholes_wide = omega (arith, a.few); ranks_wide = omega (arith, a.few); roomy = omega (arith, a.roomy) }

    filled : (given lack i : ℕ) → given ≡ upto (λ j. get_or wholes j 0) (length wholes) → lack ≡ 1000000 - given → i < length ws
        → get_or wholes i 0 + one (ltb (get_or ranks i 0) lack) ≡ millionths_at ws i
    unfolding millionths_at missing
    filled given lack i g l h =
        let m = measured ws room (accepted ws room (sym e ∙ d)) in
        rw (w, k, whole_at_lem ws m i h, rank_at ws m i h, l, total_is ws wholes w wide given g m)

    pub ends_done : (mid out : List ℕ) (given lack : ℕ) → given ≡ upto (λ j. get_or wholes j 0) (length wholes) → lack ≡ 1000000 - given → mid ≡ noughts room
        → out ≡ over (tab (length ws) (λ i. get_or wholes i 0 + one (ltb (get_or ranks i 0) lack))) mid → out ≡ millionths_laid ws room
    unfolding millionths_laid millionths_in
    ends_done mid out given lack g l m o =
        o ∙ ap (λ (x : List ℕ). over x mid) (tab_ext (length ws) _ (millionths_at ws) (λ i h. filled given lack i g l h))
        ∙ ap (over (millionths_in ws)) m ∙ laid_done 0 (millionths_outcome ws room) room (millionths_in ws) (sym e ∙ d)

-- an accepted list's numbers are at most one above 1,000,000
pub at_most : (ws : List Float) → all in_range ws ≡ true → (i : ℕ) → i < length ws → millionths_at ws i ≤ 1000001
unfolding millionths_at
at_most ws r i h = add-le-add (whole_most ws r i h) (one_le (ltb (rank_of (left_at ws) (length ws) i) (missing ws)))
