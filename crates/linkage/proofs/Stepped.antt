-- The arrays show the states of specs/Merge.antt: at the start, and after each step. Assumes nothing.
use Prim.Native.Nat.{ℕ, ◌+◌, ◌-◌, ◌*◌, ◌≤◌, zero-le}
use mathlib.Core.Path.{◌≡◌, refl, sym, ap, ◌∙◌, subst}
use mathlib.Core.Bool.{Bool, false}
use mathlib.Core.List.{List, [], ◌∷◌, ◌++◌}
use native.Mathlib.Nat.{le_refl}
use native.Mathlib.Omega.{arith}
use lib.ListN.{length, get_or, set, take, drop, replicate}
use lib.Seq.{take-append_seam}
use lib.Ieee.{Float, nan, binary64, add}
use Rattle.arithmetic.specs.Constants.{unit}
use Rattle.lent.specs.Grid.{zeros, over}
use Rattle.lent.specs.Range.{range}
use Rattle.lent.proofs.Range.{range_none, range_more}
use Rattle.pairing.specs.declared.Best.{Best}
use Rattle.slots.specs.Slots.{without}
use Rattle.slots.specs.Inner.{packed, Below, Rising}
use Rattle.slots.proofs.Packed.{lives, as_many, packed_length, packed_same, without_packed, slots_below, slots_rising}
use Rattle.triangle.specs.declared.Form.{Form}
use Rattle.triangle.specs.Inner.{held_at, Holds}
use Rattle.linkage.specs.declared.Linkage.{Linkage}
use Rattle.linkage.specs.Merge.{State, scan_all, moved_all, merged, step, copied, start, state_at}
use Rattle.linkage.specs.Inner.{state, numbered, meet_all, drawn_at, Stands}
use Rattle.linkage.proofs.Scan.{Good, scan_good}
use Rattle.linkage.proofs.Rows.{lost, find_two}
use Rattle.linkage.proofs.Front.{Front, step_front, start_front, live_front}
use Rattle.linkage.proofs.Packed.{scan_packed, moved_packed, packed_start}
use Rattle.linkage.proofs.Forms.{scan_same, holds_moved}

-- one step, of whatever cells are held and whatever flags the slots are packed from
pub stepped : (l : Linkage) (form : Form) (n k m : ℕ) (d cells : List Float) (ids slots : List ℕ) (sizes : List Float) (rows : List ℕ) (live : List Bool) (best : Best)
    (d' : List Float) (slots' rows' : List ℕ)
    → 2 ≤ m → m ≤ 64 → length slots ≡ 64 → Holds form n d cells → n ≤ length live → take m slots ≡ packed n live
    → best ≡ meet_all (held_at form n d) ids slots m
    → d' ≡ range (drawn_at l form n sizes slots best.a.0 best.b.0 best.dist) 0 m d
    → slots' ≡ over (without best.b.0 (take m slots)) slots
    → rows' ≡ rows ++ (best.low.0 ∷ best.high.0 ∷ [])
    → Stands form n (step l n k (state cells ids live sizes rows)) d' (set ids best.a.0 (n + k)) (take (m - 1) slots')
    (set sizes best.a.0 (add binary64 (get_or sizes best.a.0 nan) (get_or sizes best.b.0 nan))) rows'
unfolding step merged over
stepped l form n k m d cells ids slots sizes rows live best d' slots' rows' two small long held flags e is moves gone made =
    let fit : m ≤ length slots = omega arith in
    let below = slots_below n m slots live fit e in
    let b : best ≡ scan_all n cells ids live =
    is ∙ scan_same form n m d cells ids slots below (slots_rising n m slots live fit e) held ∙ scan_packed n m slots live fit e cells ids in
    let many : m ≡ lives n live = as_many n m slots live fit e ∙ packed_length n live in
    let t = find_two n live (omega arith) in
    let g : Good n ids live best = subst (Good n ids live) (sym b) (scan_good n cells ids live t.x t.y t.order t.inside t.first t.second) in
    let q = best.b.0 in
    let after : Holds form n d' (moved_all l n sizes live best.a.0 q best.dist cells) =
    rw (moves, ← moved_packed n m slots live fit e l sizes best.a.0 q best.dist cells)
    (holds_moved l form n sizes slots m best.a.0 q best.dist d cells (omega (arith, g.order, g.inside)) g.inside below held) in
    let left = without q (take m slots) in
    let p : left ≡ packed n (set live q false) = ap (without q) e ∙ without_packed n live q (omega (arith, g.inside)) in
    let o = lost n live q g.inside flags g.second in
    let z : length left ≡ m - 1 = ap length p ∙ packed_length n (set live q false) ∙ omega arith in
    subst
    (λ (x : Best).
    Stands form n (merged l n k (state cells ids live sizes rows) x) d' (set ids best.a.0 (n + k)) (take (m - 1) slots')
    (set sizes best.a.0 (add binary64 (get_or sizes best.a.0 nan) (get_or sizes best.b.0 nan))) rows')
    b
    (record {
      cells = after;
      names = refl;
      places = ap (take (m - 1)) gone ∙ ap (λ (j : ℕ). take j (over left slots)) (sym z) ∙ take-append_seam left (drop (length left) slots) ∙ p;
      counts = refl;
      made = made;
    })

-- the code keeps 64 slots and the state n
pub record Shown (form : Form) (n : ℕ) (s : State) (d : List Float) (ids slots : List ℕ) (sizes : List Float) (rows : List ℕ) : Type 0 where
  pub front : Front n (state s.cells ids s.live sizes rows) s
  pub held : Holds form n d s.cells
  pub places : slots ≡ packed n s.live

pub shown_start : (l : Linkage) (form : Form) (n : ℕ) (xs d : List Float) (ids slots : List ℕ) (sizes : List Float) (rows : List ℕ) → n ≤ 64
    → Holds form n d (range (copied xs) 0 (n * n) (zeros 4096)) → ids ≡ range numbered 0 n (replicate 64 0) → slots ≡ range numbered 0 n (replicate 64 0)
    → sizes ≡ replicate 64 unit
    → Shown form n (state_at l n xs 0) d ids (take (n - 0) slots) sizes (take (2 * 0) rows)
unfolding state_at start
shown_start l form n xs d ids slots sizes rows h e f g i =
    let z : n - 0 ≡ n = omega arith in
    subst (λ (s : State). Shown form n s d ids (take (n - 0) slots) sizes []) (sym (range_none (step l n) 0 0 (start n xs) zero-le))
    (record {
      front = rw (f, i) (start_front n xs h);
      held = e;
      places = ap (λ (j : ℕ). take j slots) z ∙ ap (take n) g ∙ packed_start n n (le_refl n) h;
    })

-- from one state to the next
module _ (l : Linkage) (form : Form) (n k : ℕ) (xs d : List Float) (ids slots : List ℕ) (sizes : List Float) (rows : List ℕ) (h : n ≤ 64) (b : k + 1 ≤ n) (long : length slots ≡ 64)
    (s : Shown form n (state_at l n xs k) d ids (take (n - k) slots) sizes rows) where
  pub shown_below : Below n (n - k) slots
  shown_below = slots_below n (n - k) slots (state_at l n xs k).live (omega arith) s.places

  pub shown_rising : Rising (n - k) slots
  shown_rising = slots_rising n (n - k) slots (state_at l n xs k).live (omega arith) s.places

  pub shown_next : (d' : List Float) (ids' slots' : List ℕ) (sizes' : List Float) (rows' : List ℕ)
      → ((cells : List Float) (live : List Bool) → Holds form n d cells → n ≤ length live → take (n - k) slots ≡ packed n live
      → Stands form n (step l n k (state cells ids live sizes rows)) d' ids' (take (n - k - 1) slots') sizes' rows')
      → Shown form n (state_at l n xs (k + 1)) d' ids' (take (n - (k + 1)) slots') sizes' rows'
  unfolding state_at
  shown_next d' ids' slots' sizes' rows' f =
      let t = state_at l n xs k in
      let shown = state t.cells ids t.live sizes rows in
      let made = step l n k shown in
      let r = f t.cells t.live s.held s.front.live.wide s.places in
      let a : Front n made (step l n k t) = step_front l n k shown t (omega arith) s.front in
      let c : state (step l n k t).cells ids' (step l n k t).live sizes' rows' ≡ state made.cells made.ids (step l n k t).live made.sizes made.rows =
      rw (a.cells, r.names, r.counts, r.made) refl in
      let y : step l n k t ≡ range (step l n) 0 (k + 1) (start n xs) = sym (range_more (step l n) 0 k (start n xs) zero-le) in
      let x : n - k - 1 ≡ n - (k + 1) = omega arith in
      subst (λ (u : State). Shown form n u d' ids' (take (n - (k + 1)) slots') sizes' rows') y
      (record {
        front = subst (λ (u : State). Front n u (step l n k t)) (sym c) (live_front n made (step l n k t) a);
        held = subst (Holds form n d') a.cells r.cells;
        places = ap (λ (j : ℕ). take j slots') (sym x) ∙ r.places ∙ packed_same n made.live (step l n k t).live a.live.same;
      })
