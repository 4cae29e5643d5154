-- Where a name stands, a position put in there, and that this is what `entered` says. Assumes nothing.
use Prim.Native.Nat.{ℕ, suc, ◌+◌, ◌<◌, ◌≤◌}
use mathlib.Core.Path.{◌≡◌, refl, sym, ap, ◌∙◌}
use mathlib.Core.Bool.{Bool, true, false, cond, ◌&&◌}
use mathlib.Core.List.{List, [], ◌∷◌, ◌++◌, append_assoc}
use mathlib.Core.Logic.{⊎_elim}
use native.Mathlib.Nat.{add-zero, eq-or-lt_of_le}
use native.Mathlib.Numerals.{add-one}
use native.Mathlib.Omega.{arith}
use borrow.Author.Tests.{lt-ltb, le-ltb, eq-eqb, ne_eqb, ltb-true}
use lib.Dec.{ltb, eqb}
use lib.ListN.{length, get_or, set, take, drop, length-append, length-set, length-drop, take-append-drop, drop_of_length-le}
use lib.Seq.{length-take-le, drop-cons, take-suc-set, drop-set-lt, drop-drop, append_snoc, set_split, set-append_left, take-append-le, drop-append-le, take_at, get_or-take}
use Rattle.lent.specs.Grid.{over}
use Rattle.lent.proofs.Laws.{either, same_or_not}
use Rattle.refusal.specs.Table.{first, or_else, Outcome}
use Rattle.refusal.proofs.Tables.{done_refused}
use Rattle.refusal.specs.declared.Refusal.TheVariants.{OverLimit}
use Rattle.keys.specs.Keys.{key_before, key_same}
use Rattle.keys.specs.declared.Key.{Key}
use Rattle.ledger.specs.Ledger.{opened, added, entered, position_at, positions, first_ones, beyond, too_much, entered_lines, entered_as}
use Rattle.ledger.specs.Inner.{key_place, insert_at, step_left}
use Rattle.ledger.specs.declared.Position.{Position}
use Rattle.ledger.specs.declared.Lot.{Lot}
use Rattle.ledger.proofs.Storing.{length_positions, position_there}
use Rattle.std.specs.Prelude.{Ok}
use Rattle.ledger.specs.Outcomes.{Entered}

-- ---- the first n positions

pub first_length : (t : List ℕ) (n : ℕ) → n ≤ 256 → length (take n (positions t)) ≡ n
first_length t n h = length-take-le n (positions t) (omega (arith, length_positions t))

pub first_at : (t : List ℕ) (n i : ℕ) (d : Position) → n ≤ 256 → i < n → get_or (take n (positions t)) i d ≡ position_at t i
first_at t n i d h g = get_or-take n (positions t) i d g ∙ position_there t i d (omega arith)

-- ---- the place of a name

module _ (x : Key) where
  pub place_le : (l : List Position) → key_place l x ≤ length l
  unfolding key_place
  place_le [] = omega arith
  place_le (e ∷ l) = go (key_before e.name x) (place_le l)
    where
      go : (b : Bool) → key_place l x ≤ length l → cond b (suc (key_place l x)) 0 ≤ suc (length l)
      go true h = omega arith
      go false h = omega arith

  pub place_here : (l : List Position) (i : ℕ) (d : Position) → i < length l → key_before (get_or l i d).name x ≡ false → i + key_place (drop i l) x ≡ i
  unfolding key_place
  place_here l i d h b = rw (drop-cons l i d h, b) (add-zero i)

  pub place_on : (l : List Position) (i : ℕ) (d : Position) → i < length l → key_before (get_or l i d).name x ≡ true → i + key_place (drop i l) x ≡ i + 1 + key_place (drop (i + 1) l) x
  unfolding key_place
  place_on l i d h b = rw (drop-cons l i d h, b, add-one i) (omega arith)

  pub place_past : (l : List Position) (i : ℕ) → length l ≤ i → i + key_place (drop i l) x ≡ i
  unfolding key_place
  place_past l i h = rw (drop_of_length-le l h) (add-zero i)

-- ---- a position put in

pub insert_length : (l : List Position) (k : ℕ) (e : Position) → k ≤ length l → length (insert_at k e l) ≡ length l + 1
unfolding insert_at
insert_length l k e h = omega (arith, length-append (take k l) (e ∷ drop k l), length-take-le k l h, length-drop k l)

insert_append : (a b : List Position) (k : ℕ) (e : Position) → k ≤ length a → insert_at k e (a ++ b) ≡ insert_at k e a ++ b
unfolding insert_at
insert_append a b k e h = rw (take-append-le k a b h, drop-append-le k a b h) (sym (append_assoc (take k a) (e ∷ drop k a) b))

-- one turn: what stands at i takes the held position's place, and is held
pub insert_turn : (l : List Position) (i : ℕ) (hold d : Position) → i < length l → insert_at (i + 1) (get_or l i d) (set l i hold) ≡ insert_at i hold l
unfolding insert_at
insert_turn l i hold d h =
    rw (add-one i, take-suc-set l i hold h, drop-set-lt (suc i) l i hold (omega arith), drop-cons l i d h)
    (append_snoc (take i l) hold (get_or l i d ∷ drop (suc i) l))

pub rest_turn : (l m : List Position) (i : ℕ) (hold : Position) → drop i l ≡ drop i m → drop (i + 1) (set l i hold) ≡ drop (i + 1) m
rest_turn l m i hold e =
    drop-set-lt (i + 1) l i hold (omega arith) ∙ sym (drop-drop 1 i l) ∙ ap (drop 1) e ∙ drop-drop 1 i m

insert_snoc : (l : List Position) (n : ℕ) (hold : Position) → take n l ++ (hold ∷ []) ++ drop n l ≡ insert_at n hold l
unfolding insert_at
insert_snoc l n hold = append_snoc (take n l) hold (drop n l)

-- the last one held goes to place n
pub insert_end : (l m : List Position) (n k : ℕ) (hold e : Position) → k ≤ n → n < length l → length m ≡ length l → insert_at n hold l ≡ insert_at k e m → drop n l ≡ drop n m
    → set l n hold ≡ over (insert_at k e (take n m)) m
unfolding over
insert_end l m n k hold e hk hn hm q r =
    let p = take n l ++ (hold ∷ []) in
    let s = insert_at k e (take n m) in
    let w : length (take n m) ≡ n = length-take-le n m (omega arith) in
    let v : length (take n l) ≡ n = length-take-le n l (omega arith) in
    let b : length s ≡ suc n = insert_length (take n m) k e (omega arith) ∙ ap (λ (j : ℕ). j + 1) w ∙ add-one n in
    let a : length p ≡ suc n = length-append (take n l) (hold ∷ []) ∙ ap (λ (j : ℕ). j + 1) v ∙ add-one n in
    let f : p ++ drop n l ≡ insert_at n hold l = insert_snoc l n hold in
    let g : s ++ drop n m ≡ insert_at k e m = sym (insert_append (take n m) (drop n m) k e (omega arith)) ∙ ap (insert_at k e) (take-append-drop n m) in
    let c : p ≡ s = sym (take_at p (drop n l) (suc n) a) ∙ ap (take (suc n)) (f ∙ q ∙ sym g) ∙ take_at s (drop n m) (suc n) b in
    let d : drop (suc n) l ≡ drop (suc n) m = rw (← add-one n) (sym (drop-drop 1 n l) ∙ ap (drop 1) r ∙ drop-drop 1 n m) in
    set_split l n hold hn ∙ sym (append_snoc (take n l) hold (drop (suc n) l)) ∙ ap (λ (z : List Position). z ++ drop (suc n) l) c ∙ ap (λ (z : List Position). s ++ z) d ∙ ap (λ (j : ℕ). s ++ drop j m) (sym b)

-- a position put in the place of another
pub set_over : (l : List Position) (n k : ℕ) (e : Position) → k < n → n ≤ length l → set l k e ≡ over (set (take n l) k e) l
unfolding over
set_over l n k e h g =
    let w : length (take n l) ≡ n = length-take-le n l g in
    let v : length (set (take n l) k e) ≡ n = length-set (take n l) k e ∙ w in
    ap (λ (z : List Position). set z k e) (sym (take-append-drop n l))
    ∙ set-append_left (take n l) (drop n l) k e (omega arith)
    ∙ ap (λ (j : ℕ). set (take n l) k e ++ drop j l) (sym v)

-- ---- what `entered` says

module _ (h : Lot) (d : Position) where
  -- a name that is not there
  pub entered_new : (l : List Position) → (key_place l h.name < length l → key_same (get_or l (key_place l h.name) d).name h.name ≡ false)
      → (entered l h ≡ insert_at (key_place l h.name) (opened h) l) × (too_much l h ≡ false)
  unfolding key_place entered too_much insert_at
  entered_new [] f = (refl, refl)
  entered_new (e ∷ l) f =
      ⊎_elim
      (λ t.
      let r = entered_new l (λ g. rw t at f (omega arith)) in
      (rw t (ap (λ (z : List Position). e ∷ z) r.0), rw t r.1))
      (λ u. let s : key_same e.name h.name ≡ false = rw u at f (omega arith) in (rw u (rw s), rw u (rw s)))
      (either (key_before e.name h.name))

  -- a name that is there
  pub entered_same : (l : List Position) → key_place l h.name < length l → key_same (get_or l (key_place l h.name) d).name h.name ≡ true
      → (entered l h ≡ set l (key_place l h.name) (added (get_or l (key_place l h.name) d) h)) × (too_much l h ≡ beyond (get_or l (key_place l h.name) d) h)
  unfolding key_place entered too_much
  entered_same [] g s = absurd (omega arith)
  entered_same (e ∷ l) g s =
      ⊎_elim
      (λ t.
      let r = entered_same l (let f = rw t at g in omega arith) (rw t at s) in
      (rw t (ap (λ (z : List Position). e ∷ z) r.0), rw t r.1))
      (λ u. let v : key_same e.name h.name ≡ true = rw u at s in (rw u (rw v), rw u (rw v)))
      (either (key_before e.name h.name))

  -- the same at a place that a call has found
  entered_there : (l : List Position) (p : ℕ) (e : Position) → p ≡ key_place l h.name → p < length l → get_or l p d ≡ e → key_same e.name h.name ≡ true
      → (entered l h ≡ set l p (added e h)) × (too_much l h ≡ beyond e h)
  entered_there l p e q g v s = rw (← v, q) (entered_same l (rw q at g) (rw q at (rw (← v) at s)))

  entered_not : (l : List Position) (p : ℕ) → p ≡ key_place l h.name → (p < length l → key_same (get_or l p d).name h.name ≡ false)
      → (entered l h ≡ insert_at p (opened h) l) × (too_much l h ≡ false)
  entered_not l p q f = rw q (entered_new l (rw q at f))

-- ---- one turn of the loop that puts a position in, and its end

module _ (l m old : List Position) (i k : ℕ) (hold e : Position) (made : m ≡ set l i hold) where
  pub turn_held : (next d : Position) → i < length l → get_or l i d ≡ next → insert_at i hold l ≡ insert_at k e old → insert_at (i + 1) next m ≡ insert_at k e old
  turn_held next d h q inv = rw (made, ← q) (insert_turn l i hold d h ∙ inv)

  pub turn_rest : drop i l ≡ drop i old → drop (i + 1) m ≡ drop (i + 1) old
  turn_rest inv = rw made (rest_turn l old i hold inv)

  pub turn_done : (j : ℕ) → j ≤ i → i ≤ j → k ≤ i → i < length l → length old ≡ length l → insert_at j hold l ≡ insert_at k e old → drop j l ≡ drop j old → m ≡ over (insert_at k e (take i old)) old
  turn_done j a b hk hi long q r =
      let s : j ≡ i = omega arith in
      made ∙ insert_end l old i k hold e hk hi long (rw s at q) (rw s at r)

-- ---- one line of a table of refusals, over the answer and the positions left

pub passes : (b : Bool) (o : Outcome) → o ≡ or_else b OverLimit (Ok tt) → o ≡ Ok tt → b ≡ false
unfolding or_else
passes true o e d = absurd (done_refused OverLimit (sym d ∙ e))
passes false o e d = refl

module _ (b : Bool) (l old : List Position) where
  pub done_answer : (n : ℕ) → b ≡ false → length l ≡ n → Ok n ≡ entered_as (first ((b, OverLimit) ∷ [])) l
  unfolding entered_as first
  done_answer n e q = rw (e, q)

  pub done_left : (m : List Position) → b ≡ false → m ≡ over l old → m ≡ step_left (first ((b, OverLimit) ∷ [])) l old
  unfolding step_left first
  done_left m e q = rw (e, q)

-- ---- the whole step

one_line : (a b : Bool) → a ≡ false → first ((a, OverLimit) ∷ (b, OverLimit) ∷ []) ≡ first ((b, OverLimit) ∷ [])
unfolding first
one_line a b e = rw e

line_alone : (a b : Bool) → b ≡ false → first ((a, OverLimit) ∷ (b, OverLimit) ∷ []) ≡ first ((a, OverLimit) ∷ [])
unfolding first
line_alone true b e = refl
line_alone false b e = rw e

-- 257 names are too many exactly where there are 256
full : (m : ℕ) → m ≤ 256 → ltb 256 (m + 1) ≡ eqb m 256
full m g = ⊎_elim (λ e. lt-ltb 256 (m + 1) (omega arith) ∙ sym (eq-eqb m 256 e)) (λ f. le-ltb 256 (m + 1) (less f) ∙ sym (ne_eqb m 256 f)) (same_or_not m 256)
  where
    less : (m ≡ 256 → ⊥) → m + 1 ≤ 256
    less f = ⊎_elim (λ q. absurd (f q)) (λ q. omega arith) (eq-or-lt_of_le g)

-- where nothing is past what can be added, only a 257th name is refused
pub one_name_more : (l : List Position) (h : Lot) → too_much l h ≡ false → first (entered_lines l h) ≡ first ((ltb 256 (length (entered l h)), OverLimit) ∷ [])
unfolding entered_lines
one_name_more l h e = line_alone (ltb 256 (length (entered l h))) (too_much l h) e

module _ (t : List ℕ) (n : ℕ) (h : Lot) (small : n ≤ 256) (p : ℕ) (at : p ≡ key_place (take n (positions t)) h.name) (r : Entered) (m : List Position) where
  -- the holding is added to the position of its name
  pub step_there : (e : Position) → e ≡ position_at t p → p < n → key_same e.name h.name ≡ true
      → r ≡ entered_as (first ((beyond e h, OverLimit) ∷ [])) (set (take n (positions t)) p (added e h))
      → m ≡ step_left (first ((beyond e h, OverLimit) ∷ [])) (set (take n (positions t)) p (added e h)) (positions t)
      → (r ≡ entered_as (first (entered_lines (first_ones n t) h)) (entered (first_ones n t) h)) × (m ≡ step_left (first (entered_lines (first_ones n t) h)) (entered (first_ones n t) h) (positions t))
  unfolding first_ones entered_lines
  step_there e q g same told left =
      let l = take n (positions t) in
      let w = first_length t n small in
      let v : get_or l p e ≡ e = first_at t n p e small g ∙ sym q in
      let s = entered_there h e l p e at (omega arith) v same in
      let k : length (entered l h) ≡ n = ap length s.0 ∙ length-set l p (added e h) ∙ w in
      let o : first ((ltb 256 (length (entered l h)), OverLimit) ∷ (too_much l h, OverLimit) ∷ []) ≡ first ((beyond e h, OverLimit) ∷ []) =
      one_line (ltb 256 (length (entered l h))) (too_much l h) (le-ltb 256 (length (entered l h)) (omega arith))
      ∙ ap (λ (b : Bool). first ((b, OverLimit) ∷ [])) s.1 in
      (rw (o, s.0) told, rw (o, s.0) left)

  -- the holding opens a position
  pub step_new : (p < n → key_same (position_at t p).name h.name ≡ false)
      → r ≡ entered_as (first ((eqb n 256, OverLimit) ∷ [])) (insert_at p (opened h) (take n (positions t)))
      → m ≡ step_left (first ((eqb n 256, OverLimit) ∷ [])) (insert_at p (opened h) (take n (positions t))) (positions t)
      → (r ≡ entered_as (first (entered_lines (first_ones n t) h)) (entered (first_ones n t) h)) × (m ≡ step_left (first (entered_lines (first_ones n t) h)) (entered (first_ones n t) h) (positions t))
  unfolding first_ones entered_lines
  step_new other told left =
      let l = take n (positions t) in
      let d = position_at t p in
      let w = first_length t n small in
      let f : p < length l → key_same (get_or l p d).name h.name ≡ false =
      λ g. ap (λ (e : Position). key_same e.name h.name) (first_at t n p d small (omega arith)) ∙ other (omega arith) in
      let s = entered_not h d l p at f in
      let i : p ≤ length l = rw at (place_le h.name l) in
      let k : length (entered l h) ≡ n + 1 = ap length s.0 ∙ insert_length l p (opened h) i ∙ ap (λ (j : ℕ). j + 1) w in
      let o : first ((ltb 256 (length (entered l h)), OverLimit) ∷ (too_much l h, OverLimit) ∷ []) ≡ first ((eqb n 256, OverLimit) ∷ []) =
      line_alone (ltb 256 (length (entered l h))) (too_much l h) s.1
      ∙ ap (λ (b : Bool). first ((b, OverLimit) ∷ [])) (ap (ltb 256) k ∙ full n small) in
      (rw (o, s.0) told, rw (o, s.0) left)

-- what `is_there` tells
pub there_yes : (p n : ℕ) (b r : Bool) → r ≡ (ltb p n && b) → r ≡ true → (p < n) × (b ≡ true)
there_yes p n b r e t = ⊎_elim (λ q. (ltb-true p n q, let f = sym e ∙ t in rw q at f)) (λ q. absurd (let f = rw q at (sym e ∙ t) in let z : ◌≡◌ {A = ℕ} 0 1 = cc in omega arith)) (either (ltb p n))

pub there_no : (p n : ℕ) (b r : Bool) → r ≡ (ltb p n && b) → r ≡ false → p < n → b ≡ false
there_no p n b r e t g = let f = sym e ∙ t in rw (lt-ltb p n g) at f
