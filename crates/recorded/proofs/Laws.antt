-- Laws in the shape of the needs: tokens read from the first byte on, and writing that goes on. Assumes nothing.
use Prim.Native.Nat.{ℕ, ◌+◌, ◌*◌, ◌-◌, ◌%◌, ◌<◌, ◌≤◌, min}
use mathlib.Core.Path.{◌≡◌, refl, sym, ap, ◌∙◌}
use mathlib.Core.List.{List}
use native.Mathlib.Nat.{sub-zero}
use native.Mathlib.Numerals.{add-one}
use native.Mathlib.Omega.{arith}
use borrow.Author.Tests.{lt-ltb, le-ltb}
use lib.ListN.{length, get_or, drop, set, drop_of_length-le}
use lib.Seq.{drop-cons}
use Rattle.lent.specs.Grid.{tab, over}
use Rattle.lent.specs.Lent.{is_set, shape_of, Shape}
use Rattle.lent.proofs.Fill.{tab_step}
use Rattle.recorded.specs.Tokens.{worth_of, token_start, token_end, token_value, next_value, next_place, place_after, token_at, part_place, matrix_place, matrices_place}
use Rattle.recorded.specs.declared.Told.{Told}
use Rattle.recorded.specs.Told.{Onward, Continues}

-- ---- tokens

module _ (text : List ℕ) (i : ℕ) where
  pub start_here : (r : ℕ) → i < length text → 32 < get_or text i 0 → token_start (drop i text) i ≡ r → i ≡ r
  unfolding token_start
  start_here r h g e = sym (rw (drop-cons text i 0 h, lt-ltb 32 (get_or text i 0) g)) ∙ e

  pub start_on : (r : ℕ) → i < length text → get_or text i 0 ≤ 32 → token_start (drop i text) i ≡ r → token_start (drop (i + 1) text) (i + 1) ≡ r
  unfolding token_start
  start_on r h g e = sym (rw (add-one, drop-cons text i 0 h, le-ltb 32 (get_or text i 0) g)) ∙ e

  pub start_none : (r : ℕ) → length text ≤ i → token_start (drop i text) i ≡ r → i ≡ r
  unfolding token_start
  start_none r h e = sym (rw (drop_of_length-le text h)) ∙ e

  pub end_here : (r : ℕ) → i < length text → get_or text i 0 ≤ 32 → token_end (drop i text) i ≡ r → i ≡ r
  unfolding token_end
  end_here r h g e = sym (rw (drop-cons text i 0 h, le-ltb 32 (get_or text i 0) g)) ∙ e

  pub end_on : (r : ℕ) → i < length text → 32 < get_or text i 0 → token_end (drop i text) i ≡ r → token_end (drop (i + 1) text) (i + 1) ≡ r
  unfolding token_end
  end_on r h g e = sym (rw (add-one, drop-cons text i 0 h, lt-ltb 32 (get_or text i 0) g)) ∙ e

  pub end_none : (r : ℕ) → length text ≤ i → token_end (drop i text) i ≡ r → i ≡ r
  unfolding token_end
  end_none r h e = sym (rw (drop_of_length-le text h)) ∙ e

  pub value_here : (w r : ℕ) → i < length text → get_or text i 0 ≤ 32 → token_value (drop i text) w ≡ r → w ≡ r
  unfolding token_value
  value_here w r h g e = sym (rw (drop-cons text i 0 h, le-ltb 32 (get_or text i 0) g)) ∙ e

  pub value_on : (w d r : ℕ) → i < length text → 32 < get_or text i 0 → d ≡ worth_of (get_or text i 0) → token_value (drop i text) w ≡ r
      → token_value (drop (i + 1) text) (w % 0x1000000000000000 * 16 + d) ≡ r
  unfolding token_value
  value_on w d r h g f e = rw f (sym (rw (add-one, drop-cons text i 0 h, lt-ltb 32 (get_or text i 0) g)) ∙ e)

  pub value_none : (w r : ℕ) → length text ≤ i → token_value (drop i text) w ≡ r → w ≡ r
  unfolding token_value
  value_none w r h e = sym (rw (drop_of_length-le text h)) ∙ e

pub worth_low : (c : ℕ) → c < 97 → c % 16 ≡ worth_of c
unfolding worth_of
worth_low c h = sym (rw (lt-ltb c 97 h))

pub worth_high : (c : ℕ) → 97 ≤ c → (c - 87) % 16 ≡ worth_of c
unfolding worth_of
worth_high c h = sym (rw (le-ltb c 97 h))

pub next_value_lem : (text : List ℕ) (at s v : ℕ) → s ≡ token_start (drop at text) at → v ≡ token_value (drop s text) 0 → v ≡ next_value text at
unfolding next_value
next_value_lem text at s v e f = f ∙ ap (λ (k : ℕ). token_value (drop k text) 0) e

pub next_place_lem : (text : List ℕ) (at s a : ℕ) → s ≡ token_start (drop at text) at → a ≡ token_end (drop s text) s → a ≡ next_place text at
unfolding next_place
next_place_lem text at s a e f = f ∙ ap (λ (k : ℕ). token_end (drop k text) k) e

-- ---- many tokens

pub place_start : (text : List ℕ) (at : ℕ) → at ≡ place_after text at 0
unfolding place_after
place_start text at = refl

pub place_step : (text : List ℕ) (at i here a : ℕ) → here ≡ place_after text at i → a ≡ next_place text here → a ≡ place_after text at (i + 1)
unfolding place_after
place_step text at i here a e f = rw add-one (f ∙ ap (next_place text) e)

pub token_step : (text : List ℕ) (at i here v : ℕ) → here ≡ place_after text at i → v ≡ next_value text here → v ≡ token_at text at i
unfolding token_at
token_step text at i here v e f = f ∙ ap (next_value text) e

-- three numbers, one after the other
pub place_three : (text : List ℕ) (at a b d : ℕ) → a ≡ next_place text at → b ≡ next_place text a → d ≡ next_place text b → d ≡ place_after text at 3
unfolding place_after
place_three text at a b d e f g = g ∙ ap (next_place text) (f ∙ ap (next_place text) e)

pub token_first : (text : List ℕ) (at v : ℕ) → v ≡ next_value text at → v ≡ token_at text at 0
unfolding token_at place_after
token_first text at v e = e

pub token_second : (text : List ℕ) (at a v : ℕ) → a ≡ next_place text at → v ≡ next_value text a → v ≡ token_at text at 1
unfolding token_at place_after
token_second text at a v e f = f ∙ ap (next_value text) e

pub token_third : (text : List ℕ) (at a b v : ℕ) → a ≡ next_place text at → b ≡ next_place text a → v ≡ next_value text b → v ≡ token_at text at 2
unfolding token_at place_after
token_third text at a b v e f g = g ∙ ap (next_value text) (f ∙ ap (next_place text) e)

pub token_fourth : (text : List ℕ) (at d v : ℕ) → d ≡ place_after text at 3 → v ≡ next_value text d → v ≡ token_at text at 3
unfolding token_at
token_fourth text at d v e f = f ∙ ap (next_value text) e

pub matrix_place_lem : (text : List ℕ) (at d r room : ℕ) → d ≡ place_after text at 3 → r ≡ part_place text d room → r ≡ matrix_place text at room
unfolding matrix_place
matrix_place_lem text at d r room e f = f ∙ ap (λ (k : ℕ). part_place text k room) e

pub matrices_place_lem : (text : List ℕ) (at p q r room l m : ℕ) → l ≡ room → m ≡ room → p ≡ matrix_place text at (room - 0) → q ≡ matrix_place text p (l - 4352) → r ≡ matrix_place text q (m - 8704) → r ≡ matrices_place text at room
unfolding matrices_place
matrices_place_lem text at p q r room l m h k e f g =
    g ∙ ap (λ (n : ℕ). matrix_place text q (n - 8704)) k ∙ ap (λ (n : ℕ). matrix_place text n (room - 8704)) (f ∙ ap (λ (n : ℕ). matrix_place text p (n - 4352)) h ∙ ap (λ (n : ℕ). matrix_place text n (room - 4352)) (e ∙ ap (matrix_place text at) (sub-zero room)))

-- of expected returns, the flag
pub flag_read : (text : List ℕ) (at v : ℕ) → v ≡ next_value text at → is_set v ≡ is_set (token_at text at 0)
flag_read text at v e = ap is_set (token_first text at v e)

pub shape_read : (o : Shape) (g h r s w v : ℕ) → o ≡ shape_of (is_set g) r w → g ≡ h → r ≡ s → w ≡ v → o ≡ shape_of (is_set h) s v
shape_read o g h r s w v e f p q = e ∙ ap (λ (k : ℕ). shape_of (is_set k) r w) f ∙ ap (λ (k : ℕ). shape_of (is_set h) k w) p ∙ ap (λ (k : ℕ). shape_of (is_set h) s k) q

-- d is l with the first k entries written, each made by g from its number
module _ {A : Type 0} (g : ℕ → A) (text : List ℕ) (at : ℕ) where
  pub fill_step : (d l : List A) (k here v : ℕ) (x : A) → d ≡ over (tab k (λ j. g (token_at text at j))) l → here ≡ place_after text at k → v ≡ next_value text here → x ≡ g v → k < length l
      → set d k x ≡ over (tab (k + 1) (λ j. g (token_at text at j))) l
  fill_step d l k here v x e p n f h = tab_step (λ j. g (token_at text at j)) d (set d k x) l x k refl e (f ∙ ap g (token_step text at k here v p n)) h

-- the place after a count and as many numbers, or as many as there is room for
pub part_place_lem : (text : List ℕ) (at v a r room rest : ℕ) → v ≡ next_value text at → a ≡ next_place text at → r ≡ place_after text a (min v room) → room ≡ rest → r ≡ part_place text at rest
unfolding part_place
part_place_lem text at v a r room rest e f g h = g ∙ ap (λ (k : ℕ). place_after text k (min v room)) f ∙ ap (λ (k : ℕ). place_after text (next_place text at) (min k room)) e
    ∙ ap (λ (k : ℕ). place_after text (next_place text at) (min (next_value text at) k)) h

-- ---- writing

pub onward_none : (d : List ℕ) (at : ℕ) → Onward d at d at
onward_none d at = record { on = omega arith; within = λ h. h; same = refl; kept = λ k h. refl }

pub onward_then : (d d' d'' : List ℕ) (at at' at'' : ℕ) → Onward d at d' at' → Onward d' at' d'' at'' → Onward d at d'' at''
onward_then d d' d'' at at' at'' p q =
    record {
      on = omega (arith, p.on, q.on);
      within = λ h. omega (arith, p.same, q.within (omega (arith, p.same, p.within h)));
      same = q.same ∙ p.same;
      kept = λ k h. q.kept k (omega (arith, p.on)) ∙ p.kept k h;
    }

-- ---- the same buffer, written on

pub continues_none : (t : Told) → Continues t t
continues_none t = record { same_buffer = refl; onward = onward_none t.bytes.now t.end }

pub continues_then : (t t' t'' : Told) → Continues t t' → Continues t' t'' → Continues t t''
continues_then t t' t'' p q =
    record {
      same_buffer = q.same_buffer ∙ p.same_buffer;
      onward = onward_then t.bytes.now t'.bytes.now t''.bytes.now t.end t'.end t''.end p.onward q.onward;
    }
