-- Bytes written one part after another. Assumes nothing.
use Prim.Native.Nat.{ℕ, zero, suc, ◌+◌, ◌-◌, ◌*◌, ◌≤◌, ◌<◌}
use mathlib.Core.Path.{◌≡◌, refl, sym, ap, ◌∙◌, subst}
use mathlib.Core.List.{List, [], ◌∷◌, ◌++◌, append_assoc}
use native.Mathlib.Omega.{arith}
use native.Mathlib.Nat.{add-zero, zero-add, add_assoc, mul-suc}
use native.Mathlib.Numerals.{add-one}
use borrow.Author.Tests.{le-leb, lt-leb}
use lib.ListN.{length, get_or, set, take, drop, length-append, length-set}
use lib.Seq.{paste, paste-zero, paste-suc, length-paste, take-paste, drop-paste, take-length, take-append-le, take-take, drop-drop, drop_at, length-take-le, set_split, append_snoc}
use borrow.Rule.Slice.PartMut.{put_mid}
use Rattle.std.proofs.lemmas.Slice.{put_mid-paste}
use Rattle.lent.specs.Grid.{over}
use Rattle.writing.specs.Writing.{joined, written, put, past, Put, Wrote, Fitting}

-- ---- a copy, byte by byte

module _ (d l : List ℕ) (at : ℕ) (s : List ℕ) (j : ℕ) (e : d ≡ paste l at s j) where
  pub copy_more : at + j < length l → j < length s → set d (at + j) (get_or s j 0) ≡ paste l at s (j + 1)
  copy_more h g = rw (e, add-one) (paste-suc l at s j 0 h g)

  pub copy_end : j ≡ length s → d ≡ written l at s
  unfolding written
  copy_end h = rw h at e

-- ---- what writing functions promise

-- nothing is written, at any place
pub nothing : (d : List ℕ) (at : ℕ) → at ≤ length d → Wrote d at [] d at
unfolding written
nothing d at h = record { moved = sym (add-zero at); room = h; same = refl; bytes = paste-zero d at [] }

-- a whole copy
pub copied : (d : List ℕ) (at : ℕ) (s m : List ℕ) → at + length s ≤ length d → m ≡ s → Wrote d at s (put_mid at (at + length s - at) d m) (at + length s)
unfolding written
copied d at s m h e =
    let k : length s ≡ at + length s - at = omega arith in
    let w : put_mid at (at + length s - at) d m ≡ paste d at s (length s) = put_mid-paste at (at + length s - at) d m s (length s) e k refl in
    record { moved = refl; room = h; same = ap length w ∙ length-paste d at s (length s) h (omega arith); bytes = w }

pub one_byte : (d : List ℕ) (at b : ℕ) → at < length d → Wrote d at (b ∷ []) (set d at b) (at + 1)
unfolding written
one_byte d at b h = record {
  moved = refl;
  room = omega arith;
  same = length-set d at b;
  bytes = set_split d at b h ∙ sym (append_snoc (take at d) b (drop (suc at) d)) ∙ ap (λ (k : ℕ). take at d ++ (b ∷ []) ++ drop k d) (sym (add-one at));
}

-- the same bytes by another name
pub renamed : {d : List ℕ} {at : ℕ} {s : List ℕ} (t : List ℕ) {d' : List ℕ} {at' : ℕ} → Wrote d at s d' at' → s ≡ t → Wrote d at t d' at'
renamed {d} {at} {s} t {d'} {at'} w e = subst (λ (l : List ℕ). Wrote d at l d' at') e w

-- d' is d with s written, and d'' is d' with t written after it
written_more : (d d' d'' : List ℕ) (at : ℕ) (s t : List ℕ) → d' ≡ written d at s → d'' ≡ written d' (at + length s) t → at + length s + length t ≤ length d → d'' ≡ written d at (s ++ t)
unfolding written
written_more d d' d'' at s t e f h =
    let p = paste d at s (length s) in
    let a : take (at + length s) p ≡ take at d ++ s = take-paste d at s (length s) (omega arith) (omega arith) ∙ ap (λ (l : List ℕ). take at d ++ l) (take-length s) in
    let b : drop (at + length s + length t) p ≡ drop (at + length s + length t) d =
    sym (drop-drop (length t) (at + length s) p) ∙ ap (drop (length t)) (drop-paste d at s (length s) (omega arith) (omega arith)) ∙ drop-drop (length t) (at + length s) d in
    let n : at + length (s ++ t) ≡ at + length s + length t = ap (λ (k : ℕ). at + k) (length-append s t) ∙ sym (add_assoc at (length s) (length t)) in
    f ∙ rw (e, a, b, n, take-length t, take-length (s ++ t)) (simp append_assoc)

pub then : {d : List ℕ} {at : ℕ} {s d' : List ℕ} {at' : ℕ} {t d'' : List ℕ} {at'' : ℕ} → Wrote d at s d' at' → Wrote d' at' t d'' at'' → Wrote d at (s ++ t) d'' at''
then {d} {at} {s} {d'} {at'} {t} {d''} {at''} w v = record {
  moved = v.moved ∙ ap (λ (k : ℕ). k + length t) w.moved ∙ add_assoc at (length s) (length t) ∙ ap (λ (k : ℕ). at + k) (sym (length-append s t));
  room = omega arith;
  same = v.same ∙ w.same;
  bytes = written_more d d' d'' at s t w.bytes (v.bytes ∙ ap (λ (k : ℕ). written d' k t) w.moved) (omega arith);
}

-- a byte set before what was written
set_before : (d s : List ℕ) (at b : ℕ) → at + 1 + length s ≤ length d → set (written d (at + 1) s) at b ≡ written d at (b ∷ s)
unfolding written
set_before d s at b h =
    let p = take (at + 1) d ++ s in
    let e : written d (at + 1) s ≡ p ++ drop (at + 1 + length s) d = rw (take-length s) in
    let l : length (take (at + 1) d) ≡ at + 1 = length-take-le (at + 1) d (omega arith) in
    let front : take at (written d (at + 1) s) ≡ take at d =
    rw (e, append_assoc (take (at + 1) d) s (drop (at + 1 + length s) d), take-append-le at (take (at + 1) d) (s ++ drop (at + 1 + length s) d) (omega arith)) (take-take at (at + 1) d (omega arith)) in
    let back : drop (suc at) (written d (at + 1) s) ≡ s ++ drop (at + 1 + length s) d =
    rw (e, append_assoc (take (at + 1) d) s (drop (at + 1 + length s) d)) (drop_at (take (at + 1) d) (s ++ drop (at + 1 + length s) d) (suc at) (l ∙ add-one at)) in
    let n : at + 1 + length s ≡ at + length (b ∷ s) = omega arith in
    set_split (written d (at + 1) s) at b (omega (arith, length-paste d (at + 1) s (length s) h (omega arith)))
    ∙ ap (λ (x : List ℕ). x ++ b ∷ drop (suc at) (written d (at + 1) s)) front
    ∙ ap (λ (x : List ℕ). take at d ++ b ∷ x) back
    ∙ sym (append_assoc (take at d) (b ∷ s) (drop (at + 1 + length s) d))
    ∙ ap (λ (k : ℕ). take at d ++ (b ∷ s) ++ drop k d) n
    ∙ ap (λ (l : List ℕ). take at d ++ l ++ drop (at + length (b ∷ s)) d) (sym (take-length (b ∷ s)))

pub before : {d : List ℕ} {at : ℕ} {s d' : List ℕ} {at' : ℕ} (b : ℕ) → Wrote d (at + 1) s d' at' → Wrote d at (b ∷ s) (set d' at b) at'
before {d} {at} {s} {d'} {at'} b w = record {
  moved = omega (arith, w.moved);
  room = w.room;
  same = length-set d' at b ∙ w.same;
  bytes = ap (λ (l : List ℕ). set l at b) w.bytes ∙ set_before d s at b (omega (arith, w.moved, w.room));
}

-- ---- what a call promises that writes where there is room

module _ {d : List ℕ} {at : ℕ} {s d' : List ℕ} {at' : ℕ} where
  pub put_wrote : Wrote d at s d' at' → Put d at s d' at'
  unfolding put past
  put_wrote w =
      let e = le-leb (at + length s) (length d) (omega (arith, w.moved, w.room)) in
      record { bytes = rw e w.bytes; moved = rw e w.moved }

  pub put_none : length d < at + length s → d' ≡ d → at' ≡ at → Put d at s d' at'
  unfolding put past
  put_none h f g = let e = lt-leb (at + length s) (length d) h in record { bytes = rw e f; moved = rw e g }

  -- it does not fit: nothing is written
  pub put_short : Put d at s d' at' → length d < at + length s → (d' ≡ d) × (at' ≡ at)
  unfolding put past
  put_short p h = let e = lt-leb (at + length s) (length d) h in (p.bytes ∙ rw e, p.moved ∙ rw e)

  -- it fits
  pub put_fits : Put d at s d' at' → at + length s ≤ length d → Wrote d at s d' at'
  unfolding put past written
  put_fits p h =
      let e = le-leb (at + length s) (length d) h in
      let b : d' ≡ written d at s = p.bytes ∙ rw e in
      let m : at' ≡ at + length s = p.moved ∙ rw e in
      record { moved = m; room = omega (arith, m); same = ap length b ∙ length-paste d at s (length s) h (omega arith); bytes = b }

-- the same bytes by another name
pub renamed_put : {d : List ℕ} {at : ℕ} {s : List ℕ} (t : List ℕ) {d' : List ℕ} {at' : ℕ} → Put d at s d' at' → s ≡ t → Put d at t d' at'
renamed_put {d} {at} {s} t {d'} {at'} p e = subst (λ (l : List ℕ). Put d at l d' at') e p

-- ---- writes one after the other: the room is asked once, of all together

module _ {d : List ℕ} {at : ℕ} {s d' : List ℕ} {at' : ℕ} where
  pub fit : Put d at s d' at' → Fitting d at s d' at'
  fit p = record { wrote = put_fits p }

  pub fit_both : {t d'' : List ℕ} {at'' : ℕ} → Fitting d at s d' at' → Fitting d' at' t d'' at'' → Fitting d at (s ++ t) d'' at''
  fit_both {t} f g = record {
    wrote = λ h.
        let w = f.wrote (omega (arith, length-append s t)) in
        then w (g.wrote (omega (arith, length-append s t, w.moved, w.same)));
  }

pub fit_then : {d : List ℕ} {at : ℕ} {s d' : List ℕ} {at' : ℕ} {t d'' : List ℕ} {at'' : ℕ} → Fitting d at s d' at' → Put d' at' t d'' at'' → Fitting d at (s ++ t) d'' at''
fit_then f p = fit_both f (fit p)

-- ---- parts in a row

module _ (f : ℕ → List ℕ) where
  joined_more : (n : ℕ) → joined (n + 1) f ≡ joined n f ++ f n
  unfolding joined
  joined_more n = rw add-one

  pub none_yet : (d : List ℕ) (at : ℕ) → at ≤ length d → Wrote d at (joined 0 f) d at
  unfolding joined
  none_yet d at h = nothing d at h

  pub one_more : {d : List ℕ} {at : ℕ} (n : ℕ) {d' : List ℕ} {at' : ℕ} {s d'' : List ℕ} {at'' : ℕ} → Wrote d at (joined n f) d' at' → Wrote d' at' s d'' at'' → s ≡ f n → Wrote d at (joined (n + 1) f) d'' at''
  one_more n w v e = renamed (joined (n + 1) f) (then w v) (ap (λ (l : List ℕ). joined n f ++ l) e ∙ sym (joined_more n))

  pub all_parts : {d : List ℕ} {at : ℕ} (n m : ℕ) {d' : List ℕ} {at' : ℕ} → Wrote d at (joined n f) d' at' → n ≡ m → Wrote d at (joined m f) d' at'
  all_parts n m w e = renamed (joined m f) w (ap (λ (k : ℕ). joined k f) e)

pub joined_le : (n b : ℕ) (f : ℕ → List ℕ) → ((i : ℕ) → i < n → length (f i) ≤ b) → length (joined n f) ≤ b * n
unfolding joined
joined_le zero b f h = omega arith
joined_le (suc n) b f h = omega (arith, length-append (joined n f) (f n), joined_le n b f (λ i l. h i (omega arith)), h n (omega arith), mul-suc b n)

pub joined_ext : (n : ℕ) (f g : ℕ → List ℕ) → ((i : ℕ) → i < n → f i ≡ g i) → joined n f ≡ joined n g
unfolding joined
joined_ext zero f g h = refl
joined_ext (suc n) f g h = rw (joined_ext n f g (λ i l. h i (omega arith)), h n (omega arith))

-- ---- what is written at the front of a buffer

pub at_front : {d s d' : List ℕ} {n : ℕ} → Wrote d 0 s d' n → (n ≡ length s) × (d' ≡ over s d)
unfolding written over
at_front {d} {s} {d'} {n} w = (w.moved ∙ zero-add (length s), w.bytes ∙ rw (take-length s, zero-add (length s)))
