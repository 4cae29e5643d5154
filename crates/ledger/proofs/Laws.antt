-- The laws of the ledger: it stays in strict byte order, so each name stands in it once; its totals grow by what is entered; and what it keeps of
-- a name is that of the name's own holdings alone. Assumes nothing.
use Prim.Native.Nat.{ℕ, ◌+◌, ◌≤◌}
use mathlib.Core.Path.{◌≡◌, refl, sym, ap, subst, ◌∙◌}
use mathlib.Core.Bool.{true, false, cond, and-false}
use mathlib.Core.List.{List, [], ◌∷◌}
use mathlib.Core.Logic.{◌⊎◌, inl, inr, ⊎_elim}
use native.Mathlib.Nat.{eq-or-lt_of_le}
use native.Mathlib.Omega.{arith}
use borrow.Author.Tests.{le-ltb, eqb-true, eqb-false}
use lib.Dec.{eqb}
use lib.ListN.{length}
use Rattle.lent.proofs.Laws.{either}
use Rattle.keys.specs.Keys.{key_before, key_same}
use Rattle.keys.specs.declared.Key.{Key}
use Rattle.keys.proofs.Order.{before_trans, same_names, same_self, before_other, before_or_after}
use Rattle.ledger.specs.Ledger.{opened, jobs_after, added, entered, most_added, beyond, too_much}
use Rattle.ledger.specs.Meaning.{AllAfter, InOrder, Dated, totals, only, lots_of, entered_all, bump, bump_all, lots_total}
use Rattle.ledger.specs.declared.Position.{Position}
use Rattle.ledger.specs.declared.Lot.{Lot}

never : {A : Type 0} → true ≡ false → A
never e = absurd (let z : ◌≡◌ {A = ℕ} 0 1 = cc in omega arith)

-- ---- the order is kept

after_trans : (x y : Key) (l : List Position) → key_before x y ≡ true → AllAfter y l → AllAfter x l
after_trans x y [] e a = tt
after_trans x y (d ∷ l) e a = (before_trans x y d.name e a.0, after_trans x y l e a.1)

after_entered : (x : Key) (h : Lot) (l : List Position) → key_before x h.name ≡ true → AllAfter x l → AllAfter x (entered l h)
unfolding entered opened added
after_entered x h [] e a = (e, tt)
after_entered x h (d ∷ l) e a =
    ⊎_elim
    (λ q. rw q (a.0, after_entered x h l e a.1))
    (λ q. rw q (⊎_elim (λ s. rw s (a.0, a.1)) (λ s. rw s (e, (a.0, a.1))) (either (key_same d.name h.name))))
    (either (key_before d.name h.name))

-- "Names are listed in byte order": strictly, so each once
pub entered_in_order : (h : Lot) (l : List Position) → InOrder l → InOrder (entered l h)
unfolding entered opened added
entered_in_order h [] r = (tt, tt)
entered_in_order h (d ∷ l) r =
    ⊎_elim
    (λ q. rw q (after_entered d.name h l q r.0, entered_in_order h l r.1))
    (λ q.
    rw q
    (⊎_elim
    (λ s. rw s (r.0, r.1))
    (λ s. let b = before_or_after d.name h.name q s in rw s ((b, after_trans h.name d.name l b r.0), (r.0, r.1)))
    (either (key_same d.name h.name))))
    (either (key_before d.name h.name))

after_none : (x : Key) (l : List Position) → AllAfter x l → only x l ≡ []
unfolding only
after_none x [] a = refl
after_none x (e ∷ l) a = rw (other (before_other x e.name a.0)) (after_none x l a.1)
  where
    other : key_same x e.name ≡ false → key_same e.name x ≡ false
    other n = ⊎_elim (λ s. let q = same_names e.name x s in never (sym (same_self x) ∙ (rw q at n))) (λ s. s) (either (key_same e.name x))

pub each_once : (x : Key) (l : List Position) → InOrder l → length (only x l) ≤ 1
unfolding only
each_once x [] r = omega arith
each_once x (e ∷ l) r =
    ⊎_elim
    (λ s. let q = same_names e.name x s in let a = r.0 in let n : only x l ≡ [] = after_none x l (rw q at a) in rw s (rw n (omega arith)))
    (λ s. rw s (each_once x l r.1))
    (either (key_same e.name x))

-- ---- how many names

-- a holding adds one name or none
pub entered_length : (h : Lot) (l : List Position) → (length (entered l h) ≡ length l) ⊎ (length (entered l h) ≡ length l + 1)
unfolding entered
entered_length h [] = inr refl
entered_length h (d ∷ l) =
    ⊎_elim
    (λ q. rw q (⊎_elim (λ e. inl (omega arith)) (λ e. inr (omega arith)) (entered_length h l)))
    (λ q. rw q (⊎_elim (λ s. rw s (inl refl)) (λ s. rw s (inr (omega arith))) (either (key_same d.name h.name))))
    (either (key_before d.name h.name))

-- ---- the totals

pub entered_totals : (h : Lot) (l : List Position) → totals (entered l h) ≡ totals l + h.millionths
unfolding entered opened added totals
entered_totals h [] = omega arith
entered_totals h (d ∷ l) =
    ⊎_elim
    (λ q. rw q (omega (arith, entered_totals h l)))
    (λ q. rw q (⊎_elim (λ s. rw s (omega arith)) (λ s. rw s (omega arith)) (either (key_same d.name h.name))))
    (either (key_before d.name h.name))

pub all_totals : (hs : List Lot) (l : List Position) → totals (entered_all l hs) ≡ totals l + lots_total hs
unfolding entered_all lots_total
all_totals [] l = omega arith
all_totals (h ∷ hs) l = all_totals hs (entered l h) ∙ omega (arith, entered_totals h l)

pub all_in_order : (hs : List Lot) (l : List Position) → InOrder l → InOrder (entered_all l hs)
unfolding entered_all
all_in_order [] l r = r
all_in_order (h ∷ hs) l r = all_in_order hs (entered l h) (entered_in_order h l r)

-- ---- what is kept of a name

same_through : (x y z : Key) → key_same x y ≡ true → key_same y z ≡ false → key_same x z ≡ false
same_through x y z e f = rw (same_names x y e) f

-- a holding of another name changes nothing
pub others_stay : (x : Key) (h : Lot) (l : List Position) → key_same h.name x ≡ false → only x (entered l h) ≡ only x l
unfolding entered opened added only
others_stay x h [] n = rw n
others_stay x h (d ∷ l) n =
    ⊎_elim
    (λ q. rw q (ap (λ (z : List Position). cond (key_same d.name x) (d ∷ z) z) (others_stay x h l n)))
    (λ q.
    rw q
    (⊎_elim
    (λ s. let o = same_through d.name h.name x s n in rw s (rw o))
    (λ s. rw s (rw n))
    (either (key_same d.name h.name))))
    (either (key_before d.name h.name))

-- its own name's position is opened by it, or it joins it
pub own_grows : (h : Lot) (l : List Position) → InOrder l → only h.name (entered l h) ≡ bump (only h.name l) h
unfolding entered opened added only bump
own_grows h [] r = rw (same_self h.name)
own_grows h (d ∷ l) r =
    ⊎_elim
    (λ q. let o = before_other d.name h.name q in rw q (rw o (own_grows h l r.1)))
    (λ q.
    rw q
    (⊎_elim
    (λ s. rw s (rw s))
    (λ s.
    let b = before_or_after d.name h.name q s in
    let n : only h.name l ≡ [] = after_none h.name l (after_trans h.name d.name l b r.0) in
    rw s (rw (same_self h.name) (rw n (rw s))))
    (either (key_same d.name h.name))))
    (either (key_before d.name h.name))

-- "For each asset name": what the ledger keeps of a name after any holdings is what the name's own holdings make of it, in their order
pub kept_of_name : (x : Key) (hs : List Lot) (l : List Position) → InOrder l → only x (entered_all l hs) ≡ bump_all (only x l) (lots_of x hs)
unfolding entered_all bump_all lots_of
kept_of_name x [] l r = refl
kept_of_name x (h ∷ hs) l r =
    kept_of_name x hs (entered l h) (entered_in_order h l r)
    ∙ ⊎_elim
    (λ s. let q = same_names h.name x s in rw s (ap (λ (z : List Position). bump_all z (lots_of x hs)) (subst (λ (y : Key). only y (entered l h) ≡ bump (only y l) h) q (own_grows h l r))))
    (λ s. rw s (ap (λ (z : List Position). bump_all z (lots_of x hs)) (others_stay x h l s)))
    (either (key_same h.name x))

-- ---- numbers that stay small: where jobs are numbered as they come, nothing is past what can be added

pub dated_more : (n m : ℕ) (l : List Position) → n ≤ m → Dated n l → Dated m l
dated_more n m [] h d = tt
dated_more n m (e ∷ l) h d = let p : e.last ≤ n = d.1 in (d.0, omega arith, dated_more n m l h d.2)

jobs_dated : (e : Position) (h : Lot) (n : ℕ) → e.jobs ≤ e.last → e.last ≤ n → n ≤ h.job → jobs_after e h ≤ h.job
unfolding jobs_after
jobs_dated e h n a b c =
    ⊎_elim
    (λ t. let q = eqb-true e.last h.job t in rw t (omega arith))
    (λ t.
    let q = eqb-false e.last h.job t in
    let p : e.last ≤ h.job = omega arith in
    rw t (⊎_elim (λ z. absurd (q z)) (λ z. omega arith) (eq-or-lt_of_le p)))
    (either (eqb e.last h.job))

pub entered_dated : (h : Lot) (n : ℕ) (l : List Position) → n ≤ h.job → 1 ≤ h.job → Dated n l → Dated h.job (entered l h)
unfolding entered opened added
entered_dated h n [] a b d = (b, omega arith, tt)
entered_dated h n (e ∷ l) a b d =
    let p : e.last ≤ n = d.1 in
    let o : e.last ≤ h.job = omega arith in
    ⊎_elim
    (λ q. rw q (d.0, o, entered_dated h n l a b d.2))
    (λ q.
    rw q
    (⊎_elim
    (λ s. rw s (jobs_dated e h n d.0 d.1 a, omega arith, dated_more n h.job l a d.2))
    (λ s. rw s (b, omega arith, (d.0, o, dated_more n h.job l a d.2)))
    (either (key_same e.name h.name))))
    (either (key_before e.name h.name))

pub not_too_much : (h : Lot) (n : ℕ) (l : List Position) → Dated n l → n ≤ most_added → totals l ≤ most_added → h.millionths ≤ most_added → too_much l h ≡ false
unfolding too_much beyond totals
not_too_much h n [] d a b c = refl
not_too_much h n (e ∷ l) d a b c =
    let p : e.jobs ≤ e.last = d.0 in
    let o : e.last ≤ n = d.1 in
    ⊎_elim
    (λ q. rw q (not_too_much h n l d.2 a (omega arith) c))
    (λ q. rw q (rw (le-ltb most_added e.total (omega arith), le-ltb most_added h.millionths c, le-ltb most_added e.jobs (omega arith)) (and-false (key_same e.name h.name))))
    (either (key_before e.name h.name))
