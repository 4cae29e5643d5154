-- What refusal 6 has beside its number. Assumes nothing.
use Prim.Native.Nat.{ℕ, suc, ◌-◌, ◌<◌, ◌≤◌}
use mathlib.Core.Path.{◌≡◌, refl, ap, ◌∙◌}
use mathlib.Core.Bool.{Bool, true, false, cond}
use mathlib.Core.Logic.{⊎_elim}
use mathlib.Core.List.{List, ◌∷◌, ◌++◌}
use native.Mathlib.Omega.{arith}
use borrow.Author.Tests.{lt-ltb, le-ltb}
use lib.Dec.{ltb}
use lib.ListN.{length, get_or, set, length-replicate}
use Rattle.refusal.specs.Refusal.{values_of}
use Rattle.refusal.specs.Table.{Outcome}
use Rattle.refusal.specs.declared.Refusal.{Refusal}
use Rattle.refusal.proofs.Numbers.{number_some, no_values_or_two}
use Rattle.lent.specs.Grid.{noughts}
use Rattle.foreign.specs.Foreign.{asked_laid}
use Rattle.foreign.proofs.Stages.{number_in}
use Rattle.std.specs.Prelude.{Ok, Err}

-- ---- refusal 6's two values

no_values : (n : ℕ) → noughts n ≡ noughts (n - 0)
no_values n = ap noughts (let e : n ≡ n - 0 = omega arith in e)

-- refusal 6 has two values, and no other refusal has any
values_put : (m : ℕ) (r : Refusal) → set (set (noughts (suc (suc m))) 0 (get_or (values_of r) 0 0)) 1 (get_or (values_of r) 1 0) ≡ values_of r ++ noughts (suc (suc m) - length (values_of r))
values_put m r =
    ⊎_elim
    (λ e. rw e (no_values (suc (suc m))))
    (λ v. rw v.1.1 (ap (λ x. v.0 ∷ v.1.0 ∷ noughts x) (let e : m ≡ suc (suc m) - 2 = omega arith in e)))
    (no_values_or_two r)

pub blank_length : (room : ℕ) (blank : List ℕ) → blank ≡ noughts room → length blank ≡ room
blank_length room blank z = ap length z ∙ length-replicate {A = ℕ} room 0

-- its numbers beside it: the buffer is cleared to blank before
module _ (room : ℕ) (said : Outcome) (blank : List ℕ) (z : blank ≡ noughts room) where
  pub tell_done : said ≡ Ok tt → blank ≡ asked_laid said room
  unfolding asked_laid
  tell_done h = rw (z, h) (go (ltb room 2))
    where
      go : (t : Bool) → noughts room ≡ cond t (noughts room) (noughts (room - 0))
      go true = refl
      go false = no_values room

  pub tell_short : length blank < 2 → blank ≡ asked_laid said room
  unfolding asked_laid
  tell_short h = rw (lt-ltb room 2 (omega (arith, h, blank_length room blank z))) z

  pub tell_put : 2 ≤ length blank → (k : Refusal) → said ≡ Err k → (x y : ℕ) → x ≡ get_or (values_of k) 0 0 → y ≡ get_or (values_of k) 1 0 → set (set blank 0 x) 1 y ≡ asked_laid said room
  unfolding asked_laid
  tell_put h k e x y ex ey =
      let long : 2 ≤ room = omega (arith, h, blank_length room blank z) in
      let m : room ≡ suc (suc (room - 2)) = omega (arith, long) in
      rw (e, le-ltb room 2 long, z, ex, ey, m) (values_put (room - 2) k)

-- a number that is 0 is no refusal's
pub number_done : (o : Outcome) → number_in o ≡ 0 → o ≡ Ok tt
number_done (Ok _) e = refl
number_done (Err r) e = absurd (number_some r e)
