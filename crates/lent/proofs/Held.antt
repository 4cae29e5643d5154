-- Entries held: where a loop stands at j, those before it are new and those from it on are old. Assumes nothing.
use Prim.Native.Nat.{ℕ, ◌+◌, ◌<◌, ◌≤◌}
use mathlib.Core.Path.{◌≡◌, subst, ◌∙◌}
use mathlib.Core.List.{List}
use native.Mathlib.Nat.{ne_of_lt, le_antisymm}
use native.Mathlib.Omega.{arith}
use borrow.Author.Count.{below_more}
use lib.ListN.{length, get_or, set, replicate, length-set, length-replicate, get_or-replicate}
use lib.Seq.{get_or-set_same, get_or-set_other}
use lib.Ieee.{Float, nan}
use Rattle.arithmetic.specs.Constants.{pz}
use Rattle.lent.specs.Inner.{Held}

module _ (f : ℕ → Float) (m : List Float) where
  pub held_none : (lo : ℕ) → lo ≤ length m → Held m lo lo f
  held_none lo h = record { size = h; entry = λ k a b. absurd (omega arith) }

  pub held_step : (v : Float) (lo j : ℕ) → Held m lo j f → v ≡ f j → j < length m → Held (set m j v) lo (j + 1) f
  held_step v lo j p e h =
      record {
        size = omega (arith, length-set m j v);
        entry = λ k a b.
            below_more (λ i. lo ≤ i → get_or (set m j v) i nan ≡ f i) j
            (λ i l q. get_or-set_other m j i v nan (ne_of_lt l) ∙ p.entry i q l)
            (λ q. get_or-set_same m j v nan h ∙ e) k b a;
      }

  pub held_rest : (v : Float) (j n : ℕ) → Held m j n f → Held (set m j v) (j + 1) n f
  held_rest v j n p =
      record {
        size = omega (arith, p.size, length-set m j v);
        entry = λ k a b. get_or-set_other m j k v nan (λ q. omega arith) ∙ p.entry k (omega arith) b;
      }

  pub held_end : (lo j n : ℕ) → Held m lo j f → n ≤ j → Held m lo n f
  held_end lo j n p h = record { size = omega (arith, p.size); entry = λ k a b. p.entry k a (omega arith) }

-- 64 zeros, where every sum begins at +0
pub held_start : (f : ℕ → Float) (lo n : ℕ) → n ≤ 64 → ((k : ℕ) → pz ≡ f k) → Held (replicate 64 pz) lo n f
held_start f lo n h e =
    record {
      size = omega (arith, length-replicate 64 pz);
      entry = λ k a b. get_or-replicate 64 k pz nan (omega arith) ∙ e k;
    }

-- the loop over the rows has run
pub held_all : (f : ℕ → ℕ → Float) (m : List Float) (lo hi k n : ℕ) → Held m lo hi (f k) → k ≤ n → n ≤ k → Held m lo hi (f n)
held_all f m lo hi k n p h g = subst (λ (q : ℕ). Held m lo hi (f q)) (le_antisymm h g) p
