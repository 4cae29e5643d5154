-- Document 01, "Tree and leaf order": which pair of slots a scan keeps. Definitions only.
use Rattle.std.specs.Prelude.{ℕ, min, max, Bool, true, false, not, ◌&&◌, ◌||◌, cond, ltb, eqb, Float}
use Rattle.std.specs.Float.{binary64}
use Rattle.std.specs.Float.Ieee.{add, sub, lt, le, of_bits}
use Rattle.arithmetic.specs.Constants.{pz}
use Rattle.arithmetic.specs.Arithmetic.{abs_of}
use Rattle.pairing.specs.declared.Best.{Best}

-- 1e-12
abbrev pub eps : Float
eps = of_bits binary64 0x3d71_9799_812d_ea11

-- (p, q) comes before (r, s)
unfoldable pub pair_before : ℕ → ℕ → ℕ → ℕ → Bool
pair_before p q r s = ltb p r || (eqb p r && ltb q s)

-- "the double |difference| is ≤ 1e-12 (never for NaN or two infinities)"
unfoldable pub near : Float → Float → Bool
near x y = le (abs_of (sub binary64 x y)) eps

-- "The first pair is best; a later pair replaces it if its distance + 1e-12 is below the best's, or if the double |difference| is ≤ 1e-12 .. and its (smaller id, larger id) comes first."
unfoldable pub better : Best → Float → ℕ → ℕ → Bool
better best x lo hi =
    not best.found
    || (lt (add binary64 x eps) best.dist
    || (near x best.dist && pair_before lo hi best.low.0 best.high.0))

abbrev pub pair : ℕ → ℕ → Float → ℕ → ℕ → Best
pair a b x lo hi =
    record { found = true; a = record { 0 = a }; b = record { 0 = b }; dist = x; low = record { 0 = lo }; high = record { 0 = hi } }

-- no pair yet
abbrev pub nothing : Best
nothing =
    record { found = false; a = record { 0 = 0 }; b = record { 0 = 0 }; dist = pz; low = record { 0 = 0 }; high = record { 0 = 0 } }

-- the best after the pair of slots a, b at distance x, with ids p and q: "its (smaller id, larger id)"
unfoldable pub offer : ℕ → ℕ → Float → ℕ → ℕ → Best → Best
offer a b x p q best =
    cond (better best x (min p q) (max p q)) (pair a b x (min p q) (max p q)) best
