-- The doubles that document 01 names, each once. Definitions only.
use Rattle.std.specs.Prelude.{from_bits, Float}
use Rattle.std.specs.Float.{binary64}

-- +0
abbrev pub pz : Float
pz = from_bits binary64 0

-- 1
abbrev pub unit : Float
unit = from_bits binary64 0x3ff0_0000_0000_0000

-- 0.5
abbrev pub half : Float
half = from_bits binary64 0x3fe0_0000_0000_0000

-- 2
abbrev pub two : Float
two = from_bits binary64 0x4000_0000_0000_0000

-- "EPSILON is 2^-52"
abbrev pub epsilon : Float
epsilon = from_bits binary64 0x3cb0_0000_0000_0000
