-- What the private functions ask of one another and promise: may be skipped. Definitions only.
use Rattle.std.specs.Prelude.{ℕ, ◌≤◌, ◌<◌, ◌≡◌, false, List, length, get_or, Float}
use Rattle.ceilings.specs.Figures.{are_unlike, figures_in}
use Rattle.listing.specs.Listing.{name_in}

-- "0 to 64 assets", each with "a name of 1 to 16 bytes"
pub record Named (text starts : List ℕ) : Type 0 where
  pub few : length starts ≤ 64
  pub short : (i : ℕ) → i < length starts → length (name_in text starts i) ≤ 16

-- the figures of the weights, in front of a list
pub record Parted (ws : List Float) (cs parts : List ℕ) : Type 0 where
  pub wide : length ws ≤ length parts
  pub are : (i : ℕ) → i < length ws → get_or parts i 0 ≡ get_or (figures_in ws cs) i 0

-- what a listing is made of
pub record Listable (text starts : List ℕ) (ws : List Float) (cs parts order : List ℕ) (room : ℕ) : Type 0 where
  pub named : Named text starts
  pub weighed : length ws ≡ length starts
  pub limited : are_unlike cs (length starts) ≡ false
  pub parted : Parted ws cs parts
  pub few : length order ≤ 64
  pub low : (k : ℕ) → k < length order → get_or order k 0 < length starts
  pub roomy : 8192 ≤ room
