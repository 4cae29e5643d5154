-- What the reading of a line tells. Assumes nothing.
use Prim.Native.Nat.{ℕ, ◌-◌}
use mathlib.Core.Path.{◌≡◌, refl}
use mathlib.Core.Bool.{Bool, true, false, not, cond, ◌&&◌}
use mathlib.Core.List.{List, [], ◌∷◌}
use lib.Dec.{leb, eqb}
use lib.ListN.{length, get_or, drop}
use Rattle.refusal.specs.Table.{first}
use Rattle.refusal.specs.Telling.{tells}
use Rattle.refusal.specs.declared.Refusal.TheVariants.{MalformedText}
use Rattle.text.specs.Bytes.{bytes, same}
use Rattle.fields.specs.Split.{split, all}
use Rattle.fields.specs.Numerals.{number}
use Rattle.names.specs.Names.{is_name}
use Rattle.slips.specs.Slips.{is_given, is_held, held_in, order_in, refused_in, slip_in, most_line, slip_of, is_slip_in, is_slip, slip_outcome, slip_tells}
use Rattle.slips.specs.declared.Slip.TheVariants.{Other, Held, Order, Refused}

-- 0 and what the line is, or 15
pub slip_tells_lem : (l : List ℕ) → slip_tells (slip_of l) ≡ tells (slip_outcome l) (slip_of l)
unfolding slip_of slip_in held_in order_in refused_in slip_outcome is_slip is_slip_in first
slip_tells_lem l =
    let ws = split 9 l in
    go
    (leb (length l) most_line)
    (same (get_or ws 0 []) (bytes "order"))
    (all is_name (drop 1 ws))
    (same (get_or ws 0 []) (bytes "refused"))
    (eqb (length ws) 2 && is_given (get_or ws 1 []))
    (is_held ws)
    (length ws - 1)
    (number 10 0 (get_or ws 2 []))
  where
    go : (t o n r g h : Bool) (k m : ℕ)
        → slip_tells (cond t (cond o (cond n (Order k) Other) (cond r (cond g Refused Other) (cond h (Held m) Other))) Other)
        ≡ tells (first ((not (t && cond o n (cond r g h)), MalformedText) ∷ [])) (cond t (cond o (cond n (Order k) Other) (cond r (cond g Refused Other) (cond h (Held m) Other))) Other)
    go false o n r g h k m = refl
    go true true true r g h k m = refl
    go true true false r g h k m = refl
    go true false n true true h k m = refl
    go true false n true false h k m = refl
    go true false n false g true k m = refl
    go true false n false g false k m = refl
