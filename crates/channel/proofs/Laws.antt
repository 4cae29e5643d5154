-- What a caller has of a text that was read. Assumes nothing.
use Rattle.std.proofs.Common.{◌≡◌, ℕ, ◌≤◌, List, length, take, subst}
use Rattle.channel.specs.Channel.{IsRead}
use Rattle.std.specs.Prelude.{Some, Option}

pub read_text : (r : Option ℕ) (text : List ℕ) (n : ℕ) → r ≡ Some n → IsRead r text → (n ≤ length text) × (n ≡ length (take n text))
read_text r text n e h = subst (λ (s : Option ℕ). IsRead s text) e h
