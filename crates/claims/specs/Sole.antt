-- Document 01, "What the contracts have to say": "Every public function says what it returns and what each lent entry holds, for all inputs and refusals; that no second answer fits is proved".
-- Definitions only.
use Rattle.std.specs.Prelude.{◌≡◌}
use contract.Lifetimes.{Lfts}
use denote.Triple.Entry.{Args, Res}
use denote.Triple.Clauses.{Ended, Lasts, AtExit, at_exit}

-- what a function's contract says, T being the types of its parameters and of its result: of the arguments of a call, of what is returned, and of the parameters when it is over
abbrev pub Contract : Ended → Type 1
Contract T = (κs : Lfts T.signature.lifetimes) → Args T.signature κs → Res T.signature κs → AtExit T κs → Type 0

-- No second answer fits: of two that fit the same call, with r and r' returned, and e and e' left in all that was lent for writing, what is told of r is told of r', and e is e'
abbrev pub SoleOf : (T : Ended) {B : Lfts T.signature.lifetimes → Type 0} → Contract T → ((κs : Lfts T.signature.lifetimes) → Res T.signature κs → B κs) → Type 0
SoleOf T contract told =
    (κs : Lfts T.signature.lifetimes) (a : Args T.signature κs) (r r' : Res T.signature κs) (e e' : Lasts T κs a)
    → contract κs a r (at_exit T κs a e)
    → contract κs a r' (at_exit T κs a e')
    → (told κs r ≡ told κs r') × (e ≡ e')

-- the same of r itself
abbrev pub Sole : (T : Ended) → Contract T → Type 0
Sole T contract = SoleOf T contract (λ κs r. r)
