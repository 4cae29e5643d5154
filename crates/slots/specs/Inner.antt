-- What the private functions of the merge step ask of one another and promise of their slots: may be skipped. Definitions only.
use Rattle.std.specs.Prelude.{ℕ, zero, suc, ◌<◌, Bool, false, cond, List, [], ◌∷◌, ◌++◌, get_or}

-- the live slots below n, in slot order
unfoldable pub packed : ℕ → List Bool → List ℕ
packed zero live = []
packed (suc n) live = packed n live ++ cond (get_or live n false) (n ∷ []) []

-- the first m entries are slots of n assets
abbrev pub Below : ℕ → ℕ → List ℕ → Type 0
Below n m slots = (j : ℕ) → j < m → get_or slots j 0 < n

-- and they rise
abbrev pub Rising : ℕ → List ℕ → Type 0
Rising m slots = (i j : ℕ) → i < j → j < m → get_or slots i 0 < get_or slots j 0
