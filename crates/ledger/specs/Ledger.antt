-- Document 02, request 5: what is kept of each asset name over many jobs, and how a holding is entered. Definitions only.
use Rattle.std.specs.Prelude.{ℕ, ◌+◌, ◌-◌, ◌*◌, min, max, ◌≡◌, Bool, false, not, cond, ◌&&◌, ◌||◌, List, [], ◌∷◌, ◌++◌, leb, ltb, eqb, length, get_or, take, Ok, Err}
use Rattle.lent.specs.Grid.{tab, noughts}
use Rattle.lent.specs.Lent.{laid}
use Rattle.refusal.specs.Table.{Line, first, Outcome}
use Rattle.refusal.specs.Telling.{Telling, accepts, refuses}
use Rattle.refusal.specs.declared.Refusal.TheVariants.{OverLimit, SliceLength}
use Rattle.keys.specs.Keys.{key_before, key_same}
use Rattle.ledger.specs.declared.Position.{Position}
use Rattle.ledger.specs.declared.Lot.{Lot}
use Rattle.ledger.specs.Outcomes.{Entered}

-- ---- a position for each name, in order

-- "For each asset name: the number of jobs that hold it, the smallest, largest and total weight of its holdings in millionths": the first holding of a name
unfoldable pub opened : Lot → Position
opened h = record { name = h.name; jobs = 1; last = h.job; smallest = h.millionths; largest = h.millionths; total = h.millionths }

-- "A name met twice in a job counts as two holdings in that job's total and one in the job count."
unfoldable pub jobs_after : Position → Lot → ℕ
jobs_after p h = cond (eqb p.last h.job) p.jobs (p.jobs + 1)

-- one more holding of a name
unfoldable pub added : Position → Lot → Position
unfolding jobs_after
added p h =
    record {
      name = p.name;
      jobs = jobs_after p h;
      last = h.job;
      smallest = min p.smallest h.millionths;
      largest = max p.largest h.millionths;
      total = p.total + h.millionths;
    }

-- "Names are listed in byte order": a holding goes past the names before its own; there it is added to its name's position, or opens one
unfoldable pub entered : List Position → Lot → List Position
unfolding key_before key_same opened added
entered [] h = opened h ∷ []
entered (p ∷ l) h =
    cond (key_before p.name h.name) (p ∷ entered l h)
    (cond (key_same p.name h.name) (added p h ∷ l) (opened h ∷ p ∷ l))

-- ---- the lent table: 256 positions of seven numbers

-- "at most 256 of them"
abbrev pub most_names : ℕ
most_names = 256

abbrev pub table_cells : ℕ
table_cells = 1792

-- position i of the table
unfoldable pub position_at : List ℕ → ℕ → Position
position_at t i =
    record {
      name = record { high = get_or t (i * 7) 0; low = get_or t (i * 7 + 1) 0 };
      jobs = get_or t (i * 7 + 2) 0;
      last = get_or t (i * 7 + 3) 0;
      smallest = get_or t (i * 7 + 4) 0;
      largest = get_or t (i * 7 + 5) 0;
      total = get_or t (i * 7 + 6) 0;
    }

-- all 256, and the first n of them
unfoldable pub positions : List ℕ → List Position
unfolding tab position_at
positions t = tab most_names (position_at t)

unfoldable pub first_ones : ℕ → List ℕ → List Position
unfolding positions
first_ones n t = take n (positions t)

-- no position: what a table of zeros has
abbrev pub blank : Position
blank = record { name = record { high = 0; low = 0 }; jobs = 0; last = 0; smallest = 0; largest = 0; total = 0 }

-- position i of a table of 256, else none
unfoldable pub position_in : List ℕ → ℕ → Position
unfolding position_at
position_in t i = cond (eqb (length t) table_cells && ltb i most_names) (position_at t i) blank

-- a position's seven numbers, and positions one after the other
unfoldable pub numbers_of : Position → List ℕ
numbers_of p = p.name.high ∷ p.name.low ∷ p.jobs ∷ p.last ∷ p.smallest ∷ p.largest ∷ p.total ∷ []

unfoldable pub table_of : List Position → List ℕ
unfolding numbers_of
table_of [] = []
table_of (p ∷ l) = numbers_of p ++ table_of l

-- ---- the call

-- the largest number that is added to: 2^62
abbrev pub most_added : ℕ
most_added = 4611686018427387904

-- the position that a holding would be added to, or the holding, is past what can be added
unfoldable pub beyond : Position → Lot → Bool
beyond p h = ltb most_added p.total || (ltb most_added h.millionths || ltb most_added p.jobs)

unfoldable pub too_much : List Position → Lot → Bool
unfolding beyond key_before key_same
too_much [] h = false
too_much (p ∷ l) h = cond (key_before p.name h.name) (too_much l h) (key_same p.name h.name && beyond p h)

-- "9 over .. 256 names", and where a number is past what can be added, which no report reaches
unfoldable pub entered_lines : List Position → Lot → List Line
unfolding entered too_much
entered_lines l h = (ltb most_names (length (entered l h)), OverLimit) ∷ (too_much l h, OverLimit) ∷ []

-- 9: more names than a table has room for; 10: it isn't 256 positions of seven numbers
unfoldable pub table_lines : ℕ → ℕ → List Line
table_lines cells names = (ltb most_names names, OverLimit) ∷ (not (eqb cells table_cells), SliceLength) ∷ []

unfoldable pub enter_outcome : List ℕ → ℕ → Lot → Outcome
unfolding table_lines entered_lines first_ones
enter_outcome t n h = first (table_lines (length t) n ++ entered_lines (first_ones n t) h)

-- what the call returns: how many names there are now, or the refusal
unfoldable pub entered_as : Outcome → List Position → Entered
entered_as (Ok _) l = Ok (length l)
entered_as (Err r) l = Err r

-- what the answer tells: 0 and how many names, or the refusal's number
abbrev pub entered_tells : Entered → Telling ℕ
entered_tells (Ok n) = accepts n
entered_tells (Err r) = refuses r

-- a table of n names without what stands past them; as it was where n is more than a table has
unfoldable pub cleared_past : ℕ → List ℕ → List ℕ
cleared_past n t = cond (leb n most_names) (take (n * 7) t ++ noughts (length t - n * 7)) t

-- a holding entered among the first n names of a table t: the answer, and in the table the positions with the holding entered, zeros after them; zeros throughout after a refusal
pub record LotEntered (t : List ℕ) (n : ℕ) (h : Lot) (r : Entered) (t' : List ℕ) : Type 0 where
  pub answer : r ≡ entered_as (enter_outcome t n h) (entered (first_ones n t) h)
  pub table_is : t' ≡ laid 0 (enter_outcome t n h) (length t) (table_of (entered (first_ones n t) h))
