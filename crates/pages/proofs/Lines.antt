-- The page's parts: how long they are, and the writes of each, one after the other. Assumes nothing.
use Prim.Native.Nat.{ℕ, ◌+◌, ◌-◌, ◌*◌, ◌≤◌, ◌<◌}
use mathlib.Core.Path.{◌≡◌, sym, ap, ◌∙◌}
use mathlib.Core.List.{List, [], ◌∷◌, ◌++◌}
use native.Mathlib.Omega.{arith}
use borrow.Author.Tests.{lt-ltb, eq-eqb}
use lib.ListN.{length, get_or, length-append}
use Rattle.text.specs.Bytes.{bytes}
use Rattle.writing.specs.Writing.{decimal, joined, Put, Wrote, Fitting}
use Rattle.writing.proofs.Writing.{then, renamed, fit, fit_both, fit_then, joined_le, joined_ext}
use Rattle.writing.proofs.Digits.{decimal_long}
use Rattle.keys.specs.Keys.{key_bytes}
use Rattle.keys.proofs.Again.{keys_long}
use Rattle.ledger.specs.Ledger.{most_names, table_cells, position_at, position_in, first_ones, blank}
use Rattle.ledger.specs.declared.Position.{Position}
use Rattle.ledger.proofs.Entering.{first_length, first_at}
use Rattle.month.specs.Calls.{books_of}
use Rattle.month.specs.declared.Tally.{Tally}
use Rattle.pages.specs.Pages.{figure, jobs_line, position_line, page_of}

-- ---- how long

-- a tab and at most 20 digits
figure_le : (n : ℕ) → length (figure n) ≤ 21
unfolding figure
figure_le n = omega (arith, decimal_long n)

jobs_le : (a b : ℕ) → length (jobs_line a b) ≤ 47
unfolding jobs_line
jobs_le a b = simp length-append (omega (arith, figure_le a, figure_le b))

-- a name of at most 16 bytes, four figures and a newline
position_le : (p : Position) → length (position_line p) ≤ 101
unfolding position_line
position_le p = simp length-append (omega (arith, keys_long p.name, figure_le p.jobs, figure_le p.smallest, figure_le p.largest, figure_le p.total))

positions_le : (f : ℕ → Position) (n : ℕ) → length (joined n (λ i. position_line (f i))) ≤ 101 * n
positions_le f n = joined_le n 101 (λ i. position_line (f i)) (λ i h. position_le (f i))

-- ---- the room for a position's line, and for all of them

pub position_room : (f : ℕ → Position) {d d' : List ℕ} {from at : ℕ} (i n : ℕ) → Wrote d from (joined i (λ k. position_line (f k))) d' at → i < n → from + 101 * n ≤ length d → at + 101 ≤ length d'
position_room f i n w h r = omega (arith, w.moved, w.same, positions_le f i)

pub positions_room : (a b n : ℕ) {d d' : List ℕ} {at : ℕ} → Wrote d 0 (jobs_line a b) d' at → n ≤ 256 → 32768 ≤ length d → at + 101 * n ≤ length d'
positions_room a b n w h r = omega (arith, w.moved, w.same, jobs_le a b)

-- ---- the writes of each part

-- two of a figure
pub figure_put : (n : ℕ) {d d₁ d₂ : List ℕ} {at a₁ a₂ : ℕ} → Put d at (9 ∷ []) d₁ a₁ → Put d₁ a₁ (decimal n) d₂ a₂ → Fitting d at (figure n) d₂ a₂
unfolding figure
figure_put n p q = fit_then (fit p) q

-- four of the first line
pub jobs_put : (a b : ℕ) {d d₁ d₂ d₃ d₄ : List ℕ} {a₁ a₂ a₃ a₄ : ℕ} → Put d 0 (bytes "jobs") d₁ a₁ → Fitting d₁ a₁ (figure a) d₂ a₂ → Fitting d₂ a₂ (figure b) d₃ a₃ → Put d₃ a₃ (10 ∷ []) d₄ a₄
    → 47 ≤ length d → Wrote d 0 (jobs_line a b) d₄ a₄
unfolding jobs_line
jobs_put a b p f g q room = (fit_then (fit_both (fit_both (fit p) f) g) q).wrote (omega (arith, room, jobs_le a b))

-- six of a name's line
pub position_put : (p : Position) {d d₁ d₂ d₃ d₄ d₅ d₆ : List ℕ} {at a₁ a₂ a₃ a₄ a₅ a₆ : ℕ} → Put d at (key_bytes p.name) d₁ a₁ → Fitting d₁ a₁ (figure p.jobs) d₂ a₂
    → Fitting d₂ a₂ (figure p.smallest) d₃ a₃ → Fitting d₃ a₃ (figure p.largest) d₄ a₄ → Fitting d₄ a₄ (figure p.total) d₅ a₅ → Put d₅ a₅ (10 ∷ []) d₆ a₆
    → at + 101 ≤ length d → Wrote d at (position_line p) d₆ a₆
unfolding position_line
position_put p k f₁ f₂ f₃ f₄ q room = (fit_then (fit_both (fit_both (fit_both (fit_both (fit k) f₁) f₂) f₃) f₄) q).wrote (omega (arith, room, position_le p))

-- a position that the table has, and its line
position_here : (t : List ℕ) (i : ℕ) → length t ≡ 1792 → i < 256 → position_in t i ≡ position_at t i
unfolding position_in
position_here t i long h = rw (eq-eqb (length t) table_cells long, lt-ltb i most_names h)

pub line_here : (t : List ℕ) (i : ℕ) (p : Position) → p ≡ position_in t i → length t ≡ 1792 → i < 256 → position_line p ≡ position_line (position_at t i)
line_here t i p e long h = ap position_line (e ∙ position_here t i long h)

-- ---- the page: the first line, and a line for each of the books' names

module _ (y : Tally) (t : List ℕ) (few : y.names ≤ 256) where
  books_length : length (books_of y t).positions ≡ y.names
  unfolding books_of first_ones
  books_length = first_length t y.names few

  books_at : (i : ℕ) → i < y.names → get_or (books_of y t).positions i blank ≡ position_at t i
  unfolding books_of first_ones
  books_at i h = first_at t y.names i blank few h

  page_is : (k : ℕ) → k ≡ y.jobs - y.accepted → jobs_line y.accepted k ++ joined y.names (λ i. position_line (position_at t i)) ≡ page_of (books_of y t)
  unfolding page_of books_of
  page_is k e =
      let f : joined y.names (λ i. position_line (position_at t i)) ≡ joined y.names (λ i. position_line (get_or (books_of y t).positions i blank)) =
      joined_ext y.names (λ i. position_line (position_at t i)) (λ i. position_line (get_or (books_of y t).positions i blank)) (λ i h. ap position_line (sym (books_at i h))) in
      rw (e, books_length, f)

  pub page_put : (k : ℕ) {d d₁ d₂ : List ℕ} {a₁ a₂ : ℕ} → k ≡ y.jobs - y.accepted → Wrote d 0 (jobs_line y.accepted k) d₁ a₁
      → Wrote d₁ a₁ (joined y.names (λ i. position_line (position_at t i))) d₂ a₂ → Wrote d 0 (page_of (books_of y t)) d₂ a₂
  page_put k e w v = renamed (page_of (books_of y t)) (then w v) (page_is k e)

  -- 32,768 bytes hold the page of any books of at most 256 names
  pub page_le : length (page_of (books_of y t)) ≤ 32768
  unfolding page_of
  page_le =
      let s = books_of y t in
      let a = jobs_line s.accepted (s.jobs - s.accepted) in
      let l = joined (length s.positions) (λ i. position_line (get_or s.positions i blank)) in
      omega (arith, length-append a l, books_length, jobs_le s.accepted (s.jobs - s.accepted), positions_le (λ i. get_or s.positions i blank) (length s.positions))
