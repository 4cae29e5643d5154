-- A listing is one accepted job to the report, and a refusal's line one refused job. Assumes nothing.
use Prim.Native.Nat.{ℕ, zero, suc, ◌+◌, ◌*◌, ◌≤◌, ◌<◌}
use mathlib.Core.Path.{◌≡◌, refl, sym, ap, subst, ◌∙◌}
use mathlib.Core.Bool.{Bool, true, false, not}
use mathlib.Core.List.{List, [], ◌∷◌, ◌++◌, append-nil}
use mathlib.Core.Logic.{◌⊎◌, inl, inr, ⊎_elim}
use native.Mathlib.Decide.{dec_le}
use native.Mathlib.Nat.{lt_of_not-le}
use native.Mathlib.Omega.{arith}
use borrow.Author.Tests.{lt-ltb, le-ltb, eq-eqb, ne_eqb}
use lib.ListN.{length, get_or, length-append}
use lib.Ieee.{Float}
use Rattle.refusal.specs.Refusal.{number_of}
use Rattle.refusal.specs.Table.{first}
use Rattle.refusal.specs.declared.Refusal.{Refusal}
use Rattle.refusal.specs.declared.Refusal.TheVariants.{OverLimit, MalformedText}
use Rattle.refusal.proofs.Tables.{table_end, table_pass, table_hit}
use Rattle.lent.specs.Grid.{tab}
use Rattle.lent.specs.Count.{upto}
use Rattle.lent.proofs.Laws.{length_tab}
use Rattle.fields.specs.Split.{newline, tabulator, piece, last_piece, all}
use Rattle.names.specs.Names.{is_name}
use Rattle.writing.specs.Writing.{joined}
use Rattle.ledger.specs.Ledger.{most_names, most_added, entered, too_much, entered_lines}
use Rattle.ledger.proofs.Laws.{entered_length, not_too_much}
use Rattle.slips.specs.Slips.{slip_of}
use Rattle.slips.specs.declared.Slip.{Slip}
use Rattle.slips.specs.declared.Slip.TheVariants as slip
use Rattle.month.specs.Month.{Books, most_jobs, million, job_number, lot_in, after_held, after_order, after_refused, after_slip, over_counted, slip_lines, Report, at, refused_by, book_line, line_taken, lines_taken, whole_lines}
use Rattle.month.specs.Meaning.{Sound}
use Rattle.month.proofs.Totals.{OfBooks, sound_line}
use Rattle.listing.specs.Listing.{holding_at, line_of, ordered, listing, refusal_line}
use Rattle.listing.specs.declared.Holding.{Holding}
use Rattle.claims.proofs.Parted.{Free, AllFree, all_free_append, parted, parted_append, ended, ended_append, whole_lines_lem}
use Rattle.claims.proofs.Slips.{all_append, Limited, held_line, holding_line_lem, held_free, holding_read, order_line, order_free, order_read, refused_line, refusal_line_lem, refused_free, refusal_read}
use Rattle.std.specs.Prelude.{Ok, Err}

-- ---- the lines of a listing

-- a line for each of n records, and the order's
unfoldable pub listed_lines : ℕ → (ℕ → List ℕ) → (ℕ → Holding) → List (List ℕ) → List (List ℕ)
unfolding tab held_line order_line
listed_lines n name h names = tab n (λ i. held_line (name i) (h i)) ++ (order_line names ∷ [])

-- parts that each end with a newline, joined, are lines
joined_ended : (n : ℕ) (f g : ℕ → List ℕ) → ((i : ℕ) → f i ≡ g i ++ (newline ∷ [])) → joined n f ≡ ended newline (tab n g)
unfolding joined tab
joined_ended zero f g h = refl
joined_ended (suc n) f g h = rw (joined_ended n f g h, h n) (sym (ended_append newline (tab n g) (g n ∷ [])))

-- parts that each begin with a tab, joined, are fields
joined_parted : (n : ℕ) (f g : ℕ → List ℕ) → ((i : ℕ) → f i ≡ tabulator ∷ g i) → joined n f ≡ parted tabulator (tab n g)
unfolding joined tab
joined_parted zero f g h = refl
joined_parted (suc n) f g h = rw (joined_parted n f g h, h n) (sym (parted_append tabulator (tab n g) (g n ∷ []) ∙ rw (append-nil (g n))))

-- a listing is these lines, each ended by a newline
pub listing_lines : (name : ℕ → List ℕ) (ws : List Float) (cs order : List ℕ)
    → listing name ws cs order ≡ ended newline (listed_lines (length ws) name (holding_at ws cs) (tab (length order) (λ k. name (get_or order k 0))))
unfolding listing line_of ordered listed_lines order_line
listing_lines name ws cs order =
    let g : ℕ → List ℕ = λ i. held_line (name i) (holding_at ws cs i) in
    let names = tab (length order) (λ k. name (get_or order k 0)) in
    rw (joined_ended (length ws) (line_of name ws cs) g (λ i. holding_line_lem (name i) (holding_at ws cs i)), joined_parted (length order) (ordered name order) (λ k. name (get_or order k 0)) (λ k. refl))
    (sym (ended_append newline (tab (length ws) g) (order_line names ∷ [])))

-- a list of lines of which none has a d
tab_free : (d n : ℕ) (f : ℕ → List ℕ) → ((i : ℕ) → i < n → Free d (f i)) → AllFree d (tab n f)
unfolding tab
tab_free d zero f h = tt
tab_free d (suc n) f h = all_free_append d (tab n f) (f n ∷ []) (tab_free d n f (λ i l. h i (omega arith))) (h n (omega arith), tt)

-- a list of entries that all pass a test
pub tab_all : {A : Type 0} (f : A → Bool) (n : ℕ) (g : ℕ → A) → ((i : ℕ) → i < n → f (g i) ≡ true) → all f (tab n g) ≡ true
unfolding tab all
tab_all f zero g h = refl
tab_all f (suc n) g h = all_append f (tab n g) (g n ∷ []) (tab_all f n g (λ i l. h i (omega arith))) (rw (h n (omega arith)))

-- ---- the books after a line that nothing refuses

module _ (u : Books) (l : List ℕ) where
  -- the first field of the line
  abbrev word : List ℕ
  word = piece tabulator l 0

  -- a line that is read as k, and that nothing refuses as that
  by_slip : (k : Slip) → slip_of l ≡ k → first (slip_lines u word k) ≡ Ok tt → book_line u l ≡ at (after_slip u word k)
  unfolding book_line
  by_slip k e d = rw (e, d)

  -- an asset is entered where there is room for its job and its name
  held_booked : (m : ℕ) → slip_of l ≡ slip.Held m → job_number u ≤ most_jobs → over_counted u ≡ false → length (entered u.positions (lot_in u word m)) ≤ most_names
      → too_much u.positions (lot_in u word m) ≡ false → book_line u l ≡ at (after_held u word m)
  unfolding slip_lines entered_lines after_slip
  held_booked m e j o n t =
      by_slip (slip.Held m) e
      (table_pass _ OverLimit _ (le-ltb most_jobs (job_number u) j)
      ∙ table_pass _ OverLimit _ o
      ∙ table_pass _ OverLimit _ (le-ltb most_names (length (entered u.positions (lot_in u word m))) n)
      ∙ table_pass _ OverLimit _ t
      ∙ table_end)

  -- the order ends the job where the job has as many lines, and a million
  order_booked : (k : ℕ) → slip_of l ≡ slip.Order k → u.lines ≡ k → u.sum ≡ million → over_counted u ≡ false → book_line u l ≡ at (after_order u)
  unfolding slip_lines after_slip
  order_booked k e n s o =
      by_slip (slip.Order k) e
      (table_pass _ MalformedText _ (ap not (eq-eqb k u.lines (sym n)))
      ∙ table_pass _ MalformedText _ (ap not (eq-eqb u.sum million s))
      ∙ table_pass _ OverLimit _ o
      ∙ table_end)

  -- a refusal is a job where none is open and there is room for one more
  refused_booked : slip_of l ≡ slip.Refused → u.lines ≡ 0 → u.jobs < most_jobs → over_counted u ≡ false → book_line u l ≡ at (after_refused u)
  unfolding slip_lines after_slip
  refused_booked e n j o =
      by_slip slip.Refused e
      (table_pass _ MalformedText _ (ap not (eq-eqb u.lines 0 n))
      ∙ table_pass _ OverLimit _ (le-ltb most_jobs (u.jobs + 1) (omega arith))
      ∙ table_pass _ OverLimit _ o
      ∙ table_end)

  -- the books stay sound
  sound_booked : (v : Books) → Sound u → book_line u l ≡ at v → Sound v
  sound_booked v i e = subst (OfBooks Sound) e (sound_line (at u) l i)

-- lines and then more lines
pub lines_append : (r : Report) (ks ls : List (List ℕ)) → lines_taken r (ks ++ ls) ≡ lines_taken (lines_taken r ks) ls
unfolding lines_taken
lines_append r [] ls = refl
lines_append r (k ∷ ks) ls = lines_append (line_taken r k) ks ls

-- lines and then one more
one_more : (s u v : Books) (ls : List (List ℕ)) (l : List ℕ) → lines_taken (at s) ls ≡ at u → book_line u l ≡ at v → lines_taken (at s) (ls ++ (l ∷ [])) ≡ at v
unfolding lines_taken
one_more s u v ls l e f = lines_append (at s) ls (l ∷ []) ∙ rw e f

-- counts that are far from what can be added
counts_fit : (u : Books) → Sound u → u.lines ≤ 256 → u.sum ≤ 256000000 → u.line ≤ 1000000000512 → over_counted u ≡ false
unfolding over_counted
counts_fit u i a b c =
    let d : u.accepted ≤ u.jobs = i.counted in
    let e : u.jobs ≤ 200 = i.few in
    rw (le-ltb most_added u.accepted (omega arith), le-ltb most_added u.lines (omega arith), le-ltb most_added u.sum (omega arith), le-ltb most_added u.line (omega arith))

-- an asset's millionths can be added to its name's
lot_fits : (u : Books) (w : List ℕ) (m : ℕ) → Sound u → u.sum ≤ 256000000 → m ≤ 1000000 → too_much u.positions (lot_in u w m) ≡ false
unfolding lot_in
lot_fits u w m i b c =
    let d : u.accepted ≤ u.jobs = i.counted in
    let e : u.jobs ≤ 200 = i.few in
    let p = i.summed in
    not_too_much (lot_in u w m) u.jobs u.positions i.dated (omega arith) (omega arith) (omega arith)

-- an asset brings at most one name more
lot_length : (u : Books) (w : List ℕ) (m : ℕ) → length (entered u.positions (lot_in u w m)) ≤ length u.positions + 1
lot_length u w m = ⊎_elim (λ e. omega arith) (λ e. omega arith) (entered_length (lot_in u w m) u.positions)

-- ---- a job, line by line

-- sound books with no job open, at a line whose number is far from what can be added
pub record Calm (s : Books) : Type 0 where
  pub sound : Sound s
  pub shut : s.lines ≡ 0
  pub early : s.line ≤ 1000000000000

-- such books in which one more job may begin, of up to n names that are new
pub record HasRoom (s : Books) (n : ℕ) : Type 0 where
  pub calm : Calm s
  pub few : s.jobs < most_jobs
  pub roomy : length s.positions + n ≤ most_names

-- after k lines of assets, of m millionths
record Along (s : Books) (k m : ℕ) (ls : List (List ℕ)) : Type 0 where
  after : Books
  taken : lines_taken (at s) ls ≡ at after
  job : job_number after ≡ s.jobs + 1
  accepted : after.accepted ≡ s.accepted
  lines : after.lines ≡ k
  sum : after.sum ≡ m
  line : after.line ≡ s.line + k
  names : length after.positions ≤ length s.positions + k
  sound : Sound after

-- what lines leave that are one job to the report, accepted (1) or not (0), of up to n names: its books, sound, with no job open
pub record OneJob (s : Books) (ls : List (List ℕ)) (n taken : ℕ) : Type 0 where
  pub after : Books
  pub reported : lines_taken (at s) ls ≡ at after
  pub jobs : after.jobs ≡ s.jobs + 1
  pub accepted : after.accepted ≡ s.accepted + taken
  pub lines : after.lines ≡ 0
  pub line : after.line ≡ s.line + length ls
  pub names : length after.positions ≤ length s.positions + n
  pub sound : Sound after

-- lines of which one is refused by 9
pub record Over (s : Books) (ls : List (List ℕ)) : Type 0 where
  pub line : ℕ
  pub refused : lines_taken (at s) ls ≡ refused_by OverLimit line

-- no line yet
along_start : {s : Books} → Calm s → Along s 0 0 []
unfolding lines_taken job_number
along_start {s} c = record {
  after = s;
  taken = refl;
  job = rw (eq-eqb s.lines 0 c.shut);
  accepted = refl;
  lines = c.shut;
  sum = c.sound.closed c.shut;
  line = omega arith;
  names = omega arith;
  sound = c.sound;
}

module _ {s : Books} {k m : ℕ} {ls : List (List ℕ)} (c : Calm s) (a : Along s k m ls) where
  -- up to 256 lines do not come near what can be added
  calm_counts : k ≤ 256 → m ≤ 256000000 → over_counted a.after ≡ false
  calm_counts h g = counts_fit a.after a.sound (omega (arith, a.lines)) (omega (arith, a.sum)) (omega (arith, a.line, c.early))

  module _ (l : List ℕ) (x : ℕ) (h : k < 256) (light : m ≤ 1000000 * k) (e : slip_of l ≡ slip.Held x) (small : x ≤ 1000000) where
    -- the names after one more asset
    abbrev lot_length_after : ℕ
    lot_length_after = length (entered a.after.positions (lot_in a.after (piece tabulator l 0) x))

    -- the counts before it
    counted : over_counted a.after ≡ false
    counted = calm_counts (omega arith) (omega arith)

    -- one more asset, where there is room
    along_step : job_number a.after ≤ most_jobs → lot_length_after ≤ most_names → Along s (k + 1) (m + x) (ls ++ (l ∷ []))
    unfolding after_held job_number
    along_step j room =
        let u = a.after in
        let w = piece tabulator l 0 in
        let q : m ≤ 256000000 = omega arith in
        let t : too_much u.positions (lot_in u w x) ≡ false = lot_fits u w x a.sound (omega (arith, a.sum)) small in
        let z = lot_length u w x in
        let b : book_line u l ≡ at (after_held u w x) = held_booked u l x e j counted room t in
        record {
          after = after_held u w x;
          taken = one_more s u (after_held u w x) ls l a.taken b;
          job = rw (ne_eqb (u.lines + 1) 0 (λ y. omega arith)) a.job;
          accepted = a.accepted;
          lines = omega (arith, a.lines);
          sum = omega (arith, a.sum);
          line = omega (arith, a.line);
          names = omega (arith, z, a.names);
          sound = sound_booked u l (after_held u w x) a.sound b;
        }

    -- where there is none, 9
    over_line : first (slip_lines a.after (piece tabulator l 0) (slip.Held x)) ≡ Err OverLimit → Over s (ls ++ (l ∷ []))
    unfolding book_line lines_taken
    over_line d = record { line = a.after.line; refused = lines_append (at s) ls (l ∷ []) ∙ rw (a.taken, e, d) }

    -- one more asset is entered, or refused by 9
    step_either : Along s (k + 1) (m + x) (ls ++ (l ∷ [])) ⊎ Over s (ls ++ (l ∷ []))
    unfolding slip_lines entered_lines
    step_either = go (dec_le (job_number a.after) most_jobs) (dec_le lot_length_after most_names)
      where
        go : Dec (job_number a.after ≤ most_jobs) → Dec (lot_length_after ≤ most_names) → Along s (k + 1) (m + x) (ls ++ (l ∷ [])) ⊎ Over s (ls ++ (l ∷ []))
        go (yes j) (yes room) = inl (along_step j room)
        go (no j) room = inr (over_line (table_hit _ OverLimit _ (lt-ltb most_jobs (job_number a.after) (lt_of_not-le j))))
        go (yes j) (no room) =
            inr (over_line (table_pass _ OverLimit _ (le-ltb most_jobs (job_number a.after) j) ∙ table_pass _ OverLimit _ counted ∙ table_hit _ OverLimit _ (lt-ltb most_names lot_length_after (lt_of_not-le room))))

-- a report that is refused stays so
pub stays : (r : Refusal) (k : ℕ) (ls : List (List ℕ)) → lines_taken (refused_by r k) ls ≡ refused_by r k
unfolding lines_taken
stays r k [] = refl
stays r k (l ∷ ls) = stays r k ls

-- lines refused by 9 are so whatever follows
over_more : {s : Books} {ls : List (List ℕ)} (ks : List (List ℕ)) → Over s ls → Over s (ls ++ ks)
over_more {s} {ls} ks o = record { line = o.line; refused = lines_append (at s) ls ks ∙ rw o.refused (stays OverLimit o.line ks) }

-- ---- records of any assets

-- records of n assets and the names of their order, as `weights` prints them: names, and figures that total a million, none above it, nor a ceiling
pub record Printable (n : ℕ) (name : ℕ → List ℕ) (h : ℕ → Holding) (names : List (List ℕ)) : Type 0 where
  pub some : 0 < n
  pub named : (i : ℕ) → i < n → is_name (name i) ≡ true
  pub small : (i : ℕ) → i < n → (h i).millionths ≤ 1000000
  pub limited : (i : ℕ) → i < n → Limited (h i).ceiling
  pub total : upto (λ i. (h i).millionths) n ≡ 1000000
  pub order_named : all is_name names ≡ true
  pub each : length names ≡ n

module _ {n : ℕ} {name : ℕ → List ℕ} {h : ℕ → Holding} {names : List (List ℕ)} (p : Printable n name h names) where
  -- the lines of the first k assets, and their millionths
  abbrev held : ℕ → List (List ℕ)
  held k = tab k (λ i. held_line (name i) (h i))

  abbrev figure : ℕ → ℕ
  figure k = upto (λ i. (h i).millionths) k

  -- no byte of its lines is a newline
  pub page_free : AllFree newline (listed_lines n name h names)
  unfolding listed_lines
  page_free =
      all_free_append newline (held n) (order_line names ∷ [])
      (tab_free newline n (λ i. held_line (name i) (h i)) (λ i l. held_free (name i) (h i) (p.named i l))) (order_free names p.order_named, tt)

  -- it has a line for each asset, and one
  pub page_length : length (listed_lines n name h names) ≡ n + 1
  unfolding listed_lines
  page_length = omega (arith, length-append (held n) (order_line names ∷ []), length_tab n (λ i. held_line (name i) (h i)))

  -- k assets have at most k millions of millionths
  light : (k : ℕ) → k ≤ n → figure k ≤ 1000000 * k
  unfolding upto
  light zero l = omega arith
  light (suc k) l = omega (arith, light k (omega arith), p.small k l)

  -- each asset's line is read as its millionths
  read : (k : ℕ) → k < n → slip_of (held_line (name k) (h k)) ≡ slip.Held (h k).millionths
  read k l = holding_read (name k) (h k) (p.named k l) (p.small k l) (p.limited k l)

  -- k + 1 assets
  next : {s : Books} (k : ℕ) → Along s (k + 1) (figure k + (h k).millionths) (held k ++ (held_line (name k) (h k) ∷ [])) → Along s (suc k) (figure (suc k)) (held (suc k))
  unfolding upto tab
  next {s} k a = let e : k + 1 ≡ suc k = omega arith in subst (λ (j : ℕ). Along s j (figure (suc k)) (held (suc k))) e a

  module _ {s : Books} (c : Calm s) (few : n ≤ 256) where
    -- the order's line ends the job
    ends : Along s n (figure n) (held n) → OneJob s (listed_lines n name h names) n 1
    unfolding listed_lines after_order job_number
    ends a =
        let u = a.after in
        let l = order_line names in
        let t : u.sum ≡ million = a.sum ∙ p.total in
        let o : over_counted u ≡ false = calm_counts c a few (omega (arith, p.total)) in
        let b : book_line u l ≡ at (after_order u) = order_booked u l (length names) (order_read names p.order_named (omega (arith, p.each))) (a.lines ∙ sym p.each) t o in
        let j : u.jobs ≡ s.jobs + 1 = rw (ne_eqb u.lines 0 (λ y. omega (arith, a.lines, p.some))) at a.job in
        record {
          after = after_order u;
          reported = one_more s u (after_order u) (held n) l a.taken b;
          jobs = j;
          accepted = ap (λ (k : ℕ). k + 1) a.accepted;
          lines = refl;
          line = omega (arith, a.line, length-append (held n) (l ∷ []), length_tab n (λ i. held_line (name i) (h i)));
          names = a.names;
          sound = sound_booked u l (after_order u) a.sound b;
        }

    -- the first k assets are entered, or one of them is refused by 9
    along_either : (k : ℕ) → k ≤ n → Along s k (figure k) (held k) ⊎ Over s (held k)
    unfolding upto tab
    along_either zero l = inl (along_start c)
    along_either (suc k) l = go (along_either k (omega arith))
      where
        go : Along s k (figure k) (held k) ⊎ Over s (held k) → Along s (suc k) (figure (suc k)) (held (suc k)) ⊎ Over s (held (suc k))
        go (inr o) = inr (over_more (held_line (name k) (h k) ∷ []) o)
        go (inl a) = ⊎_elim (λ b. inl (next k b)) (λ o. inr o) (step_either c a (held_line (name k) (h k)) (h k).millionths (omega arith) (light k (omega arith)) (read k l) (p.small k l))

    -- a listing is one accepted job, or refused by 9
    pub page_either : OneJob s (listed_lines n name h names) n 1 ⊎ Over s (listed_lines n name h names)
    unfolding listed_lines
    page_either = ⊎_elim (λ a. inl (ends a)) (λ o. inr (over_more (order_line names ∷ []) o)) (along_either n (omega arith))

  module _ {s : Books} (r : HasRoom s n) where
    -- where there is room they are entered
    along_ready : (k : ℕ) → k ≤ n → Along s k (figure k) (held k)
    unfolding upto tab
    along_ready zero l = along_start r.calm
    along_ready (suc k) l =
        let a = along_ready k (omega arith) in
        let z = lot_length a.after (piece tabulator (held_line (name k) (h k)) 0) (h k).millionths in
        next k
        (along_step r.calm a (held_line (name k) (h k)) (h k).millionths (omega (arith, r.roomy)) (light k (omega arith)) (read k l) (p.small k l)
        (omega (arith, a.job, r.few)) (omega (arith, z, a.names, r.roomy)))

    -- it is accepted where the report has room for one more job and its names
    pub page_taken : OneJob s (listed_lines n name h names) n 1
    page_taken = ends r.calm (omega (arith, r.roomy)) (along_ready n (omega arith))

-- ---- refusals

-- a refusal's text is one line, ended by a newline ..
pub refusal_whole : (k : ℕ) → (whole_lines (refusal_line k) ≡ refused_line k ∷ []) × (last_piece newline (refusal_line k) ≡ [])
refusal_whole k =
    let e : refusal_line k ≡ ended newline (refused_line k ∷ []) = refusal_line_lem k in
    let w = whole_lines_lem (refused_line k ∷ []) (refused_free k, tt) in
    (ap whole_lines e ∙ w.0, ap (last_piece newline) e ∙ w.1)

module _ (s : Books) (x : Refusal) (c : Calm s) where
  -- the refusal's line
  abbrev line_refused : List ℕ
  line_refused = refused_line (number_of x)

  -- its counts are far from what can be added
  counts : over_counted s ≡ false
  counts = let z = c.sound.closed c.shut in counts_fit s c.sound (omega (arith, c.shut)) (omega arith) (omega (arith, c.early))

  -- where there is room it is one refused job
  pub refusal_fits : s.jobs < most_jobs → OneJob s (line_refused ∷ []) 0 0
  unfolding after_refused lines_taken
  refusal_fits few =
      let b : book_line s line_refused ≡ at (after_refused s) = refused_booked s line_refused (refusal_read x) c.shut few counts in
      record {
        after = after_refused s;
        reported = b;
        jobs = refl;
        accepted = omega arith;
        lines = c.shut;
        line = refl;
        names = omega arith;
        sound = sound_booked s line_refused (after_refused s) c.sound b;
      }

  -- where there is none, 9
  none_left : most_jobs ≤ s.jobs → (w : List ℕ) → first (slip_lines s w slip.Refused) ≡ Err OverLimit
  unfolding slip_lines
  none_left h w = table_pass _ MalformedText _ (ap not (eq-eqb s.lines 0 c.shut)) ∙ table_hit _ OverLimit _ (lt-ltb most_jobs (s.jobs + 1) (omega arith))

  -- and the line is refused by it
  line_over : most_jobs ≤ s.jobs → Over s (line_refused ∷ [])
  unfolding book_line lines_taken
  line_over h = record { line = s.line; refused = rw (refusal_read x, none_left h (piece tabulator line_refused 0)) }

  -- a refusal's line is one refused job, or refused by 9
  pub refusal_either : OneJob s (line_refused ∷ []) 0 0 ⊎ Over s (line_refused ∷ [])
  refusal_either = go (dec_le most_jobs s.jobs)
    where
      go : Dec (most_jobs ≤ s.jobs) → OneJob s (line_refused ∷ []) 0 0 ⊎ Over s (line_refused ∷ [])
      go (yes h) = inr (line_over h)
      go (no h) = inl (refusal_fits (lt_of_not-le h))

  -- .. and one refused job, where the report has room for one more
  pub refusal_taken : s.jobs < most_jobs → OneJob s (whole_lines (refusal_line (number_of x))) 0 0
  refusal_taken few = subst (λ (ls : List (List ℕ)). OneJob s ls 0 0) (sym (refusal_whole (number_of x)).0) (refusal_fits few)
