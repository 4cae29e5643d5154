-- What the private functions promise, and the call that joins them, from what each is told. Assumes nothing.
use Prim.Native.Nat.{ℕ, suc, ◌+◌, ◌-◌, ◌<◌, ◌≤◌}
use mathlib.Core.Path.{◌≡◌, refl, sym, ap, subst, ◌∙◌}
use mathlib.Core.Bool.{Bool, true, false, true≢false, not, cond}
use mathlib.Core.List.{List, [], ◌∷◌, ◌++◌}
use native.Mathlib.Omega.{arith}
use borrow.Author.Tests.{ltb-false, lt-ltb, le-ltb, eqb-true, eq-eqb, not-false}
use lib.Dec.{ltb, eqb}
use lib.ListN.{length, take, get_or, set, length-append, length-replicate}
use lib.Seq.{length-take-le, take-suc, take-suc-set, take-append_seam, take_all}
use Rattle.lent.specs.Grid.{noughts}
use Rattle.lent.specs.Lent.{laid}
use Rattle.refusal.specs.Table.{first, or_else, Outcome}
use Rattle.refusal.proofs.Tables.{none, done_refused}
use Rattle.refusal.specs.declared.Refusal.{Refusal}
use Rattle.refusal.specs.declared.Refusal.TheVariants.{MalformedText}
use Rattle.fields.specs.Split.{newline}
use Rattle.slips.specs.Slips.{most_line}
use Rattle.ledger.specs.Ledger.{most_names, table_cells, table_lines}
use Rattle.ledger.proofs.Outcomes.{judged_done, past_laid}
use Rattle.month.specs.Month.{Books, Report, at, refused_by, go_on, line_taken}
use Rattle.month.specs.Calls.{books_of, standing, tally_of, progress_of, table_left, TookLine}
use Rattle.month.specs.declared.Tally.{Tally}
use Rattle.month.proofs.Totals.{OfBooks}
use Rattle.month.proofs.Standing.{Fitting, table_passes, standing_fits, stands_fitting}
use Rattle.month.proofs.Steps.{go_on_at}
use Rattle.month.proofs.Leaving.{left_length, begun_again}
use Rattle.cutting.specs.Cutting.{Stream, byte_taken, bytes_taken}
use Rattle.cutting.specs.Calls.{feed_lines, feed_report, streaming, rested_by, fed_by, feed_of, TookBytes, ended_by, FeedEnded}
use Rattle.cutting.specs.Inner.{Running, SettledBy, Settled}
use Rattle.cutting.specs.declared.Feed.{Feed}
use Rattle.cutting.proofs.Streams.{byte_end, byte_kept, byte_over, bytes_append, bytes_refused}
use Rattle.std.specs.Prelude.{Ok, Err, is_err}
use Rattle.month.specs.declared.Fault.{Fault}
use Rattle.month.specs.Outcomes.{Progress, fault}

-- ---- counts and buffers that are judged done

pub feed_done : (names n cells room : ℕ) → first (feed_lines names n cells room) ≡ Ok tt → (names ≤ 256) × (n ≤ 4357) × (cells ≡ 1792) × (4357 < room)
unfolding feed_lines
feed_done names n cells room e =
    let f = none (feed_lines names n cells room) e in
    let d : 4358 ≤ room = ltb-false room (most_line + 1) f.1.1.1.0 in
    (ltb-false most_names names f.0, ltb-false most_line n f.1.0, eqb-true cells table_cells (not-false (eqb cells table_cells) f.1.1.0), omega arith)

pub feed_passes : (names n cells room : ℕ) → names ≤ 256 → n ≤ 4357 → cells ≡ 1792 → 4357 < room → first (feed_lines names n cells room) ≡ Ok tt
unfolding feed_lines first
feed_passes names n cells room a b c d =
    let r : 4358 ≤ room = omega arith in
    rw (le-ltb most_names names a, le-ltb most_line n b, eq-eqb cells table_cells c, le-ltb room (most_line + 1) r)

pub stands_at : (y : Tally) (t : List ℕ) → length t ≡ 1792 → y.names ≤ 256 → standing (Ok y) t ≡ at (books_of y t)
unfolding standing
stands_at y t e h = rw (table_passes (length t) y.names e h)

-- ---- judged

pub judged_refused : (p : Progress) (n room : ℕ) (r : Refusal) (k : ℕ) (t : List ℕ) → p ≡ Err (fault r k) → p ≡ progress_of (feed_report p n t room)
unfolding feed_report progress_of
judged_refused p n room r k t e = rw e

module _ (p : Progress) (n cells room : ℕ) (y : Tally) (is : p ≡ Ok y) (o : Outcome) (said : o ≡ first (feed_lines y.names n cells room)) (t : List ℕ) (e : length t ≡ cells) where
  said_here : o ≡ first (feed_lines y.names n (length t) room)
  said_here = said ∙ ap (λ (c : ℕ). first (feed_lines y.names n c room)) (sym e)

  pub judged_out : (r : Refusal) → o ≡ Err r → Err (fault r y.line) ≡ progress_of (feed_report p n t room)
  unfolding feed_report progress_of
  judged_out r f = let q = sym said_here ∙ f in rw is (rw q)

  pub judged_on : o ≡ Ok tt → Ok y ≡ progress_of (feed_report p n t room)
  unfolding feed_report
  judged_on f =
      let q = sym said_here ∙ f in
      let d = feed_done y.names n (length t) room q in
      let b : Ok y ≡ progress_of (at (books_of y t)) = (begun_again (Ok y) t (books_of y t) (stands_at y t d.2 d.0)).0 in
      rw is (rw q b)

-- ---- a byte

line_taken_lem : (S : Stream) (t₀ : List ℕ) (f : Feed) (t h l : List ℕ) (r : Progress) (t' h' : List ℕ) → Running S t₀ f t h → TookLine t f.progress l r t' → length t' ≡ length t
    → Running (record { report = line_taken S.report l; held = [] }) t₀ (record { progress = r; held = 0 }) t' h'
line_taken_lem S t₀ f t h l r t' h' w k e =
    record {
      answer = k.answer ∙ ap (λ (R : Report). progress_of (line_taken R l)) w.stands;
      stands = k.stands ∙ ap (λ (R : Report). line_taken R l) w.stands;
      same = e ∙ w.same;
      held_is = refl;
    }

-- a newline ends the line
pub ends : (f : Feed) (t h : List ℕ) (b : ℕ) (r : Progress) (t' : List ℕ) → b ≡ newline → TookLine t f.progress (take f.held h) r t' → length t' ≡ length t → (S : Stream) (t₀ : List ℕ)
    → Running S t₀ f t h → Running (byte_taken S b) t₀ (record { progress = r; held = 0 }) t' h
ends f t h b r t' e k same S t₀ w =
    let k' = subst (λ (l : List ℕ). TookLine t f.progress l r t') w.held_is k in
    subst (λ (z : Stream). Running z t₀ (record { progress = r; held = 0 }) t' h) (sym (byte_end S b e)) (line_taken_lem S t₀ f t h S.held r t' h w k' same)

module _ (f : Feed) (t h : List ℕ) (b : ℕ) (other : b ≡ newline → ⊥) (in_room : f.held < length h) (S : Stream) (t₀ : List ℕ) (w : Running S t₀ f t h) where
  held_count : length S.held ≡ f.held
  held_count = ap length (sym w.held_is) ∙ length-take-le f.held h (omega arith)

  held_more : take (f.held + 1) (set h f.held b) ≡ S.held ++ (b ∷ [])
  held_more = let z : f.held + 1 ≡ suc f.held = omega arith in ap (λ (k : ℕ). take k (set h f.held b)) z ∙ take-suc-set h f.held b in_room ∙ ap (λ (l : List ℕ). l ++ (b ∷ [])) w.held_is

  -- another byte is held ..
  pub holds : f.held < 4357 → Running (byte_taken S b) t₀ (record { progress = f.progress; held = f.held + 1 }) t (set h f.held b)
  holds less =
      let e : ltb (length S.held) most_line ≡ true = lt-ltb (length S.held) most_line (omega (arith, held_count)) in
      subst (λ (z : Stream). Running z t₀ (record { progress = f.progress; held = f.held + 1 }) t (set h f.held b)) (sym (byte_kept S b other e))
      (record { answer = w.answer; stands = w.stands; same = w.same; held_is = held_more })

  -- .. or makes a line that is too long
  pub fills : (r : Progress) (t' : List ℕ) → 4357 ≤ f.held → TookLine t f.progress (take (f.held + 1) (set h f.held b)) r t' → length t' ≡ length t
      → Running (byte_taken S b) t₀ (record { progress = r; held = 0 }) t' (set h f.held b)
  fills r t' much k same =
      let e : ltb (length S.held) most_line ≡ false = le-ltb (length S.held) most_line (omega (arith, held_count)) in
      let k' = subst (λ (l : List ℕ). TookLine t f.progress l r t') held_more k in
      subst (λ (z : Stream). Running z t₀ (record { progress = r; held = 0 }) t' (set h f.held b)) (sym (byte_over S b other e))
      (line_taken_lem S t₀ f t h (S.held ++ (b ∷ [])) r t' (set h f.held b) w k' same)

-- ---- each byte of a piece

-- i of its bytes are taken: f₀, t₀ and h₀ were there before, f, t and h are there now
pub record Way (s : List ℕ) (f₀ : Feed) (t₀ h₀ : List ℕ) (i : ℕ) (f : Feed) (t h : List ℕ) : Type 0 where
  pub part : i ≤ length s
  pub short : f.held ≤ 4357
  pub same_table : length t ≡ length t₀
  pub same_held : length h ≡ length h₀
  pub runs : (S : Stream) (u : List ℕ) → Running S u f₀ t₀ h₀ → Running (bytes_taken S (take i s)) u f t h

pub way_begins : (s : List ℕ) (f : Feed) (t h : List ℕ) → f.held ≤ 4357 → Way s f t h 0 f t h
unfolding bytes_taken
way_begins s f t h e = record { part = omega arith; short = e; same_table = refl; same_held = refl; runs = λ S u w. w }

byte_more : (S : Stream) (s : List ℕ) (i : ℕ) → i < length s → byte_taken (bytes_taken S (take i s)) (get_or s i 0) ≡ bytes_taken S (take (i + 1) s)
unfolding bytes_taken
byte_more S s i e =
    let z : suc i ≡ i + 1 = omega arith in
    sym (bytes_append S (take i s) (get_or s i 0 ∷ [])) ∙ ap (bytes_taken S) (sym (take-suc s i 0 e)) ∙ ap (λ (k : ℕ). bytes_taken S (take k s)) z

pub way_goes_on : (s : List ℕ) (f₀ : Feed) (t₀ h₀ : List ℕ) (i : ℕ) (f : Feed) (t h : List ℕ) (f' : Feed) (t' h' : List ℕ) → Way s f₀ t₀ h₀ i f t h → i < length s → f'.held ≤ 4357
    → ((S : Stream) (u : List ℕ) → Running S u f t h → Running (byte_taken S (get_or s i 0)) u f' t' h') → length t' ≡ length t → length h' ≡ length h → Way s f₀ t₀ h₀ (i + 1) f' t' h'
way_goes_on s f₀ t₀ h₀ i f t h f' t' h' w e g k a b =
    record {
      part = omega arith;
      short = g;
      same_table = a ∙ w.same_table;
      same_held = b ∙ w.same_held;
      runs = λ S u z. subst (λ (x : Stream). Running x u f' t' h') (byte_more S s i e) (k (bytes_taken S (take i s)) u (w.runs S u z));
    }

pub way_ends : (s : List ℕ) (f₀ : Feed) (t₀ h₀ : List ℕ) (i : ℕ) (f : Feed) (t h : List ℕ) → Way s f₀ t₀ h₀ i f t h → length s ≤ i
    → (S : Stream) (u : List ℕ) → Running S u f₀ t₀ h₀ → Running (bytes_taken S s) u f t h
way_ends s f₀ t₀ h₀ i f t h w e S u z = subst (λ (l : List ℕ). Running (bytes_taken S l) u f t h) (take_all i s e) (w.runs S u z)

-- ---- a piece taken

-- the stream that the settled counts and buffers stand for, and what they are
pub record Rests (Z : Stream) (t₀ : List ℕ) (room : ℕ) (r : Feed) (t' h' : List ℕ) : Type 0 where
  pub answer : r ≡ feed_of Z
  pub table_is : t' ≡ table_left Z.report t₀
  pub held_is : h' ≡ laid 0 (Ok tt) room Z.held
  pub stands : streaming r t' h' ≡ Z

rests_refused : (q : Refusal) (k : ℕ) (w t₀ u v : List ℕ) (r : Feed) (t' h' : List ℕ) → length u ≡ length t₀ → SettledBy (Err (fault q k)) 0 u v r t' h' → Rests (rested_by (refused_by q k) w) t₀ (length v) r t' h'
unfolding rested_by feed_of progress_of table_left laid streaming feed_report
rests_refused q k w t₀ u v r t' h' e s =
    record {
      answer = s.0;
      table_is = s.1 ∙ ap noughts e;
      held_is = let z : length v ≡ length v - 0 = omega arith in s.2 ∙ ap noughts z;
      stands = ap (λ (z : Feed). streaming z t' h') s.0;
    }

-- books in a table that fits: with the held bytes in their room they are read again
pub again : (y : Tally) (n : ℕ) (t h w : List ℕ) (s : Books) → standing (Ok y) t ≡ at s → n ≤ 4357 → 4357 < length h → take n h ≡ w
    → streaming (record { progress = Ok y; held = n }) t h ≡ record { report = at s; held = w }
unfolding standing streaming feed_report
again y n t h w s e a b f =
    let q = go_on_at (first (table_lines (length t) y.names)) y.line (books_of y t) s e in
    let d = judged_done (length t) y.names q.0 in
    rw (feed_passes y.names n (length t) (length h) d.1 a d.0 b) (λ i. record { report = at (q.1 i); held = f i })

rests_at : (s : Books) (w t₀ u v : List ℕ) (n : ℕ) (r : Feed) (t' h' : List ℕ) → length u ≡ length t₀ → standing (Ok (tally_of s)) u ≡ at s → take n v ≡ w → n ≤ 4357 → 4357 < length v
    → SettledBy (Ok (tally_of s)) n u v r t' h' → Rests (rested_by (at s) w) t₀ (length v) r t' h'
unfolding rested_by feed_of progress_of tally_of table_left laid
rests_at s w t₀ u v n r t' h' a b c d e z =
    let fits : Fitting (length u) s = subst (OfBooks (Fitting (length u))) b (standing_fits (Ok (tally_of s)) u) in
    let x : t' ≡ table_left (at s) t₀ = past_laid s.positions u t' fits.1 (begun_again (Ok (tally_of s)) u s b).1 z.1 ∙ left_length (at s) u t₀ a in
    let m : n ≡ length w = sym (length-take-le n v (omega arith)) ∙ ap length c in
    let p : h' ≡ w ++ noughts (length v - length w) = z.2 ∙ ap (λ (l : List ℕ). l ++ noughts (length v - n)) c ∙ ap (λ (k : ℕ). w ++ noughts (length v - k)) m in
    let long : length h' ≡ length v = ap length p ∙ length-append w (noughts (length v - length w)) ∙ ap (λ (k : ℕ). length w + k) (length-replicate (length v - length w) 0) ∙ omega arith in
    let front : take n h' ≡ w = ap (take n) p ∙ ap (λ (k : ℕ). take k (w ++ noughts (length v - length w))) m ∙ take-append_seam w (noughts (length v - length w)) in
    record {
      answer = z.0 ∙ (λ i. record { progress = Ok (tally_of s); held = m i });
      table_is = x;
      held_is = p;
      stands =
          ap (λ (f : Feed). streaming f t' h') z.0
          ∙ again (tally_of s) n t' h' w s (ap (standing (Ok (tally_of s))) x ∙ stands_fitting (at s) t₀ (subst (λ (k : ℕ). Fitting k s) a fits)) d (omega (arith, long)) front;
    }

rests : (R : Report) (w t₀ : List ℕ) (g : Feed) (u v : List ℕ) (r : Feed) (t' h' : List ℕ) → g.progress ≡ progress_of R → standing g.progress u ≡ R → length u ≡ length t₀
    → take g.held v ≡ w → g.held ≤ 4357 → 4357 < length v → Settled g u v r t' h' → Rests (rested_by R w) t₀ (length v) r t' h'
unfolding progress_of
rests (at s) w t₀ g u v r t' h' a c same d e f z =
    rests_at s w t₀ u v g.held r t' h' same (ap (λ (p : Progress). standing p u) (sym a) ∙ c) d e f (subst (λ (p : Progress). SettledBy p g.held u v r t' h') a z)
rests (refused_by q k) w t₀ g u v r t' h' a c same d e f z =
    rests_refused q k w t₀ u v r t' h' same (subst (λ (p : Progress). SettledBy p g.held u v r t' h') a z)

took : (f : Feed) (t h s : List ℕ) (r : Feed) (t' h' : List ℕ) → Rests (fed_by (streaming f t h) s) t (length h) r t' h' → TookBytes t h f s r t' h'
took f t h s r t' h' z = record { answer = z.answer; table_is = z.table_is; held_is = z.held_is; stands = z.stands }

abbrev progress_number : Progress → ℕ
progress_number (Ok y) = 0
progress_number (Err s) = 1

-- counts that are not refused, as the call has judged them, are those of books that the table holds
begins_go : (o : Outcome) (x y : Tally) (n : ℕ) (t : List ℕ) (room : ℕ) → first (feed_lines x.names n (length t) room) ≡ o → Ok y ≡ progress_of (go_on o x.line (books_of x t))
    → (n ≤ 4357) × (4357 < room) × (standing (Ok y) t ≡ go_on o x.line (books_of x t))
unfolding progress_of
begins_go (Ok _) x y n t room q e =
    let d = feed_done x.names n (length t) room q in
    let p = stands_at x t d.2 d.0 in
    let g = begun_again (Ok x) t (books_of x t) p in
    (d.1, d.3, ap (λ (z : Progress). standing z t) (e ∙ sym g.0) ∙ p)
begins_go (Err r) x y n t room q e = absurd (let z : ◌≡◌ {A = ℕ} 0 1 = ap progress_number e in omega arith)

begins_at : (p : Progress) (n : ℕ) (t : List ℕ) (room : ℕ) (y : Tally) → Ok y ≡ progress_of (feed_report p n t room)
    → (n ≤ 4357) × (4357 < room) × (standing (Ok y) t ≡ feed_report p n t room)
unfolding feed_report progress_of
begins_at (Err s) n t room y e = absurd (let z : ◌≡◌ {A = ℕ} 0 1 = ap progress_number e in omega arith)
begins_at (Ok x) n t room y e = begins_go (first (feed_lines x.names n (length t) room)) x y n t room refl e

refused_report : (R : Report) (q : Refusal) (k : ℕ) → Err (fault q k) ≡ progress_of R → R ≡ refused_by q k
unfolding progress_of
refused_report (at s) q k e = absurd (let z : ◌≡◌ {A = ℕ} 1 0 = ap progress_number e in omega arith)
refused_report (refused_by x j) q k e =
    let z : ◌≡◌ {A = Fault} (fault q k) (fault x j) = cc in
    let a : q ≡ x = ap (λ (f : Fault). f.refusal) z in
    let b : k ≡ j = ap (λ (f : Fault). f.line) z in
    cc

module _ (f : Feed) (t h : List ℕ) (b : Progress) (is : b ≡ progress_of (feed_report f.progress f.held t (length h))) where
  begins : (y : Tally) → b ≡ Ok y → (f.held ≤ 4357) × (4357 < length h) × Running (streaming f t h) t (record { progress = b; held = f.held }) t h
  unfolding streaming
  begins y e =
      let d = begins_at f.progress f.held t (length h) y (sym e ∙ is) in
      (d.0, d.1, record { answer = is; stands = ap (λ (p : Progress). standing p t) e ∙ d.2; same = refl; held_is = refl })

  -- refused before the first byte
  fed_out : (s : List ℕ) (q : Refusal) (k : ℕ) (r : Feed) (t' h' : List ℕ) → b ≡ Err (fault q k) → Settled (record { progress = b; held = f.held }) t h r t' h' → TookBytes t h f s r t' h'
  unfolding streaming fed_by
  fed_out s q k r t' h' e z =
      let S = streaming f t h in
      let x = bytes_refused s S q k (refused_report S.report q k (sym e ∙ is)) in
      took f t h s r t' h'
      (subst (λ (R : Report). Rests (rested_by R (bytes_taken S s).held) t (length h) r t' h') (sym x)
      (rests_refused q k (bytes_taken S s).held t t h r t' h' refl (subst (λ (p : Progress). SettledBy p f.held t h r t' h') e z)))

  pub fed_refused : (s : List ℕ) (r : Feed) (t' h' : List ℕ) → is_err b ≡ true → Settled (record { progress = b; held = f.held }) t h r t' h' → TookBytes t h f s r t' h'
  fed_refused s r t' h' e z = go b refl e
    where
      go : (p : Progress) → b ≡ p → is_err p ≡ true → TookBytes t h f s r t' h'
      go (Ok y) q e = absurd (true≢false (sym e))
      go (Err x) q e = fed_out s x.refusal x.line r t' h' q z

  pub fed_begins : is_err b ≡ false → (f.held ≤ 4357) × (4357 < length h) × Running (streaming f t h) t (record { progress = b; held = f.held }) t h
  fed_begins e = go b refl e
    where
      go : (p : Progress) → b ≡ p → is_err p ≡ false → (f.held ≤ 4357) × (4357 < length h) × Running (streaming f t h) t (record { progress = b; held = f.held }) t h
      go (Ok y) q e = begins y q
      go (Err x) q e = absurd (true≢false e)

-- the bytes taken
pub fed_on : (f : Feed) (t h s : List ℕ) (g : Feed) (u v : List ℕ) (r : Feed) (t' h' : List ℕ) → Running (bytes_taken (streaming f t h) s) t g u v → g.held ≤ 4357 → 4357 < length h → length v ≡ length h
    → Settled g u v r t' h' → TookBytes t h f s r t' h'
unfolding fed_by
fed_on f t h s g u v r t' h' w a b e z =
    let S = bytes_taken (streaming f t h) s in
    took f t h s r t' h'
    (subst (λ (n : ℕ). Rests (rested_by S.report S.held) t n r t' h') e
    (rests S.report S.held t g u v r t' h' w.answer w.stands w.same w.held_is a (omega arith) z))

-- ---- the input's end

module _ (f : Feed) (h h' : List ℕ) (z : h' ≡ noughts (length h)) where
  pub ended_refused : (r : Refusal) (k : ℕ) → f.progress ≡ Err (fault r k) → FeedEnded h f f.progress h'
  unfolding ended_by
  ended_refused r k e = record { answer = rw e; held_is = z }

  module _ (y : Tally) (is : f.progress ≡ Ok y) (o : Outcome) (said : o ≡ or_else (not (eqb f.held 0)) MalformedText (Ok tt)) where
    pub ended_whole : o ≡ Ok tt → FeedEnded h f (Ok y) h'
    unfolding ended_by or_else
    ended_whole d = record { answer = whole (eqb f.held 0) (sym d ∙ said) ∙ ap (λ (p : Progress). ended_by p f.held) (sym is); held_is = z }
      where
        whole : (b : Bool) → Ok tt ≡ or_else (not b) MalformedText (Ok tt) → Ok y ≡ cond b (Ok y) (Err (fault MalformedText y.line))
        whole true q = refl
        whole false q = absurd (done_refused MalformedText q)

    pub ended_broken : (r : Refusal) → o ≡ Err r → FeedEnded h f (Err (fault r y.line)) h'
    unfolding ended_by or_else
    ended_broken r d = record { answer = broken (eqb f.held 0) (sym d ∙ said) ∙ ap (λ (p : Progress). ended_by p f.held) (sym is); held_is = z }
      where
        broken : (b : Bool) → Err r ≡ or_else (not b) MalformedText (Ok tt) → Err (fault r y.line) ≡ cond b (Ok y) (Err (fault MalformedText y.line))
        broken true q = absurd (done_refused r (sym q))
        broken false q = let e : ◌≡◌ {A = Refusal} r MalformedText = cc in ap (λ (x : Refusal). Err (fault x y.line)) e
