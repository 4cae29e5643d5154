-- What `weights` prints, the report reads: the listing of an accepted job text is one accepted job. Assumes nothing.
use Prim.Native.Nat.{ℕ, ◌≤◌}
use mathlib.Core.Path.{◌≡◌, refl, sym, ap, subst, ◌∙◌}
use mathlib.Core.Bool.{Bool, true, false, cond}
use mathlib.Core.List.{List, [], ◌∷◌, ◌++◌}
use mathlib.Core.Logic.{◌⊎◌, ⊎_elim}
use native.Mathlib.Omega.{arith}
use lib.Dec.{ltb}
use lib.ListN.{length, get_or}
use lib.Ieee.{Float}
use Rattle.refusal.specs.Table.{first, Outcome}
use Rattle.refusal.specs.declared.Refusal.TheVariants.{OverLimit, ShortBuffer, MalformedText}
use Rattle.refusal.proofs.Tables.{both_done, parts_done}
use Rattle.lent.specs.Grid.{tab}
use Rattle.lent.proofs.Laws.{length_tab}
use Rattle.fields.specs.Split.{newline, last_piece}
use Rattle.names.specs.Names.{is_name}
use Rattle.tree.proofs.Rows.{is_order_lem}
use Rattle.ceilings.specs.Figures.{are_given, are_unlike, figures_in, figures_lines}
use Rattle.ceilings.proofs.Totals.{total_places}
use Rattle.ceilings.proofs.Weighed.{figures_length, figures_total, figures_small}
use Rattle.reading.specs.Reading.{rows_in, assets, is_job, job_in, name_of, ceilings_in, text_lines}
use Rattle.reading.proofs.Table.{within, done_job, done_within}
use Rattle.reading.proofs.Accepted.{name_good, ceilings_like}
use Rattle.listing.specs.Listing.{ceiling_at, holding_at}
use Rattle.job.specs.declared.Form.TheVariants as form
use Rattle.job.specs.Job.{job_weights, job_order, text_table, job_outcome, listing_of, least_for}
use Rattle.job.proofs.Built.{Built, built}
use Rattle.job.proofs.Ends.{allocator_done, figures_done}
use Rattle.claims.specs.Printed.{printed_by, weights_print, month_of}
use Rattle.month.specs.Month.{Books, opening, at, refused_by, whole_lines, report_on, report_of}
use Rattle.claims.proofs.Parted.{ended, whole_lines_lem}
use Rattle.claims.proofs.Slips.{Limited}
use Rattle.claims.proofs.Taken.{listed_lines, listing_lines, tab_all, HasRoom, Printable, OneJob, page_free, page_taken}
use Rattle.claims.proofs.Months.{Print, listing_print, refusal_print, printed, names_of, Reported, TooMany, months_read, months_fit}
use Rattle.claims.proofs.Ceiled.{ceilings_most}
use Rattle.std.specs.Prelude.{Some, Ok, None, Err}

-- a ceiling from ceilings of which none is above a million
limited_at : (cs : List ℕ) (i : ℕ) → get_or cs i 0 ≤ 1000000 → Limited (ceiling_at cs i)
unfolding ceiling_at
limited_at cs i h = go (are_given cs)
  where
    go : (t : Bool) → Limited (cond t (Some (get_or cs i 0)) None)
    go true = h
    go false = tt

module _ (text : List ℕ) (room : ℕ) (done : job_outcome text form.Listing room ≡ Ok tt) where
  -- the text's weights, its ceilings, its leaf order and the names in that order
  abbrev ws : List Float
  ws = job_weights text (job_in text)

  abbrev cs : List ℕ
  cs = ceilings_in text

  abbrev order : List ℕ
  order = job_order text (job_in text)

  abbrev names : List (List ℕ)
  names = tab (length order) (λ k. name_of text (get_or order k 0))

  -- the text has a tree, an order and weights
  whole : Built text (job_in text)
  whole = built text (allocator_done text form.Listing room done)

  -- nothing in its table refuses it, so it is a job text, of at most 64 assets
  tabled : first (text_lines text) ≡ Ok tt
  unfolding job_outcome text_table
  tabled =
      let a : first (text_table text form.Listing room) ≡ (Ok tt) = (both_done _ _ done).0 in
      (parts_done ((ltb 65536 (length text), OverLimit) ∷ (ltb room (least_for form.Listing), ShortBuffer) ∷ []) (text_lines text) a).1

  job : is_job text ≡ true
  job = done_job text tabled

  few : assets text ≤ 64
  few = (within (rows_in text) (assets text) (done_within text job tabled)).0

  -- it has one ceiling for each asset, or none
  like : are_unlike cs (length ws) ≡ false
  like = rw whole.weighed (ceilings_like text)

  -- neither 13 nor 18 nor 20 refuses its figures
  passed : first (figures_lines ws cs) ≡ Ok tt
  passed = figures_done text form.Listing room done

  -- the records and the order that an accepted text has printed
  pub listing_printable : Printable (assets text) (name_of text) (holding_at ws cs) names
  unfolding holding_at
  listing_printable =
      let o = is_order_lem order (assets text) whole.each_once in
      record {
        some = whole.some;
        named = λ i l. name_good text i job l;
        small = λ i l. figures_small ws cs like passed i;
        limited = λ i l. limited_at cs i (ceilings_most text job i l);
        total = sym (total_places (figures_in ws cs) (assets text) (figures_length ws cs ∙ whole.weighed)) ∙ figures_total ws cs like passed;
        order_named = tab_all is_name (length order) (λ k. name_of text (get_or order k 0)) (λ k l. name_good text (get_or order k 0) job (o.low k (omega (arith, o.size))));
        each = length_tab (length order) (λ k. name_of text (get_or order k 0)) ∙ o.size;
      }

  -- a listing is lines, each ended by a newline
  pub listing_is : listing_of text ≡ ended newline (listed_lines (assets text) (name_of text) (holding_at ws cs) names)
  unfolding listing_of
  listing_is = listing_lines (name_of text) ws cs order ∙ ap (λ (n : ℕ). ended newline (listed_lines n (name_of text) (holding_at ws cs) names)) whole.weighed

  -- they are its whole lines, and nothing stands after the last newline
  pub listing_whole : (whole_lines (listing_of text) ≡ listed_lines (assets text) (name_of text) (holding_at ws cs) names) × (last_piece newline (listing_of text) ≡ [])
  listing_whole =
      let w = whole_lines_lem (listed_lines (assets text) (name_of text) (holding_at ws cs) names) (page_free listing_printable) in
      (ap whole_lines listing_is ∙ w.0, ap (last_piece newline) listing_is ∙ w.1)

  -- the listing of an accepted text is one accepted job to the report
  pub listing_taken : (s : Books) → HasRoom s (assets text) → OneJob s (whole_lines (listing_of text)) (assets text) 1
  listing_taken s r = subst (λ (ls : List (List ℕ)). OneJob s ls (assets text) 1) (sym listing_whole.0) (page_taken listing_printable r)

  -- and so what `weights` prints of it
  listing_page : Print (listing_of text) (assets text) 1
  listing_page = subst (λ (t : List ℕ). Print t (assets text) 1) (sym listing_is) (listing_print listing_printable (omega (arith, few)))

-- ---- what `weights` prints of any text

-- n where the text is accepted, else 0
abbrev pub if_accepted : Outcome → ℕ → ℕ
if_accepted (Ok _) n = n
if_accepted (Err r) n = 0

-- the names that it lists, and 1 if it is accepted
unfoldable pub names_listed : List ℕ → ℕ
unfolding job_outcome assets
names_listed text = if_accepted (job_outcome text form.Listing 8192) (assets text)

unfoldable pub one_accepted : List ℕ → ℕ
unfolding job_outcome
one_accepted text = if_accepted (job_outcome text form.Listing 8192) 1

-- each is one job to the report
pub weights_print_lem : (text : List ℕ) → Print (weights_print text) (names_listed text) (one_accepted text)
unfolding weights_print names_listed one_accepted
weights_print_lem text = go (job_outcome text form.Listing 8192) refl
  where
    go : (o : Outcome) → job_outcome text form.Listing 8192 ≡ o → Print (printed_by o (listing_of text)) (if_accepted o (assets text)) (if_accepted o 1)
    go (Ok _) e = listing_page text 8192 e
    go (Err r) e = refusal_print r

-- the report on the concatenated output of `weights` for any texts: each is counted, the accepted ones as accepted, or the report is refused by 9; never by 15
pub weights_reported : (texts : List (List ℕ)) → Reported weights_print names_listed one_accepted opening texts ⊎ TooMany weights_print names_listed one_accepted opening texts
weights_reported texts = months_read weights_print names_listed one_accepted weights_print_lem texts

-- of up to 200 texts whose listings have up to 256 names in all, each is counted
pub weights_counted : (texts : List (List ℕ)) → length texts ≤ 200 → names_of weights_print names_listed one_accepted texts ≤ 256 → Reported weights_print names_listed one_accepted opening texts
weights_counted texts f n = months_fit weights_print names_listed one_accepted weights_print_lem texts f n

-- that output as one text
month_printed : (texts : List (List ℕ)) → month_of texts ≡ printed weights_print names_listed one_accepted texts
unfolding month_of
month_printed [] = refl
month_printed (text ∷ texts) = ap (λ (m : List ℕ). weights_print text ++ m) (month_printed texts)

-- what `weights` printed is never "a line of another form", nor a job broken off, nor millionths that don't total 1,000,000
pub never_malformed : (texts : List (List ℕ)) (k : ℕ) → report_of (month_of texts) ≡ refused_by MalformedText k → ⊥
unfolding report_of
never_malformed texts k q =
    let e = ap (report_on (at opening)) (sym (month_printed texts)) ∙ q in
    ⊎_elim
    (λ r. let f = sym r.is ∙ e in let z : ◌≡◌ {A = ℕ} 0 1 = cc in omega arith)
    (λ r. let f = sym r.is ∙ e in let z : ◌≡◌ {A = ℕ} 0 1 = cc in omega arith)
    (weights_reported texts)
