-- Document 02, request 5: "Input is the concatenated output of `weights`". Definitions only.
use Rattle.std.specs.Prelude.{List, [], ◌++◌, ◌∷◌, ℕ, Ok, Err}
use Rattle.refusal.specs.Refusal.{number_of}
use Rattle.listing.specs.Listing.{least_listing, refusal_line}
use Rattle.job.specs.declared.Form.TheVariants as form
use Rattle.job.specs.Job.{job_outcome, listing_of}
use Rattle.refusal.specs.Table.{Outcome}

-- the listing, or "a refusal prints `refused`, tab, number"
abbrev pub printed_by : Outcome → List ℕ → List ℕ
printed_by (Ok _) l = l
printed_by (Err r) l = refusal_line (number_of r)

-- what `weights` prints of a text: it lends a buffer of 8,192 bytes
unfoldable pub weights_print : List ℕ → List ℕ
unfolding job_outcome listing_of
weights_print text = printed_by (job_outcome text form.Listing least_listing) (listing_of text)

-- what it prints of several, one after the other
unfoldable pub month_of : List (List ℕ) → List ℕ
unfolding weights_print
month_of [] = []
month_of (text ∷ texts) = weights_print text ++ month_of texts
