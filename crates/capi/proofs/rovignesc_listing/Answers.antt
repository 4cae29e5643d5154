-- `capi::rovignesc_listing` meets its contract. Assumes nothing.
use native.Mathlib.Omega.{arith}
use Rattle.capi.proofs.Calls.{listing_none, listing_made}
use Rattle.capi.proofs.rovignesc_listing.Goals as goal

pub shape_of-listing-then-bytes-lt1 : goal.shape_of-listing-then-bytes-lt1
shape_of-listing-then-bytes-lt1 c = c.clear-then-bytes-lt1.auto.out

pub shape_of-bytes-then-bytes-lt1 : goal.shape_of-bytes-then-bytes-lt1
shape_of-bytes-then-bytes-lt1 c = c.clear.auto.out

pub returns-then-bytes-lt1 : goal.returns-then-bytes-lt1
returns-then-bytes-lt1 c =
    listing_none _ _ _ _ c.clear.ensures c.if-bytes-lt1.true _ c.judge_bytes.ensures _ c.number.ensures _ c.clear-then-bytes-lt1.ensures

pub shape_of-listing : goal.shape_of-listing
shape_of-listing c = c.text_to_listing-listed.auto.out

pub returns : goal.returns
returns c =
    listing_made _ _ _ _ c.clear.ensures (omega (arith, c.if-bytes-lt1.false)) _ _ c.text_to_listing-listed.ensures _ c.bytes.ensures _ c.number_listed.ensures
