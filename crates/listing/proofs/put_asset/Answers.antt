-- `listing::put_asset` meets its contract: seven writes, one after the other. Assumes nothing.
use mathlib.Core.Path.{◌∙◌, ap}
use Rattle.writing.specs.Writing.{hex_of}
use Rattle.writing.proofs.Writing.{renamed_put}
use Rattle.listing.proofs.Lines.{line_put}
use Rattle.listing.proofs.put_asset.Goals as goal

pub shape_of-out : goal.shape_of-out
shape_of-out c = c.put_byte.auto.out ∙ c.put_ceiling-limited.auto.out ∙ c.put_decimal-counted.auto.out ∙ c.put_byte-parted.auto.out ∙ c.put_hex-weighed.auto.out ∙ c.put_byte-tabbed.auto.out ∙ c.put_bytes-named.auto.out

pub returns : goal.returns
returns c =
    let hex = renamed_put _ c.put_hex-weighed.ensures (ap hex_of c.to_bits.ensures) in
    line_put _ c.args.holding c.put_bytes-named.ensures c.put_byte-tabbed.ensures hex c.put_byte-parted.ensures c.put_decimal-counted.ensures c.put_ceiling-limited.ensures c.put_byte.ensures c.requires.name_len_bound c.requires.at_in_bounds
