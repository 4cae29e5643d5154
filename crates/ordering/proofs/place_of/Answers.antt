-- `ordering::place_of` meets its contract. Assumes nothing.
use Rattle.std.proofs.Common.{ℕ, ◌-◌, ◌<◌, sym, subst, arith}
use Rattle.arithmetic.specs.Arithmetic.{count_of}
use Rattle.ordering.proofs.Nearest.{product, place_in}
use Rattle.ordering.specs.Nearest.{place}
use Rattle.ordering.proofs.place_of.Goals as goal

pub nearest_whole-requires : goal.nearest_whole-requires
nearest_whole-requires c = (product c.args.q (c.args.n - 1) (omega arith) c.requires.part).0

pub returns : goal.returns
unfolding place count_of
returns c =
    let p = place_in c.args.q c.args.n c.requires.n_nonzero.0 (omega arith) c.requires.part in
    (c.nearest_whole.ensures, subst (λ (k : ℕ). k < c.args.n) (sym c.nearest_whole.ensures) p)
