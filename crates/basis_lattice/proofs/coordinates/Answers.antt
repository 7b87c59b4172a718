-- `basis_lattice::coordinates` meets its contract: β and γ, then α.
use mathlib.Core.Path.{refl}
use Rattle.basis_lattice.proofs.Quotients.{both_asks, by_u, coords_made}
use Rattle.basis_lattice.proofs.coordinates.Goals as goal

pub outer-o-requires : goal.outer-o-requires
outer-o-requires c = let i = c.requires in
    record { va = _; na = _; inp = i.inp; blank_s = refl; blank_t = refl; blank_β = i.blank.b; blank_γ = i.blank.c }

pub both_in-n-requires : goal.both_in-n-requires
both_in-n-requires c = both_asks c.requires c.outer-o.ensures

pub quotient_in-la-requires : goal.quotient_in-la-requires
quotient_in-la-requires c = let i = c.requires in
    let d = c.both_in-n.ensures in
    by_u i.inp d.is_row d.size i.blank.a

pub returns : goal.returns
returns c = coords_made c.requires c.outer-o.ensures c.both_in-n.ensures c.quotient_in-la.ensures
