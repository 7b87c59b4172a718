-- `basis_store::row_zero` meets its contract: `leveled`.
use mathlib.Core.Path.{refl}
use Rattle.basis_store.proofs.Levels.{level_divide, level_half, leveled}
use Rattle.basis_store.proofs.row_zero.Goals as goal

pub quotient_in-l-requires : goal.quotient_in-l-requires
quotient_in-l-requires c = let g = c.requires in
    record { inp = level_divide g; modulus = g.modulus; sa = g.sk; sb = g.monic.size; blank = refl }

pub cross_in-requires : goal.cross_in-requires
cross_in-requires c = level_half c.requires c.quotient_in-l.ensures.quotient c.mix_in.ensures

pub returns : goal.returns
returns c = leveled c.requires c.quotient_in-l.ensures.quotient c.mix_in.ensures c.cross_in.ensures
