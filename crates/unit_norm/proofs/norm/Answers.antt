-- `unit_norm::norm` meets its contract.
use mathlib.Core.Path.{refl}
use Rattle.unit_norm.proofs.Norms.{norm_from}
use borrow.Author.Rules.{rules}
use Rattle.unit_norm.proofs.norm.Goals as goal

pub mix-requires : goal.mix-requires
mix-requires c = record { modulus = c.requires.modulus; g_most = search rules; h_most = search rules; d_most = search rules }

pub returns : goal.returns
returns c = norm_from _ _ _ _ _ _ _ _ _ _ _ _ _ _ c.requires refl refl refl c.times.ensures c.square.ensures c.cubes.ensures c.mix.ensures
