-- `unit_norm::cubes` meets its contract.
use mathlib.Core.Path.{refl}
use Rattle.unit_norm.proofs.Norms.{cubes_from}
use borrow.Author.Rules.{rules}
use Rattle.unit_norm.proofs.cubes.Goals as goal

pub times-requires-3 : goal.times-requires-3
times-requires-3 c = record { modulus = c.requires.modulus; room = search rules; d_most = search rules }

pub times-requires-4 : goal.times-requires-4
times-requires-4 c = record { modulus = c.requires.modulus; room = search rules; d_most = search rules }

pub mix-requires : goal.mix-requires
mix-requires c = record { modulus = c.requires.modulus; g_most = search rules; h_most = search rules; d_most = search rules }

pub returns : goal.returns
returns c = cubes_from _ _ _ _ _ _ _ _ _ _ _ _ _ _ _ c.requires refl refl refl refl c.times.ensures c.times-2.ensures c.times-3.ensures
    c.times-4.ensures c.mix.ensures
