-- `unit_norm::square` meets its contract.
use mathlib.Core.Path.{refl}
use Rattle.unit_norm.proofs.Norms.{square_from}
use Rattle.unit_norm.proofs.square.Goals as goal

pub returns : goal.returns
returns c = square_from _ _ _ _ _ _ _ _ _ _ c.requires refl c.times.ensures c.scale.ensures c.mix.ensures
