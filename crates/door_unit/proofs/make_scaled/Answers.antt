-- `door_unit::make_scaled` meets its contract.
use mathlib.Core.Path.{ap}
use borrow.Author.Rules.{rules}
use Rattle.unit_scale.specs.Scale.{numbered}
use Rattle.door_unit.proofs.Conventions.{turn_in, made_first, made_turned}
use Rattle.door_unit.proofs.make_scaled.Goals as goal

pub make-requires : goal.make-requires
make-requires c = c.requires.make

pub turn-requires : goal.turn-requires
turn-requires c = turn_in c.make.ensures c.requires

pub returns-in-Norm : goal.returns-in-Norm
returns-in-Norm c = search (rules, made_turned)

pub returns-in-Monic : goal.returns-in-Monic
returns-in-Monic c = made_first c.make.ensures (ap numbered c.in-Monic.is)
