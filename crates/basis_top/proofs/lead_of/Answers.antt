-- `basis_top::lead_of` meets its contract: `top_led`.
use native.Mathlib.Omega.{arith}
use Rattle.basis_top.proofs.Tops.{part_lt, top_led}
use Rattle.basis_top.proofs.lead_of.Goals as goal

pub top_of-requires : goal.top_of-requires
top_of-requires c = record { inp = c.requires.inp; fits = omega arith; room = omega arith; ends = part_lt c.args.minus c.requires.inp }

pub returns : goal.returns
returns c = top_led c.top_of.ensures
