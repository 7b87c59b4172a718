-- `base_lists::unpadded` meets its contract.
use mathlib.Core.Path.{subst}
use native.Mathlib.Omega.{arith}
use Rattle.base_lists.specs.Coefficients.{Size}
use Rattle.base_lists.proofs.Paddings.{unpadded_size, unpadded_none}
use Rattle.base_lists.proofs.unpadded.Goals as goal

pub returns-then-s-room : goal.returns-then-s-room
returns-then-s-room c = unpadded_none (omega arith)

pub returns-else-s-room : goal.returns-else-s-room
returns-else-s-room c = unpadded_size (omega arith) (subst (Size c.args.s.now) (omega arith) c.size.ensures)
