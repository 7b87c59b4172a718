use mathlib.Core.Path.{◌∙◌, sym}
use native.Mathlib.Omega.{arith}
use native.Mathlib.Nat.{mod-eq_of_lt, mod-eq-sub-mod}
use Rattle.num_mod.proofs.reduce_once.Goals as goal

pub returns-then-v-p : goal.returns-then-v-p
returns-then-v-p c = sym (mod-eq_of_lt c.if-v-p.true)

pub returns-else-v-p : goal.returns-else-v-p
returns-else-v-p c = sym (mod-eq-sub-mod c.if-v-p.false ∙ mod-eq_of_lt (omega arith))
