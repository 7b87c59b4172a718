-- `field_next::next_r` meets its contract.
use Prim.Native.Nat.{◌≤◌, ◌<◌, ◌*◌, ◌+◌, ◌%◌}
use native.Mathlib.Nat.{mod-lt}
use native.Mathlib.Omega.{arith}
use borrow.Author.Rules.{rules}
use Rattle.field_next.proofs.Sums.{product_small}
use Rattle.field_next.proofs.next_r.Goals as goal

one : (c : goal.Start) → c.args.h * c.args.x ≤ 4294836225
one c = product_small c.args.h c.args.x c.requires.h_stored (omega (arith, c.requires))

two : (c : goal.Start) → c.args.a * c.args.y ≤ 4294836225
two c = product_small c.args.a c.args.y c.requires.a_stored (omega (arith, c.requires))

low : (c : goal.Start) → (c.args.h * c.args.x + c.args.a * c.args.y) % c.args.p < c.args.p
low c = mod-lt (c.args.h * c.args.x + c.args.a * c.args.y) c.requires.pos

three : (c : goal.Start) → (c.args.h * c.args.x + c.args.a * c.args.y) % c.args.p * c.args.u ≤ 4294836225
three c = product_small ((c.args.h * c.args.x + c.args.a * c.args.y) % c.args.p) c.args.u (omega (arith, low c, c.requires)) (omega (arith, c.requires))

pub overflow_mul-result : goal.overflow_mul-result
overflow_mul-result c = omega (arith, one c)

pub overflow_mul-result-2 : goal.overflow_mul-result-2
overflow_mul-result-2 c = omega (arith, two c)

pub overflow_add-result : goal.overflow_add-result
overflow_add-result c = omega (arith, one c, two c)

pub overflow_mul-result-3 : goal.overflow_mul-result-3
overflow_mul-result-3 c = omega (arith, three c)

pub returns : goal.returns
returns c = record { value = search rules; below = mod-lt ((c.args.h * c.args.x + c.args.a * c.args.y) % c.args.p * c.args.u) c.requires.pos }
