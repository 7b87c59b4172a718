-- `field_next::next_w` meets its contract.
use Prim.Native.Nat.{ℕ, ◌≤◌, ◌<◌, ◌-◌, ◌*◌, ◌+◌, ◌%◌}
use native.Mathlib.Nat.{mod-lt}
use native.Mathlib.Omega.{arith}
use borrow.Author.Rules.{rules}
use Rattle.field_next.proofs.Sums.{product_small}
use Rattle.field_next.proofs.next_w.Goals as goal

one : (c : goal.Start) → c.args.a * c.args.x ≤ 4294836225
one c = product_small c.args.a c.args.x c.requires.a_stored (omega (arith, c.requires))

two : (c : goal.Start) → c.args.w * (c.args.p - c.args.y) ≤ 4294836225
two c = product_small c.args.w (c.args.p - c.args.y) c.requires.h_stored (omega (arith, c.requires))

abbrev sum : goal.Start → ℕ
sum c = 2 * c.args.a * c.args.x + c.args.w * (c.args.p - c.args.y)

low : (c : goal.Start) → sum c % c.args.p < c.args.p
low c = mod-lt (sum c) c.requires.pos

three : (c : goal.Start) → sum c % c.args.p * c.args.u ≤ 4294836225
three c = product_small (sum c % c.args.p) c.args.u (omega (arith, low c, c.requires)) (omega (arith, c.requires))

pub overflow_mul-result : goal.overflow_mul-result
overflow_mul-result c = omega (arith, c.requires)

pub overflow_mul-result-2 : goal.overflow_mul-result-2
overflow_mul-result-2 c = omega (arith, one c)

pub overflow_mul-result-3 : goal.overflow_mul-result-3
overflow_mul-result-3 c = omega (arith, two c)

pub overflow_add-result : goal.overflow_add-result
overflow_add-result c = omega (arith, one c, two c)

pub overflow_mul-result-4 : goal.overflow_mul-result-4
overflow_mul-result-4 c = omega (arith, three c)

pub returns : goal.returns
returns c = record { value = search rules; below = mod-lt (sum c % c.args.p * c.args.u) c.requires.pos }
