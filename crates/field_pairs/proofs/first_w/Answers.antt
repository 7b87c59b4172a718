-- `field_pairs::first_w` meets its contract.
use Prim.Native.Nat.{ℕ, ◌≤◌, ◌<◌, ◌*◌, ◌%◌}
use native.Mathlib.Nat.{mod-lt}
use native.Mathlib.Omega.{arith}
use borrow.Author.Rules.{rules}
use Rattle.field_next.proofs.Sums.{product_small}
use Rattle.field_pairs.proofs.first_w.Goals as goal

abbrev left : goal.Start → ℕ
left c = (c.args.g * c.args.h) % c.args.p

abbrev right : goal.Start → ℕ
right c = (c.args.c * c.args.u) % c.args.p

one : (c : goal.Start) → c.args.g * c.args.h ≤ 4294836225
one c = product_small c.args.g c.args.h c.requires.h_stored c.requires.a_stored

two : (c : goal.Start) → c.args.c * c.args.u ≤ 4294836225
two c = product_small c.args.c c.args.u (omega (arith, c.requires)) (omega (arith, c.requires))

low : (c : goal.Start) → left c < c.args.p
low c = mod-lt (c.args.g * c.args.h) c.requires.pos

three : (c : goal.Start) → left c * right c ≤ 4294836225
three c = let l : right c < c.args.p = mod-lt (c.args.c * c.args.u) c.requires.pos in product_small (left c) (right c) (omega (arith, low c, c.requires)) (omega (arith, c.requires))

pub overflow_mul-result : goal.overflow_mul-result
overflow_mul-result c = omega (arith, one c, two c, low c, three c, c.requires)

pub overflow_mul-result-2 : goal.overflow_mul-result-2
overflow_mul-result-2 c = omega (arith, one c, two c, low c, three c, c.requires)

pub overflow_mul-result-3 : goal.overflow_mul-result-3
overflow_mul-result-3 c = omega (arith, one c, two c, low c, three c, c.requires)

pub overflow_mul-result-4 : goal.overflow_mul-result-4
overflow_mul-result-4 c = omega (arith, one c, two c, low c, three c, c.requires)

pub returns : goal.returns
returns c = record { value = search rules; below = mod-lt (3 * left c * right c) c.requires.pos }
