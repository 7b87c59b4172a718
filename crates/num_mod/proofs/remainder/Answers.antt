-- `remainder` meets its contract: the quotient by one multiplication is right or one less.
use mathlib.Core.Path.{sym, subst}
use Prim.Native.Nat.{ℕ, ◌+◌, ◌*◌, ◌/◌, ◌<◌, ◌≤◌, ◌^◌}
use native.Mathlib.Omega.{arith}
use Rattle.num_mod.proofs.Quick.{not_above, nearly, left_small, left_large, fits, within}
use Rattle.num_mod.specs.Prepared.{Quick}
use borrow.Author.Rules.{rules}
use Rattle.num_mod.proofs.remainder.Goals as goal

low : (p m x : ℕ) → Quick p m x → x * m / 4398046511104 * p ≤ x
low p m x h = subst (λ (k : ℕ). x * k / 4398046511104 * p ≤ x) (sym h.scale) (not_above 4398046511104 p x h.pos (omega arith))

high : (p m x : ℕ) → Quick p m x → x < (x * m / 4398046511104 + 2) * p
high p m x h = subst (λ (k : ℕ). x < (x * k / 4398046511104 + 2) * p) (sym h.scale) (nearly 4398046511104 p x h.pos (omega arith) (within p x h.below h.small))

pub overflow_mul-q : goal.overflow_mul-q
overflow_mul-q c = let h : c.args.x * (4398046511104 / c.args.p) ≤ 4194240 * 4398046511104 = fits 4398046511104 c.args.p c.args.x c.requires.below c.requires.small in
    record { fits = subst (λ (k : ℕ). c.args.x * k < 2 ^ 64) (sym c.requires.scale) (omega arith) }

pub overflow_mul-r : goal.overflow_mul-r
overflow_mul-r c = record { fits = omega (arith, low c.args.p c.args.m c.args.x c.requires) }

pub overflow_sub-r : goal.overflow_sub-r
overflow_sub-r c = low c.args.p c.args.m c.args.x c.requires

pub returns-then-r-p : goal.returns-then-r-p
returns-then-r-p c = left_small c.args.p (c.args.x * c.args.m / 4398046511104) c.args.x
    (low c.args.p c.args.m c.args.x c.requires) (search rules)

pub returns-else-r-p : goal.returns-else-r-p
returns-else-r-p c = left_large c.args.p (c.args.x * c.args.m / 4398046511104) c.args.x
    (low c.args.p c.args.m c.args.x c.requires) (search rules)
    (high c.args.p c.args.m c.args.x c.requires)
