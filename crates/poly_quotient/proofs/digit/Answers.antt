-- `poly_quotient::digit` meets its contract.
use Prim.Native.Nat.{◌<◌, ◌-◌, ◌+◌, ◌%◌}
use mathlib.Core.Path.{ap₂}
use native.Mathlib.Omega.{arith}
use native.Mathlib.Nat.{mod-lt}
use Rattle.poly_quotient.proofs.digit.Goals as goal

pub overflow_sub-result : goal.overflow_sub-result
overflow_sub-result c = let p = c.args.p in
    omega (arith, mod-lt c.sum_at.result (let b : 0 < p = omega (arith, c.requires.modulus.prime.big) in b))

pub returns : goal.returns
returns c = let p = c.args.p in
    let pos : 0 < p = omega (arith, c.requires.modulus.prime.big) in
    record {
      below = mod-lt (c.sum_at-s.result + c.sum_at-t.result + c.sum_at-v.result + (p - c.sum_at.result % p)) pos;
      value = ap₂ (λ v w. (v + (p - w % p)) % p)
          (ap₂ ◌+◌ (ap₂ ◌+◌ c.sum_at-s.ensures.value c.sum_at-t.ensures.value) c.sum_at-v.ensures.value)
          c.sum_at.ensures.value;
    }
