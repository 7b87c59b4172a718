-- `num_power::power` meets its contract. The loop's invariant: r b^n = a^e mod p, r and b below p. The measure is n.
use mathlib.Core.Path.{◌≡◌, ap, sym, ◌∙◌}
use Prim.Native.Nat.{◌+◌, ◌*◌, ◌/◌, ◌%◌, ◌^◌, ◌<◌}
use native.Mathlib.Nat.{mod-lt, mod-eq_of_lt, one-mul, mul-one, pow-zero, mod-add-div, div-lt_self}
use native.Mathlib.Omega.{arith}
use Rattle.math_fp.specs.Fp.{pow_mod}
use Rattle.math_fp.proofs.Value.{turn_even, turn_odd}
use Rattle.num_power.proofs.power.Goals as goal
use Rattle.num_power.proofs.power.Goals.{then-n-eq1, else-n-eq1}

pub loop-n-init : goal.loop-n-init
loop-n-init c = (omega arith, omega arith, ap (λ m. m % c.args.p) (one-mul (c.args.a ^ c.args.e)))

pub mul-r-requires : goal.mul-r-requires
mul-r-requires c = record { modulus = c.requires.modulus; left = omega arith; right = omega arith }

pub mul-b-requires : goal.mul-b-requires
mul-b-requires c = record { modulus = c.requires.modulus; left = omega arith; right = omega arith }

pub loop-n-smaller : goal.loop-n-smaller
loop-n-smaller c = div-lt_self (omega arith) (omega arith)

pub loop-n-preserved : goal.loop-n-preserved
loop-n-preserved c = let p = c.args.p in
    let r = c.loop-n.r in
    let b = c.loop-n.b in
    let n = c.loop-n.n in
    let s = c.if-n-eq1.r in
    let pos : 0 < p = omega arith in
    let half : n % 2 + 2 * (n / 2) ≡ n = mod-add-div n 2 in
    let turn : (s < p) × ((s * ((b * b) % p) ^ (n / 2)) % p ≡ (r * b ^ n) % p) = elim c.if-n-eq1.branch [
      | then-n-eq1 w ↦
          let e : s ≡ (r * b) % p = w.r-is ∙ w.mul-r.ensures in
          (omega (arith, mod-lt (r * b) pos), ap (λ m. (m * ((b * b) % p) ^ (n / 2)) % p) e ∙ turn_odd p pos r b n (n / 2) (omega (arith, w.if-n-eq1.true)))
      | else-n-eq1 w ↦
          let e : s ≡ r = w.r-is in
          (omega arith, ap (λ m. (m * ((b * b) % p) ^ (n / 2)) % p) e ∙ turn_even p pos r b n (n / 2) (omega (arith, w.if-n-eq1.false, mod-lt n {m = 2} (omega arith))))
    ] in
    (turn.0, omega (arith, c.mul-b.ensures, mod-lt (b * b) pos), ap (λ m. (s * m ^ (n / 2)) % p) c.mul-b.ensures ∙ turn.1 ∙ c.loop-n.invariant.2)

pub returns : goal.returns
unfolding pow_mod
returns c = let p = c.args.p in
    let r = c.loop-n.r in
    let b = c.loop-n.b in
    let z : c.loop-n.n ≡ 0 = omega arith in
    sym (mod-eq_of_lt c.loop-n.invariant.0)
    ∙ ap (λ m. m % p) (sym (mul-one r) ∙ ap (λ m. r * m) (sym (pow-zero b) ∙ ap (λ m. b ^ m) (sym z)))
    ∙ c.loop-n.invariant.2
