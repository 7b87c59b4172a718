-- Leading coefficients: the cube root of g h², and the inverse of 3 c².
--   lead_root_is, thrice_inverse_is   what the calls hand out is what is asked
use mathlib.Core.Path.{◌≡◌, sym, ap, ◌∙◌}
use Prim.Native.Nat.{ℕ, ◌*◌, ◌%◌, ◌≤◌, ◌<◌}
use native.Mathlib.Nat.{mod-lt, mod-eq_of_lt}
use native.Mathlib.Decide.{ℕ_discrete}
use native.Mathlib.Omega.{arith}
use Rattle.math_fp.proofs.Ring.{mul_mod_mod, mod_mul_mod}
use Rattle.math_fp.proofs.Field.{ppos}
use Rattle.math_rows.specs.Made.{reading}
use Rattle.math_rows.proofs.Numbers.{product_some}
use Rattle.num_mod.specs.Residue.{IsModulus}
use Rattle.num_power.specs.Powers.{Nonzero, Inverse, CubeRoot}
use Rattle.field_fill.specs.Fill.{Leads, LeadRoot, ThriceInverse}

pub modulus_of : {p g h : ℕ} → Leads p g h → IsModulus p
modulus_of l = record { big = l.prime.big; small = (omega (arith, l.small)) }

module _ {p g h : ℕ} (l : Leads p g h) where
  pos : 0 < p
  pos = ppos p l.prime

  pub lead_root_is : (c : ℕ) → CubeRoot p ((g * ((h * h) % p)) % p) c → LeadRoot p g h c
  lead_root_is c r = record { some = go (ℕ_discrete c 0); below = r.below; law = r.law ∙ mul_mod_mod g (h * h) p }
    where
      square : 0 < (h * h) % p
      square = product_some (reading p l.prime) h h l.h_some l.h_below l.h_some l.h_below

      some : 0 < (g * ((h * h) % p)) % p
      some = product_some (reading p l.prime) g ((h * h) % p) l.g_some l.g_below square (mod-lt (h * h) pos)

      go : Dec (c ≡ 0) → 0 < c
      go (yes z) = let e : 0 ≡ (g * ((h * h) % p)) % p = sym (mod-eq_of_lt pos) ∙ ap (λ x. (x * x * x) % p) (sym z) ∙ r.law in absurd (omega (arith, some))
      go (no z) = omega arith

-- three times the square of c, a number that is not 0
pub thrice_some : {p c : ℕ} → Leads p c c → Nonzero p ((3 * ((c * c) % p)) % p)
thrice_some {p} {c} l =
    let q : 0 < p = ppos p l.prime in
    let s : 0 < (c * c) % p = product_some (reading p l.prime) c c l.g_some l.g_below l.g_some l.g_below in
    record {
      modulus = modulus_of l;
      prime = l.prime;
      pos = product_some (reading p l.prime) 3 ((c * c) % p) (omega arith) (let b : 5 ≤ p = l.low in omega arith) s (mod-lt (c * c) q);
      below = mod-lt (3 * ((c * c) % p)) q;
    }

pub thrice_inverse_is : {p c : ℕ} → Leads p c c → (u : ℕ) → Inverse p ((3 * ((c * c) % p)) % p) u → ThriceInverse p c u
thrice_inverse_is {p} {c} l u r = record {
  below = r.below;
  law = sym (mod_mul_mod (3 * (c * c)) u p) ∙ ap (λ x. (x * u) % p) (sym (mul_mod_mod 3 (c * c) p)) ∙ r.law ∙ sym (mod-eq_of_lt l.prime.big);
}
