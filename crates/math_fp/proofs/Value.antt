-- The field's facts read at numbers, in the words of the code's contracts.
--   turn_even, turn_odd      one turn of a power by squaring
--   inverse_value            a^(p − 2) is an inverse of a mod p
--   inverse_mod_unique             an inverse below p is one
--   root_value, root_mod_unique    a^((2p − 1)/3) is the one cube root of a below p, where p mod 3 = 2
use mathlib.Core.Path.{◌≡◌, refl, sym, ap, ◌∙◌}
use Prim.Native.Nat.{ℕ, suc, ◌+◌, ◌*◌, ◌-◌, ◌%◌, ◌^◌, ◌<◌}
use native.Mathlib.Nat.{mod-eq_of_lt, mod-lt, mod-mod, mul-one, mul_comm, mul_assoc, pow-suc}
use native.Mathlib.Omega.{arith}
use Rattle.math_ring.specs.Power.{pow}
use Rattle.math_ring.proofs.Power.{pow_add, mul_pow}
use Rattle.math_fp.specs.Fp.{F, Prime, cls, pow_mod, third}
use Rattle.math_fp.proofs.Ring.{F_path, ring, cls_mul, cls_val, mod_mul_mod, mul_mod_mod}
use Rattle.math_fp.proofs.Field.{Fld, ppos}
use Rattle.math_fp.proofs.Fermat.{pow_cls, fermat_inverse}
use Rattle.math_fp.proofs.Cube.{cube_root, root_cube}

pub pow_mod_below : (p a e : ℕ) → 0 < p → pow_mod p a e < p
unfolding pow_mod
pow_mod_below p a e pos = mod-lt (a ^ e) pos

-- ---- squaring: b^(2k) and b^(2k + 1) from the square of b, reduced
module _ (p : ℕ) (pos : 0 < p) where
  open (ring p pos).ops use {mul as ◌⊗◌}

  infixl 70 ◌⊗◌
  abbrev c : ℕ → F p
  c = cls p pos

  -- (b² mod p)^k = b^(k + k)
  square_pow : (b k : ℕ) → c (((b * b) % p) ^ k) ≡ c (b ^ (k + k))
  square_pow b k =
      sym (pow_cls p pos ((b * b) % p) k)
      ∙ ap (λ t. pow (ring p pos) t k) (F_path (mod-mod (b * b) p) ∙ sym (cls_mul p pos b b))
      ∙ mul_pow (ring p pos) (c b) (c b) k
      ∙ sym (pow_add (ring p pos) (c b) k k)
      ∙ pow_cls p pos b (k + k)

  -- one turn at an even and at an odd exponent: what is left of the product r b^n
  pub turn_even : (r b n k : ℕ) → n ≡ k + k → (r * ((b * b) % p) ^ k) % p ≡ (r * b ^ n) % p
  turn_even r b n k e =
      ap (λ (x : F p). x.0)
      (sym (cls_mul p pos r (((b * b) % p) ^ k))
      ∙ ap (λ t. c r ⊗ t) (square_pow b k ∙ ap (λ m. c (b ^ m)) (sym e))
      ∙ cls_mul p pos r (b ^ n))

  pub turn_odd : (r b n k : ℕ) → n ≡ suc (k + k) → ((r * b) % p * ((b * b) % p) ^ k) % p ≡ (r * b ^ n) % p
  turn_odd r b n k e =
      turn_even ((r * b) % p) b (k + k) k refl
      ∙ mod_mul_mod (r * b) (b ^ (k + k)) p
      ∙ ap (λ m. m % p)
      (mul_assoc r b (b ^ (k + k))
      ∙ ap (λ m. r * m) (mul_comm b (b ^ (k + k)) ∙ sym (pow-suc b (k + k)) ∙ ap (λ m. b ^ m) (sym e)))

-- ---- the inverse and the cube root, as powers
module _ (p : ℕ) (pr : Prime p) (a : ℕ) (l : a < p) where
  abbrev x : F p
  x = (a, l)

  value : (e : ℕ) → pow (Fld p pr) x e ≡ cls p (ppos p pr) (a ^ e)
  value e = ap (λ t. pow (Fld p pr) t e) (sym (cls_val p (ppos p pr) x)) ∙ pow_cls p (ppos p pr) a e

  pub inverse_value : 0 < a → (a * pow_mod p a (p - 2)) % p ≡ 1
  unfolding pow_mod
  inverse_value h =
      ap (λ (y : F p). (a * y.0) % p) (sym (value (p - 2)))
      ∙ ap (λ (y : F p). y.0) (fermat_inverse p pr x (λ e. let z : a ≡ 0 = ap (λ (y : F p). y.0) e ∙ mod-eq_of_lt (ppos p pr) in omega arith))
      ∙ mod-eq_of_lt pr.big

  pub inverse_mod_unique : (r s : ℕ) → r < p → s < p → (a * r) % p ≡ 1 → (a * s) % p ≡ 1 → r ≡ s
  inverse_mod_unique r s h k e f =
      sym (mod-eq_of_lt h)
      ∙ ap (λ n. n % p) (sym (mul-one r))
      ∙ ap (λ n. (r * n) % p) (sym f)
      ∙ mul_mod_mod r (a * s) p
      ∙ ap (λ n. n % p) (let g : r * (a * s) ≡ s * (a * r) = omega arith in g)
      ∙ sym (mul_mod_mod s (a * r) p)
      ∙ ap (λ n. (s * n) % p) e
      ∙ ap (λ n. n % p) (mul-one s)
      ∙ mod-eq_of_lt k

  module _ (m : p % 3 ≡ 2) where
    pub root_value : (r : ℕ) → r ≡ pow_mod p a (third p) → (r * r * r) % p ≡ a
    unfolding pow_mod
    root_value r e =
        sym (mod_mul_mod (r * r) r p)
        ∙ ap (λ n. ((n * n) % p * n) % p) (e ∙ ap (λ (y : F p). y.0) (sym (value (third p))))
        ∙ ap (λ (y : F p). y.0) (cube_root p pr m x)

    pub root_mod_unique : (r : ℕ) → r < p → (r * r * r) % p ≡ a → r ≡ pow_mod p a (third p)
    unfolding pow_mod
    root_mod_unique r h e =
        ap (λ (y : F p). y.0)
        (sym (root_cube p pr m (r, h))
        ∙ ap (λ t. pow (Fld p pr) t (third p)) (F_path (mod_mul_mod (r * r) r p ∙ e))
        ∙ value (third p))
