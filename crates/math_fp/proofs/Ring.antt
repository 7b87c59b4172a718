-- The integers mod p are a commutative ring, for every p > 0.
--   F_path       two classes are equal when their numbers are
--   cls_add ..   the class of a sum or product is that of the classes: every law goes this way, since it holds for the numbers
--   ring p       the ring
use mathlib.Core.Path.{◌≡◌, sym, ap, ◌∙◌}
use mathlib.Core.HLevel.{Σ_prop_path, Σ_set, prop→set}
use Prim.Native.Nat.{ℕ, suc, ◌+◌, ◌*◌, ◌-◌, ◌/◌, ◌%◌, ◌<◌, ◌≤◌}
use native.Mathlib.Nat.{ℕ_set, mod-eq_of_lt, mod_self, mod-add-mod, add-mod-mod, add_assoc, add_comm, add-zero, mul_assoc, mul_comm, mul-one, mul-add, add-mul, mod-add-div, add-mul-mod_self_left, add-sub_of_le}
use native.Mathlib.Bridge.{le_prop}
use native.Mathlib.Omega.{arith}
use Rattle.math_ring.specs.Ring.{Laws, CRing}
use Rattle.math_fp.specs.Fp.{F, cls, fops}

pub F_path : {p : ℕ} {x y : F p} → x.0 ≡ y.0 → x ≡ y
F_path {p} {x} {y} e = Σ_prop_path (λ (k : ℕ). le_prop {n = suc k} {m = p}) {u = x} {v = y} e

pub F_set : (p : ℕ) → IsSet (F p)
F_set p = Σ_set ℕ_set (λ k. prop→set (le_prop {n = suc k} {m = p}))

-- products mod p
pub mod_mul_mod : (a b p : ℕ) → (a % p * b) % p ≡ (a * b) % p
mod_mul_mod a b p =
    sym (add-mul-mod_self_left (a % p * b) p (a / p * b))
    ∙ ap (λ t. (a % p * b + t) % p) (sym (mul_assoc p (a / p) b))
    ∙ ap (λ t. t % p) (sym (add-mul (a % p) (p * (a / p)) b))
    ∙ ap (λ t. (t * b) % p) (mod-add-div a p)

pub mul_mod_mod : (a b p : ℕ) → (a * (b % p)) % p ≡ (a * b) % p
mul_mod_mod a b p =
    ap (λ t. t % p) (mul_comm a (b % p)) ∙ mod_mul_mod b a p ∙ ap (λ t. t % p) (mul_comm b a)

module _ (p : ℕ) (pos : 0 < p) where
  open fops p pos use {add as ◌⊕◌, mul as ◌⊗◌, neg as ⊖◌, 𝟎, 𝟏}

  infixl 60 ◌⊕◌
  infixl 70 ◌⊗◌
  infix 80 ⊖◌
  abbrev c : ℕ → F p
  c = cls p pos

  pub cls_val : (x : F p) → c x.0 ≡ x
  cls_val x = F_path (mod-eq_of_lt x.1)

  pub cls_add : (a b : ℕ) → c a ⊕ c b ≡ c (a + b)
  cls_add a b = F_path (mod-add-mod a p (b % p) ∙ add-mod-mod a b p)

  pub cls_mul : (a b : ℕ) → c a ⊗ c b ≡ c (a * b)
  cls_mul a b = F_path (mod_mul_mod a (b % p) p ∙ mul_mod_mod a b p)

  pub cls_p : c p ≡ 𝟎
  cls_p = F_path (mod_self p ∙ sym (mod-eq_of_lt pos))

  -- the laws
  fadd_assoc : (x y z : F p) → (x ⊕ y) ⊕ z ≡ x ⊕ (y ⊕ z)
  fadd_assoc x y z =
      F_path (mod-add-mod (x.0 + y.0) p z.0 ∙ ap (λ t. t % p) (add_assoc x.0 y.0 z.0) ∙ sym (add-mod-mod x.0 (y.0 + z.0) p))

  fmul_assoc : (x y z : F p) → (x ⊗ y) ⊗ z ≡ x ⊗ (y ⊗ z)
  fmul_assoc x y z =
      F_path (mod_mul_mod (x.0 * y.0) z.0 p ∙ ap (λ t. t % p) (mul_assoc x.0 y.0 z.0) ∙ sym (mul_mod_mod x.0 (y.0 * z.0) p))

  fadd_zero : (x : F p) → x ⊕ 𝟎 ≡ x
  fadd_zero x = F_path (add-mod-mod x.0 0 p ∙ ap (λ t. t % p) (add-zero x.0) ∙ mod-eq_of_lt x.1)

  fadd_neg : (x : F p) → x ⊕ ⊖ x ≡ 𝟎
  fadd_neg x =
      let le : x.0 ≤ p = (let h : x.0 < p = x.1 in omega arith) in
      F_path (add-mod-mod x.0 (p - x.0) p ∙ ap (λ t. t % p) (add-sub_of_le le)) ∙ cls_p

  fmul_one : (x : F p) → x ⊗ 𝟏 ≡ x
  fmul_one x = F_path (mul_mod_mod x.0 1 p ∙ ap (λ t. t % p) (mul-one x.0) ∙ mod-eq_of_lt x.1)

  fmul_add : (x y z : F p) → x ⊗ (y ⊕ z) ≡ x ⊗ y ⊕ x ⊗ z
  fmul_add x y z =
      F_path (mul_mod_mod x.0 (y.0 + z.0) p ∙ ap (λ t. t % p) (mul-add x.0 y.0 z.0))
      ∙ sym (cls_add (x.0 * y.0) (x.0 * z.0))

  -- shut: a proof unfolds the operations of `ring`, never its laws
  pub flaws : Laws (F p) (fops p pos)
  flaws = record {
    is_set = F_set p;
    add_assoc = fadd_assoc;
    add_comm = λ x y. F_path (ap (λ t. t % p) (add_comm x.0 y.0));
    add-zero = fadd_zero;
    add_neg = fadd_neg;
    mul_assoc = fmul_assoc;
    mul_comm = λ x y. F_path (ap (λ t. t % p) (mul_comm x.0 y.0));
    mul-one = fmul_one;
    mul-add = fmul_add;
  }

  abbrev pub ring : CRing
  ring = record { El = F p; ops = fops p pos; laws = flaws }
