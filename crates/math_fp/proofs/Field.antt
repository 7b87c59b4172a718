-- The integers mod a prime are a field.
--   prime_unique     two proofs that p is prime are one
--   Fld p         the ring, at a prime
--   inverse       what is not 0 has an inverse: inv a = − (p / a) · inv (p mod a)
--   cancel_zero   no zero divisors
--   field p       the field: equality is decided, and `inverse`
use mathlib.Core.Path.{◌≡◌, sym, ap, ◌∙◌}
use mathlib.Core.Logic.{◌≢◌}
use mathlib.Core.HLevel.{Σ_prop_discrete, ⊥_prop}
use mathlib.Core.List.{[], ◌∷◌}
use Prim.Native.Nat.{ℕ, zero, suc, ◌*◌, ◌/◌, ◌%◌, ◌<◌, ◌≤◌}
use native.Mathlib.Nat.{mod-lt, mod-eq_of_lt, mod-add-div}
use native.Mathlib.Bridge.{le_prop}
use native.Mathlib.Omega.{arith}
use native.Mathlib.Decide.{dec_lt, ℕ_discrete}
use Rattle.math_ring.specs.Ring.{CRing}
use Rattle.math_ring.specs.Field.{Field}
use Rattle.math_ring.proofs.Solve.{var, one, zer, minus, ◌:+◌, ◌:*◌, hyp, solve_by}
use Rattle.math_fp.specs.Fp.{F, cls, Prime}
use Rattle.math_fp.proofs.Ring.{F_path, ring, cls_add, cls_mul, cls_p, cls_val}

pub prime_unique : {p : ℕ} (a b : Prime p) → a ≡ b
prime_unique {p} a b = λ i. record { big = le_prop {n = suc 1} {m = p} a.big b.big i; only = λ d h l z. ⊥_prop (a.only d h l z) (b.only d h l z) i }

module _ (p : ℕ) (pr : Prime p) where
  abbrev pub ppos : 0 < p
  ppos = (let h : 1 < p = pr.big in omega arith)

  abbrev pub Fld : CRing
  Fld = ring p ppos

  open Fld.ops use {add as ◌⊕◌, mul as ◌⊗◌, neg as ⊖◌, 𝟎, 𝟏}

  infixl 60 ◌⊕◌
  infixl 70 ◌⊗◌
  infix 80 ⊖◌
  abbrev c : ℕ → F p
  c = cls p ppos

  -- One step of the inverse: p = a q + r, so r = − q a, and an inverse s of r gives the inverse − q s of a.
  -- 1 − a(−q s) = .. : a · (−(q s)) − 1 = (r s − 1) − s (r + q a − 0)
  inv_step : (a q r s : F p) → r ⊕ a ⊗ q ≡ 𝟎 → r ⊗ s ≡ 𝟏 → a ⊗ ⊖ (q ⊗ s) ≡ 𝟏
  inv_step a q r s h k =
      let A = var 0 in let Q = var 1 in let W = var 2 in let S = var 3 in
      solve_by Fld (A :* minus (Q :* S)) one (hyp (minus S) (W :+ A :* Q) zer ∷ hyp one (W :* S) one ∷ []) tt (a ∷ q ∷ r ∷ s ∷ []) (h, (k, tt))

  -- p mod a + a (p / a) = p, in the field
  split : (a : ℕ) → c (p % a) ⊕ c a ⊗ c (p / a) ≡ 𝟎
  split a =
      ap (λ t. c (p % a) ⊕ t) (cls_mul p ppos a (p / a))
      ∙ cls_add p ppos (p % a) (a * (p / a))
      ∙ ap c (mod-add-div p a)
      ∙ cls_p p ppos

  inv_cases : (n a : ℕ) → 0 < a → a ≤ suc n → a < p
      → ((b : ℕ) → 0 < b → b ≤ n → b < p → (y : F p) × (c b ⊗ y ≡ 𝟏))
      → Dec (1 < a) → (y : F p) × (c a ⊗ y ≡ 𝟏)
  inv_cases n a h l k ih (no f) =
      let e : a ≡ 1 = omega arith in
      (𝟏, ap (λ t. c t ⊗ 𝟏) e ∙ Fld.laws.mul-one 𝟏)
  inv_cases n a h l k ih (yes g) =
      let m : p % a < a = mod-lt p h in
      let z : p % a ≢ 0 = pr.only a g k in
      let (s, e) = ih (p % a) (omega arith) (omega arith) (omega arith) in
      (⊖ (c (p / a) ⊗ s), inv_step (c a) (c (p / a)) (c (p % a)) s (split a) e)

  -- by induction on a bound of a
  inverses : (n a : ℕ) → 0 < a → a ≤ n → a < p → (y : F p) × (c a ⊗ y ≡ 𝟏)
  inverses zero a h l k = absurd (omega arith)
  inverses (suc n) a h l k = inv_cases n a h l k (inverses n) (dec_lt 1 a)

  -- every element but 0 has an inverse
  pub inverse : (x : F p) → x ≢ 𝟎 → (y : F p) × (x ⊗ y ≡ 𝟏)
  inverse x nz =
      let ne : x.0 ≢ 0 = (λ e. nz (F_path (e ∙ sym (mod-eq_of_lt ppos)))) in
      let b : x.0 < p = x.1 in
      let (y, e) = inverses x.0 x.0 (omega arith) (omega arith) b in
      (y, ap (λ t. t ⊗ y) (sym (cls_val p ppos x)) ∙ e)

  -- no zero divisors
  pub cancel_zero : (x y : F p) → x ≢ 𝟎 → x ⊗ y ≡ 𝟎 → y ≡ 𝟎
  cancel_zero x y nz h =
      let (w, e) = inverse x nz in
      let X = var 0 in let Y = var 1 in let W = var 2 in
      -- y − 0 = − y (x w − 1) + w (x y − 0)
      solve_by Fld Y zer (hyp (minus Y) (X :* W) one ∷ hyp W (X :* Y) zer ∷ []) tt (x ∷ y ∷ w ∷ []) (e, (h, tt))

  -- the field of p elements
  pub field : Field Fld
  field = record { dec = Σ_prop_discrete (λ (k : ℕ). le_prop {n = suc k} {m = p}) ℕ_discrete; inv = inverse }
