-- There is one smallest unit.
--   least_unique       the least positive degree is one
--   smallest_unique    so is the smallest unit of positive degree, under each convention
--   constant_norm   an element of constant norm and of the least degree is a constant times it
use mathlib.Core.Path.{◌≡◌, sym, ap, ◌∙◌, subst}
use Prim.Native.Nat.{ℕ, ◌≤◌}
use native.Mathlib.Omega.{arith}
use native.Mathlib.Decide.{dec_le}
use Rattle.math_ring.proofs.Laws as rg
use Rattle.math_valued.specs.Degree.{Has}
use Rattle.math_valued.specs.Polynomial.{polys, IsUnit}
use Rattle.math_ideals.specs.Setting.{Setting, P}
use Rattle.math_ideals.specs.Element.{O, sc, ev, norm}
use Rattle.math_chain.specs.Convention.{Convention, Scaled}
use Rattle.math_chain.proofs.Scaling.{scaled_out, scale_unique}
use Rattle.math_fundamental.specs.Smallest.{Least, LeastDegree, Smallest}
use Rattle.math_fundamental.proofs.Units.{norm_invertible, same_degree}

module _ (S : Setting) where
  open S use {𝓥}
  open (polys 𝓥).ops use {𝟏 as 1ₚ}
  open (O S).ops use {mul as ◌⊗◌}

  infixl 70 ◌⊗◌
  -- a unit of positive degree has no smaller one than the least
  least_most : {c n : ℕ} {E E' : (O S).El} → Least S E c → Least S E' n → c ≤ n
  least_most {c} {n} {E} {E'} a b = elim (dec_le c n) [ yes l ↦ l | no l ↦ absurd (a.least E' b.unit n 0 b.degree b.positive (omega arith)) ]

  least_same : {c n : ℕ} {E E' : (O S).El} → Least S E c → Least S E' n → c ≡ n
  least_same a b = let l = least_most a b in let k = least_most b a in omega arith

  pub least_unique : (c n : ℕ) → LeastDegree S c → LeastDegree S n → c ≡ n
  least_unique c n (E, a) (E', b) = least_same a b

  pub constant_norm : {n : ℕ} {E : (O S).El} → Least S E n → (x : (O S).El) → IsUnit 𝓥 (norm S x) → Has 𝓥 (ev S x) n → (c : P S) × IsUnit 𝓥 c × (x ≡ sc S c ⊗ E)
  constant_norm {E = E} k x u h = same_degree S x E (norm_invertible S x u) k.unit h k.degree

  -- E = c E', and both are scaled
  pub smallest_unique : {k : Convention} {c n : ℕ} {E E' : (O S).El} → Smallest S k E c → Smallest S k E' n → (c ≡ n) × (E ≡ E')
  smallest_unique {k} {c} {n} {E} {E'} a b =
      let e : c ≡ n = least_same a.least b.least in
      let (s, u, f) = same_degree S E E' a.least.unit b.least.unit (subst (λ m. Has 𝓥 (ev S E) m) e a.least.degree) b.least.degree in
      let one : 1ₚ ≡ (polys 𝓥).ops.mul 1ₚ 1ₚ = sym ((polys 𝓥).laws.mul-one 1ₚ) in
      let E-one : E' ≡ sc S 1ₚ ⊗ E' = sym (rg.one-mul (O S) E') in
      let s-one : s ≡ 1ₚ = scale_unique S k E' s 1ₚ (scaled_out S k E' b.scaled) u (1ₚ, one) (subst (Scaled S k) f a.scaled) (subst (Scaled S k) E-one b.scaled) in
      (e, f ∙ ap (λ t. sc S t ⊗ E') s-one ∙ rg.one-mul (O S) E')
