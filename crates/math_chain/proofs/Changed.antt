-- A change of basis of pairs of polynomials: what the reduction does to the pairs c₁ r + c₂ w.
--   Pair            two polynomials
--   Changed p q m n  m = αp + βq and n = γp + δq, where αδ − βγ is a unit (crate math_triple)
--   changed_start _swap _mix _scale _then _back _det   as there
--   changed_of      `Moved`, the change that the loops of the reduction make (crate math_turns), is one
--   changed_alone   the pairs keep what divides them: no common factor before, none after
use mathlib.Core.Path.{◌≡◌, refl, ◌∙◌}
use Prim.Native.Nat.{ℕ}
use Rattle.math_ring.specs.Ring.{Hom}
use Rattle.math_triple.specs.Pairs as pairs
use Rattle.math_triple.specs.Pairs.{Pt}
use Rattle.math_triple.proofs.Pairs as pairs-laws
use Rattle.math_valued.specs.Val.{Valued}
use Rattle.math_valued.specs.Polynomial.{polys, Poly, Divides, IsUnit}
use Rattle.math_valued.proofs.Polynomial.{P_path}
use Rattle.math_valued.proofs.Gcds.{divides_mul, divides_add}
use Rattle.math_rows.specs.Reading.{Reading}
use Rattle.math_turns.specs.Points.{Moved}

module _ (𝓥 : Valued) where
  open (polys 𝓥).ops use {add as ◌⊞◌, mul as ◌⊠◌, neg as ⊟◌}

  infixl 60 ◌⊞◌
  infixl 70 ◌⊠◌
  infix 80 ⊟◌
  abbrev pub Pair : Type 0
  Pair = Pt (Poly 𝓥)

  abbrev pub Changed : Pair → Pair → Pair → Pair → Type 0
  Changed = pairs.Changed (polys 𝓥) (polys 𝓥) (λ a. a)

  abbrev itself : Hom (polys 𝓥).ops (polys 𝓥).ops (λ a. a)
  itself = record { add = λ x y. refl; mul = λ x y. refl; neg = λ x. refl; 𝟎 = refl; 𝟏 = refl }

  pub changed_start : (p q : Pair) → Changed p q p q
  changed_start = pairs-laws.changed_start (polys 𝓥) (polys 𝓥) (λ a. a) itself

  pub changed_swap : {p q m n : Pair} → Changed p q m n → Changed p q n m
  changed_swap t = pairs-laws.changed_swap (polys 𝓥) (polys 𝓥) (λ a. a) itself t

  pub changed_mix : (s e : Poly 𝓥) → IsUnit 𝓥 s → {m n m' : Pair} → m'.b ≡ s ⊠ m.b ⊞ e ⊠ n.b → m'.c ≡ s ⊠ m.c ⊞ e ⊠ n.c → Changed m n m' n
  changed_mix s e u = pairs-laws.changed_mix (polys 𝓥) (polys 𝓥) (λ a. a) itself s e u

  -- m and n times units
  abbrev pub times : Poly 𝓥 → Pair → Pair
  times s m = record { b = s ⊠ m.b; c = s ⊠ m.c }

  pub changed_scale : (s r : Poly 𝓥) (m n : Pair) → IsUnit 𝓥 s → IsUnit 𝓥 r → Changed m n (times s m) (times r n)
  changed_scale s r m n us ur = pairs-laws.changed_scale (polys 𝓥) (polys 𝓥) (λ a. a) itself s r us ur m n

  pub changed_then : {p q m n m' n' : Pair} → Changed p q m n → Changed m n m' n' → Changed p q m' n'
  changed_then t s = pairs-laws.changed_then (polys 𝓥) (polys 𝓥) (λ a. a) itself t s

  pub changed_back : {p q m n : Pair} → Changed p q m n → Changed m n p q
  changed_back t = pairs-laws.changed_back (polys 𝓥) (polys 𝓥) (λ a. a) itself t

  pub changed_det : {p q m n : Pair} (t : Changed p q m n) → m.b ⊠ n.c ⊞ ⊟ (m.c ⊠ n.b) ≡ (t.α ⊠ t.δ ⊞ ⊟ (t.β ⊠ t.γ)) ⊠ (p.b ⊠ q.c ⊞ ⊟ (p.c ⊠ q.b))
  changed_det t = pairs-laws.changed_det (polys 𝓥) (polys 𝓥) (λ a. a) itself t

  -- only units divide both pairs
  abbrev pub Alone : Pair → Pair → Type 0
  Alone p q = (d : Poly 𝓥) → Divides 𝓥 d p.b → Divides 𝓥 d p.c → Divides 𝓥 d q.b → Divides 𝓥 d q.c → IsUnit 𝓥 d

  pub changed_alone : {p q m n : Pair} → Changed p q m n → Alone p q → Alone m n
  changed_alone {p} {q} {m} {n} t alone d d₁ d₂ d₃ d₄ = alone d (back b.α b.β b.m_b d₁ d₃) (back b.α b.β b.m_c d₂ d₄) (back b.γ b.δ b.n_b d₁ d₃) (back b.γ b.δ b.n_c d₂ d₄)
    where
      b : Changed m n p q
      b = changed_back t

      back : (x y : Poly 𝓥) {u v z : Poly 𝓥} → z ≡ x ⊠ u ⊞ y ⊠ v → Divides 𝓥 d u → Divides 𝓥 d v → Divides 𝓥 d z
      back x y {u} {v} {z} e du dv = let (k, f) = divides_add 𝓥 d (x ⊠ u) (y ⊠ v) (divides_mul 𝓥 d u x du) (divides_mul 𝓥 d v y dv) in (k, e ∙ f)

-- the pairs as points of the series
module _ {p : ℕ} (ρ : Reading p) where
  open ρ use {𝓥}

  abbrev pub point_of : Pair 𝓥 → Pt 𝓥.L.El
  point_of m = record { b = m.b.0; c = m.c.0 }

  pub changed_of : (m n m' n' : Pair 𝓥) → Moved ρ (point_of m) (point_of n) (point_of m') (point_of n') → Changed 𝓥 m n m' n'
  changed_of m n m' n' h = record {
    α = h.α;
    β = h.β;
    γ = h.γ;
    δ = h.δ;
    unit = h.unit;
    m_b = P_path 𝓥 h.m_b;
    m_c = P_path 𝓥 h.m_c;
    n_b = P_path 𝓥 h.n_b;
    n_c = P_path 𝓥 h.n_c;
  }
