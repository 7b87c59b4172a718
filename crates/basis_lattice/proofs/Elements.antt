-- An element on rows, and in the theory.
--   quot_of, coords_from                    quotients on rows are the coordinates of the element that the rows stand for
--   times_g_is, times_h_is, times_gh_is     products with the rows that hold the field
use mathlib.Core.Path.{◌≡◌, sym, ap, ap₂, ◌∙◌}
use mathlib.Core.List.{List}
use Prim.Native.Nat.{ℕ}
use Rattle.math_valued.proofs.Polynomial.{P_path}
use Rattle.math_rows.specs.Reading.{Reading}
use Rattle.math_rows.specs.Made.{reading}
use Rattle.math_rows.specs.Row.{row}
use Rattle.poly_rows.specs.Leaf.{Product}
use Rattle.poly_lent.specs.Sized.{DetInGives}
use Rattle.math_ideals.specs.Element.{O}
use Rattle.math_ideals.specs.Ideal.{Coords}
use Rattle.field_open.specs.Refusal.{Accepted}
use Rattle.basis_record.specs.Record.{setting}
use Rattle.basis_record.specs.Seven.{rows_of, Holds}
use Rattle.basis_record.specs.declared.Seven.{Seven}
use Rattle.basis_lattice.specs.Coordinates.{Quotients}

-- ---- the exact quotients: an element on rows, and in coordinates
module _ {p : ℕ} {G H : List ℕ} (σ : Accepted p G H) (b : Seven) {e : List ℕ} {k : ℕ} (de : DetInGives p b.m1 b.n2 b.m2 b.n1 e k) where
  abbrev ρ₁ : Reading p
  ρ₁ = reading p σ.prime

  open (reading p σ.prime).𝓥.L.ops use {add as ◌⊕◌, mul as ◌⊗◌, neg as ⊖◌}

  infixl 60 ◌⊕◌
  infixl 70 ◌⊗◌
  infix 80 ⊖◌
  module _ {xa xb xc : List ℕ} (v : (O (setting σ)).El) (ea : row ρ₁ xa ≡ v.a.0) (eb : row ρ₁ xb ≡ v.b.0) (ec : row ρ₁ xc ≡ v.c.0) where
    pub quot_of : (q : Coords (setting σ) (rows_of σ b) v) → Quotients σ.prime xa xb xc b e q.α.0 q.β.0 q.γ.0
    quot_of q = record {
      α_poly = q.α.1;
      β_poly = q.β.1;
      γ_poly = q.γ.1;
      e_β = ap₂ (λ s t. s ⊗ row ρ₁ b.n2 ⊕ ⊖ (t ⊗ row ρ₁ b.n1)) eb ec ∙ ap (λ t. t.0) q.e_β ∙ ap (λ t. t ⊗ q.β.0) (sym (de.law σ.prime));
      e_γ = ap₂ (λ s t. t ⊗ row ρ₁ b.m1 ⊕ ⊖ (s ⊗ row ρ₁ b.m2)) eb ec ∙ ap (λ t. t.0) q.e_γ ∙ ap (λ t. t ⊗ q.γ.0) (sym (de.law σ.prime));
      U_α = ap (λ t. t ⊕ ⊖ (q.β.0 ⊗ row ρ₁ b.m0 ⊕ q.γ.0 ⊗ row ρ₁ b.n0)) ea ∙ ap (λ t. t.0) q.U_α;
    }

    pub coords_from : {α β γ : (reading p σ.prime).𝓥.L.El} → Quotients σ.prime xa xb xc b e α β γ → Coords (setting σ) (rows_of σ b) v
    coords_from {α} {β} {γ} q = record {
      α = (α, q.α_poly);
      β = (β, q.β_poly);
      γ = (γ, q.γ_poly);
      e_β = P_path ρ₁.𝓥 (sym (ap₂ (λ s t. s ⊗ row ρ₁ b.n2 ⊕ ⊖ (t ⊗ row ρ₁ b.n1)) eb ec) ∙ q.e_β ∙ ap (λ t. t ⊗ β) (de.law σ.prime));
      e_γ = P_path ρ₁.𝓥 (sym (ap₂ (λ s t. t ⊗ row ρ₁ b.m1 ⊕ ⊖ (s ⊗ row ρ₁ b.m2)) eb ec) ∙ q.e_γ ∙ ap (λ t. t ⊗ γ) (de.law σ.prime));
      U_α = P_path ρ₁.𝓥 (sym (ap (λ t. t ⊕ ⊖ (β ⊗ row ρ₁ b.m0 ⊕ γ ⊗ row ρ₁ b.n0)) ea) ∙ q.U_α);
    }

-- products with the rows that hold the field
module _ {p : ℕ} {G H : List ℕ} (σ : Accepted p G H) {g h gh : List ℕ} (k : Holds σ g h gh) where
  open (reading p σ.prime).𝓥.L.ops use {mul as ◌⊗◌}

  infixl 70 ◌⊗◌
  pub times_g_is : {x z : List ℕ} → Product p x g z → row (reading p σ.prime) z ≡ row (reading p σ.prime) x ⊗ row (reading p σ.prime) G
  times_g_is {x} hz = hz.law σ.prime ∙ ap (λ t. row (reading p σ.prime) x ⊗ t) k.g_is

  pub times_h_is : {x z : List ℕ} → Product p x h z → row (reading p σ.prime) z ≡ row (reading p σ.prime) x ⊗ row (reading p σ.prime) H
  times_h_is {x} hz = hz.law σ.prime ∙ ap (λ t. row (reading p σ.prime) x ⊗ t) k.h_is

  pub times_gh_is : {x z : List ℕ} → Product p x gh z → row (reading p σ.prime) z ≡ row (reading p σ.prime) x ⊗ (row (reading p σ.prime) G ⊗ row (reading p σ.prime) H)
  times_gh_is {x} hz = hz.law σ.prime ∙ ap (λ t. row (reading p σ.prime) x ⊗ t) k.gh_is
