-- The chain closes where U = 1, which is where the ideal is the whole order; then its basis is the order's own.
--   whole_of_one   U = 1: the lattice is the order
--   one_of_whole   1 in the lattice: U = 1
--   start_of_one   so a good basis with U = 1 is that of the order
--   closing_start  and the chain is back at its start
--   start_unique   the order has one basis
use mathlib.Core.Path.{◌≡◌, sym, ap, ◌∙◌}
use Rattle.math_ring.proofs.Laws as rg
use Rattle.math_ring.specs.Ring.{CRing}
use Rattle.math_ring.proofs.Solve.{one, ◌:*◌, ◌:=◌, ring₁}
use Rattle.math_valued.specs.Polynomial.{polys, Divides}
use Rattle.math_valued.proofs.Compare.{leads_one}
use Rattle.math_valued.proofs.Polynomial.{one_of, unit_const}
use Rattle.math_ideals.specs.Setting.{Setting, P}
use Rattle.math_ideals.specs.Element.{O, sc}
use Rattle.math_ideals.specs.Ideal.{Basis, In, det, Ideal}
use Rattle.math_ideals.specs.Basis.{Scaled, Good}
use Rattle.math_ideals.specs.Next.{Start}
use Rattle.math_ideals.proofs.Unique.{good_unique}
use Rattle.math_ideals.proofs.Determinant.{only_poly, det_divides}
use Rattle.math_ideals.proofs.Check.{in_of}

module _ (S : Setting) where
  open S use {𝓥}
  open 𝓥 use {L}
  open L.ops use {𝟏}
  open (polys 𝓥).ops use {add as ◌⊞◌, mul as ◌⊠◌, neg as ⊟◌, 𝟏 as 1ₚ}
  open (O S).ops use {mul as ◌⊗◌}

  infixl 60 ◌⊞◌
  infixl 70 ◌⊗◌ ◌⊠◌
  infix 80 ⊟◌
  abbrev R : CRing
  R = polys 𝓥

  -- e divides U = 1, so all three divisions of a membership are exact
  pub whole_of_one : (B : Basis S) → Ideal S B → Scaled S B → B.U ≡ 1ₚ → (v : (O S).El) → In S B v
  whole_of_one B ideal scaled U_one v = in_of S B ideal.rank v (record {
    α = v.a ⊞ ⊟ (exact.0 ⊠ (v.b ⊠ B.N.c ⊞ ⊟ (v.c ⊠ B.N.b)) ⊠ B.M.a ⊞ exact.0 ⊠ (v.c ⊠ B.M.b ⊞ ⊟ (v.b ⊠ B.M.c)) ⊠ B.N.a);
    β = exact.0 ⊠ (v.b ⊠ B.N.c ⊞ ⊟ (v.c ⊠ B.N.b));
    γ = exact.0 ⊠ (v.c ⊠ B.M.b ⊞ ⊟ (v.b ⊠ B.M.c));
    e_β = all (v.b ⊠ B.N.c ⊞ ⊟ (v.c ⊠ B.N.b));
    e_γ = all (v.c ⊠ B.M.b ⊞ ⊟ (v.b ⊠ B.M.c));
    U_α = by_one (v.a ⊞ ⊟ (exact.0 ⊠ (v.b ⊠ B.N.c ⊞ ⊟ (v.c ⊠ B.N.b)) ⊠ B.M.a ⊞ exact.0 ⊠ (v.c ⊠ B.M.b ⊞ ⊟ (v.b ⊠ B.M.c)) ⊠ B.N.a));
  })
    where
      exact : Divides 𝓥 (det S B) B.U
      exact = det_divides S B ideal scaled.seven

      by_one : (a : P S) → a ≡ B.U ⊠ a
      by_one a = sym (ap (λ t. t ⊠ a) U_one ∙ rg.one-mul R a)

      all : (a : P S) → a ≡ det S B ⊠ (exact.0 ⊠ a)
      all a = sym (rg.one-mul R a) ∙ ap (λ t. t ⊠ a) (sym U_one ∙ exact.1) ∙ R.laws.mul_assoc (det S B) exact.0 a

  pub one_of_whole : (B : Basis S) → Ideal S B → Scaled S B → In S B (sc S 1ₚ) → B.U ≡ 1ₚ
  one_of_whole B ideal scaled i =
      one_of 𝓥 B.U B.U.0 𝟏 𝟏 𝟏 _ (unit_const 𝓥 B.U (only_poly S B ideal 1ₚ i)) scaled.monic (leads_one 𝓥) (leads_one 𝓥) (leads_one 𝓥) (ring₁ L (λ u. u :* one := one :* (u :* one)) tt B.U.0)

  pub start_of_one : (B : Basis S) → Good S B → B.U ≡ 1ₚ → Start S B
  start_of_one B good e = record { good = good; U_one = e; whole = whole_of_one B good.ideal good.scaled e }

  pub start_unique : (B B' : Basis S) → Start S B → Start S B' → B ≡ B'
  start_unique B B' st st' = good_unique S B B' st.good st'.good (record {
    into = λ v i. (v, st.whole v, ap (λ t. sc S t ⊗ v) (st.U_one ∙ sym st'.U_one));
    onto = λ u i. (u, st'.whole u, ap (λ t. sc S t ⊗ u) (st.U_one ∙ sym st'.U_one));
  })

  -- the chain is back at its start
  pub closing_start : (B₀ B : Basis S) → Start S B₀ → Good S B → B.U ≡ 1ₚ → B₀ ≡ B
  closing_start B₀ B st good e = start_unique B₀ B st (start_of_one B good e)
