-- The chain from the order is complete.
--   Reached B₀ J E n   the chain from B₀ passes the basis J with the degree sum n, and E is a non-zero constant times the product of the m
--                      passed up to there
--   Completeness       a reduced ideal J with E·J = O and deg E ≥ 0 is a member of the chain, at the one place with that degree, and E is
--                      the product of the minima passed there up to a constant
-- The chain may close on its way, as often as it likes: nothing here asks that it does. Theorem `completeness` (proofs/Complete).
use Rattle.std.specs.Prelude.{◌≡◌, ℕ}
use Rattle.math_valued.specs.Degree.{Has}
use Rattle.math_valued.specs.Polynomial.{IsUnit}
use Rattle.math_ideals.specs.Setting.{Setting, P}
use Rattle.math_ideals.specs.Element.{O, sc, ev}
use Rattle.math_ideals.specs.Ideal.{Basis}
use Rattle.math_ideals.specs.Basis.{Good}
use Rattle.math_ideals.specs.Next.{At, Start}
use Rattle.math_chain.specs.Chain.{Chain, Product, tops, bottoms}

module _ (S : Setting) where
  open S use {𝓥}
  open (O S).ops use {mul as ◌⊗◌}

  infixl 70 ◌⊗◌
  pub record Reached (B₀ J : Basis S) (E : (O S).El) (n : ℕ) : Type 0 where
    pub steps : ℕ
    pub chain : Chain S B₀ steps n J
    -- E = scale · Π M / Π U, and scale is a constant that is not 0
    pub scale : P S
    pub is_a_unit : IsUnit 𝓥 scale
    pub product : sc S (bottoms S chain) ⊗ E ≡ sc S scale ⊗ tops S chain

  pub record Completeness : Type 0 where
    -- a reduced ideal J with E·J = O and deg E ≥ 0 is a member of the chain
    pub member :
        (B₀ : Basis S) → Start S B₀ →
        (J : Basis S) → Good S J →
        (E : (O S).El) → At S J E →
        (n : ℕ) → Has 𝓥 (ev S E) n →
        Reached B₀ J E n
    -- at the one place with that degree
    pub one_place :
        (B₀ : Basis S) → Start S B₀ →
        {s s' n : ℕ} {B B' : Basis S} → Chain S B₀ s n B → Chain S B₀ s' n B' →
        (s ≡ s') × (B ≡ B')
    -- and E is the product of the minima passed there up to a constant
    pub up_to_a_constant :
        (B₀ J : Basis S) (E Eⱼ : (O S).El) {n : ℕ} (r : Reached B₀ J E n) → Product S r.chain Eⱼ →
        E ≡ sc S r.scale ⊗ Eⱼ
