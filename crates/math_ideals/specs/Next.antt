-- The ideal divided by m, the same ideal, and what makes an ideal the whole order: three uses of one relation.
--   Over Λ E B'   E · (Λ'/U') = Λ, where Λ'/U' is the lattice of B'
--   Next B B'     the ideal of B' is that of B divided by m
--   Same B B'     the ideals of B and B' are one
--   At B E        E · (Λ/U) = O: the ideal of B stands at E
--   Start B       B is the scaled reduced basis of the order O itself
-- Theorems: `over_same`, Λ and E settle the ideal; `next_unique`, a basis has one next, and the next ideal is reduced (proofs/Divided);
-- `unique`, one ideal has one basis (proofs/Unique).
use Rattle.std.specs.Prelude.{◌≡◌}
use Rattle.math_valued.specs.Polynomial.{polys}
use Rattle.math_ideals.specs.Setting.{Setting}
use Rattle.math_ideals.specs.Element.{O, sc}
use Rattle.math_ideals.specs.Ideal.{Basis, In}
use Rattle.math_ideals.specs.Basis.{Good}

module _ (S : Setting) where
  open S use {𝓥}
  open (O S).ops use {mul as ◌⊗◌}

  infixl 70 ◌⊗◌
  -- { E v : v in Λ' } = { U' u : u in Λ }
  pub record Over (Λ : (O S).El → Type 0) (E : (O S).El) (B' : Basis S) : Type 0 where
    pub into : (v : (O S).El) → In S B' v → (u : (O S).El) × Λ u × (E ⊗ v ≡ sc S B'.U ⊗ u)
    pub onto : (u : (O S).El) → Λ u → (v : (O S).El) × In S B' v × (E ⊗ v ≡ sc S B'.U ⊗ u)

  -- "to that ideal divided by m": m · (Λ'/U') = Λ/U, that is M · (Λ'/U') = Λ
  abbrev pub Next : Basis S → Basis S → Type 0
  Next B B' = Over (In S B) B.M B'

  -- Λ'/U' = Λ/U, that is U · (Λ'/U') = Λ
  abbrev pub Same : Basis S → Basis S → Type 0
  Same B B' = Over (In S B) (sc S B.U) B'

  -- all of the order
  abbrev pub Whole : (O S).El → Type 0
  Whole u = Unit {0}

  abbrev pub At : Basis S → (O S).El → Type 0
  At B E = Over Whole E B

  pub record Start (B : Basis S) : Type 0 where
    pub good : Good S B
    pub U_one : B.U ≡ (polys 𝓥).ops.𝟏
    pub whole : (u : (O S).El) → In S B u
