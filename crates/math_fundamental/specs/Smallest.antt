-- The unit is the smallest one (request E8).
--   NoneBetween d       no unit of the order has a degree strictly between 0 and d
--   Least E d           E is a unit of the order, its degree d is positive, and no unit has a degree strictly between 0 and d
--   LeastDegree d       d is the least positive degree of a unit of the order
--   Smallest k E d      E is the smallest unit of positive degree scaled by the convention k, and d its degree
--   power E F i         E^i for any integer i, where F is the inverse of E
--   Powers E F          every unit of the order is a non-zero constant times a power of E, with one exponent and one constant
--   Fundamental E F d   F is the inverse of E, E has the least positive degree, and the units are the constants times the powers of E
-- A unit of the order is an element with an inverse in the order, `Invertible`. Its degree is that of its series: p − q, which may be
-- negative. Theorems: every unit has a degree (proofs/Units, `unit_has`); the unit of every closing chain is fundamental (proofs/Fundamental,
-- `unit_fundamental`); the smallest unit is one, and so is the least degree (proofs/Agree).
use Rattle.std.specs.Prelude.{◌≡◌, ℕ, suc, ◌+◌, ◌<◌, ℤ, pos, negsuc}
use Rattle.math_ring.specs.Power.{pow}
use Rattle.math_valued.specs.Degree.{HasDeg, Has}
use Rattle.math_valued.specs.Polynomial.{IsUnit}
use Rattle.math_ideals.specs.Setting.{Setting, P}
use Rattle.math_ideals.specs.Element.{O, sc, ev}
use Rattle.math_chain.specs.Convention.{Convention, Scaled}
use Rattle.math_chain.specs.Unit.{Invertible}

module _ (S : Setting) where
  open S use {𝓥}
  open (O S).ops use {mul as ◌⊗◌, 𝟏 as 1ₒ}

  infixl 70 ◌⊗◌
  -- "no unit of the order has a degree strictly between 0 and that of E": 0 < p − q < d
  abbrev pub NoneBetween : ℕ → Type 0
  NoneBetween d = (η : (O S).El) → Invertible S η → (p q : ℕ) → HasDeg 𝓥 (ev S η) p q → q < p → p < q + d → ⊥

  pub record Least (E : (O S).El) (d : ℕ) : Type 0 where
    pub unit : Invertible S E
    pub degree : Has 𝓥 (ev S E) d
    pub positive : 0 < d
    pub least : NoneBetween d

  abbrev pub LeastDegree : ℕ → Type 0
  LeastDegree d = (E : (O S).El) × Least E d

  pub record Smallest (k : Convention) (E : (O S).El) (d : ℕ) : Type 0 where
    pub least : Least E d
    pub scaled : Scaled S k E

  -- negsuc k is −(k + 1)
  abbrev pub power : (O S).El → (O S).El → ℤ → (O S).El
  power E F (pos k) = pow (O S) E k
  power E F (negsuc k) = pow (O S) F (suc k)

  pub record Powers (E F : (O S).El) : Type 0 where
    -- "every unit is a non-zero constant times a power of E, negative powers and the zeroth included"
    pub every : (η : (O S).El) → Invertible S η → (i : ℤ) × (c : P S) × IsUnit 𝓥 c × (η ≡ sc S c ⊗ power E F i)
    -- with one exponent and one constant
    pub one_way : (i j : ℤ) (b c : P S) → IsUnit 𝓥 b → IsUnit 𝓥 c → sc S b ⊗ power E F i ≡ sc S c ⊗ power E F j → (i ≡ j) × (b ≡ c)

  pub record Fundamental (E F : (O S).El) (d : ℕ) : Type 0 where
    pub inverse : E ⊗ F ≡ 1ₒ
    pub least : Least E d
    pub powers : Powers E F
