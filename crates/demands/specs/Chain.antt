-- Demand 3: "From the order of any accepted field, after any number of steps: the three basis elements times all minima passed lie in the
-- order, with a non-zero constant determinant; the denominator has degree below GH's, no coefficient polynomial a higher one; at closing,
-- unit times inverse is exactly 1."
--   After c                 what holds of a chain c of steps from the order
--   HandedOut p G H s d B   B is what calls of `order`, `step` and `walk` hand out, in any mixture and number, after s steps from the order
--                           with the degree sum d
--   Demand3                 the demand: of the theory's chains, of what the functions hand out, of the unit
-- How to read it: A says that the field is accepted; B₀ is the order's basis; a Chain of s steps ends in the basis B with the degree sum d.
-- The theorem `demand_3` is in proofs/Demand3.antt.
use Rattle.std.specs.Prelude.{◌≡◌, ◌⊎◌, List, ℕ, suc, ◌+◌, ◌*◌, length}
use Rattle.math_triple.specs.Mat3.{Mat, det}
use Rattle.math_valued.specs.Degree.{Lt}
use Rattle.math_valued.specs.Polynomial.{polys, IsUnit}
use Rattle.field_open.specs.Refusal.{Accepted}
use Rattle.math_ideals.specs.Setting.{Setting, P, d_gh}
use Rattle.math_ideals.specs.Element.{O, sc}
use Rattle.math_ideals.specs.Ideal.{Basis}
use Rattle.math_ideals.specs.Next.{Start}
use Rattle.math_chain.specs.Chain.{Chain, Product}
use Rattle.math_chain.specs.Convention.{Convention}
use Rattle.math_chain.specs.Unit.{UnitOf}
use Rattle.basis_record.specs.Record.{setting, basis_of, IsRecord}
use Rattle.door_order.specs.Answer.{OrderAnswer, Orders}
use Rattle.door_step.specs.Answer.{StepAnswer, Answers}
use Rattle.walk_chain.specs.Walk.{WalkAnswer, Walks}
use Rattle.door_unit.specs.Unit.{UnitAnswer, Makes}
use Rattle.unit_finish.specs.Rows.{six}

module _ (S : Setting) where
  open S use {𝓥}
  open (O S).ops use {mul as ◌⊗◌, 𝟏 as 1ₒ}

  infixl 70 ◌⊗◌
  -- the nine coordinates of three elements
  abbrev pub nine : (O S).El → (O S).El → (O S).El → Mat (P S)
  nine x y z = record { a₁ = x.a; a₂ = x.b; a₃ = x.c; b₁ = y.a; b₂ = y.b; b₃ = y.c; c₁ = z.a; c₂ = z.b; c₃ = z.c }

  pub record After {B₀ : Basis S} {s d : ℕ} {B : Basis S} (c : Chain S B₀ s d B) : Type 0 where
    -- E is the product of all minima passed; E · 1, E · m = Em and E · n = En lie in the order
    pub E : (O S).El
    pub Em : (O S).El
    pub En : (O S).El
    pub product : Product S c E
    pub times_m : E ⊗ B.M ≡ sc S B.U ⊗ Em
    pub times_n : E ⊗ B.N ≡ sc S B.U ⊗ En
    -- a polynomial with an inverse is a constant that is not 0
    pub determinant : IsUnit 𝓥 (det (polys 𝓥).ops (nine E Em En))
    pub denominator : Lt 𝓥 B.U.0 (d_gh S)
    pub M0 : Lt 𝓥 B.M.a.0 (suc (d_gh S))
    pub M1 : Lt 𝓥 B.M.b.0 (suc (d_gh S))
    pub M2 : Lt 𝓥 B.M.c.0 (suc (d_gh S))
    pub N0 : Lt 𝓥 B.N.a.0 (suc (d_gh S))
    pub N1 : Lt 𝓥 B.N.b.0 (suc (d_gh S))
    pub N2 : Lt 𝓥 B.N.c.0 (suc (d_gh S))

-- a walk hands out its basis when it closes and when its budget is spent
pub data HandedOut (p : ℕ) (G H : List ℕ) : ℕ → ℕ → List ℕ → Type 0 where
  by_order : (o : OrderAnswer) → Orders p G H o → o.refusal ≡ 0 → HandedOut p G H 0 0 o.basis
  by_step : {s d : ℕ} {B : List ℕ} (a : StepAnswer) →
      HandedOut p G H s d B →
      Answers p G H B a → a.refusal ≡ 0 →
      HandedOut p G H (suc s) (d + a.degree) a.basis
  by_walk : {s d : ℕ} {B : List ℕ} (n : ℕ) (w : WalkAnswer) →
      HandedOut p G H s d B →
      Walks p G H n B w → (w.refusal ≡ 0) ⊎ (w.refusal ≡ 10) →
      HandedOut p G H (s + w.steps) (d + w.sum) w.basis

pub record Demand3 : Type 0 where
  -- "From the order of any accepted field": the order has its basis, and from there goes a chain of every length
  pub order : {p : ℕ} {G H : List ℕ} (A : Accepted p G H) → (B₀ : Basis (setting A)) × Start (setting A) B₀
  pub any_steps :
      {p : ℕ} {G H : List ℕ} (A : Accepted p G H) (B₀ : Basis (setting A)) →
      Start (setting A) B₀ →
      (s : ℕ) → (d : ℕ) × (B : Basis (setting A)) × Chain (setting A) B₀ s d B
  pub after :
      {p : ℕ} {G H : List ℕ} (A : Accepted p G H) (B₀ : Basis (setting A)) →
      Start (setting A) B₀ →
      {s d : ℕ} {B : Basis (setting A)} (c : Chain (setting A) B₀ s d B) →
      After (setting A) c
  -- what the functions hand out is a record at the end of such a chain
  pub handed_out :
      {p s d : ℕ} {G H B : List ℕ} →
      HandedOut p G H s d B →
      Accepted p G H × IsRecord p G H B
      × ((A : Accepted p G H) (B₀ : Basis (setting A)) → Start (setting A) B₀
      → (c : Chain (setting A) B₀ s d (basis_of A B)) × After (setting A) c)
  -- "at closing, unit times inverse is exactly 1": of every closing chain, and of the rows that `unit` leaves in the slice, under each
  -- convention
  pub exactly_one :
      {p : ℕ} {G H : List ℕ} (A : Accepted p G H) (B₀ : Basis (setting A)) {k : Convention} {l d : ℕ} {E F : (O (setting A)).El} →
      UnitOf (setting A) k B₀ l d E F →
      (O (setting A)).ops.mul E F ≡ (O (setting A)).ops.𝟏
  pub rows_one :
      {i p n : ℕ} {G H rows scratch rows' scratch' : List ℕ} (m : UnitAnswer) →
      Makes i p G H n rows scratch m rows' scratch' → m.refusal ≡ 0 →
      (c : ℕ) × (length rows' ≡ 6 * c)
      × ((A : Accepted p G H) → (O (setting A)).ops.mul (six A c 0 rows') (six A c (c + c + c) rows') ≡ (O (setting A)).ops.𝟏)
