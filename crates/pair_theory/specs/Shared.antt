-- What two pairs of one field share, in the theory's words. For the answers of the functions see crate pair_answers.
--   Shared 𝓥 s s'   the orders of s and s' carry over, and with them bases, steps, chains, closings and units: the same number of steps,
--                   the same degree sums; so the two chains have one period, one regulator and, carried over, one unit
-- m carries over, and n up to its sign where the pairs are exchanged: that is `carry`, with σ = 1 in `Stretched` and σ = −1 in `Exchanged`.
-- `shared` in proofs/Shared.antt: two accepted pairs of one field share all of it.
use Rattle.std.specs.Prelude.{◌≡◌, ◌⊎◌, ℕ}
use Rattle.math_valued.specs.Val.{Valued}
use Rattle.math_ideals.specs.Ideal.{Basis}
use Rattle.math_ideals.specs.Basis.{Good}
use Rattle.math_ideals.specs.Next.{Next, Start}
use Rattle.math_chain.specs.Chain.{Degree, Chain, Open, Closing}
use Rattle.math_chain.specs.Convention.{Convention}
use Rattle.math_chain.specs.Unit.{UnitOf}
use Rattle.math_ideals.specs.Setting.{Roots, at}
use Rattle.math_carry.specs.Carries.{El, Carries, carry, Stretched, Exchanged}

pub record Shared (𝓥 : Valued) (s s' : Roots 𝓥) : Type 0 where
  pub map : Carries s s'
  pub rows : Stretched 𝓥 s s' map ⊎ Exchanged 𝓥 s s' map
  -- bases and steps
  pub good : (B : Basis (at s)) → Good (at s) B → Good (at s') (carry s s' map B)
  pub start : (B : Basis (at s)) → Start (at s) B → Start (at s') (carry s s' map B)
  pub degree : (B : Basis (at s)) {n : ℕ} → Degree (at s) B n → Degree (at s') (carry s s' map B) n
  pub next : (B C : Basis (at s)) → Next (at s) B C → Next (at s') (carry s s' map B) (carry s s' map C)
  -- chains
  pub chain : {B₀ B : Basis (at s)} {l n : ℕ} → Chain (at s) B₀ l n B → Chain (at s') (carry s s' map B₀) l n (carry s s' map B)
  pub stays_open : {B₀ : Basis (at s)} {l : ℕ} → Open (at s) B₀ l → Open (at s') (carry s s' map B₀) l
  pub closing : {B₀ B : Basis (at s)} {l n : ℕ} → Closing (at s) B₀ l n B → Closing (at s') (carry s s' map B₀) l n (carry s s' map B)
  pub unit : {k : Convention} {B₀ : Basis (at s)} {l n : ℕ} {E F : El 𝓥} → UnitOf (at s) k B₀ l n E F → UnitOf (at s') k (carry s s' map B₀) l n (map.to E) (map.to F)
  -- "the same period and regulator", and the unit, under each convention
  pub one_order : (B₀ : Basis (at s)) (B₀' : Basis (at s')) → Start (at s) B₀ → Start (at s') B₀' → carry s s' map B₀ ≡ B₀'
  pub one_period : (B₀ : Basis (at s)) (B₀' : Basis (at s')) → Start (at s) B₀ → Start (at s') B₀' →
      {l l' n n' : ℕ} {B : Basis (at s)} {B' : Basis (at s')} →
      Closing (at s) B₀ l n B → Closing (at s') B₀' l' n' B' →
      (l ≡ l') × (n ≡ n') × (carry s s' map B ≡ B')
  pub one_unit : (B₀ : Basis (at s)) (B₀' : Basis (at s')) → Start (at s) B₀ → Start (at s') B₀' →
      {k : Convention} {l l' n n' : ℕ} {E F E' F' : El 𝓥} →
      UnitOf (at s) k B₀ l n E F → UnitOf (at s') k B₀' l' n' E' F' →
      (l ≡ l') × (n ≡ n') × (map.to E ≡ E') × (map.to F ≡ F')
