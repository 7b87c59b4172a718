-- Two settings that carry over have one period, one degree sum, and one unit up to φ.
--   start_same     the order's basis goes to the order's basis
--   chain_over open_over closing_over unit_over   chains, closings and units from the one start to the other
--   closing_same   the first closings agree: the same steps, the same degree sum, and the last basis goes to the last basis
--   unit_same      the unit of the second is φ of the unit of the first, and so is its inverse
use mathlib.Core.Path.{◌≡◌, subst}
use Prim.Native.Nat.{ℕ}
use Rattle.math_valued.specs.Val.{Valued}
use Rattle.math_ideals.specs.Ideal.{Basis}
use Rattle.math_ideals.specs.Next.{Start}
use Rattle.math_chain.specs.Chain.{Chain, Open, Closing}
use Rattle.math_chain.specs.Convention.{Convention}
use Rattle.math_chain.specs.Unit.{UnitOf}
use Rattle.math_chain.proofs.Walk.{closing_unique}
use Rattle.math_chain.proofs.Closing.{start_unique}
use Rattle.math_chain.proofs.Unit.{unit_unique}
use Rattle.math_ideals.specs.Setting.{Roots, at}
use Rattle.math_carry.specs.Carries.{El, Carries}
use Rattle.math_carry.proofs.Transport.{over, start_carry, chain_carry, open_carry, closing_carry, unit_carry}

module _ (𝓥 : Valued) {s s' : Roots 𝓥} (c : Carries s s')
    (B₀ : Basis (at s)) (B₀' : Basis (at s')) (st : Start (at s) B₀) (st' : Start (at s') B₀') where
  pub start_same : over 𝓥 c B₀ ≡ B₀'
  start_same = start_unique (at s') (over 𝓥 c B₀) B₀' (start_carry 𝓥 c B₀ st) st'

  pub chain_over : {l n : ℕ} {B : Basis (at s)} → Chain (at s) B₀ l n B → Chain (at s') B₀' l n (over 𝓥 c B)
  chain_over {l} {n} {B} k = subst (λ b. Chain (at s') b l n (over 𝓥 c B)) start_same (chain_carry 𝓥 c k)

  pub open_over : {l : ℕ} → Open (at s) B₀ l → Open (at s') B₀' l
  open_over {l} k = subst (λ b. Open (at s') b l) start_same (open_carry 𝓥 c k)

  pub closing_over : {l n : ℕ} {B : Basis (at s)} → Closing (at s) B₀ l n B → Closing (at s') B₀' l n (over 𝓥 c B)
  closing_over {l} {n} {B} k = subst (λ b. Closing (at s') b l n (over 𝓥 c B)) start_same (closing_carry 𝓥 c k)

  pub unit_over : {k : Convention} {l n : ℕ} {E F : El 𝓥} → UnitOf (at s) k B₀ l n E F → UnitOf (at s') k B₀' l n (c.to E) (c.to F)
  unit_over {k} {l} {n} {E} {F} u = subst (λ b. UnitOf (at s') k b l n (c.to E) (c.to F)) start_same (unit_carry 𝓥 c u)

  pub closing_same : {l l' n n' : ℕ} {B : Basis (at s)} {B' : Basis (at s')}
      → Closing (at s) B₀ l n B → Closing (at s') B₀' l' n' B' → (l ≡ l') × (n ≡ n') × (over 𝓥 c B ≡ B')
  closing_same k k' = closing_unique (at s') B₀' st'.good (closing_over k) k'

  pub unit_same : {k : Convention} {l l' n n' : ℕ} {E F E' F' : El 𝓥}
      → UnitOf (at s) k B₀ l n E F → UnitOf (at s') k B₀' l' n' E' F' → (l ≡ l') × (n ≡ n') × (c.to E ≡ E') × (c.to F ≡ F')
  unit_same u u' = unit_unique (at s') B₀' st' (unit_over u) u'
