-- The unit of the one pair and the unit of the other.
--   unit_carries   of two accepted pairs of one field: the same period, the same degree sum, and how the units and their inverses carry over
use mathlib.Core.Path.{◌≡◌, sym, ◌∙◌}
use mathlib.Core.Logic.{◌⊎◌, inl, inr}
use Prim.Native.Nat.{ℕ}
use Rattle.math_valued.specs.Val.{Valued}
use Rattle.math_ideals.specs.Ideal.{Basis}
use Rattle.math_ideals.specs.Next.{Start}
use Rattle.math_chain.specs.Convention.{Convention}
use Rattle.math_chain.specs.Unit.{UnitOf}
use Rattle.math_ideals.specs.Setting.{Roots, at}
use Rattle.math_carry.specs.Carries.{El, Carries, Stretched, Exchanged}
use Rattle.pair_theory.specs.Units.{UnitCarries}
use Rattle.math_carry.proofs.Same.{unit_same}
use Rattle.math_carry.proofs.Meets.{Meets}

module _ (𝓥 : Valued) {s s' : Roots 𝓥} where
  shaped : (c : Carries s s') → Stretched 𝓥 s s' c ⊎ Exchanged 𝓥 s s' c → {E F E' F' : El 𝓥} → c.to E ≡ E' → c.to F ≡ F' → UnitCarries 𝓥 s s' E F E' F'
  shaped c (inl k) {E} {F} e f = record { factors = k.factors; rows = inl (k.pair, sym e ∙ k.rows E, sym f ∙ k.rows F) }
  shaped c (inr k) {E} {F} e f = record { factors = k.factors; rows = inr (k.pair, sym e ∙ k.rows E, sym f ∙ k.rows F) }

  pub unit_carries : Meets 𝓥 s s' → (B₀ : Basis (at s)) (B₀' : Basis (at s')) → Start (at s) B₀ → Start (at s') B₀' → {k : Convention} {l l' n n' : ℕ} {E F E' F' : El 𝓥}
      → UnitOf (at s) k B₀ l n E F → UnitOf (at s') k B₀' l' n' E' F' → (l ≡ l') × (n ≡ n') × UnitCarries 𝓥 s s' E F E' F'
  unit_carries m B₀ B₀' st st' u u' =
      let (a, b, e, f) = unit_same 𝓥 m.carries B₀ B₀' st st' u u' in
      (a, b, shaped m.carries m.rows e f)
