-- The norm stays, and with it how a unit is scaled.
--   Q_kept norm_kept   4 Q = 3 Y² + Z² and N = ev · Q, of which the value and Z stay and Y keeps its square
--   scaled_kept        a unit scaled by a convention is carried over to one scaled by it
use mathlib.Core.Path.{◌≡◌, sym, ap, ap₂, ◌∙◌, subst}
use Rattle.math_ring.proofs.Solve.{◌:*◌, ◌:=◌, ring₂}
use Rattle.math_valued.specs.Val.{Valued}
use Rattle.math_valued.specs.Degree.{Leads}
use Rattle.math_valued.proofs.Degree.{cancel}
use Rattle.math_valued.proofs.Polynomial.{P_path}
use Rattle.math_ideals.specs.Setting.{Roots, Setting, at}
use Rattle.math_ideals.specs.Element.{Y, norm}
use Rattle.math_ideals.proofs.Form.{has_two}
use Rattle.math_ideals.proofs.Values.{Q, Q_yz, ev_Q}
use Rattle.math_chain.specs.Convention.{Convention, e0_monic, norm_one, Scaled}
use Rattle.math_carry.specs.Carries.{El, Carries}
use Rattle.math_carry.proofs.Inverse.{twice, ev_kept, Z_kept}

module _ (𝓥 : Valued) {s s' : Roots 𝓥} (c : Carries s s') where
  open 𝓥 use {L}
  open L.ops use {add as ◌+◌, mul as ◌*◌, 𝟏}

  infixl 60 ◌+◌
  infixl 70 ◌*◌
  abbrev S : Setting
  S = at s

  abbrev S' : Setting
  S' = at s'

  square_kept : (v : El 𝓥) → Y S' (c.to v) * Y S' (c.to v) ≡ Y S v * Y S v
  square_kept v =
      ap (λ y. y * y) (c.Y_kept v)
      ∙ ring₂ L (λ q y. q :* y :* (q :* y) := q :* (q :* (y :* y))) tt c.σ.0 (Y S v)
      ∙ twice 𝓥 c.σ c.sign (Y S v * Y S v)

  Q_kept : (v : El 𝓥) → Q S' (c.to v) ≡ Q S v
  Q_kept v =
      let two = 𝟏 + 𝟏 in
      cancel 𝓥 (Q S' (c.to v)) (Q S v) (has_two S) (cancel 𝓥 (two * Q S' (c.to v)) (two * Q S v) (has_two S)
      (Q_yz S' (c.to v) ∙ ap₂ (λ y z. (𝟏 + 𝟏 + 𝟏) * y + z * z) (square_kept v) (Z_kept 𝓥 c v) ∙ sym (Q_yz S v)))

  pub norm_kept : (v : El 𝓥) → norm S' (c.to v) ≡ norm S v
  norm_kept v = P_path 𝓥 (sym (ev_Q S' (c.to v)) ∙ ap₂ ◌*◌ (ev_kept 𝓥 c v) (Q_kept v) ∙ ev_Q S v)

  pub scaled_kept : (k : Convention) (v : El 𝓥) → Scaled S k v → Scaled S' k (c.to v)
  scaled_kept e0_monic v m = subst (λ z. Leads 𝓥 z.0 𝓥.K.ops.𝟏) (sym (c.first v)) m
  scaled_kept norm_one v e = norm_kept v ∙ e
