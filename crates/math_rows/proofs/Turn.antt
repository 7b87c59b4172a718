-- The combination s x − c t^k y, the turn of a reduction, on leading terms. No row and no list is named here.
use mathlib.Core.Path.{◌≡◌, refl}
use mathlib.Core.Logic.{◌≢◌}
use mathlib.Core.List.{[], ◌∷◌}
use Prim.Native.Nat.{ℕ}
use Prim.Native.Nat as N
use native.Mathlib.Omega.{arith}
use Rattle.math_ring.proofs.Laws as r
use Rattle.math_ring.proofs.Solve.{var, zer, minus, ◌:+◌, ◌:*◌, solve}
use Rattle.math_valued.specs.Degree.{Has, Lt}
use Rattle.math_valued.proofs.Degree.{k_domain, lead_eq, lt_add, lt_neg, has_lt}
use Rattle.math_rows.specs.Reading.{Reading}
use Rattle.math_rows.specs.Row.{tpow, comb}
use Rattle.math_rows.proofs.Rows.{tpow_lead}

module _ {p : ℕ} (ρ : Reading p) where
  open ρ use {𝓥}
  open 𝓥 use {K, L, Lead, const, t, IsPoly}
  open K.ops use {add as ◌+ᵏ◌, mul as ◌*ᵏ◌, neg as -ᵏ◌, 𝟎 as 0ᵏ, 𝟏 as 1ᵏ}
  open L.ops use {add as ◌+◌, mul as ◌*◌, neg as -◌, 𝟎, 𝟏}

  infixl 60 ◌+◌ ◌+ᵏ◌
  infixl 70 ◌*◌ ◌*ᵏ◌
  infix 80 -◌ -ᵏ◌
  -- ---- leading terms
  pub lead_scale : {x : L.El} {n : ℕ} {b : K.El} (a : K.El) → Lead x n 0 b → Lead (const a * x) n 0 (a *ᵏ b)
  lead_scale {x} {n} a h = 𝓥.lead_move n 0 (𝓥.lead_mul (𝓥.const_lead a) h) (omega arith)

  pub lt_scale : {x : L.El} {n : ℕ} (a : K.El) → Lt 𝓥 x n → Lt 𝓥 (const a * x) n
  lt_scale a h = lead_eq 𝓥 (lead_scale a h) refl (r.mul-zero K a)

  pub lead_shift : {x : L.El} {n : ℕ} {b : K.El} (k : ℕ) → Lead x n 0 b → Lead (tpow ρ k * x) (N.◌+◌ k n) 0 b
  lead_shift {x} {n} {b} k h = lead_eq 𝓥 (𝓥.lead_move (N.◌+◌ k n) 0 (𝓥.lead_mul (tpow_lead ρ k) h) (omega arith)) refl (r.one-mul K b)

  pub comb_lt : {x y : L.El} {n : ℕ} (k : ℕ) (s c : K.El) → Lt 𝓥 x n → Lt 𝓥 (tpow ρ k * y) n → Lt 𝓥 (comb ρ s c k x y) n
  comb_lt k s c h g = lt_add 𝓥 (lt_scale s h) (lt_neg 𝓥 (lt_scale c g))

  -- the leading terms cancel
  pub comb_drop : {x y : L.El} {d e : ℕ} {s c : K.El} (k : ℕ) → Lead x d 0 c → Lead y e 0 s → d ≡ N.◌+◌ k e → Lt 𝓥 (comb ρ s c k x y) d
  comb_drop {d} {s} {c} k h g q =
      lead_eq 𝓥 (𝓥.lead_add (lead_scale s h) (𝓥.lead_neg (lead_scale c (𝓥.lead_move d 0 (lead_shift k g) (omega arith))))) refl
      (solve K (var 0 :* var 1 :+ minus (var 1 :* var 0)) zer tt (s ∷ c ∷ []))

  -- the leading term stays
  pub comb_keep : {x y : L.El} {d : ℕ} (k : ℕ) (s c : K.El) → s ≢ 0ᵏ → Has 𝓥 x d → Lt 𝓥 (tpow ρ k * y) d → Has 𝓥 (comb ρ s c k x y) d
  comb_keep k s c hs (a, ha, h) g = has_lt 𝓥 (s *ᵏ a, k_domain 𝓥 s a hs ha, lead_scale s h) (lt_neg 𝓥 (lt_scale c g))
