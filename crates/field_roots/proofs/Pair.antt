-- The laws of the pair r, w.
--   r_cube      r³ = G H²
--   w_has       deg w = 2 deg r − deg H
--   pair_from   a cube root of G H² makes a pair
--   trio_has    r² + r s + s² has degree 2 d where r and s have degree d and one leading coefficient
use mathlib.Core.Path.{◌≡◌, refl}
use mathlib.Core.Logic.{◌≢◌}
use mathlib.Core.List.{List, [], ◌∷◌}
use Prim.Native.Nat.{ℕ}
use Prim.Native.Nat as N
use native.Mathlib.Omega.{arith}
use Rattle.math_ring.specs.Ring.{CRing}
use Rattle.math_ring.proofs.Laws as r
use Rattle.math_ring.proofs.Solve.{var, one, minus, ◌:+◌, ◌:*◌, hyp, solve, solve_by}
use Rattle.math_valued.specs.Val.{Valued}
use Rattle.math_valued.specs.Degree.{HasDeg, Has, Lt}
use Rattle.math_valued.proofs.Degree.{lead_eq, k_domain, has_mul, has_inv, has_move, has_eq, has_cancel}
use Rattle.field_roots.specs.Pair.{RootPair}

module _ (𝓥 : Valued) where
  open 𝓥 use {K, L, Lead}
  open K.ops use {add as ◌+ᵏ◌, mul as ◌*ᵏ◌, neg as -ᵏ◌, 𝟎 as 0ᵏ, 𝟏 as 1ᵏ}
  open L.ops use {add as ◌+◌, mul as ◌*◌, neg as -◌, 𝟎, 𝟏}

  infixl 60 ◌+◌ ◌+ᵏ◌
  infixl 70 ◌*◌ ◌*ᵏ◌
  infix 80 -◌ -ᵏ◌
  abbrev pub three : K.El
  three = 1ᵏ +ᵏ 1ᵏ +ᵏ 1ᵏ

  -- r² + r s + s², where r and s have one leading coefficient
  abbrev pub trio : L.El → L.El → L.El
  trio x y = x * x + x * y + y * y

  pub trio_has : {x y : L.El} {d : ℕ} {c : K.El} → c ≢ 0ᵏ → three ≢ 0ᵏ → Lead x d 0 c → Lead y d 0 c → Has 𝓥 (trio x y) (N.◌+◌ d d)
  trio_has {x} {y} {d} {c} hc h3 hx hy = (
    three *ᵏ (c *ᵏ c),
    k_domain 𝓥 three (c *ᵏ c) h3 (k_domain 𝓥 c c hc hc),
    lead_eq 𝓥 (𝓥.lead_add (𝓥.lead_add (𝓥.lead_mul hx hx) (𝓥.lead_mul hx hy)) (𝓥.lead_mul hy hy)) refl
        (solve K (var 0 :* var 0 :+ var 0 :* var 0 :+ var 0 :* var 0) ((one :+ one :+ one) :* (var 0 :* var 0)) tt (c ∷ [])),
  )

  module _ {G H : L.El} {d : ℕ} {c : K.El} where
    pub r_cube : {r w : L.El} → RootPair 𝓥 G H d c r w → r * r * r ≡ G * (H * H)
    r_cube {r} {w} h =
        solve_by L (var 2 :* var 2 :* var 2) (var 0 :* (var 1 :* var 1)) (hyp (var 2) (var 2 :* var 2) (var 1 :* var 3) ∷ hyp (var 1) (var 2 :* var 3) (var 0 :* var 1) ∷ []) tt (G ∷ H ∷ r ∷ w ∷ []) (h.r_r, (h.r_w, tt))

    pub w_has : {r w : L.El} {e : ℕ} (dw : ℕ) → c ≢ 0ᵏ → Has 𝓥 H e → N.◌+◌ dw e ≡ N.◌+◌ d d → RootPair 𝓥 G H d c r w → Has 𝓥 w dw
    w_has {r} {w} dw hc hH e h = has_move 𝓥 dw 0 (has_cancel 𝓥 hH (has_eq 𝓥 (has_mul 𝓥 (c, hc, h.lead) (c, hc, h.lead)) h.r_r)) (omega arith)

    -- w = r²/H
    pub pair_from : {r : L.El} {e : ℕ} → Has 𝓥 H e → r * r * r ≡ G * (H * H) → Lead r d 0 c → (w : L.El) × RootPair 𝓥 G H d c r w
    pair_from {r} hH e l =
        let (i, u, hi) = has_inv 𝓥 hH in (
          r * r * i,
          record {
            r_r = solve_by L (var 0 :* var 0) (var 1 :* (var 0 :* var 0 :* var 2)) (hyp (minus (var 0 :* var 0)) (var 1 :* var 2) one ∷ []) tt (r ∷ H ∷ i ∷ []) (u, tt);
            r_w = solve_by L (var 0 :* (var 0 :* var 0 :* var 2)) (var 3 :* var 1) (hyp (var 2) (var 0 :* var 0 :* var 0) (var 3 :* (var 1 :* var 1)) ∷ hyp (var 3 :* var 1) (var 1 :* var 2) one ∷ []) tt (r ∷ H ∷ i ∷ G ∷ []) (e, (u, tt));
            lead = l;
          },
        )
