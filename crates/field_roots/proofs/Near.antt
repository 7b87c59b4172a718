-- Numbers that obey the two equations are the first coefficients of r and w.
--   pair_begins   sequences R, W with R R = H W and R W = G H at the first n places, where R begins with the leading coefficient
--                 of r: then r begins with R and w with W
-- No recursion: let x, y be series that begin with R, W. Then x² − H y and x y − G H are small, and
--   (r − x)(r² + r x + x²) = r³ − x³ = − x (x² − H y) − H (x y − G H),
-- where the second factor on the left has degree 2 deg r. So r − x is small.
use mathlib.Core.Path.{◌≡◌, refl, sym, subst}
use mathlib.Core.Logic.{◌≢◌}
use mathlib.Core.List.{List, [], ◌∷◌}
use Prim.Native.Nat.{ℕ, zero, suc, ◌<◌}
use Prim.Native.Nat as N
use native.Mathlib.Omega.{arith}
use Rattle.math_ring.specs.Ring.{CRing}
use Rattle.math_ring.proofs.Laws as r₀
use Rattle.math_ring.proofs.Solve.{var, minus, ◌:+◌, ◌:*◌, hyp, solve_by}
use Rattle.math_valued.specs.Degree.{Has, Lt}
use Rattle.math_valued.proofs.Degree.{lead_eq, lt_eq, lt_add, lt_neg, lt_up, lt_cancel, has_up}
use Rattle.math_rows.specs.Reading.{Reading}
use Rattle.math_rows.specs.Row.{tpow}
use Rattle.math_valued.proofs.Compare.{lt_mul_sharp}
use Rattle.field_roots.specs.Pair.{RootPair}
use Rattle.field_roots.specs.First.{Begins}
use Rattle.field_roots.proofs.Pair.{three, trio_has, r_cube, w_has}
use Rattle.field_roots.proofs.First.{convᵏ}
use Rattle.field_roots.proofs.Begin.{begins_none, begins_lead, begins_mul, begins_close, begins_near, stand_in}

module _ {p : ℕ} (ρ : Reading p) where
  open ρ use {𝓥}
  open 𝓥 use {K, L, Lead}
  open K.ops use {𝟎 as 0ᵏ}
  open L.ops use {add as ◌+◌, mul as ◌*◌, neg as -◌}

  infixl 60 ◌+◌
  infixl 70 ◌*◌
  infix 80 -◌
  -- the sizes of a cubic field: deg G, deg H, deg r, deg w
  pub record Sizes (d_g d_h dr dw : ℕ) : Type 0 where
    pub r_size : N.◌+◌ dr (N.◌+◌ dr dr) ≡ N.◌+◌ d_g (N.◌+◌ d_h d_h)
    pub w_size : N.◌+◌ dr dw ≡ N.◌+◌ d_g d_h

  module _ {G H r w : L.El} {d_g d_h dr dw : ℕ} {c : K.El} (s : Sizes d_g d_h dr dw) (hc : c ≢ 0ᵏ) (h3 : three 𝓥 ≢ 0ᵏ) (hH : Has 𝓥 H d_h) (pair : RootPair 𝓥 G H dr c r w) where
    abbrev D : ℕ
    D = suc (N.◌+◌ dr (N.◌+◌ dr dr))

    -- with series x, y in place of the sequences
    near : {x y : L.El} (n : ℕ) → Lead x dr 0 c → Lt 𝓥 y (suc dw)
        → Lt 𝓥 (tpow ρ n * (x * x + - (H * y))) (suc (N.◌+◌ dr dr)) → Lt 𝓥 (tpow ρ n * (x * y + - (G * H))) (suc (N.◌+◌ dr dw))
        → Lt 𝓥 (tpow ρ n * (r + - x)) (suc dr) × Lt 𝓥 (tpow ρ n * (w + - y)) (suc dw)
    near {x} {y} n hx hy e₁ e₂ =
        let T : L.El = tpow ρ n in
        let a : L.El = x * x + - (H * y) in
        let b : L.El = x * y + - (G * H) in
        let x_lt : Lt 𝓥 x (suc dr) = 𝓥.lead_up (suc dr) 0 hx (omega arith) in
        let xa : Lt 𝓥 (x * (T * a)) D = lt_up 𝓥 D (lt_mul_sharp 𝓥 x_lt e₁) (omega arith) in
        let hb : Lt 𝓥 (H * (T * b)) D = lt_up 𝓥 D (lt_mul_sharp 𝓥 (has_up 𝓥 (suc d_h) hH (omega arith)) e₂) (omega (arith, s.r_size, s.w_size)) in
        let r_near : Lt 𝓥 (T * (r + - x)) (suc dr) =
        lt_cancel 𝓥 (suc dr) (trio_has 𝓥 hc h3 pair.lead hx)
        (lt_up 𝓥 (N.◌+◌ (N.◌+◌ dr dr) (suc dr))
        (lt_eq 𝓥 (lt_neg 𝓥 (lt_add 𝓥 xa hb))
        (solve_by L (minus (var 0 :* (var 1 :* (var 0 :* var 0 :+ minus (var 2 :* var 3))) :+ var 2 :* (var 1 :* (var 0 :* var 3 :+ minus (var 4 :* var 2)))))
        ((var 5 :* var 5 :+ var 5 :* var 0 :+ var 0 :* var 0) :* (var 1 :* (var 5 :+ minus (var 0))))
        (hyp (minus (var 1)) (var 5 :* var 5 :* var 5) (var 4 :* (var 2 :* var 2)) ∷ []) tt (x ∷ T ∷ H ∷ y ∷ G ∷ r ∷ []) (r_cube 𝓥 pair, tt))) (omega arith)) in
        let k : ℕ = N.◌+◌ dr (suc dw) in
        let xy : Lt 𝓥 (y * (T * (r + - x))) k = lt_up 𝓥 k (lt_mul_sharp 𝓥 hy r_near) (omega arith) in (
          r_near,
          lt_cancel 𝓥 (suc dw) (c, hc, pair.lead)
              (lt_eq 𝓥 (lt_neg 𝓥 (lt_add 𝓥 (lt_up 𝓥 k e₂ (omega arith)) xy))
              (solve_by L (minus (var 1 :* (var 0 :* var 3 :+ minus (var 4 :* var 2)) :+ var 3 :* (var 1 :* (var 5 :+ minus (var 0)))))
              (var 5 :* (var 1 :* (var 6 :+ minus (var 3)))) (hyp (minus (var 1)) (var 5 :* var 6) (var 4 :* var 2) ∷ []) tt (x ∷ T ∷ H ∷ y ∷ G ∷ r ∷ w ∷ []) (pair.r_w, tt))),
        )

    pub pair_begins : (n : ℕ) (g h R W : ℕ → K.El) → Begins ρ n g d_g G → Begins ρ n h d_h H → (0 < n → R 0 ≡ c)
        → ((i : ℕ) → i < n → convᵏ ρ R R i ≡ convᵏ ρ h W i) → ((i : ℕ) → i < n → convᵏ ρ R W i ≡ convᵏ ρ g h i)
        → Begins ρ n R dr r × Begins ρ n W dw w
    pair_begins zero g h R W hg hh first square product =
        let hw : Has 𝓥 w dw = w_has 𝓥 dw hc hH (omega (arith, s.r_size, s.w_size)) pair in
        (begins_none ρ R dr pair.lead, begins_none ρ W dw hw.2)
    pair_begins (suc n) g h R W hg hh first square product =
        let (x, hx) = stand_in ρ (suc n) R dr in
        let (y, hy) = stand_in ρ (suc n) W dw in
        let same : N.◌+◌ d_h dw ≡ N.◌+◌ dr dr = omega (arith, s.r_size, s.w_size) in
        let e₁ : Lt 𝓥 (tpow ρ (suc n) * (x * x + - (H * y))) (suc (N.◌+◌ dr dr)) =
        begins_close ρ (suc n) (convᵏ ρ R R) (convᵏ ρ h W) square (begins_mul ρ n R R hx hx) (subst (λ m. Begins ρ (suc n) (convᵏ ρ h W) m (H * y)) same (begins_mul ρ n h W hh hy)) in
        let e₂ : Lt 𝓥 (tpow ρ (suc n) * (x * y + - (G * H))) (suc (N.◌+◌ dr dw)) =
        begins_close ρ (suc n) (convᵏ ρ R W) (convᵏ ρ g h) product (begins_mul ρ n R W hx hy) (subst (λ m. Begins ρ (suc n) (convᵏ ρ g h) m (G * H)) (sym s.w_size) (begins_mul ρ n g h hg hh)) in
        let lead : Lead x dr 0 c = lead_eq 𝓥 (begins_lead ρ n R hx) refl (first (omega arith)) in
        let (a, b) = near (suc n) lead (𝓥.lead_up (suc dw) 0 (begins_lead ρ n W hy) (omega arith)) e₁ e₂ in
        (begins_near ρ (suc n) R a hx, begins_near ρ (suc n) W b hy)
