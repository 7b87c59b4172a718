-- b r + c w is 0 only for b = c = 0; otherwise it has a degree between deg Gh − 2d and d, d the larger of deg br and deg cw.
--   cubes           b³ H + c³ G is not 0, by descent
--   Top top         the larger of deg br and deg cw, with the two coefficients there
--   bound bound_Y   the degree of b r + c w, and of b r − c w
--   X_zero Y_zero   only 0 is 0
--   never_below     document 01: "its degree is never below minus twice the larger of deg br and deg cw"
--   X_deg Y_deg     so X(v) and Y(v) have a degree where v is no polynomial
--   prefix          how many terms of r and w settle the leading term of b r + c w
use mathlib.Core.Path.{◌≡◌, refl, sym, ap, ap₂, ◌∙◌}
use mathlib.Core.List.{[], ◌∷◌}
use mathlib.Core.Logic.{◌≢◌, ◌⊎◌, inl, inr}
use Prim.Native.Nat.{ℕ, zero, suc, ◌≤◌, ◌<◌, ◌+◌ as ◌+ⁿ◌}
use native.Mathlib.Omega.{arith}
use native.Mathlib.Decide.{dec_le}
use Rattle.math_ring.proofs.Laws as rg
use Rattle.math_ring.specs.Ring.{CRing}
use Rattle.math_ring.proofs.Solve.{Expr, var, hyp, one, zer, minus, ◌:+◌, ◌:*◌, ◌:=◌, solve_by, ring₂, ring₃, ring₄}
use Rattle.math_valued.proofs.Degree as d
use Rattle.math_valued.specs.Degree.{HasDeg, Has}
use Rattle.math_valued.specs.Polynomial.{polys, Divides, Squarefree}
use Rattle.math_valued.proofs.Polynomial.{P_path, view, degree, factor}
use Rattle.math_valued.proofs.Divide.{Bez, bez_sym, coprime_bez, euclid, cube_divides, p_cancel}
use Rattle.math_ideals.specs.Setting.{Setting, P, d_gh}
use Rattle.math_ideals.specs.Element.{O, X, Y}
use Rattle.math_ideals.proofs.Values.{X_form}
use Rattle.math_ideals.proofs.Form.{form'_has}

module _ (S : Setting) where
  open S use {𝓥}
  open S.roots use {G, H, r, w}
  open 𝓥 use {K, L, Lead}
  open L.ops use {add as ◌+◌, mul as ◌*◌, neg as -◌, 𝟎, 𝟏}
  open K.ops use {add as ◌+ᵏ◌, mul as ◌*ᵏ◌, neg as -ᵏ◌, 𝟎 as 0ᵏ, 𝟏 as 1ᵏ}
  open (polys 𝓥).ops use {add as ◌⊞◌, mul as ◌⊠◌, neg as ⊟◌, 𝟎 as 0ₚ, 𝟏 as 1ₚ}

  infixl 60 ◌+◌ ◌+ᵏ◌ ◌⊞◌
  infixl 70 ◌*◌ ◌*ᵏ◌ ◌⊠◌
  infix 80 -◌ -ᵏ◌ ⊟◌
  abbrev R : CRing
  R = polys 𝓥

  abbrev pub cube : P S → P S
  cube a = a ⊠ a ⊠ a

  -- ---- b³ H + c³ G is not 0, by descent
  bez : Bez 𝓥 G H
  bez = coprime_bez 𝓥 G H S.roots.coprime

  -- s x³ + t y³ = 0 with g | t and s made of factors h prime to g: g | x
  take : {n : ℕ} (g h x z : P S) → Has 𝓥 g.0 n → Squarefree 𝓥 g → Bez 𝓥 g h → cube x ⊠ h ⊞ g ⊠ z ≡ 0ₚ → Divides 𝓥 g x
  take g h x z hg free k e =
      let A = var 0 in let B = var 1 in let Cx = var 2 in let Z = var 3 in
      cube_divides 𝓥 g x hg free (euclid 𝓥 g h (cube x) k (⊟ z, solve_by R (Cx :* B) (A :* minus Z) (hyp one (Cx :* B :+ A :* Z) zer ∷ []) tt (g ∷ h ∷ cube x ∷ z ∷ []) (e, tt)))

  take₂ : {n : ℕ} (g h x z : P S) → Has 𝓥 g.0 n → Squarefree 𝓥 g → Bez 𝓥 g h → cube x ⊠ (h ⊠ h) ⊞ g ⊠ z ≡ 0ₚ → Divides 𝓥 g x
  take₂ g h x z hg free k e =
      let A = var 0 in let B = var 1 in let Cx = var 2 in let Z = var 3 in
      cube_divides 𝓥 g x hg free (euclid 𝓥 g h (cube x) k (euclid 𝓥 g h (cube x ⊠ h) k (⊟ z, solve_by R (Cx :* B :* B) (A :* minus Z) (hyp one (Cx :* (B :* B) :+ A :* Z) zer ∷ []) tt (g ∷ h ∷ cube x ∷ z ∷ []) (e, tt))))

  abbrev Gh : P S
  Gh = G ⊠ H

  gh_deg : Has 𝓥 Gh.0 (d_gh S)
  gh_deg = d.has_mul 𝓥 S.roots.G_deg S.roots.H_deg

  abbrev cube_e : Expr → Expr
  cube_e x = x :* x :* x

  -- One descent: b = G H b'' and c = G H c'' with the same equation.
  down : (b c : P S) → cube b ⊠ H ⊞ cube c ⊠ G ≡ 0ₚ → (b'' c'' : P S) × (b ≡ Gh ⊠ b'') × (cube b'' ⊠ H ⊞ cube c'' ⊠ G ≡ 0ₚ)
  down b c e = first
      (take G H b (cube c) S.roots.G_deg S.roots.G_free bez (ring₄ R (λ x h y g. x :* h :+ g :* y := x :* h :+ y :* g) tt (cube b) H (cube c) G ∙ e))
      (take H G c (cube b) S.roots.H_deg S.roots.H_free (bez_sym 𝓥 G H bez) (ring₄ R (λ x h y g. y :* g :+ h :* x := x :* h :+ y :* g) tt (cube b) H (cube c) G ∙ e))
    where
      second : (b' c' : P S) → b ≡ G ⊠ b' → cube b' ⊠ (G ⊠ G) ⊞ cube c' ⊠ (H ⊠ H) ≡ 0ₚ → Divides 𝓥 H b' → Divides 𝓥 G c' → (b'' c'' : P S) × (b ≡ Gh ⊠ b'') × (cube b'' ⊠ H ⊞ cube c'' ⊠ G ≡ 0ₚ)
      second b' c' eb e' (b'', fb) (c'', fc) = (
        b'',
        c'',
        eb ∙ ap (λ z. G ⊠ z) fb ∙ sym (R.laws.mul_assoc G H b''),
        p_cancel 𝓥 (Gh ⊠ Gh) _ 0ₚ (d.has_mul 𝓥 gh_deg gh_deg)
            (ring₄ R (λ g h b c. g :* h :* (g :* h) :* (cube_e b :* h :+ cube_e c :* g) := cube_e (h :* b) :* (g :* g) :+ cube_e (g :* c) :* (h :* h)) tt G H b'' c''
            ∙ sym (ap₂ (λ x y. cube x ⊠ (G ⊠ G) ⊞ cube y ⊠ (H ⊠ H)) fb fc) ∙ e' ∙ sym (rg.mul-zero R (Gh ⊠ Gh))),
      )

      first : Divides 𝓥 G b → Divides 𝓥 H c → (b'' c'' : P S) × (b ≡ Gh ⊠ b'') × (cube b'' ⊠ H ⊞ cube c'' ⊠ G ≡ 0ₚ)
      first (b', eb) (c', ec) =
          second b' c' eb e'
          (take₂ H G b' (H ⊠ cube c') S.roots.H_deg S.roots.H_free (bez_sym 𝓥 G H bez) (ring₄ R (λ x g y h. x :* (g :* g) :+ h :* (h :* y) := x :* (g :* g) :+ y :* (h :* h)) tt (cube b') G (cube c') H ∙ e'))
          (take₂ G H c' (G ⊠ cube b') S.roots.G_deg S.roots.G_free bez (ring₄ R (λ x g y h. y :* (h :* h) :+ g :* (g :* x) := x :* (g :* g) :+ y :* (h :* h)) tt (cube b') G (cube c') H ∙ e'))
        where
          e' : cube b' ⊠ (G ⊠ G) ⊞ cube c' ⊠ (H ⊠ H) ≡ 0ₚ
          e' = p_cancel 𝓥 Gh _ 0ₚ gh_deg
              (ring₄ R (λ g h b c. g :* h :* (cube_e b :* (g :* g) :+ cube_e c :* (h :* h)) := cube_e (g :* b) :* h :+ cube_e (h :* c) :* g) tt G H b' c'
              ∙ sym (ap₂ (λ x y. cube x ⊠ H ⊞ cube y ⊠ G) eb ec) ∙ e ∙ sym (rg.mul-zero R Gh))

  descent : (k m : ℕ) (b c : P S) → Has 𝓥 b.0 m → m < k → cube b ⊠ H ⊞ cube c ⊠ G ≡ 0ₚ → ⊥
  descent zero m b c h l e = omega arith
  descent (suc k) m b c h l e =
      let (b'', c'', eb, e'') = down b c e in
      let (m'', h'', f) = factor 𝓥 Gh b'' b gh_deg h eb in
      let big : 1 ≤ d_gh S = S.roots.not_const in
      descent k m'' b'' c'' h'' (omega arith) e''

  pub cubes : (b c : P S) → (b.0 ≢ 𝟎) ⊎ (c.0 ≢ 𝟎) → (cube b ⊠ H ⊞ cube c ⊠ G).0 ≢ 𝟎
  cubes b c nz e = go nz (view 𝓥 b)
    where
      go : (b.0 ≢ 𝟎) ⊎ (c.0 ≢ 𝟎) → (b.0 ≡ 𝟎) ⊎ ((n : ℕ) × Has 𝓥 b.0 n) → ⊥
      go k (inr (m, h)) = descent (suc m) m b c h (omega arith) (P_path 𝓥 e)
      go (inl k) (inl z) = k z
      go (inr k) (inl z) =
          let (m, h) = degree 𝓥 c k in
          d.has_not_zero 𝓥 (d.has_eq 𝓥 (d.has_mul 𝓥 (d.has_mul 𝓥 (d.has_mul 𝓥 h h) h) S.roots.G_deg)
          (ring₂ L (λ x y. x := zer :* zer :* zer :* y :+ x) tt (cube c ⊠ G).0 H.0 ∙ ap (λ t. t * t * t * H.0 + (cube c ⊠ G).0) (sym z) ∙ e))

  -- ---- the larger of deg br and deg cw
  pub record Top (b c : P S) : Type 0 where
    pub d : ℕ
    pub β : K.El
    pub γ : K.El
    pub b_lead : Lead (b.0 * r) d 0 β
    pub c_lead : Lead (c.0 * w) d 0 γ
    pub some : (β ≢ 0ᵏ) ⊎ (γ ≢ 0ᵏ)

  pub top : (b c : P S) → (b.0 ≢ 𝟎) ⊎ (c.0 ≢ 𝟎) → Top b c
  top b c nz = go (view 𝓥 b) (view 𝓥 c) nz
    where
      go : (b.0 ≡ 𝟎) ⊎ ((n : ℕ) × Has 𝓥 b.0 n) → (c.0 ≡ 𝟎) ⊎ ((n : ℕ) × Has 𝓥 c.0 n) → (b.0 ≢ 𝟎) ⊎ (c.0 ≢ 𝟎) → Top b c
      go (inl x) (inl y) (inl k) = absurd (k x)
      go (inl x) (inl y) (inr k) = absurd (k y)
      go (inl x) (inr (n, h)) k =
          let (γ, hγ, l) = d.has_mul 𝓥 h S.roots.w_deg in
          record { d = n +ⁿ S.roots.dw; β = 0ᵏ; γ = γ; b_lead = d.lead_eq 𝓥 (𝓥.lead_zero (n +ⁿ S.roots.dw) 0) (sym (ap (λ z. z * r) x ∙ rg.zero_mul' L r)) refl; c_lead = l; some = inr hγ }
      go (inr (n, h)) (inl y) k =
          let (β, hβ, l) = d.has_mul 𝓥 h S.roots.r_deg in
          record { d = n +ⁿ S.roots.dr; β = β; γ = 0ᵏ; b_lead = l; c_lead = d.lead_eq 𝓥 (𝓥.lead_zero (n +ⁿ S.roots.dr) 0) (sym (ap (λ z. z * w) y ∙ rg.zero_mul' L w)) refl; some = inl hβ }
      go (inr (n, h)) (inr (m, g)) k = both (d.has_mul 𝓥 h S.roots.r_deg) (d.has_mul 𝓥 g S.roots.w_deg) (dec_le (n +ⁿ S.roots.dr) (m +ⁿ S.roots.dw)) (dec_le (m +ⁿ S.roots.dw) (n +ⁿ S.roots.dr))
        where
          both : {i j : ℕ} → Has 𝓥 (b.0 * r) i → Has 𝓥 (c.0 * w) j → Dec (i ≤ j) → Dec (j ≤ i) → Top b c
          both {i} {j} (β, hβ, l) (γ, hγ, l') (yes e) (yes f) = record { d = i; β = β; γ = γ; b_lead = l; c_lead = 𝓥.lead_move i 0 l' (omega arith); some = inl hβ }
          both {i} {j} (β, hβ, l) (γ, hγ, l') (yes e) (no f) = record { d = j; β = 0ᵏ; γ = γ; b_lead = 𝓥.lead_up j 0 l (omega arith); c_lead = l'; some = inr hγ }
          both {i} {j} (β, hβ, l) (γ, hγ, l') (no e) f = record { d = i; β = β; γ = 0ᵏ; b_lead = l; c_lead = 𝓥.lead_up i 0 l' (omega arith); some = inl hβ }

  abbrev Some : P S → P S → Type 0
  Some b c = (b.0 ≢ 𝟎) ⊎ (c.0 ≢ 𝟎)

  -- the degree is deg Gh + m − 2d, and at most d
  pub bound : (b c : P S) (nz : Some b c) (t : Top b c) → (m : ℕ) × HasDeg 𝓥 (b.0 * r + c.0 * w) (d_gh S +ⁿ m) (t.d +ⁿ t.d) × (d_gh S +ⁿ m ≤ t.d +ⁿ (t.d +ⁿ t.d))
  bound b c nz t =
      let (m, hm) = degree 𝓥 (cube b ⊠ H ⊞ cube c ⊠ G) (cubes b c nz) in
      let x : HasDeg 𝓥 (b.0 * r + c.0 * w) (d_gh S +ⁿ m) (t.d +ⁿ t.d) = d.has_move 𝓥 _ _
      (d.has_cancel 𝓥 (form'_has S t.b_lead t.c_lead t.some) (d.has_eq 𝓥 (d.has_mul 𝓥 gh_deg hm) (sym (L.laws.mul_comm _ _ ∙ X_form S b c)))) (omega arith) in
      (m, x, omega (arith, d.has_above 𝓥 x (𝓥.lead_up (suc t.d) 0 (𝓥.lead_add t.b_lead t.c_lead) (omega arith))))

  -- the same with −c
  some_neg : (b c : P S) → Some b c → Some b (⊟ c)
  some_neg b c nz = elim nz [ inl h ↦ inl h | inr h ↦ inr (λ e. h (sym (rg.neg_neg L c.0) ∙ ap (λ z. - z) e ∙ rg.neg_zero L)) ]

  top_neg : (b c : P S) → Top b c → Top b (⊟ c)
  top_neg b c t = record {
    d = t.d;
    β = t.β;
    γ = -ᵏ t.γ;
    b_lead = t.b_lead;
    c_lead = d.lead_eq 𝓥 (𝓥.lead_neg t.c_lead) (sym (rg.neg_mul L c.0 w)) refl;
    some = elim t.some [ inl h ↦ inl h | inr h ↦ inr (d.k_neg 𝓥 t.γ h) ];
  }

  pub bound_Y : (b c : P S) (nz : Some b c) (t : Top b c) → (m : ℕ) × HasDeg 𝓥 (b.0 * r + - (c.0 * w)) (d_gh S +ⁿ m) (t.d +ⁿ t.d) × (d_gh S +ⁿ m ≤ t.d +ⁿ (t.d +ⁿ t.d))
  unfolding top_neg
  bound_Y b c nz t =
      let (m, h, l) = bound b (⊟ c) (some_neg b c nz) (top_neg b c t) in
      (m, d.has_eq 𝓥 h (ap (λ z. b.0 * r + z) (rg.neg_mul L c.0 w)), l)

  -- X(v) and Y(v) of an element that is no polynomial have degrees
  pub X_deg : (v : (O S).El) → Some v.b v.c → (p q : ℕ) × HasDeg 𝓥 (X S v) p q
  X_deg v nz = let k = bound v.b v.c nz (top v.b v.c nz) in (_, _, k.1)

  pub Y_deg : (v : (O S).El) → Some v.b v.c → (p q : ℕ) × HasDeg 𝓥 (Y S v) p q
  Y_deg v nz = let k = bound_Y v.b v.c nz (top v.b v.c nz) in (_, _, k.1)

  -- and only the polynomials have X, or Y, equal to 0
  zero_of : (b c : P S) (x : L.El) → (Some b c → (p q : ℕ) × HasDeg 𝓥 x p q) → x ≡ 𝟎 → (b.0 ≡ 𝟎) × (c.0 ≡ 𝟎)
  zero_of b c x has e = go (view 𝓥 b) (view 𝓥 c)
    where
      no_deg : Some b c → ⊥
      no_deg nz = let (p, q, h) = has nz in d.has_not_zero 𝓥 (d.has_eq 𝓥 h e)

      go : (b.0 ≡ 𝟎) ⊎ ((n : ℕ) × Has 𝓥 b.0 n) → (c.0 ≡ 𝟎) ⊎ ((n : ℕ) × Has 𝓥 c.0 n) → (b.0 ≡ 𝟎) × (c.0 ≡ 𝟎)
      go (inl x) (inl y) = (x, y)
      go (inr (n, h)) y = absurd (no_deg (inl (λ z. d.has_not_zero 𝓥 (d.has_eq 𝓥 h z))))
      go (inl x) (inr (n, h)) = absurd (no_deg (inr (λ z. d.has_not_zero 𝓥 (d.has_eq 𝓥 h z))))

  pub X_zero : (v : (O S).El) → X S v ≡ 𝟎 → (v.b.0 ≡ 𝟎) × (v.c.0 ≡ 𝟎)
  X_zero v e = zero_of v.b v.c (X S v) (X_deg v) e

  pub Y_zero : (v : (O S).El) → Y S v ≡ 𝟎 → (v.b.0 ≡ 𝟎) × (v.c.0 ≡ 𝟎)
  Y_zero v e = zero_of v.b v.c (Y S v) (Y_deg v) e

  -- deg (b r + c w) = p − q is at least −2d
  pub never_below : {p q : ℕ} (b c : P S) → Some b c → (t : Top b c) → HasDeg 𝓥 (b.0 * r + c.0 * w) p q → q ≤ p +ⁿ (t.d +ⁿ t.d)
  never_below b c nz t h = let (m, k, l) = bound b c nz t in omega (arith, d.has_unique 𝓥 h k)

  -- The theorem on the length of series: with r̃, w̃ that agree with r, w down to T places from the top and 3d ≤ n + T, the leading term of
  -- b r̃ + c w̃ is that of b r + c w. (Where d ≤ n, T = 2n is enough, that is 2n + 1 terms.)
  pub prefix : (b c : P S) (nz : (b.0 ≢ 𝟎) ⊎ (c.0 ≢ 𝟎)) (t : Top b c) (r̃ w̃ : L.El) (T : ℕ) → Lead (r̃ + - r) S.roots.dr T 0ᵏ → Lead (w̃ + - w) S.roots.dw T 0ᵏ → t.d +ⁿ (t.d +ⁿ t.d) ≤ d_gh S +ⁿ T →
      let (m, h, l) = bound b c nz t in Lead (b.0 * r̃ + c.0 * w̃) (d_gh S +ⁿ m) (t.d +ⁿ t.d) h.0
  prefix b c nz t r̃ w̃ T hr hw l =
      let (m, (k, hk, h), l') = bound b c nz t in
      d.lead_eq 𝓥 (𝓥.lead_add h (rest m)) (ring₄ L (λ x y u v. x :+ y :+ (u :+ v) := x :+ u :+ (y :+ v)) tt (b.0 * r) (c.0 * w) (b.0 * (r̃ + - r)) (c.0 * (w̃ + - w)) ∙ ap₂ ◌+◌ (back b.0 r r̃) (back c.0 w w̃)) (K.laws.add-zero k)
    where
      back : (a x y : L.El) → a * x + a * (y + - x) ≡ a * y
      back = ring₃ L (λ a x y. a :* x :+ a :* (y :+ minus x) := a :* y) tt

      -- a factor of a product with a bound
      part : {x : L.El} {n : ℕ} {k : K.El} (a : P S) (y : L.El) (m : ℕ) → Has 𝓥 x n → Lead (a.0 * x) t.d 0 k → Lead y n T 0ᵏ → Lead (a.0 * y) (d_gh S +ⁿ m) (t.d +ⁿ t.d) 0ᵏ
      part {x} {n} a y m hx ha hy = elim (view 𝓥 a) [
        | inl e ↦ d.lead_eq 𝓥 (𝓥.lead_zero _ _) (sym (ap (λ z. z * y) e ∙ rg.zero_mul' L y)) refl
        | inr (i, hi) ↦
            let g : i +ⁿ n < suc t.d = d.above 𝓥 (d.has_mul 𝓥 hi hx) (𝓥.lead_up (suc t.d) 0 ha (omega arith)) in
            d.lead_up 𝓥 _ _ (d.lead_eq 𝓥 (𝓥.lead_mul hi.2 hy) refl (rg.mul-zero K hi.0)) (omega arith)
      ]

      rest : (m : ℕ) → Lead (b.0 * (r̃ + - r) + c.0 * (w̃ + - w)) (d_gh S +ⁿ m) (t.d +ⁿ t.d) 0ᵏ
      rest m = d.lead_eq 𝓥 (𝓥.lead_add (part b (r̃ + - r) m S.roots.r_deg t.b_lead hr) (part c (w̃ + - w) m S.roots.w_deg t.c_lead hw)) refl (K.laws.add-zero 0ᵏ)
