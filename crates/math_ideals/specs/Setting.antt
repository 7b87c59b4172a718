-- The field: what the theory knows of p, G, H and of the series r and w.
--   Roots 𝓥   an accepted pair G, H over the series 𝓥, with the two series r and w
--   Setting   the series, and such a pair over them: an accepted field
--   at s      the setting that s makes with its series; at S.roots is S
--   P         the polynomials of the field
--   d_gh       deg GH
-- The field of constants enters by two facts, which hold for every prime p with p mod 3 = 2: 2 is not 0, and u² − uv + v² is 0 only
-- where u and v are. Theorems: r³ = G H², w² = G r, w³ = G² H and the degrees of r and w (proofs/Values); no other two series obey
-- these laws (proofs/Roots).
use Rattle.std.specs.Prelude.{◌≡◌, ◌≢◌, ℕ, ◌≤◌, ◌+◌}
use Rattle.math_valued.specs.Val.{Valued}
use Rattle.math_valued.specs.Degree.{Has}
use Rattle.math_valued.specs.Polynomial.{Poly, Squarefree, Coprime}

pub record Roots (𝓥 : Valued) : Type 0 where
  pub two≢ : 𝓥.K.ops.add 𝓥.K.ops.𝟏 𝓥.K.ops.𝟏 ≢ 𝓥.K.ops.𝟎
  pub form : (u v : 𝓥.K.El) → let o = 𝓥.K.ops in
      o.add (o.add (o.mul u u) (o.neg (o.mul u v))) (o.mul v v) ≡ o.𝟎 → (u ≡ o.𝟎) × (v ≡ o.𝟎)
  -- "G, H squarefree, sharing no factor, not both constant"
  pub G : Poly 𝓥
  pub H : Poly 𝓥
  pub G_free : Squarefree 𝓥 G
  pub H_free : Squarefree 𝓥 H
  pub coprime : Coprime 𝓥 G H
  pub d_g : ℕ
  pub d_h : ℕ
  pub G_deg : Has 𝓥 G.0 d_g
  pub H_deg : Has 𝓥 H.0 d_h
  pub not_const : 1 ≤ d_g + d_h
  -- "rw = GH, r² = Hw"
  pub r : 𝓥.L.El
  pub w : 𝓥.L.El
  pub dr : ℕ
  pub dw : ℕ
  pub r_deg : Has 𝓥 r dr
  pub w_deg : Has 𝓥 w dw
  pub r_r : 𝓥.L.ops.mul r r ≡ 𝓥.L.ops.mul H.0 w
  pub r_w : 𝓥.L.ops.mul r w ≡ 𝓥.L.ops.mul G.0 H.0

pub record Setting : Type 1 where
  pub 𝓥 : Valued
  pub roots : Roots 𝓥

-- two settings over one ring of series speak of the same series and polynomials
abbrev pub at : {𝓥 : Valued} → Roots 𝓥 → Setting
at {𝓥} s = record { 𝓥 = 𝓥; roots = s }

abbrev pub P : Setting → Type 0
P S = Poly S.𝓥

-- deg GH, which bounds all that a basis holds
abbrev pub d_gh : Setting → ℕ
d_gh S = S.roots.d_g + S.roots.d_h
