-- Euclid's algorithm by leading terms. `Span a b x y`: the pairs (a, b) and (x, y) are combinations of each other. A swap and a turn
-- x := s x − c t^k y with s ≠ 0 keep it, and where y = 0 the polynomial x is a greatest common divisor of a and b.
use mathlib.Core.Path.{◌≡◌, ap, ◌∙◌}
use mathlib.Core.Logic.{◌≢◌}
use mathlib.Core.List.{[], ◌∷◌}
use Prim.Native.Nat.{ℕ}
use Rattle.math_ring.proofs.Solve.{var, zer, minus, ◌:+◌, ◌:*◌, solve}
use Rattle.math_valued.specs.Polynomial.{Poly}
use Rattle.math_valued.specs.Gcd.{IsGcd}
use Rattle.math_valued.proofs.Polynomial.{P_path}
use Rattle.math_rows.specs.Reading.{Reading}
use Rattle.math_rows.specs.Row.{tpow, comb}
use Rattle.math_turns.specs.Points.{Pt, Moved}
use Rattle.math_turns.proofs.Turn.{moved_start, moved_swap, moved_turn, moved_back}

module _ {p : ℕ} (ρ : Reading p) where
  open ρ use {𝓥}
  open 𝓥 use {K, L, const, IsPoly}
  open L.ops use {add as ◌+◌, mul as ◌*◌, neg as -◌, 𝟎, 𝟏}

  infixl 60 ◌+◌
  infixl 70 ◌*◌
  infix 80 -◌
  -- a change of basis, with points whose second part is 0
  abbrev alone : L.El → Pt L.El
  alone x = record { b = x; c = 𝟎 }

  abbrev pub Span : L.El → L.El → L.El → L.El → Type 0
  Span a b x y = Moved ρ (alone a) (alone b) (alone x) (alone y)

  pub span_start : (a b : L.El) → Span a b a b
  span_start a b = moved_start ρ (alone a) (alone b)

  pub span_swap : {a b x y : L.El} → Span a b x y → Span a b y x
  span_swap h = moved_swap ρ h

  pub span_turn : {a b x y z : L.El} (s c : K.El) (k : ℕ) → s ≢ K.ops.𝟎 → Span a b x y → z ≡ comb ρ s c k x y → Span a b z y
  span_turn s c k hs h e = moved_turn ρ hs h (record { at_b = e; at_c = solve L zer (var 0 :* zer :+ minus (var 1 :* (var 2 :* zer))) tt (const s ∷ const c ∷ tpow ρ k ∷ []) })

  pub span_gcd : (a b x : Poly ρ.𝓥) (y : L.El) → Span a.0 b.0 x.0 y → y ≡ 𝟎 → IsGcd ρ.𝓥 a b x
  span_gcd a b x y h z =
      let g = moved_back ρ h in record {
        left = (g.α, P_path 𝓥 (part a.0 g.α.0 g.β.0 g.m_b));
        right = (g.γ, P_path 𝓥 (part b.0 g.γ.0 g.δ.0 g.n_b));
        u = h.α;
        v = h.β;
        comb = P_path 𝓥 h.m_b;
      }
    where
      part : (w s t : L.El) → w ≡ s * x.0 + t * y → w ≡ x.0 * s
      part w s t e = e ∙ ap (λ i. s * x.0 + t * i) z ∙ solve L (var 0 :* var 1 :+ var 2 :* zer) (var 1 :* var 0) tt (s ∷ x.0 ∷ t ∷ [])
