-- The series r and w are settled by their laws: no other pair of series that have degrees obeys them. So a field has one `Setting`.
use mathlib.Core.Path.{◌≡◌, sym, ap, ◌∙◌}
use mathlib.Core.List.{[], ◌∷◌}
use mathlib.Core.Logic.{inl}
use Prim.Native.Nat.{ℕ}
use native.Mathlib.Omega.{arith}
use Rattle.math_ring.proofs.Laws as rg
use Rattle.math_ring.proofs.Solve.{var, hyp, one, zer, minus, ◌:+◌, ◌:*◌, solve_by}
use Rattle.math_valued.specs.Degree.{Has}
use Rattle.math_valued.proofs.Degree as d
use Rattle.math_ideals.specs.Setting.{Setting}
use Rattle.math_ideals.proofs.Values.{r_cube}
use Rattle.math_ideals.proofs.Form.{form'_has}

module _ (S : Setting) where
  open S use {𝓥}
  open S.roots use {G, H, r, w}
  open 𝓥 use {K, L, Lead}
  open L.ops use {add as ◌+◌, mul as ◌*◌, neg as -◌, 𝟎, 𝟏}

  infixl 60 ◌+◌
  infixl 70 ◌*◌
  infix 80 -◌
  pub roots_unique : {n : ℕ} (r' w' : L.El) → Has 𝓥 r' n → r' * r' ≡ H.0 * w' → r' * w' ≡ G.0 * H.0 → (r' ≡ r) × (w' ≡ w)
  roots_unique {n} r' w' h e f = (same_r, same_w)
    where
      cube : r' * r' * r' ≡ G.0 * (H.0 * H.0)
      cube = solve_by L (var 2 :* var 2 :* var 2) (var 0 :* (var 1 :* var 1)) (hyp (var 2) (var 2 :* var 2) (var 1 :* var 3) ∷ hyp (var 1) (var 2 :* var 3) (var 0 :* var 1) ∷ []) tt
          (G.0 ∷ H.0 ∷ r' ∷ w' ∷ []) (e, (f, tt))

      cubes : r' * r' * r' ≡ r * r * r
      cubes = cube ∙ sym (r_cube S)

      level : n ≡ S.roots.dr
      level = omega (arith, d.same 𝓥 (d.has_mul 𝓥 (d.has_mul 𝓥 h h) h) (d.has_eq 𝓥 (d.has_mul 𝓥 (d.has_mul 𝓥 S.roots.r_deg S.roots.r_deg) S.roots.r_deg) (sym cubes)))

      -- (r' − r)(r'² + r' r + r²) = 0, and the second factor has a degree
      same_r : r' ≡ r
      same_r = rg.eq_of_sub L r' r (d.cancel 𝓥 (r' + - r) 𝟎 (form'_has S h.2 (𝓥.lead_move n 0 (𝓥.lead_neg S.roots.r_deg.2) (omega (arith, level))) (inl h.1))
          (solve_by L ((var 0 :* var 0 :+ minus (var 0 :* minus (var 1)) :+ minus (var 1) :* minus (var 1)) :* (var 0 :+ minus (var 1))) ((var 0 :* var 0 :+ minus (var 0 :* minus (var 1)) :+ minus (var 1) :* minus (var 1)) :* zer)
          (hyp one (var 0 :* var 0 :* var 0) (var 1 :* var 1 :* var 1) ∷ []) tt (r' ∷ r ∷ []) (cubes, tt)))

      same_w : w' ≡ w
      same_w = d.cancel 𝓥 w' w S.roots.H_deg (sym e ∙ ap (λ z. z * z) same_r ∙ S.roots.r_r)
