-- Whether a list stands for a constant other than 0, by its length without the zeros above.
--   constant_yes, constant_no   it does where that is 1, and else it does not
use mathlib.Core.Path.{◌≡◌, refl, sym, ap, ◌∙◌}
use mathlib.Core.Logic.{◌≢◌}
use mathlib.Core.List.{List, [], ◌∷◌}
use Prim.Native.Nat.{ℕ, zero, suc, ◌+◌, ◌-◌, ◌<◌, ◌≤◌}
use native.Mathlib.Omega.{arith}
use lib.ListN.{get_or}
use Rattle.math_ring.proofs.Solve.{var, one, zer, ◌:+◌, ◌:*◌, solve}
use Rattle.math_rows.specs.Reading.{Reading}
use Rattle.math_rows.specs.Row.{Size, tpow, psum, coefs, row}
use Rattle.math_rows.proofs.Rows.{const_zero, psum_cut, row_cut}
use Rattle.math_rows.proofs.Unique.{const_inj, psum_unique}
use Rattle.unit_norm.specs.Norm.{NonZeroConstant}

module _ {p : ℕ} (ρ : Reading p) where
  open ρ use {𝓥, cast}
  open 𝓥 use {K, L, const}

  -- c and then zeros
  first : K.El → ℕ → K.El
  first c zero = c
  first c (suc i) = K.ops.𝟎

  first_psum : (c : K.El) (j : ℕ) → psum ρ (j + 1) (first c) ≡ const c
  unfolding psum tpow first
  first_psum c j = psum_cut ρ 1 j (first c) zeros ∙ solve L (zer :+ var 0 :* one) (var 0) tt (const c ∷ [])
    where
      zeros : (i : ℕ) → 1 ≤ i → first c i ≡ K.ops.𝟎
      zeros zero h = absurd (omega arith)
      zeros (suc i) h = refl

  pub constant_yes : (l : List ℕ) → ((i : ℕ) → get_or l i 0 < p) → Size l 1 → NonZeroConstant ρ (row ρ l)
  unfolding psum tpow
  constant_yes l h s = (
    cast (get_or l 0 0),
    (λ e. s.top (omega arith) (ρ.cast_small (get_or l 0 0) (h 0) e)),
    row_cut ρ l 1 s ∙ solve L (zer :+ var 0 :* one) (var 0) tt (const (cast (get_or l 0 0)) ∷ []),
  )

  pub constant_no : (l : List ℕ) (n : ℕ) → ((i : ℕ) → get_or l i 0 < p) → Size l n → n ≢ 1 → NonZeroConstant ρ (row ρ l) → ⊥
  unfolding psum first
  constant_no l zero h s z (c, nz, e) = nz (const_inj ρ c K.ops.𝟎 (sym e ∙ row_cut ρ l 0 s ∙ sym (const_zero ρ)))
  constant_no l (suc zero) h s z w = z refl
  constant_no l (suc (suc m)) h s z (c, nz, e) =
      let q : suc m + 1 ≡ suc (suc m) = omega arith in
      let u : psum ρ (suc (suc m)) (coefs ρ l) ≡ psum ρ (suc (suc m)) (first c) =
      sym (row_cut ρ l (suc (suc m)) s) ∙ e ∙ sym (first_psum c (suc m)) ∙ ap (λ k. psum ρ k (first c)) q in
      let v : coefs ρ l (suc m) ≡ K.ops.𝟎 = psum_unique ρ (suc (suc m)) (coefs ρ l) (first c) u (suc m) (omega arith) in
      let i : suc (suc m) - 1 ≡ suc m = omega arith in
      s.top (omega arith) (ap (λ k. get_or l k 0) i ∙ ρ.cast_small (get_or l (suc m) 0) (h (suc m)) v)
