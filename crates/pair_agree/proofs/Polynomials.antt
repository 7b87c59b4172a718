-- The polynomials of lists that agree after they are made monic.
--   monic_poly   the polynomial of a list is its leading coefficient times that of the list made monic
--   agree_poly   the polynomials of two lists that agree differ by a constant that is not 0
use mathlib.Core.Path.{◌≡◌, sym, ap, ◌∙◌}
use mathlib.Core.List.{List, [], ◌∷◌}
use Prim.Native.Nat.{ℕ}
use Prim.Native.Nat as N
use lib.ListN.{length, get_or}
use Rattle.math_ring.proofs.Solve.{var, one, minus, ◌:*◌, hyp, solve_by}
use Rattle.math_fp.specs.Fp.{Prime}
use Rattle.math_valued.specs.Polynomial.{polys, Poly, IsUnit}
use Rattle.math_valued.proofs.Polynomial.{P_path, const_unit}
use Rattle.math_rows.specs.Reading.{Reading}
use Rattle.math_rows.specs.Made.{reading}
use Rattle.math_rows.specs.Row.{psum, coefs, row}
use Rattle.math_rows.proofs.Rows.{psum_ext, psum_scale}
use Rattle.math_rows.proofs.Unique.{same_cast}
use Rattle.poly_rows.specs.Polynomial.{polynomial}
use Rattle.field_open.specs.Refusal.{Degree}
use Rattle.pair_laws.specs.OneField.{leading, Monic, Agree}
use Rattle.pair_laws.proofs.Lists.{leading_not}

module _ (p : ℕ) (pr : Prime p) where
  abbrev ρ : Reading p
  ρ = reading p pr

  open ρ use {𝓥, cast}
  open 𝓥 use {K, L, const}
  open K.ops use {mul as ◌*ᵏ◌}
  open (polys 𝓥).ops use {mul as ◌⊠◌}

  infixl 70 ◌⊠◌ ◌*ᵏ◌
  -- ---- the leading coefficient
  abbrev lc : List ℕ → Poly 𝓥
  lc l = (const (cast (leading l)), 𝓥.const_poly (cast (leading l)))

  lc_unit : {l : List ℕ} {n : ℕ} → Degree p l n → IsUnit 𝓥 (lc l)
  lc_unit {l} h = const_unit 𝓥 (lc l) (cast (leading l), leading_not p pr h, 𝓥.const_lead (cast (leading l)))

  -- ---- made monic
  monic_poly : (l m : List ℕ) → Monic p l m → polynomial p pr l ≡ lc l ⊠ polynomial p pr m
  unfolding row
  monic_poly l m h = P_path 𝓥
      (ap (λ n. psum ρ n (coefs ρ l)) (sym h.long)
      ∙ psum_ext ρ (length m) (coefs ρ l) (λ i. cast (leading l) *ᵏ coefs ρ m i)
      (λ i u. sym (same_cast ρ (N.◌*◌ (leading l) (get_or m i 0)) (get_or l i 0) (h.times i)) ∙ ρ.cast_mul (leading l) (get_or m i 0))
      ∙ psum_scale ρ (length m) (cast (leading l)) (coefs ρ m))

  -- l' = (lc l' / lc l) l, where q and q' are the inverses of lc l and lc l'
  pub agree_poly : {l l' : List ℕ} {n n' : ℕ} → Degree p l n → Degree p l' n' → Agree p l l'
      → (α : Poly 𝓥) × IsUnit 𝓥 α × (polynomial p pr l' ≡ α ⊠ polynomial p pr l)
  agree_poly {l} {l'} h h' (m, a, b) =
      let (q, e) = lc_unit h in
      let (q', e') = lc_unit h' in (
        lc l' ⊠ q,
        (
          lc l ⊠ q',
          solve_by (polys 𝓥) one (var 2 :* var 1 :* (var 0 :* var 3)) (hyp one one (var 0 :* var 1) ∷ hyp (var 0 :* var 1) one (var 2 :* var 3) ∷ []) tt
              (lc l ∷ q ∷ lc l' ∷ q' ∷ []) (e, (e', tt)),
        ),
        solve_by (polys 𝓥) (var 4) (var 2 :* var 1 :* var 3)
            (hyp one (var 4) (var 2 :* var 5) ∷ hyp (var 2 :* var 5) one (var 0 :* var 1) ∷ hyp (minus (var 2 :* var 1)) (var 3) (var 0 :* var 5) ∷ []) tt
            (lc l ∷ q ∷ lc l' ∷ polynomial p pr l ∷ polynomial p pr l' ∷ polynomial p pr m ∷ [])
            (monic_poly l' m b, (e, (monic_poly l m a, tt))),
      )
