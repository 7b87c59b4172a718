-- The factors from the leading coefficients.
--   two_asks, inverse_asks, root_asks   what the functions on numbers mod p ask
--   lead_times                          the product of two leading coefficients, mod p, has an inverse too
--   factors_law                         what the functions hand out are the factors
use mathlib.Core.Path.{◌≡◌, sym, ap, ◌∙◌, subst}
use mathlib.Core.List.{[], ◌∷◌}
use Prim.Native.Nat.{ℕ, ◌%◌, ◌<◌}
use Prim.Native.Nat as N
use native.Mathlib.Nat.{mod-lt}
use native.Mathlib.Omega.{arith}
use Rattle.math_ring.proofs.Solve.{var, one, ◌:*◌, hyp, solve_by}
use Rattle.math_fp.specs.Fp.{Prime}
use Rattle.math_rows.specs.Reading.{Reading}
use Rattle.math_rows.specs.Made.{reading}
use Rattle.math_rows.proofs.Numbers.{cast_product, product_some}
use Rattle.num_mod.specs.Residue.{IsModulus}
use Rattle.num_power.specs.Powers.{Two, Nonzero, Rooted, Inverse, CubeRoot}
use Rattle.pair_laws.specs.Rows.{Law}
use Rattle.pair_factors.specs.Code.{Kind, Lead}
use Rattle.pair_laws.proofs.Laws.{law_of}

module _ (p : ℕ) (k : Kind p) where
  abbrev pr : Prime p
  pr = k.prime

  abbrev ρ : Reading p
  ρ = reading p pr

  open ρ use {𝓥, cast}
  open 𝓥 use {K}
  open K.ops use {mul as ◌*◌, 𝟎 as 0ᵏ, 𝟏 as 1ᵏ}

  infixl 70 ◌*◌
  modulus : IsModulus p
  modulus = record { big = pr.big; small = omega (arith, k.small) }

  pub rest_below : (r n : ℕ) → r ≡ n % p → r < p
  rest_below r n e = subst (λ x. x < p) (sym e) (mod-lt n ρ.pos)

  pub two_asks : {a b : ℕ} → a < p → b < p → Two p a b
  two_asks l m = record { modulus = modulus; left = l; right = m }

  pub root_asks : {a : ℕ} → a < p → Rooted p a
  root_asks l = record { modulus = modulus; prime = pr; kind = k.kind; below = l }

  pub inverse_asks : {a : ℕ} → Lead p a → Nonzero p a
  inverse_asks l = record { modulus = modulus; prime = pr; pos = l.some; below = l.below }

  -- a remainder has the class of the product
  rest_cast : (r a b : ℕ) → r ≡ (N.◌*◌ a b) % p → cast r ≡ cast a * cast b
  rest_cast r a b e = ap cast e ∙ cast_product ρ a b

  inverse_cast : (a q : ℕ) → Inverse p a q → cast a * cast q ≡ 1ᵏ
  inverse_cast a q i = sym (rest_cast 1 a q (sym i.law)) ∙ ρ.cast_one

  -- p is prime: a product of two such numbers is not 0
  pub lead_times : (r a b : ℕ) → r ≡ (N.◌*◌ a b) % p → Lead p a → Lead p b → Lead p r
  lead_times r a b e l m = record {
    some = subst (λ z. 0 < z) (sym e) (product_some ρ a b l.some l.below m.some m.below);
    below = rest_below r (N.◌*◌ a b) e;
  }

  module _ (g h g' h' u a v b q s x : ℕ) (eu : u ≡ (N.◌*◌ h h) % p) (ea : a ≡ (N.◌*◌ g u) % p) (ev : v ≡ (N.◌*◌ h' h') % p) (eb : b ≡ (N.◌*◌ g' v) % p)
      (iq : Inverse p b q) (es : s ≡ (N.◌*◌ a q) % p) (rx : CubeRoot p s x) where
    -- x³ = g h² q and g' h'² q = 1
    cubed : cast x * cast x * cast x ≡ cast g * (cast h * cast h) * cast q
    cubed =
        ap (λ z. z * cast x) (sym (ρ.cast_mul x x)) ∙ sym (rest_cast s (N.◌*◌ x x) x (sym rx.law)) ∙ rest_cast s a q es
        ∙ ap (λ z. z * cast q) (rest_cast a g u ea ∙ ap (λ z. cast g * z) (rest_cast u h h eu))

    full : cast g' * (cast h' * cast h') * cast q ≡ 1ᵏ
    full = ap (λ z. z * cast q) (sym (rest_cast b g' v eb ∙ ap (λ z. cast g' * z) (rest_cast v h' h' ev))) ∙ inverse_cast b q iq

    pub factors_law : (w t i y : ℕ) → Inverse p h i → w ≡ (N.◌*◌ x x) % p → t ≡ (N.◌*◌ w h') % p → y ≡ (N.◌*◌ t i) % p → Law p x y g h g' h'
    factors_law w t i y ih ew et ey = law_of p pr x y g h g' h' rx.below (rest_below y (N.◌*◌ t i) ey)
        (solve_by K (var 0 :* var 0 :* var 0 :* (var 3 :* (var 4 :* var 4))) (var 1 :* (var 2 :* var 2))
        (hyp (var 3 :* (var 4 :* var 4)) (var 0 :* var 0 :* var 0) (var 1 :* (var 2 :* var 2) :* var 5) ∷ hyp (var 1 :* (var 2 :* var 2)) (var 3 :* (var 4 :* var 4) :* var 5) one ∷ []) tt
        (cast x ∷ cast g ∷ cast h ∷ cast g' ∷ cast h' ∷ cast q ∷ []) (cubed, (full, tt)))
        (solve_by K (var 3 :* var 1) (var 0 :* var 0 :* var 2)
        (hyp (var 1) (var 3) (var 0 :* var 0 :* var 2 :* var 4) ∷ hyp (var 0 :* var 0 :* var 2) (var 1 :* var 4) one ∷ []) tt
        (cast x ∷ cast h ∷ cast h' ∷ cast y ∷ cast i ∷ [])
        (rest_cast y t i ey ∙ ap (λ z. z * cast i) (rest_cast t w h' et ∙ ap (λ z. z * cast h') (rest_cast w x x ew)), (inverse_cast h i ih, tt)))
