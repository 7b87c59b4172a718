-- The law of the factors, in the field of p elements.
--   law_of      from its two equations there; `cubes`, `squares`: the equations
--   law_unique     the leading coefficients settle the factors
--   law_swap    the factors of H, G and H', G' are those of G, H and G', H', exchanged
--   law_back    the factors there times the factors back are 1
use mathlib.Core.Path.{◌≡◌, sym, ap, ap₂, ◌∙◌}
use mathlib.Core.Logic.{◌≢◌}
use mathlib.Core.List.{List, [], ◌∷◌}
use Prim.Native.Nat.{ℕ, ◌%◌, ◌<◌}
use Prim.Native.Nat as N
use Rattle.math_ring.proofs.Solve.{Expr, var, one, minus, ◌:+◌, ◌:*◌, hyp, solve_by}
use Rattle.math_fp.specs.Fp.{Prime}
use Rattle.math_valued.proofs.Degree.{k_domain, k_cancel}
use Rattle.math_rows.specs.Reading.{Reading}
use Rattle.math_rows.specs.Made.{reading}
use Rattle.math_rows.proofs.Unique.{cast_inj, same_cast, mod_of}
use Rattle.math_rows.proofs.Numbers.{cast_square, cast_cube}
use Rattle.math_rows.proofs.Constants.{cube_inj}
use Rattle.pair_laws.specs.Rows.{Law}

-- x, y, g, h, g', h' and the two equations of the law, for the solver
abbrev X : Expr
X = var 0

abbrev Y : Expr
Y = var 1

abbrev G : Expr
G = var 2

abbrev H : Expr
H = var 3

abbrev G' : Expr
G' = var 4

abbrev H' : Expr
H' = var 5

abbrev cubeˡ : Expr
cubeˡ = X :* X :* X :* (G' :* (H' :* H'))

abbrev cubeʳ : Expr
cubeʳ = G :* (H :* H)

abbrev squareˡ : Expr
squareˡ = Y :* H

abbrev squareʳ : Expr
squareʳ = X :* X :* H'

module _ (p : ℕ) (pr : Prime p) where
  abbrev ρ : Reading p
  ρ = reading p pr

  open ρ use {𝓥, cast}
  open 𝓥 use {K}
  open K.ops use {mul as ◌*◌, 𝟎 as 0ᵏ, 𝟏 as 1ᵏ}

  infixl 70 ◌*◌
  module _ (x y g h g' h' : ℕ) where
    cube_cast : cast (N.◌*◌ (N.◌*◌ (N.◌*◌ x x) x) (N.◌*◌ g' (N.◌*◌ h' h'))) ≡ cast x * cast x * cast x * (cast g' * (cast h' * cast h'))
    cube_cast = ρ.cast_mul (N.◌*◌ (N.◌*◌ x x) x) (N.◌*◌ g' (N.◌*◌ h' h'))
        ∙ ap₂ ◌*◌ (cast_cube ρ x) (cast_square ρ g' h')

    square_cast : cast (N.◌*◌ (N.◌*◌ x x) h') ≡ cast x * cast x * cast h'
    square_cast = ρ.cast_mul (N.◌*◌ x x) h' ∙ ap (λ z. z * cast h') (ρ.cast_mul x x)

    pub law_of : x < p → y < p → cast x * cast x * cast x * (cast g' * (cast h' * cast h')) ≡ cast g * (cast h * cast h) → cast y * cast h ≡ cast x * cast x * cast h' → Law p x y g h g' h'
    law_of lx ly e f = record {
      x_below = lx;
      y_below = ly;
      cube = mod_of ρ _ _ (cube_cast ∙ e ∙ sym (cast_square ρ g h));
      square = mod_of ρ _ _ (ρ.cast_mul y h ∙ f ∙ sym square_cast);
    }

    module _ (w : Law p x y g h g' h') where
      cubes : cast x * cast x * cast x * (cast g' * (cast h' * cast h')) ≡ cast g * (cast h * cast h)
      cubes = sym cube_cast ∙ same_cast ρ _ _ w.cube ∙ cast_square ρ g h

      squares : cast y * cast h ≡ cast x * cast x * cast h'
      squares = sym (ρ.cast_mul y h) ∙ same_cast ρ _ _ w.square ∙ square_cast

  -- x³ = g h²/(g' h'²), and p mod 3 = 2
  pub law_unique : p % 3 ≡ 2 → {x y x' y' g h g' h' : ℕ} → cast g' ≢ 0ᵏ → cast h' ≢ 0ᵏ → cast h ≢ 0ᵏ →
      Law p x y g h g' h' → Law p x' y' g h g' h' → (x ≡ x') × (y ≡ y')
  law_unique kind {x} {y} {x'} {y'} {g} {h} {g'} {h'} ng nh ne a b = (same_x, same_y)
    where
      same_x : x ≡ x'
      same_x = cast_inj ρ x x' a.x_below b.x_below (cube_inj ρ pr kind (cast x) (cast x')
          (k_cancel 𝓥 (cast g' * (cast h' * cast h')) _ _ (k_domain 𝓥 (cast g') (cast h' * cast h') ng (k_domain 𝓥 (cast h') (cast h') nh nh))
          (K.laws.mul_comm _ _ ∙ cubes x y g h g' h' a ∙ sym (cubes x' y' g h g' h' b) ∙ K.laws.mul_comm _ _)))

      same_y : y ≡ y'
      same_y = cast_inj ρ y y' a.y_below b.y_below (k_cancel 𝓥 (cast h) (cast y) (cast y') ne
          (K.laws.mul_comm (cast h) (cast y) ∙ squares x y g h g' h' a ∙ ap (λ z. cast z * cast z * cast h') same_x ∙ sym (squares x' y' g h g' h' b) ∙ K.laws.mul_comm (cast y') (cast h)))

  module _ (x y g h g' h' : ℕ) (w : Law p x y g h g' h') (nh : cast h ≢ 0ᵏ) where
    abbrev known : List K.El
    known = cast x ∷ cast y ∷ cast g ∷ cast h ∷ cast g' ∷ cast h' ∷ []

    under : (a b : K.El) → cast h * a ≡ cast h * b → a ≡ b
    under a b = k_cancel 𝓥 (cast h) a b nh

    -- h³ y³ h' g'² = x⁶ h'⁴ g'² = g² h⁴
    other_cube : cast y * cast y * cast y * (cast h' * (cast g' * cast g')) ≡ cast h * (cast g * cast g)
    other_cube = under _ _ (under _ _ (under _ _
        (solve_by K (H :* (H :* (H :* (Y :* Y :* Y :* (H' :* (G' :* G')))))) (H :* (H :* (H :* (H :* (G :* G)))))
        (hyp (cubeˡ :+ cubeʳ) cubeˡ cubeʳ ∷ hyp (H' :* (G' :* G') :* (squareˡ :* squareˡ :+ squareˡ :* squareʳ :+ squareʳ :* squareʳ)) squareˡ squareʳ ∷ []) tt
        known (cubes x y g h g' h' w, (squares x y g h g' h' w, tt)))))

    -- h² x g = x⁴ g' h'² = h² y² g'
    other_square : cast x * cast g ≡ cast y * cast y * cast g'
    other_square = under _ _ (under _ _
        (solve_by K (H :* (H :* (X :* G))) (H :* (H :* (Y :* Y :* G')))
        (hyp (minus X) cubeˡ cubeʳ ∷ hyp (minus (G' :* (squareˡ :+ squareʳ))) squareˡ squareʳ ∷ []) tt
        known (cubes x y g h g' h' w, (squares x y g h g' h' w, tt))))

    pub law_swap : Law p y x h g h' g'
    law_swap = law_of y x h g h' g' w.y_below w.x_below other_cube other_square

  module _ (x y x' y' g h g' h' : ℕ) (w : Law p x y g h g' h') (w' : Law p x' y' g' h' g h) (ng : cast g ≢ 0ᵏ) (nh : cast h ≢ 0ᵏ) (nh' : cast h' ≢ 0ᵏ) where
    -- (x x')³ g h² = g h²
    back_x : p % 3 ≡ 2 → cast x * cast x' ≡ 1ᵏ
    back_x kind = cube_inj ρ pr kind (cast x * cast x') 1ᵏ
        (k_cancel 𝓥 (cast g * (cast h * cast h)) _ _ (k_domain 𝓥 (cast g) (cast h * cast h) ng (k_domain 𝓥 (cast h) (cast h) nh nh))
        (solve_by K (cubeʳ :* (var 0 :* var 1 :* (var 0 :* var 1) :* (var 0 :* var 1))) (cubeʳ :* (one :* one :* one))
        (hyp (var 0 :* var 0 :* var 0) (var 1 :* var 1 :* var 1 :* cubeʳ) (G' :* (H' :* H')) ∷ hyp one (var 0 :* var 0 :* var 0 :* (G' :* (H' :* H'))) cubeʳ ∷ []) tt
        (cast x ∷ cast x' ∷ cast g ∷ cast h ∷ cast g' ∷ cast h' ∷ [])
        (cubes x' y' g' h' g h w', (cubes x y g h g' h' w, tt))))

    -- h h' y y' = (x x')² h h'
    back_y : cast x * cast x' ≡ 1ᵏ → cast y * cast y' ≡ 1ᵏ
    back_y e = k_cancel 𝓥 (cast h) _ _ nh (k_cancel 𝓥 (cast h') _ _ nh'
        (solve_by K (H' :* (H :* (var 2 :* var 4))) (H' :* (H :* one))
        (hyp (var 4 :* H') (var 2 :* H) (X :* X :* H') ∷ hyp (X :* X :* H') (var 4 :* H') (var 1 :* var 1 :* H) ∷ hyp (H :* H' :* (X :* var 1 :+ one)) (X :* var 1) one ∷ []) tt
        (cast x ∷ cast x' ∷ cast y ∷ cast h ∷ cast y' ∷ cast h' ∷ [])
        (squares x y g h g' h' w, (squares x' y' g' h' g h w', (e, tt)))))

    pub law_back : p % 3 ≡ 2 → (cast x * cast x' ≡ 1ᵏ) × (cast y * cast y' ≡ 1ᵏ)
    law_back kind = let e = back_x kind in (e, back_y e)
