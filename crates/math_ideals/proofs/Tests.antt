-- The tests of refusal 9: each is necessary, and together they are the definition.
--   numbers_basis numbers_scaled   what a basis in numbers says without them
--   good_of tests_of               `Tests` is the same as `Good`
--   no_factor_gcd                  the seven have no common factor exactly where their greatest common divisor is a unit
use mathlib.Core.Path.{sym, subst}
use mathlib.Core.Logic.{inl, inr}
use Prim.Native.Nat.{◌<◌}
use Rattle.math_valued.specs.Degree.{Has}
use Rattle.math_valued.specs.Polynomial.{polys, Divides, IsUnit}
use Rattle.math_valued.proofs.Degree as d
use Rattle.math_valued.proofs.Compare.{≺-has, has_≼, has_≺, lt_≺, leads_at}
use Rattle.math_valued.proofs.Gcds.{divides_trans}
use Rattle.math_ideals.specs.Setting.{Setting, P}
use Rattle.math_ideals.specs.Element.{X, Y}
use Rattle.math_ideals.specs.Ideal.{Basis, In, Ideal}
use Rattle.math_ideals.specs.Basis.{ReducedBasis, NoFactor, Scaled, Good}
use Rattle.math_ideals.specs.Tests.{NumbersOf, IsClosed, Tests}
use Rattle.math_ideals.proofs.Lattice.{in_U, in_M, in_N, by_r, by_w, by_r_poly, by_w_poly}
use Rattle.math_ideals.proofs.Check.{coords_of, in_of, ideal_of}
use Rattle.math_ideals.proofs.Degrees.{Small, small}

module _ (S : Setting) where
  open S use {𝓥}
  open 𝓥.K.ops use {add as ◌+ᵏ◌, 𝟏 as 1ᵏ}

  infixl 60 ◌+ᵏ◌
  module _ (B : Basis S) (n : NumbersOf S B) where
    pub U_has : Has 𝓥 B.U.0 n.u
    U_has = (1ᵏ, 𝓥.one≢zero, n.U_lead)

    X_has : Has 𝓥 (X S B.M) n.x
    X_has = (1ᵏ +ᵏ 1ᵏ, S.roots.two≢, n.X_M)

    Y_has : Has 𝓥 (Y S B.N) n.y
    Y_has = (1ᵏ, 𝓥.one≢zero, n.Y_N)

    pub numbers_basis : ReducedBasis S B
    numbers_basis = record { X_N = lt_≺ 𝓥 n.X_N X_has; Y_M = lt_≺ 𝓥 n.Y_M U_has; Y_N = has_≼ 𝓥 U_has Y_has n.u≤y; Z_M = lt_≺ 𝓥 n.Z_M U_has; Z_N = lt_≺ 𝓥 n.Z_N U_has }

    pub numbers_scaled : NoFactor S B → Scaled S B
    numbers_scaled seven = record { X_M = (n.x, 0, S.roots.two≢, n.X_M); Y_N = (n.y, 0, 𝓥.one≢zero, n.Y_N); monic = (n.u, 0, 𝓥.one≢zero, n.U_lead); seven = seven }

  pub good_of : (B : Basis S) → Tests S B → Good S B
  good_of B t =
      let n : NumbersOf S B = t.sizes.numbers in
      let k : IsClosed S B = t.closed in
      record {
        ideal = ideal_of S B (λ e. d.has_not_zero 𝓥 (d.has_eq 𝓥 (U_has B n) e)) k.rank
            (subst (In S B) (sym (by_r_poly S B.U)) (in_of S B k.rank _ k.r_one))
            (subst (In S B) (sym (by_r S B.M)) (in_of S B k.rank _ k.r_M))
            (subst (In S B) (sym (by_r S B.N)) (in_of S B k.rank _ k.r_N))
            (subst (In S B) (sym (by_w_poly S B.U)) (in_of S B k.rank _ k.w_one))
            (subst (In S B) (sym (by_w S B.M)) (in_of S B k.rank _ k.w_M))
            (subst (In S B) (sym (by_w S B.N)) (in_of S B k.rank _ k.w_N));
        basis = numbers_basis B n;
        scaled = numbers_scaled B n t.seven;
        reduced = record {
          X_M = has_≺ 𝓥 (U_has B n) (X_has B n) t.sizes.u<x;
          N_large = elim t.sizes.N_large [ inl l ↦ inr (has_≺ 𝓥 (U_has B n) (Y_has B n) l) | inr (i, l, h) ↦ inl (has_≺ 𝓥 (U_has B n) h l) ];
        };
      }

  pub tests_of : (B : Basis S) → Good S B → Tests S B
  tests_of B good =
      let s : Small S B = small S B good in
      let i : Ideal S B = good.ideal in
      record {
        sizes = record {
          numbers = record {
            u = s.u;
            x = s.x;
            y = s.y;
            U_lead = leads_at 𝓥 good.scaled.monic s.U_has;
            X_M = leads_at 𝓥 good.scaled.X_M s.X_M;
            Y_N = leads_at 𝓥 good.scaled.Y_N s.Y_N;
            u≤y = s.u≤y;
            X_N = s.X_N;
            Y_M = s.Y_M;
            Z_M = s.Z_M;
            Z_N = s.Z_N;
          };
          u<x = s.u<x;
          N_large = elim good.reduced.N_large [
            | inl k ↦ let (j, l, h) = ≺-has 𝓥 k s.U_has in inr (j, l, h)
            | inr k ↦ let (j, l, h) = ≺-has 𝓥 k s.U_has in inl (subst (λ n. s.u < n) (d.same 𝓥 h s.Y_N) l)
          ];
        };
        seven = good.scaled.seven;
        closed = record {
          rank = i.rank;
          r_one = coords_of S B _ (subst (In S B) (by_r_poly S B.U) (i.by_r _ (in_U S B)));
          w_one = coords_of S B _ (subst (In S B) (by_w_poly S B.U) (i.by_w _ (in_U S B)));
          r_M = coords_of S B _ (subst (In S B) (by_r S B.M) (i.by_r _ (in_M S B)));
          w_M = coords_of S B _ (subst (In S B) (by_w S B.M) (i.by_w _ (in_M S B)));
          r_N = coords_of S B _ (subst (In S B) (by_r S B.N) (i.by_r _ (in_N S B)));
          w_N = coords_of S B _ (subst (In S B) (by_w S B.N) (i.by_w _ (in_N S B)));
        };
      }

  -- d divides all seven
  abbrev pub AllSeven : P S → Basis S → Type 0
  AllSeven d B = Divides 𝓥 d B.U × Divides 𝓥 d B.M.a × Divides 𝓥 d B.M.b × Divides 𝓥 d B.M.c × Divides 𝓥 d B.N.a × Divides 𝓥 d B.N.b × Divides 𝓥 d B.N.c

  pub no_factor_gcd : (B : Basis S) (g : P S) → AllSeven g B → ((d : P S) → AllSeven d B → Divides 𝓥 d g) → (NoFactor S B → IsUnit 𝓥 g) × (IsUnit 𝓥 g → NoFactor S B)
  no_factor_gcd B g (a₀, a₁, a₂, a₃, a₄, a₅, a₆) most = (
    λ none. none g a₀ a₁ a₂ a₃ a₄ a₅ a₆,
    λ unit d b₀ b₁ b₂ b₃ b₄ b₅ b₆. divides_trans 𝓥 d g (polys 𝓥).ops.𝟏 (most d (b₀, b₁, b₂, b₃, b₄, b₅, b₆)) unit,
  )
