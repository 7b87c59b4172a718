-- Bases by computed tests.
--   basis_l              the basis of written rows
--   lies_in             an element in its lattice
--   pure_is, by_is, norm_is   an element's meaning: of a polynomial, of a product; its norm
--   good_rows           it is the scaled reduced basis of a reduced ideal
use mathlib.Core.Path.{◌≡◌, refl, sym, ap, ap₂, ◌∙◌, subst}
use mathlib.Core.Logic.{◌⊎◌, inl, inr}
use mathlib.Core.Bool.{Bool, true, false, ◌&&◌, ◌||◌}
use mathlib.Core.List.{List, [], ◌∷◌}
use Prim.Native.Nat.{ℕ, suc, ◌-◌, ◌≤◌}
use native.Mathlib.Omega.{arith}
use lib.Dec.{T, ltb, eqb→eq, ltb→lt, leb→le}
use lib.ListN.{length, get_or}
use Rattle.math_ring.proofs.Solve.{Expr, var, minus as minusE, ◌:+◌, ◌:*◌}
use Rattle.math_triple.specs.Tri.{Tri, Nm, X as Xᵉ, norm_t}
use Rattle.math_fp.proofs.Trial.{and_l, and_r}
use Rattle.math_valued.specs.Polynomial.{polys}
use Rattle.math_valued.proofs.Degree as d
use Rattle.math_rows.specs.Reading.{Reading}
use Rattle.math_rows.specs.Made.{reading}
use Rattle.math_rows.specs.Row.{Floor}
use Rattle.field_open.specs.Refusal.{Accepted}
use Rattle.field_roots.specs.SeriesOf.{SeriesOf}
use Rattle.field_roots.specs.Prefix.{enough, plus_part, minus_part}
use Rattle.field_roots.specs.Pair.{deg_r, deg_w}
use Rattle.field_roots.proofs.Prefix.{prefix_is_enough}
use Rattle.math_ideals.specs.Setting.{Setting}
use Rattle.math_ideals.specs.Element.{O, sc, el_r, el_w, X, Y, Z, times_r, times_w, norm}
use Rattle.math_ideals.specs.Ideal.{Basis, In, det, Coords}
use Rattle.math_ideals.specs.Basis.{Good}
use Rattle.math_ideals.proofs.Sizes.{O_path}
use Rattle.math_ideals.proofs.Lattice.{lin_a, lin_b, lin_c, by_r, by_w, by_r_poly, by_w_poly}
use Rattle.math_ideals.proofs.Check.{coords_of}
use Rattle.math_ideals.specs.Tests.{Tests}
use Rattle.math_ideals.proofs.Tests.{good_of}
use Rattle.basis_record.specs.Record.{setting, poly_of}
use Rattle.examples_lists.specs.Lists.{ends}
use Rattle.examples_lists.specs.Quotients.{bezout}
use Rattle.examples_lists.specs.Lists as L
use Rattle.examples_lists.proofs.Lists.{ends_sound, lead_list}
use Rattle.math_ring.proofs.Hom.{hom_eval}
use Rattle.examples_lists.proofs.Meaning.{poly_hom, el, el_hom, el_alike, coprime_list}
use Rattle.examples_tests.specs.Rows.{Rows}
use Rattle.examples_tests.specs.Tests.{every, last, some, αOf, βOf, γOf, lies, lin_l, det_l, pure, root_r, root_w, by, shaped_at, double, has_top, x_part, y_part, short, sizes, apart, good}
use Rattle.examples_tests.proofs.Fields.{every_at, series_of}
use Rattle.examples_tests.proofs.Floors.{lead_floor, lt_floor, has_floor, has_top_lem, cast_two, floor_double}

pub or_cases : (a b : Bool) → T (a || b) → T a ⊎ T b
or_cases true b t = inl tt
or_cases false b t = inr t

module _ {p : ℕ} {G H : List ℕ} (A : Accepted p G H) where
  abbrev pub basis_l : Rows → Basis (setting A)
  basis_l b = record { U = poly_of A b.U; M = el p A.prime b.M; N = el p A.prime b.N }

  abbrev S : Setting
  S = setting A

  abbrev ρ : Reading p
  ρ = reading p A.prime

  open (polys (reading p A.prime).𝓥).ops use {𝟎 as 0ₚ}
  open (O (setting A)).ops use {mul as ◌⊗◌}

  infixl 70 ◌⊗◌
  abbrev three : Expr
  three = var 0 :* var 1 :+ var 2 :* var 3 :+ var 4 :* var 5

  abbrev two : Expr
  two = var 0 :* var 1 :+ var 2 :* var 3

  in_by : (b : Rows) (v : Tri (List ℕ)) (α β γ : List ℕ) → T (L.alike_t p v (lin_l p b α β γ)) → In (setting A) (basis_l b) (el p A.prime v)
  in_by b v α β γ t = record {
    α = poly_of A α;
    β = poly_of A β;
    γ = poly_of A γ;
    eq = el_alike p A.prime v (lin_l p b α β γ) t ∙ O_path S
        (hom_eval (poly_of A) (poly_hom p A.prime) three (α ∷ b.U ∷ β ∷ b.M.a ∷ γ ∷ b.N.a ∷ []) ∙ sym (lin_a S (basis_l b) (poly_of A α) (poly_of A β) (poly_of A γ)))
        (hom_eval (poly_of A) (poly_hom p A.prime) two (β ∷ b.M.b ∷ γ ∷ b.N.b ∷ []) ∙ sym (lin_b S (basis_l b) (poly_of A α) (poly_of A β) (poly_of A γ)))
        (hom_eval (poly_of A) (poly_hom p A.prime) two (β ∷ b.M.c ∷ γ ∷ b.N.c ∷ []) ∙ sym (lin_c S (basis_l b) (poly_of A α) (poly_of A β) (poly_of A γ)));
  }

  pub lies_in : (b : Rows) (v : Tri (List ℕ)) → T (lies p b v) → In (setting A) (basis_l b) (el p A.prime v)
  lies_in b v t = in_by b v (αOf p b v (βOf p b v) (γOf p b v)) (βOf p b v) (γOf p b v) t

  -- ---- elements
  pub pure_is : (a : List ℕ) → el p A.prime (pure p a) ≡ sc (setting A) (poly_of A a)
  pure_is a = λ i. record { a = poly_of A a; b = (poly_hom p A.prime).𝟎 i; c = (poly_hom p A.prime).𝟎 i }

  r_is : el p A.prime (root_r p) ≡ el_r S
  r_is = λ i. record { a = (poly_hom p A.prime).𝟎 i; b = (poly_hom p A.prime).𝟏 i; c = (poly_hom p A.prime).𝟎 i }

  w_is : el p A.prime (root_w p) ≡ el_w S
  w_is = λ i. record { a = (poly_hom p A.prime).𝟎 i; b = (poly_hom p A.prime).𝟎 i; c = (poly_hom p A.prime).𝟏 i }

  pub by_is : (x y : Tri (List ℕ)) → el p A.prime (by p G H x y) ≡ el p A.prime x ⊗ el p A.prime y
  by_is x y = (el_hom p A.prime G H).mul x y

  pub norm_is : (x : Tri (List ℕ)) → poly_of A (norm_t (L.lists p) G H x) ≡ norm (setting A) (el p A.prime x)
  norm_is x = hom_eval (poly_of A) (poly_hom p A.prime) (Nm Xᵉ) (G ∷ H ∷ x.a ∷ x.b ∷ x.c ∷ [])

  -- r v and w v in the lattice, v = el y
  coords_r : (b : Rows) (y : Tri (List ℕ)) → T (lies p b (by p G H (root_r p) y)) → Coords S (basis_l b) (times_r S (el p A.prime y))
  coords_r b y t = coords_of S (basis_l b) _ (subst (In S (basis_l b)) (by_is (root_r p) y ∙ ap (λ z. z ⊗ el p A.prime y) r_is ∙ by_r S (el p A.prime y)) (lies_in b (by p G H (root_r p) y) t))

  coords_w : (b : Rows) (y : Tri (List ℕ)) → T (lies p b (by p G H (root_w p) y)) → Coords S (basis_l b) (times_w S (el p A.prime y))
  coords_w b y t = coords_of S (basis_l b) _ (subst (In S (basis_l b)) (by_is (root_w p) y ∙ ap (λ z. z ⊗ el p A.prime y) w_is ∙ by_w S (el p A.prime y)) (lies_in b (by p G H (root_w p) y) t))

  one_r : (b : Rows) (a : List ℕ) → T (lies p b (by p G H (root_r p) (pure p a))) → Coords S (basis_l b) (record { a = 0ₚ; b = poly_of A a; c = 0ₚ })
  one_r b a t = coords_of S (basis_l b) _ (subst (In S (basis_l b)) (by_is (root_r p) (pure p a) ∙ ap₂ (λ z v. z ⊗ v) r_is (pure_is a) ∙ by_r_poly S (poly_of A a)) (lies_in b (by p G H (root_r p) (pure p a)) t))

  one_w : (b : Rows) (a : List ℕ) → T (lies p b (by p G H (root_w p) (pure p a))) → Coords S (basis_l b) (record { a = 0ₚ; b = 0ₚ; c = poly_of A a })
  one_w b a t = coords_of S (basis_l b) _ (subst (In S (basis_l b)) (by_is (root_w p) (pure p a) ∙ ap₂ (λ z v. z ⊗ v) w_is (pure_is a) ∙ by_w_poly S (poly_of A a)) (lies_in b (by p G H (root_w p) (pure p a)) t))

  pub det_is : (b : Rows) → poly_of A (det_l p b) ≡ det (setting A) (basis_l b)
  det_is b = hom_eval (poly_of A) (poly_hom p A.prime) (var 0 :* var 1 :+ minusE (var 2 :* var 3)) (b.M.b ∷ b.N.c ∷ b.M.c ∷ b.N.b ∷ [])

  -- ---- polynomial parts of X and Y
  degrees : (A.deg_g ≡ length G - 1) × (A.deg_h ≡ length H - 1)
  degrees =
      let g : length G ≡ suc A.deg_g = A.list_g.whole in
      let h : length H ≡ suc A.deg_h = A.list_h.whole in
      (omega arith, omega arith)

  -- both, at the degrees d of G and e of H
  Parts : List ℕ → List ℕ → Tri (List ℕ) → ℕ → ℕ → Type 0
  Parts r w v m n = Floor ρ (X S (el p A.prime v)) (plus_part p v.b v.c r w (deg_r m n) (deg_w m n)) × Floor ρ (Y S (el p A.prime v)) (minus_part p v.b v.c r w (deg_r m n) (deg_w m n))

  module _ (r w : List ℕ) (s : SeriesOf p G H r w) (l : enough ≤ length r) where
    parts : (v : Tri (List ℕ)) → T (short p G H r w v) → Parts r w v (length G - 1) (length H - 1)
    unfolding Parts
    parts v t =
        let (g, h) = degrees in
        subst (λ n. Parts r w v (length G - 1) n) h (subst (λ m. Parts r w v m A.deg_h) g
        (prefix_is_enough A A.prime r w s l v.b v.c (ends_sound v.b 17 (and_l (ends v.b 17) (ends v.c 17) t)) (ends_sound v.c 17 (and_r (ends v.b 17) (ends v.c 17) t))))

    -- the tests of refusal 9 (crate math_ideals), from those on lists
    pub tests_rows : (b : Rows) → T (short p G H r w b.M) → T (short p G H r w b.N) → T (sizes p G H r w b) → T (has_top p (det_l p b)) → T (apart p b.U b.M.c)
        → T (lies p b (by p G H (root_r p) (pure p b.U))) → T (lies p b (by p G H (root_r p) b.M)) → T (lies p b (by p G H (root_r p) b.N))
        → T (lies p b (by p G H (root_w p) (pure p b.U))) → T (lies p b (by p G H (root_w p) b.M)) → T (lies p b (by p G H (root_w p) b.N)) → Tests (setting A) (basis_l b)
    unfolding Parts
    tests_rows b m n t top one ru rm rn wu wm wn =
        let mx : List ℕ = x_part p G H r w b.M in
        let my : List ℕ = y_part p G H r w b.M in
        let nx : List ℕ = x_part p G H r w b.N in
        let ny : List ℕ = y_part p G H r w b.N in
        let u : ℕ = last b.U in
        let x : ℕ = last mx in
        let y : ℕ = last ny in
        let list : List Bool = shaped_at p u x y b.U mx my nx ny (double p b.M.a mx) (double p b.N.a nx) in
        let at : (i : ℕ) → T (get_or list i true) = every_at list t in
        let (fmx, fmy) = parts b.M m in
        let (fnx, fny) = parts b.N n in
        let uy : u ≤ y = leb→le u y (at 7) in
        record {
          sizes = record {
            numbers = record {
              u = u;
              x = x;
              y = y;
              U_lead = d.lead_eq ρ.𝓥 (lead_list ρ b.U u (at 0)) refl (ap ρ.cast (eqb→eq (get_or b.U u 0) 1 (at 1)) ∙ ρ.cast_one);
              X_M = d.lead_eq ρ.𝓥 (lead_floor ρ (X S (el p A.prime b.M)) mx x fmx (at 2)) refl (ap ρ.cast (eqb→eq (get_or mx x 0) 2 (at 3)) ∙ cast_two ρ);
              Y_N = d.lead_eq ρ.𝓥 (lead_floor ρ (Y S (el p A.prime b.N)) ny y fny (at 4)) refl (ap ρ.cast (eqb→eq (get_or ny y 0) 1 (at 5)) ∙ ρ.cast_one);
              u≤y = uy;
              X_N = lt_floor ρ (X S (el p A.prime b.N)) nx x fnx (at 8);
              Y_M = lt_floor ρ (Y S (el p A.prime b.M)) my u fmy (at 9);
              Z_M = lt_floor ρ (Z S (el p A.prime b.M)) (double p b.M.a mx) u (floor_double ρ b.M.a mx _ _ fmx) (at 10);
              Z_N = lt_floor ρ (Z S (el p A.prime b.N)) (double p b.N.a nx) u (floor_double ρ b.N.a nx _ _ fnx) (at 11);
            };
            u<x = ltb→lt u x (at 6);
            N_large = elim (or_cases (ltb u y) (ltb u (last nx) && (ends nx (suc (last nx)) && some p (get_or nx (last nx) 0))) (at 12)) [
              | inl k ↦ inl (ltb→lt u y k)
              | inr k ↦ let i : ℕ = last nx in
                  let e : T (ends nx (suc i) && some p (get_or nx i 0)) = and_r (ltb u i) (ends nx (suc i) && some p (get_or nx i 0)) k in
                  inr (
                    i,
                    ltb→lt u i (and_l (ltb u i) (ends nx (suc i) && some p (get_or nx i 0)) k),
                    has_floor ρ (X S (el p A.prime b.N)) nx i fnx (and_l (ends nx (suc i)) (some p (get_or nx i 0)) e) (and_r (ends nx (suc i)) (some p (get_or nx i 0)) e),
                  )
            ];
          };
          seven = λ k ku ka kb kc la lb lc. coprime_list p A.prime (bezout p b.U b.M.c).0 (bezout p b.U b.M.c).1 b.U b.M.c one k ku kc;
          closed = record {
            rank = λ e. d.has_not_zero ρ.𝓥 (d.has_eq ρ.𝓥 (has_top_lem ρ (det_l p b) top) (ap (λ z. z.0) (det_is b) ∙ e));
            r_one = one_r b b.U ru;
            w_one = one_w b b.U wu;
            r_M = coords_r b b.M rm;
            w_M = coords_w b b.M wm;
            r_N = coords_r b b.N rn;
            w_N = coords_w b b.N wn;
          };
        }

  pub good_rows : (r w : List ℕ) (b : Rows) → T (every (good p G H r w b)) → Good (setting A) (basis_l b)
  good_rows r w b t =
      let at : (i : ℕ) → T (get_or (good p G H r w b) i true) = every_at (good p G H r w b) t in
      good_of S (basis_l b) (tests_rows r w (series_of p G H r w (at 0)) (leb→le 26 (length r) (at 1)) b (at 2) (at 3) (at 4) (at 5) (at 6) (at 7) (at 8) (at 9) (at 10) (at 11) (at 12))
