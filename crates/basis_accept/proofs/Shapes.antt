-- Lengths and leading coefficients of polynomial parts decide the sizes.
--   part_m, part_n, twice_in   what `sizes_right` asks of its calls
--   numbers_of, shape_is       the shape of U and of the polynomial parts is the same as the sizes
--   shaped_of                  so a test of the one is a test of the other
use mathlib.Core.Path.{◌≡◌, refl, sym, ap, ap₂, ◌∙◌, subst}
use mathlib.Core.Logic.{◌≢◌, inl, inr}
use mathlib.Core.Bool.{Bool, true, false}
use mathlib.Core.List.{List, [], ◌∷◌}
use Prim.Native.Nat.{ℕ, zero, suc, ◌-◌, ◌<◌, ◌≤◌}
use native.Mathlib.Omega.{arith}
use lib.ListN.{get_or}
use Rattle.math_ring.proofs.Solve.{var, one, zer, minus, ◌:+◌, ◌:*◌, solve}
use Rattle.math_valued.proofs.Degree as d
use Rattle.math_rows.specs.Reading.{Reading}
use Rattle.math_rows.specs.Made.{reading}
use Rattle.math_rows.specs.Row.{Row, Size, row, tpow, Floor}
use Rattle.math_rows.proofs.Rows.{size_lead_at}
use Rattle.math_rows.proofs.Floors.{sized, floor_lt, floor_top, floor_has, floor_le, floor_lead}
use Rattle.math_rows.proofs.Unique.{cast_inj}
use Rattle.poly_cross.specs.Cross.{CrossInAsks, Crossed}
use Rattle.poly_cross.proofs.Cross.{cross_by}
use Rattle.base_answers.specs.Decides.{Decides}
use Rattle.basis_record.specs.declared.Seven.{Seven}
use Rattle.basis_parts.specs.Frame.{Frame, Meaning, rowμ, pt, X, Y}
use Rattle.basis_parts.specs.Leaves.{PartAsks, Parted}
use Rattle.basis_finish.specs.Based.{Z}
use Rattle.basis_shape.specs.Lengths.{Shape}
use Rattle.basis_accept.specs.Tests.{SizesRightAsks, Numbers}

-- ---- what `sizes_right` asks of its calls
module _ {F : Frame} {top : ℕ} {b : Seven} (i : SizesRightAsks F top b) where
  pub part_m : PartAsks F b.m1 b.m2 top
  part_m = record { fine = i.fine; some = i.some; hb = i.h1; hc = i.h2; fits = i.fits; low_r = i.low_r; low_w = i.low_w }

  pub part_n : PartAsks F b.n1 b.n2 top
  part_n = record { fine = i.fine; some = i.some; hb = i.k1; hc = i.k2; fits = i.fits; low_r = i.low_r; low_w = i.low_w }

  -- 2a − x
  pub twice_in : {a x : List ℕ} → Row F.m.p a → Row F.m.p x → CrossInAsks F.m 2 a 1 0 x 32
  twice_in {a = a} {x = x} ha hx =
      let t : 2 < F.m.p = i.two in
      let (n, sa) = sized a in
      let (m, sx) = sized x in
      cross_by 32 i.fine.modulus i.some.prime t (omega arith) ha hx sa sx (subst (λ k. n ≤ k) ha.size sa.fits) (let l : m ≤ 32 = subst (λ k. m ≤ k) hx.size sx.fits in omega arith) (omega arith)

-- ---- sizes
module _ {F : Frame} (μ : Meaning F) {top : ℕ} {b : Seven} {mx my nx ny zm zn : List ℕ} (i : SizesRightAsks F top b)
    (pmx : Parted F false b.m1 b.m2 top mx) (pmy : Parted F true b.m1 b.m2 top my) (pnx : Parted F false b.n1 b.n2 top nx) (pny : Parted F true b.n1 b.n2 top ny)
    (cm : Crossed F.m.p 2 b.m0 1 0 mx zm) (cn : Crossed F.m.p 2 b.n0 1 0 nx zn) where
  abbrev ρ : Reading F.m.p
  ρ = reading F.m.p μ.prime

  open reading F.m.p μ.prime use {𝓥, cast}
  open 𝓥 use {K, L, Lead, const}
  open K.ops use {add as ◌+ᵏ◌, 𝟏 as 1ᵏ, 𝟎 as 0ᵏ}

  infixl 60 ◌+ᵏ◌
  cast_two : cast 2 ≡ 1ᵏ +ᵏ 1ᵏ
  cast_two = ρ.cast_add 1 1 ∙ ap₂ ◌+ᵏ◌ ρ.cast_one ρ.cast_one

  const_two : const (cast 2) ≡ L.ops.add L.ops.𝟏 L.ops.𝟏
  const_two = ap const cast_two ∙ ρ.const_add 1ᵏ 1ᵏ ∙ ap₂ L.ops.add ρ.const_one ρ.const_one

  -- 2a − z is the polynomial part of 2a − b r − c w
  floor_z : (a b₁ c₁ z s : List ℕ) → Floor ρ (X μ (pt μ b₁ c₁)) z → Crossed F.m.p 2 a 1 0 z s → Floor ρ (Z μ (rowμ μ a) (rowμ μ b₁) (rowμ μ c₁)) s
  unfolding tpow
  floor_z a b₁ c₁ z s f cr = d.lt_eq 𝓥 (d.lt_neg 𝓥 f)
      (solve L (minus (var 1 :+ var 2 :+ minus (var 3))) ((one :+ one) :* var 0 :+ minus (var 1) :+ minus (var 2) :+ minus ((one :+ one) :* var 0 :+ minus (one :* (one :* var 3)))) tt
      (rowμ μ a ∷ L.ops.mul (rowμ μ b₁) μ.r ∷ L.ops.mul (rowμ μ c₁) μ.w ∷ row ρ z ∷ [])
      ∙ ap (λ t. L.ops.add (Z μ (rowμ μ a) (rowμ μ b₁) (rowμ μ c₁)) (L.ops.neg t)) (sym (cr.law μ.prime ∙ ap₂ (λ s t. L.ops.add (L.ops.mul s (row ρ a)) (L.ops.neg (L.ops.mul t (L.ops.mul L.ops.𝟏 (row ρ z))))) const_two (ap const ρ.cast_one ∙ ρ.const_one))))

  f_m : Floor ρ (Z μ (rowμ μ b.m0) (rowμ μ b.m1) (rowμ μ b.m2)) zm
  f_m = floor_z b.m0 b.m1 b.m2 mx zm (pmx.law μ) cm

  f_n : Floor ρ (Z μ (rowμ μ b.n0) (rowμ μ b.n1) (rowμ μ b.n2)) zn
  f_n = floor_z b.n0 b.n1 b.n2 nx zn (pnx.law μ) cn

  pub numbers_of : Shape b.u mx my nx ny zm zn → Numbers μ b
  numbers_of s =
      let o = s.ordered in
      let o₁ : s.lm < s.lu = o.Y_M in
      let o₂ : s.a < s.lu = o.Z_M in
      let o₃ : s.b < s.lu = o.Z_N in
      let o₄ : s.lu ≤ s.ly = o.Y_N in
      let o₅ : s.lu < s.lx = o.X_M in
      let o₆ : s.ln < s.lx = o.X_N in
      record {
        numbers = record {
          u = s.lu - 1;
          x = s.lx - 1;
          y = s.ly - 1;
          U_lead = d.lead_eq 𝓥 (size_lead_at ρ s.lu s.su (omega arith)) refl (ap cast s.units.U_one ∙ ρ.cast_one);
          X_M = d.lead_eq 𝓥 (floor_top ρ s.lx (pmx.law μ) s.sx (omega arith)) refl (ap cast s.units.X_two ∙ cast_two);
          Y_N = d.lead_eq 𝓥 (floor_top ρ s.ly (pny.law μ) s.sy (omega arith)) refl (ap cast s.units.Y_one ∙ ρ.cast_one);
          u≤y = omega arith;
          X_N = d.lt_up 𝓥 (s.lx - 1) (floor_lt ρ (pnx.law μ) s.sn) (omega arith);
          Y_M = d.lt_up 𝓥 (s.lu - 1) (floor_lt ρ (pmy.law μ) s.sm) (omega arith);
          Z_M = d.lt_up 𝓥 (s.lu - 1) (floor_lt ρ f_m s.sa) (omega arith);
          Z_N = d.lt_up 𝓥 (s.lu - 1) (floor_lt ρ f_n s.sb) (omega arith);
        };
        u<x = omega arith;
        N_large = elim o.N_large [
          | inl h ↦ inl (omega (arith, h))
          | inr h ↦ inr (s.ln - 1, omega (arith, h), floor_has ρ pnx.short.is_row (pnx.law μ) (subst (Size nx) (let e : s.ln ≡ suc (s.ln - 1) = omega (arith, h) in e) s.sn))
        ];
      }

  -- the length and the last number of a polynomial part, from the leading coefficient
  at_lead : (z : L.El) (l : List ℕ) (n k c : ℕ) → Row F.m.p l → Floor ρ z l → Size l n → Lead z k 0 (cast c) → cast c ≢ 0ᵏ → c < F.m.p → (n ≡ suc k) × (get_or l k 0 ≡ c)
  at_lead z l zero k c hl f s h nz lc = absurd (let l = d.has_above 𝓥 (cast c, nz, h) (floor_lt ρ f s) in omega (arith, l))
  at_lead z l (suc n) k c hl f s h nz lc =
      let e : n ≡ k = d.same 𝓥 (floor_has ρ hl f s) (cast c, nz, h) in
      (ap suc e, cast_inj ρ (get_or l k 0) c (hl.each k) lc (𝓥.lead_unique (floor_lead ρ f (subst (λ j. Size l (suc j)) e s)) h))

  floor_self : (l : List ℕ) → Floor ρ (row ρ l) l
  floor_self l = d.lt_eq 𝓥 (𝓥.lead_zero 0 0) (solve L zer (var 0 :+ minus (var 0)) tt (row ρ l ∷ []))

  one≢ : cast 1 ≢ 0ᵏ
  one≢ e = 𝓥.one≢zero (sym ρ.cast_one ∙ e)

  two≢ : cast 2 ≢ 0ᵏ
  two≢ e = μ.two (sym cast_two ∙ e)

  pub shape_is : Numbers μ b → Shape b.u mx my nx ny zm zn
  shape_is n =
      let t : 2 < F.m.p = i.two in
      let (lu, su) = sized b.u in
      let (lx, sx) = sized mx in
      let (ly, sy) = sized ny in
      let (ln, sn) = sized nx in
      let (lm, sm) = sized my in
      let (a₁, sa) = sized zm in
      let (b₁, sb) = sized zn in
      let (eu, cu) = at_lead (rowμ μ b.u) b.u lu n.numbers.u 1 (i.rows 6) (floor_self b.u) su (d.lead_eq 𝓥 n.numbers.U_lead refl (sym ρ.cast_one)) one≢ (omega arith) in
      let (ex, cx) = at_lead (X μ (pt μ b.m1 b.m2)) mx lx n.numbers.x 2 pmx.short.is_row (pmx.law μ) sx (d.lead_eq 𝓥 n.numbers.X_M refl (sym cast_two)) two≢ t in
      let (ey, cy) = at_lead (Y μ (pt μ b.n1 b.n2)) ny ly n.numbers.y 1 pny.short.is_row (pny.law μ) sy (d.lead_eq 𝓥 n.numbers.Y_N refl (sym ρ.cast_one)) one≢ (omega arith) in
      let ux : n.numbers.u < n.numbers.x = n.u<x in
      let uy : n.numbers.u ≤ n.numbers.y = n.numbers.u≤y in
      let hn : ln ≤ n.numbers.x = floor_le ρ n.numbers.x pnx.short.is_row (pnx.law μ) sn n.numbers.X_N in
      let hm : lm ≤ n.numbers.u = floor_le ρ n.numbers.u pmy.short.is_row (pmy.law μ) sm n.numbers.Y_M in
      let ha : a₁ ≤ n.numbers.u = floor_le ρ n.numbers.u cm.is_row f_m sa n.numbers.Z_M in
      let hb : b₁ ≤ n.numbers.u = floor_le ρ n.numbers.u cn.is_row f_n sb n.numbers.Z_N in
      record {
        lu = lu;
        lx = lx;
        ly = ly;
        ln = ln;
        lm = lm;
        a = a₁;
        b = b₁;
        su = su;
        sx = sx;
        sy = sy;
        sn = sn;
        sm = sm;
        sa = sa;
        sb = sb;
        ordered = record {
          Y_M = omega (arith, eu);
          Z_M = omega (arith, eu);
          Z_N = omega (arith, eu);
          Y_N = omega (arith, eu, ey);
          X_M = omega (arith, eu, ex);
          X_N = omega (arith, ex);
          N_large = elim n.N_large [
            | inl h ↦ inl (omega (arith, eu, ey, h))
            | inr (j, l, h) ↦ inr (let q = d.has_above 𝓥 h (floor_lt ρ (pnx.law μ) sn) in omega (arith, eu, l, q))
          ];
        };
        units = record {
          U_one = ap (λ k. get_or b.u (k - 1) 0) eu ∙ ap (λ k. get_or b.u k 0) (less n.numbers.u) ∙ cu;
          X_two = ap (λ k. get_or mx (k - 1) 0) ex ∙ ap (λ k. get_or mx k 0) (less n.numbers.x) ∙ cx;
          Y_one = ap (λ k. get_or ny (k - 1) 0) ey ∙ ap (λ k. get_or ny k 0) (less n.numbers.y) ∙ cy;
        };
      }
    where
      less : (k : ℕ) → suc k - 1 ≡ k
      less k = omega arith

  pub shaped_of : {o : Bool} → Decides o (Shape b.u mx my nx ny zm zn) → Decides o (Numbers μ b)
  shaped_of h = record { yes! = λ e. numbers_of (h.yes! e); no! = λ e n. h.no! e (shape_is n) }
