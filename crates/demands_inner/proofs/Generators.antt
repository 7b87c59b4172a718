-- Crate step_divide.
--   divided_unique       the generators: x, y and the degree cut are settled, the pairs and their denominator up to one constant
--   divided_lengths   and the lengths of x, y and of the denominator
use mathlib.Core.Path.{◌≡◌, sym, ap, ◌∙◌, subst}
use mathlib.Core.List.{List, [], ◌∷◌}
use Prim.Native.Nat.{ℕ, ◌≤◌}
use Prim.Native.Nat as N
use native.Mathlib.Omega.{arith}
use Rattle.math_ring.specs.Ring.{CRing}
use Rattle.math_ring.proofs.Solve.{var, minus, one, ◌:+◌, ◌:*◌, hyp, solve_by}
use Rattle.math_valued.specs.Degree.{Has}
use Rattle.math_valued.specs.Polynomial.{polys, Divides, IsUnit}
use Rattle.math_valued.proofs.Degree.{has_move, lt_eq}
use Rattle.math_valued.proofs.Compare.{lt_scale}
use Rattle.math_valued.proofs.Polynomial.{factor, const_unit, unit_const}
use Rattle.math_valued.proofs.Divide.{p_cancel}
use Rattle.math_rows.specs.Made.{reading}
use Rattle.math_rows.specs.Row.{Row, Size}
use Rattle.math_rows.proofs.Rows.{size_lt, size_le}
use Rattle.math_ideals.specs.Setting.{Setting, P}
use Rattle.math_ideals.specs.Ideal.{Basis, Ideal}
use Rattle.math_chain.specs.Parts.{Parts, Cut, x0, x2, y0, y2, base}
use Rattle.math_chain.proofs.Parts.{parts_unique, cut_greatest}
use Rattle.basis_record.specs.Record.{setting}
use Rattle.basis_record.specs.Seven.{rows_of}
use Rattle.basis_record.specs.declared.Seven.{Seven}
use Rattle.step_coordinates.specs.Turns.{GeneratorsAsks}
use Rattle.step_divide.specs.Generated.{Generators, AreGenerators, Divided}
use Rattle.step_divide.specs.declared.Cuts.{Cuts}
use Rattle.demands_inner.specs.UpTo.{Alike}
use Rattle.demands_inner.proofs.Rows.{by_row}
use Rattle.demands_inner.proofs.Poly.{size_unique}

-- ---- what is cut from the four coordinates is settled up to a constant
record Same (S : Setting) (B B' : Basis S) (m n : ℕ) : Type 0 where
  same : m ≡ n
  v : P S
  unit : IsUnit S.𝓥 v
  mb : B.M.b ≡ (polys S.𝓥).ops.mul v B'.M.b
  mc : B.M.c ≡ (polys S.𝓥).ops.mul v B'.M.c
  nb : B.N.b ≡ (polys S.𝓥).ops.mul v B'.N.b
  nc : B.N.c ≡ (polys S.𝓥).ops.mul v B'.N.c
  u : B.U ≡ (polys S.𝓥).ops.mul v B'.U

module _ (S : Setting) (B : Basis S) (i : Ideal S B) (k l : Parts S B) (c : Cut S B k) (d : Cut S B l) {m n : ℕ} (hm : Has S.𝓥 c.g.0 m) (hn : Has S.𝓥 d.g.0 n) where
  open S use {𝓥}
  open (polys 𝓥).ops use {add as ◌⊞◌, mul as ◌⊠◌, neg as ⊟◌}

  infixl 60 ◌⊞◌
  infixl 70 ◌⊠◌
  infix 80 ⊟◌
  abbrev R : CRing
  R = polys 𝓥

  e0 : x0 S B k ≡ x0 S B l
  e0 = (parts_unique S B i k l).0

  e2 : x2 S B k ≡ x2 S B l
  e2 = (parts_unique S B i k l).2

  f0 : y0 S B k ≡ y0 S B l
  f0 = (parts_unique S B i k l).3

  f2 : y2 S B k ≡ y2 S B l
  f2 = (parts_unique S B i k l).5

  up : Divides 𝓥 c.g d.g
  up = cut_greatest S B l d c.g (c.a0, sym e0 ∙ c.x0_eq) (c.a2, sym e2 ∙ c.x2_eq) (c.b0, sym f0 ∙ c.y0_eq) (c.b2, sym f2 ∙ c.y2_eq)

  down : Divides 𝓥 d.g c.g
  down = cut_greatest S B k c d.g (d.a0, e0 ∙ d.x0_eq) (d.a2, e2 ∙ d.x2_eq) (d.b0, f0 ∙ d.y0_eq) (d.b2, f2 ∙ d.y2_eq)

  abbrev v : P S
  v = up.0

  cut_same : m ≡ n
  cut_same =
      let (a, h, e) = factor 𝓥 c.g v d.g hm hn up.1 in
      let (b, h', e') = factor 𝓥 d.g down.0 c.g hn hm down.1 in
      omega (arith, e, e')

  v_unit : IsUnit 𝓥 v
  v_unit =
      let (a, h, e) = factor 𝓥 c.g v d.g hm hn up.1 in
      let z : a ≡ 0 = (let q : m ≡ n = cut_same in omega (arith, e)) in
      const_unit 𝓥 v (has_move 𝓥 0 0 h (ap (λ t. N.◌+◌ t 0) z))

  -- g a = g v a'
  part : (z z' a a' : P S) → z ≡ z' → z ≡ c.g ⊠ a → z' ≡ d.g ⊠ a' → a ≡ v ⊠ a'
  part z z' a a' e f f' = p_cancel 𝓥 c.g a (v ⊠ a') hm (sym f ∙ e ∙ f' ∙ ap (λ t. t ⊠ a') up.1 ∙ R.laws.mul_assoc c.g v a')

  A0 : c.a0 ≡ v ⊠ d.a0
  A0 = part _ _ c.a0 d.a0 e0 c.x0_eq d.x0_eq

  A2 : c.a2 ≡ v ⊠ d.a2
  A2 = part _ _ c.a2 d.a2 e2 c.x2_eq d.x2_eq

  B0 : c.b0 ≡ v ⊠ d.b0
  B0 = part _ _ c.b0 d.b0 f0 c.y0_eq d.y0_eq

  B2 : c.b2 ≡ v ⊠ d.b2
  B2 = part _ _ c.b2 d.b2 f2 c.y2_eq d.y2_eq

  minus_by : (a a' : P S) → a ≡ v ⊠ a' → ⊟ a ≡ v ⊠ ⊟ a'
  minus_by a a' e = solve_by R (minus (var 0)) (var 2 :* minus (var 1)) (hyp (minus one) (var 0) (var 2 :* var 1) ∷ []) tt (a ∷ a' ∷ v ∷ []) (e, tt)

  -- g (a2 b0 − a0 b2)
  U_by : (base S B k c).U ≡ v ⊠ (base S B l d).U
  U_by = solve_by R (var 9 :* (var 0 :* var 1 :+ minus (var 2 :* var 3))) (var 8 :* (var 10 :* (var 4 :* var 5 :+ minus (var 6 :* var 7))))
      (hyp (var 9 :* var 1) (var 0) (var 8 :* var 4) ∷ hyp (var 9 :* var 8 :* var 4) (var 1) (var 8 :* var 5)
      ∷ hyp (minus (var 9 :* var 3)) (var 2) (var 8 :* var 6) ∷ hyp (minus (var 9 :* var 8 :* var 6)) (var 3) (var 8 :* var 7)
      ∷ hyp (minus (var 8 :* (var 4 :* var 5 :+ minus (var 6 :* var 7)))) (var 10) (var 9 :* var 8) ∷ []) tt
      (c.a2 ∷ c.b0 ∷ c.a0 ∷ c.b2 ∷ d.a2 ∷ d.b0 ∷ d.a0 ∷ d.b2 ∷ v ∷ c.g ∷ d.g ∷ []) (A2, (B0, (A0, (B2, (up.1, tt)))))

  cuts : Same S (base S B k c) (base S B l d) m n
  cuts = record { same = cut_same; v = v; unit = v_unit; mb = minus_by c.b2 d.b2 B2; mc = A2; nb = B0; nc = minus_by c.a0 d.a0 A0; u = U_by }

carried : (R : CRing) (v : R.El) {z z' y y' : R.El} → z ≡ y → z' ≡ y' → y ≡ R.ops.mul v y' → z ≡ R.ops.mul v z'
carried R v e e' f = e ∙ f ∙ ap (λ r. R.ops.mul v r) (sym e')

pub divided_unique : {p cap : ℕ} {g h gh : List ℕ} {ie : ℕ} {b : Seven} (o o' : Generators) (i : GeneratorsAsks p cap g h gh ie b) → AreGenerators p g h gh b o → AreGenerators p g h gh b o' → Alike i.σ o o'
divided_unique {p} {b = b} o o' i s t =
    let σ = i.σ in
    let S = setting σ in
    let B = rows_of σ b in
    let u = s.each σ i.holds i.good in
    let w = t.each σ i.holds i.good in
    let q = parts_unique S B i.good.ideal u.k w.k in
    let r = cuts S B i.good.ideal u.k w.k u.c w.c u.g_has w.g_has in
    let R = polys S.𝓥 in record {
      x = by_row (reading p σ.prime) s.hx t.hx (ap (λ z. z.0) (u.x_is ∙ q.1)) (ap (λ z. z.0) w.x_is);
      y = by_row (reading p σ.prime) s.hy t.hy (ap (λ z. z.0) (u.y_is ∙ q.4)) (ap (λ z. z.0) w.y_is);
      cut = r.same;
      v = r.v;
      v_unit = r.unit;
      mb = carried R r.v u.mb_is w.mb_is r.mb;
      mc = carried R r.v u.mc_is w.mc_is r.mc;
      nb = carried R r.v u.nb_is w.nb_is r.nb;
      nc = carried R r.v u.nc_is w.nc_is r.nc;
      u = carried R r.v u.u_is w.u_is r.u;
    }

-- a constant multiple is no longer
no_longer : {p cap : ℕ} {g h gh : List ℕ} {ie : ℕ} {b : Seven} (i : GeneratorsAsks p cap g h gh ie b) {o o' : Generators} {m n : ℕ} → Alike i.σ o o' → Row p o.u → Size o.u m → Size o'.u n → m ≤ n
no_longer {p} i {n = n} a r s t =
    let ρ = reading p i.σ.prime in
    size_le ρ n r s (lt_eq ρ.𝓥 (lt_scale ρ.𝓥 (unit_const ρ.𝓥 a.v a.v_unit) (size_lt ρ t)) (sym (ap (λ z. z.0) a.u)))

pub divided_lengths : {p cap : ℕ} {g h gh : List ℕ} {ie : ℕ} {b : Seven} {o o' : Generators} {c c' : Cuts} → GeneratorsAsks p cap g h gh ie b → Divided p g h gh b o c → Divided p g h gh b o' c'
    → (c.x ≡ c'.x) × (c.y ≡ c'.y) × (c.d ≡ c'.d) × (c.m0 ≡ c'.m0) × (c.u ≡ c'.u)
divided_lengths {p} {o = o} {o' = o'} {c = c} {c' = c'} i s t =
    let a = divided_unique o o' i s.are t.are in
    let l : c.d ≤ c'.d = no_longer i a s.are.hu s.size_u t.size_u in
    let m : c'.d ≤ c.d = no_longer i (divided_unique o' o i t.are s.are) t.are.hu t.size_u s.size_u in
    (size_unique (subst (λ z. Size z c.x) a.x s.x_size) t.x_size, size_unique (subst (λ z. Size z c.y) a.y s.y_size) t.y_size, omega arith, size_unique s.was_m0 t.was_m0, size_unique s.was_u t.was_u)
