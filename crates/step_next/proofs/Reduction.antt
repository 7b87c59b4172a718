-- From the generators to the reduction: their sizes fit what `reduced_basis` asks.
use mathlib.Core.Path.{◌≡◌, refl, sym, ap, ap₂, ◌∙◌, subst}
use mathlib.Core.Logic.{◌⊎◌, inl, inr}
use mathlib.Core.List.{List}
use Prim.Native.Nat.{ℕ, suc, ◌+◌, ◌-◌, ◌<◌, ◌≤◌}
use native.Mathlib.Omega.{arith}
use Rattle.math_ring.proofs.Laws as rg
use Rattle.math_valued.specs.Degree.{Has, Lt}
use Rattle.math_valued.specs.Polynomial.{polys, Poly}
use Rattle.math_valued.proofs.Degree as d
use Rattle.math_valued.proofs.Polynomial.{view, not_zero}
use Rattle.num_mod.specs.Prepared.{ready}
use Rattle.num_mod.proofs.Prepared.{ready_prepared}
use Rattle.math_rows.specs.Reading.{Reading}
use Rattle.math_rows.specs.Made.{reading}
use Rattle.math_rows.specs.Row.{Row, row}
use Rattle.math_triple.specs.Sizes.{size_x, size_y}
use Rattle.math_turns.specs.Points.{Pt}
use Rattle.math_turns.proofs.Turn.{b_lt, c_lt}
use Rattle.field_open.specs.Refusal.{Accepted}
use Rattle.math_ideals.specs.Setting.{Setting}
use Rattle.math_ideals.specs.Basis.{Good}
use Rattle.math_ideals.proofs.Degrees.{small}
use Rattle.math_chain.specs.Parts.{base}
use Rattle.math_chain.proofs.Room.{Room, room}
use Rattle.basis_record.specs.Record.{setting}
use Rattle.basis_record.specs.Seven.{rows_of}
use Rattle.basis_record.specs.declared.Seven.{Seven}
use Rattle.step_divide.specs.Generated.{Generators, Generated}
use Rattle.step_coordinates.proofs.Coordinates.{r_narrow, w_narrow}
use Rattle.step_coordinates.proofs.Products.{sizes}
use Rattle.basis_parts.specs.Frame.{frame, Meaning, Short}
use Rattle.basis_clear.specs.Clear.{Pair, pair, ClearYAsks}
use Rattle.basis_finish.specs.Based.{BasisAsks}
use Rattle.poly_rows.proofs.Lengths.{row_short, size_of, odd_prime}
use Rattle.field_series.specs.Keeps.{Keeps}
use Rattle.basis_field.proofs.Keeps.{dr_is, dw_is, degrees, r_reads, w_reads, r_row, w_row}

abbrev pub pair_of : Generators → Pair
pair_of o = pair o.mb o.mc o.nb o.nc

-- the rows of the generators
pub record RowsOf (p : ℕ) (o : Generators) : Type 0 where
  pub hx : Row p o.x
  pub hy : Row p o.y
  pub hmb : Row p o.mb
  pub hmc : Row p o.mc
  pub hnb : Row p o.nb
  pub hnc : Row p o.nc
  pub hu : Row p o.u

module _ {p : ℕ} {G H : List ℕ} (A : Accepted p G H) {g h gh : List ℕ} {dr dw : ℕ} {r w : List ℕ} (k : Keeps p G H g h gh dr dw r w) where
  abbrev pub meaning : Meaning (frame (ready p) r w dr dw)
  meaning = record {
    prime = A.prime;
    r = (setting A).roots.r;
    w = (setting A).roots.w;
    r_deg = subst (Has (reading p A.prime).𝓥 (setting A).roots.r) (sym (dr_is k A)) (setting A).roots.r_deg;
    w_deg = subst (Has (reading p A.prime).𝓥 (setting A).roots.w) (sym (dw_is k A)) (setting A).roots.w_deg;
    r_reads = r_reads k A;
    w_reads = w_reads k A;
    two = (setting A).roots.two≢;
  }

module _ {p : ℕ} {G H : List ℕ} (A : Accepted p G H) {g h gh : List ℕ} {n dr dw : ℕ} {r w : List ℕ} (k : Keeps p G H g h gh dr dw r w) (n_is : n ≡ dr + dw)
    (b : Seven) (good : Good (setting A) (rows_of A b)) {o : Generators} (ho : RowsOf p o) (m : Generated A b o) where
  abbrev ρ : Reading p
  ρ = reading p A.prime

  abbrev S : Setting
  S = setting A

  rm : Room (setting A) (rows_of A b) m.k m.c
  rm = room (setting A) (rows_of A b) good m.k m.c

  γ_is : rm.γ ≡ o.cut
  γ_is = d.same ρ.𝓥 rm.g_has m.g_has

  -- a part of a product is not longer than the product
  factor_low : {j γ : ℕ} (g y c : Poly ρ.𝓥) → Has ρ.𝓥 g.0 γ → y ≡ (polys ρ.𝓥).ops.mul g c → Lt ρ.𝓥 y.0 j → (c.0 ≡ ρ.𝓥.L.ops.𝟎) ⊎ (γ < j)
  factor_low {j} {γ} g y c hg e l = elim (view ρ.𝓥 c) [
    | inl z ↦ inl z
    | inr (i, hc) ↦ inr (let q : γ + i < j = d.above ρ.𝓥 (d.has_mul ρ.𝓥 hg hc) (d.lt_eq ρ.𝓥 l (ap (λ t. t.0) e)) in omega arith)
  ]

  -- a2 b0 − a0 b2 is not 0
  not_both : (u v s t : ρ.𝓥.L.El) → u ≡ ρ.𝓥.L.ops.𝟎 → v ≡ ρ.𝓥.L.ops.𝟎
      → (let q = ρ.𝓥.L.ops in q.add (q.mul u s) (q.neg (q.mul v t)) ≡ q.𝟎)
  not_both u v s t eu ev = let q = ρ.𝓥.L.ops in
      ap₂ (λ x y. q.add (q.mul x s) (q.neg (q.mul y t))) eu ev ∙ ap₂ (λ x y. q.add x (q.neg y)) (rg.zero_mul' ρ.𝓥.L s) (rg.zero_mul' ρ.𝓥.L t) ∙ ρ.𝓥.L.laws.add_neg q.𝟎

  -- the degree of the common factor lies below dr and dw
  γ_dr : rm.γ < (setting A).roots.dr
  γ_dr =
      let nr = r_narrow (setting A) (rows_of A b) (small (setting A) (rows_of A b) good) good m.k.of_r in
      elim (factor_low m.c.g m.k.of_r.α m.c.a0 rm.g_has m.c.x0_eq nr.α_lt) [
        | inr l ↦ l
        | inl z ↦ elim (factor_low m.c.g m.k.of_r.γ m.c.a2 rm.g_has m.c.x2_eq nr.γ_lt) [
          | inr l ↦ l
          | inl y ↦ absurd (not_zero ρ.𝓥 rm.d_has (ap (λ t. ρ.𝓥.L.ops.mul m.c.g.0 t) (not_both m.c.a2.0 m.c.a0.0 m.c.b0.0 m.c.b2.0 y z) ∙ rg.mul-zero ρ.𝓥.L m.c.g.0))
        ]
      ]

  γ_dw : rm.γ < (setting A).roots.dw
  γ_dw =
      let nr = w_narrow (setting A) (rows_of A b) (small (setting A) (rows_of A b) good) good m.k.of_w in
      let q = ρ.𝓥.L.ops in
      elim (factor_low m.c.g m.k.of_w.α m.c.b0 rm.g_has m.c.y0_eq nr.α_lt) [
        | inr l ↦ l
        | inl z ↦ elim (factor_low m.c.g m.k.of_w.γ m.c.b2 rm.g_has m.c.y2_eq nr.γ_lt) [
          | inr l ↦ l
          | inl y ↦ absurd (not_zero ρ.𝓥 rm.d_has (ap (λ t. q.mul m.c.g.0 t)
              (ap₂ (λ s t. q.add s (q.neg t)) (ρ.𝓥.L.laws.mul_comm _ _) (ρ.𝓥.L.laws.mul_comm _ _) ∙ not_both m.c.b0.0 m.c.b2.0 m.c.a2.0 m.c.a0.0 z y) ∙ rg.mul-zero ρ.𝓥.L m.c.g.0))
        ]
      ]

  abbrev μ : Meaning (frame (ready p) r w dr dw)
  μ = meaning A k

  -- the sizes of the two elements
  mb_is : (base (setting A) (rows_of A b) m.k m.c).M.b.0 ≡ row ρ o.mb
  mb_is = sym (ap (λ t. t.0) m.mb_is)

  mc_is : (base (setting A) (rows_of A b) m.k m.c).M.c.0 ≡ row ρ o.mc
  mc_is = sym (ap (λ t. t.0) m.mc_is)

  nb_is : (base (setting A) (rows_of A b) m.k m.c).N.b.0 ≡ row ρ o.nb
  nb_is = sym (ap (λ t. t.0) m.nb_is)

  nc_is : (base (setting A) (rows_of A b) m.k m.c).N.c.0 ≡ row ρ o.nc
  nc_is = sym (ap (λ t. t.0) m.nc_is)

  abbrev at : List ℕ → List ℕ → Pt ρ.𝓥.L.El
  at x y = record { b = row ρ x; c = row ρ y }

  abbrev Xₐ : List ℕ → List ℕ → ρ.𝓥.L.El
  Xₐ x y = size_x ρ.𝓥.L.ops (setting A).roots.r (setting A).roots.w (row ρ x) (row ρ y)

  abbrev Yₐ : List ℕ → List ℕ → ρ.𝓥.L.El
  Yₐ x y = size_y ρ.𝓥.L.ops (setting A).roots.r (setting A).roots.w (row ρ x) (row ρ y)

  X_is : {b c b' c' : ρ.𝓥.L.El} → b ≡ b' → c ≡ c' → size_x ρ.𝓥.L.ops (setting A).roots.r (setting A).roots.w b c ≡ size_x ρ.𝓥.L.ops (setting A).roots.r (setting A).roots.w b' c'
  X_is e f = ap₂ (size_x ρ.𝓥.L.ops (setting A).roots.r (setting A).roots.w) e f

  Y_is : {b c b' c' : ρ.𝓥.L.El} → b ≡ b' → c ≡ c' → size_y ρ.𝓥.L.ops (setting A).roots.r (setting A).roots.w b c ≡ size_y ρ.𝓥.L.ops (setting A).roots.r (setting A).roots.w b' c'
  Y_is e f = ap₂ (size_y ρ.𝓥.L.ops (setting A).roots.r (setting A).roots.w) e f

  lx1 : Lt ρ.𝓥 (Xₐ o.mb o.mc) (suc rm.a)
  lx1 = d.lt_eq ρ.𝓥 rm.P_below.X_lt (X_is mb_is mc_is)

  ly1 : Lt ρ.𝓥 (Yₐ o.mb o.mc) (suc rm.a)
  ly1 = d.lt_eq ρ.𝓥 rm.P_below.Y_lt (Y_is mb_is mc_is)

  lx2 : Lt ρ.𝓥 (Xₐ o.nb o.nc) (suc rm.b)
  lx2 = d.lt_eq ρ.𝓥 rm.Q_below.X_lt (X_is nb_is nc_is)

  ly2 : Lt ρ.𝓥 (Yₐ o.nb o.nc) (suc rm.b)
  ly2 = d.lt_eq ρ.𝓥 rm.Q_below.Y_lt (Y_is nb_is nc_is)

  -- the numbers
  whole : suc rm.s ≡ n + 1 - o.cut
  whole = let e : rm.s + rm.γ ≡ A.deg_g + A.deg_h = rm.whole in let f : rm.γ ≡ o.cut = γ_is in let q : n ≡ A.deg_g + A.deg_h = n_is ∙ degrees k A in omega arith

  pub cut_low : o.cut ≤ n
  cut_low = let e : rm.s + rm.γ ≡ A.deg_g + A.deg_h = rm.whole in let f : rm.γ ≡ o.cut = γ_is in let q : n ≡ A.deg_g + A.deg_h = n_is ∙ degrees k A in omega arith

  a≤s : rm.a ≤ rm.s
  a≤s = let e : rm.a + rm.b ≡ rm.s + rm.u = rm.sum in let q : rm.u < rm.b = rm.u<b in omega arith

  b≤s : rm.b ≤ rm.s
  b≤s = let e : rm.a + rm.b ≡ rm.s + rm.u = rm.sum in let q : rm.u < rm.a = rm.u<a in omega arith

  dr_low : dr ≤ suc rm.s
  dr_low =
      let z = sizes A b good in
      let e : rm.s + rm.γ ≡ A.deg_g + A.deg_h = rm.whole in
      let q : (setting A).roots.dr + (setting A).roots.dw ≡ A.deg_g + A.deg_h = z.both in
      let f : dr ≡ (setting A).roots.dr = dr_is k A in
      let l : rm.γ < (setting A).roots.dw = γ_dw in
      omega (arith, e, q, f, l)

  dw_low : dw ≤ suc rm.s
  dw_low =
      let z = sizes A b good in
      let e : rm.s + rm.γ ≡ A.deg_g + A.deg_h = rm.whole in
      let q : (setting A).roots.dr + (setting A).roots.dw ≡ A.deg_g + A.deg_h = z.both in
      let f : dw ≡ (setting A).roots.dw = dw_is k A in
      let l : rm.γ < (setting A).roots.dr = γ_dr in
      omega (arith, e, q, f, l)

  short_b : (x y : List ℕ) {i : ℕ} → Row p x → i ≤ rm.s → Lt ρ.𝓥 (Xₐ x y) (suc i) → Lt ρ.𝓥 (Yₐ x y) (suc i) → Short p x (suc rm.s - dr)
  short_b x y {i} hx l lx ly = row_short ρ (suc rm.s - dr) hx
      (b_lt ρ (setting A).roots.r (setting A).roots.w {a = at x y} dr (suc rm.s - dr) (setting A).roots.two≢ μ.r_deg lx ly (let q : dr ≤ suc rm.s = dr_low in omega arith))

  short_c : (x y : List ℕ) {i : ℕ} → Row p y → i ≤ rm.s → Lt ρ.𝓥 (Xₐ x y) (suc i) → Lt ρ.𝓥 (Yₐ x y) (suc i) → Short p y (suc rm.s - dw)
  short_c x y {i} hy l lx ly = row_short ρ (suc rm.s - dw) hy
      (c_lt ρ (setting A).roots.r (setting A).roots.w {a = at x y} dw (suc rm.s - dw) (setting A).roots.two≢ μ.w_deg lx ly (let q : dw ≤ suc rm.s = dw_low in omega arith))

  clear_in : ClearYAsks (frame (ready p) r w dr dw) (pair_of o) (suc rm.s) (suc rm.u)
  clear_in = record {
    room = record {
      fine = record {
        modulus = ready_prepared p (record { big = A.prime.big; small = (let l : p ≤ 65535 = A.high in omega arith) });
        hr = r_row k;
        hw = w_row k;
      };
      fits = (let e : rm.s + rm.γ ≡ A.deg_g + A.deg_h = rm.whole in let q : A.deg_g + A.deg_h ≤ 16 = A.sum in omega arith);
      low_r = dr_low;
      low_w = dw_low;
    };
    hm = record { hb = short_b o.mb o.mc ho.hmb a≤s lx1 ly1; hc = short_c o.mb o.mc ho.hmc a≤s lx1 ly1 };
    hn = record { hb = short_b o.nb o.nc ho.hnb b≤s lx2 ly2; hc = short_c o.nb o.nc ho.hnc b≤s lx2 ly2 };
    s = rm.s;
    u = rm.u;
    top_is = refl;
    lu_is = refl;
    x1 = suc rm.a;
    x2 = suc rm.b;
    v1 = suc rm.a;
    v2 = suc rm.b;
    bx1 = (let q : rm.a ≤ rm.s = a≤s in omega arith);
    bx2 = (let q : rm.b ≤ rm.s = b≤s in omega arith);
    bv1 = (let q : rm.a ≤ rm.s = a≤s in omega arith);
    bv2 = (let q : rm.b ≤ rm.s = b≤s in omega arith);
    k1 = (let e : rm.a + rm.b ≡ rm.s + rm.u = rm.sum in omega arith);
    k2 = (let e : rm.a + rm.b ≡ rm.s + rm.u = rm.sum in omega arith);
    some = μ;
    lx1 = lx1;
    lx2 = lx2;
    ly1 = ly1;
    ly2 = ly2;
    det = d.has_eq ρ.𝓥 rm.det_has (let q = ρ.𝓥.L.ops in
        ap₂ (λ s t. q.add s (q.neg t)) (ap₂ q.mul (X_is mb_is mc_is) (Y_is nb_is nc_is)) (ap₂ q.mul (X_is nb_is nc_is) (Y_is mb_is mc_is)));
  }

  u_has : Has ρ.𝓥 (row ρ o.u) rm.u
  u_has = d.has_eq ρ.𝓥 rm.d_has (sym (ap (λ t. t.0) m.u_is))

  basis_in' : BasisAsks (frame (ready p) r w dr dw) (pair_of o) (suc rm.s) o.u o.x o.y
  basis_in' =
      let nx = r_narrow (setting A) (rows_of A b) (small (setting A) (rows_of A b) good) good m.k.of_r in
      let ny = w_narrow (setting A) (rows_of A b) (small (setting A) (rows_of A b) good) good m.k.of_w in
      let e : rm.s + rm.γ ≡ A.deg_g + A.deg_h = rm.whole in
      let q : A.deg_g + A.deg_h ≤ 16 = A.sum in
      let l : rm.b ≤ rm.s = b≤s in
      let u<b : rm.u < rm.b = rm.u<b in
      record {
        small = A.high;
        odd = odd_prime p A.prime A.low;
        fits = omega arith;
        hd = row_short ρ 17 ho.hu (d.has_up ρ.𝓥 17 u_has (omega arith));
        h1 = row_short ρ (suc dr) ho.hx (d.lt_eq ρ.𝓥 (subst (λ j. Lt ρ.𝓥 m.k.of_r.β.0 (suc j)) (sym (dr_is k A)) nx.β_lt) (sym (ap (λ t. t.0) m.x_is)));
        h2 = row_short ρ (suc dw) ho.hy (d.lt_eq ρ.𝓥 (subst (λ j. Lt ρ.𝓥 m.k.of_w.β.0 (suc j)) (sym (dw_is k A)) ny.β_lt) (sym (ap (λ t. t.0) m.y_is)));
        u = rm.u;
        d_size = size_of ρ ho.hu u_has;
        clear = clear_in;
      }

  pub basis_in : BasisAsks (frame (ready p) r w dr dw) (pair_of o) (n + 1 - o.cut) o.u o.x o.y
  basis_in = subst (λ j. BasisAsks (frame (ready p) r w dr dw) (pair_of o) j o.u o.x o.y) whole basis_in'
