-- What `finished` asks of its callees, and what it makes.
use mathlib.Core.Path.{◌≡◌, refl, sym, ap, ap₂, ◌∙◌, subst}
use mathlib.Core.Logic.{◌≢◌, inl}
use mathlib.Core.Bool.{true, false}
use mathlib.Core.List.{List, [], ◌∷◌, ◌++◌}
use Prim.Native.Nat.{ℕ, zero, suc, ◌+◌, ◌*◌, ◌-◌, ◌/◌, ◌<◌, ◌≤◌}
use native.Mathlib.Omega.{arith}
use lib.ListN.{get_or, replicate}
use Rattle.math_ring.proofs.Laws as rg
use Rattle.math_ring.proofs.Solve.{var, one, minus, ◌:+◌, ◌:*◌, hyp, solve, solve_by}
use Rattle.math_fp.specs.Fp.{Prime}
use Rattle.math_valued.proofs.Degree.{lead_eq, lt_eq, lt_add, lt_neg, lt_up}
use Rattle.math_rows.specs.Made.{reading}
use Rattle.math_rows.specs.Row.{Size, row}
use Rattle.math_rows.proofs.Rows.{size_lead, size_lead_at}
use Rattle.math_rows.proofs.Floors.{floor_lt, floor_top}
use Rattle.math_rows.proofs.Turn.{lead_scale, lt_scale}
use Rattle.math_turns.specs.Points.{Pt, Moved}
use Rattle.math_turns.proofs.Turn.{moved_scale, moved_then}
use Rattle.math_rows.proofs.Unique.{cast_inj}
use Rattle.num_mod.proofs.Prepared.{bare}
use Rattle.poly_cross.specs.Cross.{Scaled, ScaleInGives}
use Rattle.poly_rows.proofs.Leaf.{size_unique}
use Rattle.basis_record.specs.Record.{part}
use Rattle.basis_parts.specs.Frame.{Frame, Meaning, Held, point, rd, Ser, rowμ, pt, X, Y, Ltμ}
use Rattle.basis_top.specs.Tops.{Led}
use Rattle.basis_clear.specs.Clear.{Pair}
use Rattle.basis_reduce.specs.Reduction.{Ends, Reduced}
use Rattle.basis_store.specs.declared.Factors.{Factors}
use Rattle.math_rows.proofs.Tab.{zeros_at}
use Rattle.basis_store.specs.Levels.{Monic}
use Rattle.basis_store.specs.Place.{off, padded, ElementAsks, PlacedAt, FilledAsks, Filled}
use Rattle.basis_store.specs.Scales.{FactorsOfAsks, Scaling}
use Rattle.basis_finish.specs.Based.{BasisAsks, BasedAt, Based, Left, Z, at, Mpt, Npt}
use Rattle.basis_record.proofs.Store.{stored_part, stored_other, stored_each, part_same}
use Rattle.poly_rows.proofs.Lengths.{size_below, scaled_size}
use Rattle.basis_store.proofs.Place.{stored_padded}
use Rattle.basis_store.proofs.Two.{const_two, half}

positive : (v : ℕ) → v ≢ 0 → 0 < v
positive zero h = absurd (h refl)
positive (suc v) h = omega arith

module _ {F : Frame} {q : Pair} {top : ℕ} {d x1 y1 : List ℕ} (g : BasisAsks F q top d x1 y1) {lu : ℕ} (sd : Size d lu) where
  lu_is : lu ≡ suc g.u
  lu_is = size_unique sd g.d_size

  pub based_lu : 0 < lu
  based_lu = let e : lu ≡ suc g.u = lu_is in omega arith

  module _ {o : Ends} (h : Reduced F q top lu o) where
    pub lx_pos : 0 < o.lx
    lx_pos = let l : h.x2 < o.lx = h.x_less in omega arith

    module _ {y : ℕ} (ly : Led F true o.nb o.nc y) where
      pub based_scales : FactorsOfAsks F.m.p (get_or d (lu - 1) 0) (get_or o.mx (o.lx - 1) 0) y
      based_scales =
          let μ = g.clear.some in
          let l = ly.law μ h.y (h.y_has μ) in
          let e : lu ≡ suc g.u = lu_is in
          let z : 0 < o.lx = lx_pos in record {
            modulus = bare g.clear.room.fine.modulus;
            prime = μ.prime;
            a_pos = positive (get_or d (lu - 1) 0) (sd.top (omega arith));
            b_pos = positive (get_or o.mx (o.lx - 1) 0) (h.sx1.top z);
            c_pos = l.0;
            a_low = g.hd.is_row.each (lu - 1);
            b_low = h.hm.hz.is_row.each (o.lx - 1);
            c_low = l.1;
          }

      module _ {k : Factors} (hk : Scaling F.m.p (get_or d (lu - 1) 0) (get_or o.mx (o.lx - 1) 0) y k) where
        module _ {u : List ℕ} (so : ScaleInGives F.m.p k.u d lu u) where
          open so use {scaled as su}

          -- U leads with 1
          u_lead : (pr : Prime F.m.p) → (reading F.m.p pr).𝓥.Lead (row (reading F.m.p pr) u) g.u 0 (reading F.m.p pr).𝓥.K.ops.𝟏
          u_lead pr =
              let ρ = reading F.m.p pr in
              let e : lu ≡ suc g.u = lu_is in
              let q : lu - 1 ≡ g.u = omega arith in
              lead_eq ρ.𝓥 (lead_scale ρ (ρ.cast k.u) (size_lead ρ g.d_size)) (sym (su.law pr)) (ap (λ n. ρ.𝓥.K.ops.mul (ρ.cast k.u) (ρ.cast (get_or d n 0))) (sym q) ∙ hk.u_law pr)

          not_zero : (μ : Meaning F) (s : ℕ) (v w : (rd μ).𝓥.K.El) → w ≢ (rd μ).𝓥.K.ops.𝟎 → (rd μ).𝓥.K.ops.mul ((rd μ).cast s) v ≡ w → (rd μ).cast s ≢ (rd μ).𝓥.K.ops.𝟎
          not_zero μ s v w hw e z = hw (sym e ∙ ap (λ y. (rd μ).𝓥.K.ops.mul y v) z ∙ rg.zero_mul' (rd μ).𝓥.K v)

          u_monic : Monic F.m.p u lu
          u_monic =
              let μ = g.clear.some in
              let ρ = rd μ in
              let e : lu ≡ suc g.u = lu_is in
              let w : lu - 1 ≡ g.u = omega arith in
              let s : Size u lu = scaled_size {c = k.u} ρ (not_zero μ k.u _ _ ρ.𝓥.one≢zero (hk.u_law μ.prime)) g.hd.is_row su.is_row (su.law μ.prime) sd in record {
                is_row = su.is_row;
                size = s;
                pos = based_lu;
                lead = cast_inj ρ (get_or u (lu - 1) 0) 1 (su.is_row.each (lu - 1)) g.clear.room.fine.modulus.big
                    (ρ.𝓥.lead_unique (size_lead_at ρ lu s based_lu) (subst (λ m. ρ.𝓥.Lead (row ρ u) m 0 ρ.𝓥.K.ops.𝟏) (sym w) (u_lead μ.prime)) ∙ sym ρ.cast_one);
              }

          module _ {n1 n2 : ℕ} (s1 : Size x1 n1) (s2 : Size y1 n2) {x2 y2 : List ℕ} (e1 : ScaleInGives F.m.p 2 x1 n1 x2) (e2 : ScaleInGives F.m.p 2 y1 n2 y2) where
            -- an element with its polynomial part, over U
            element : {b c x : List ℕ} {s : ℕ} → s < F.m.p → Held F false top (point b c x) → ElementAsks F.m top s b c x x2 n1 y2 n2 u lu
            element ls t =
                let f : top ≤ 17 = g.fits in
                let r : F.dr ≤ top = g.clear.room.low_r in
                let w : F.dw ≤ top = g.clear.room.low_w in
                let v : n1 ≤ suc F.dr = size_below g.h1 s1 in
                let v' : n2 ≤ suc F.dw = size_below g.h2 s2 in
                let y : lu ≤ suc h.y = h.y_high in
                let y' : h.y < top = h.y_fits in record {
                  modulus = g.clear.room.fine.modulus;
                  prime = g.clear.some.prime;
                  small = g.small;
                  odd = g.odd;
                  hs = ls;
                  fits = f;
                  lb = top - F.dr;
                  lc = top - F.dw;
                  hb = t.hb;
                  hc = t.hc;
                  hx = t.hz;
                  low_b = omega arith;
                  low_c = omega arith;
                  h1 = e1.short;
                  h2 = e2.short;
                  fits_1 = omega arith;
                  fits_2 = omega arith;
                  room_b = omega arith;
                  room_c = omega arith;
                  monic = u_monic;
                  low_u = omega arith;
                }

            pub based_fill : FilledAsks F.m top k o.mb o.mc o.mx o.nb o.nc o.nx x2 n1 y2 n2 u lu
            based_fill = record { m = element hk.m_low h.hm; n = element hk.n_low h.hn }

            module _ {o₁ : Pair} {mx₁ nx₁ B₃ : List ℕ} (fl : Filled F.m.p k o.mb o.mc o.mx o.nb o.nc o.nx x2 y2 u o₁ mx₁ nx₁ B₃) where
              open fl use {B₁, B₂, at_m as pm, at_n as pn, at_u as st}

              part_M : (j : ℕ) → j < 3 → part j B₁ ≡ part j B₃
              part_M j l = sym (stored_other B₂ 6 u B₃ st j (inl (omega arith)) ∙ part_same B₁ B₂ j (λ m w. pn.there (17 * j + m) (inl (omega arith))))

              part_N : (j : ℕ) → j < 6 → part j B₂ ≡ part j B₃
              part_N j l = sym (stored_other B₂ 6 u B₃ st j (inl l))

              at_M : (pr : Prime F.m.p) → PlacedAt (reading F.m.p pr) k.m o.mb o.mc o.mx x2 y2 u (part 0 B₃) (part 1 B₃) (part 2 B₃)
              at_M pr = subst (λ z. PlacedAt (reading F.m.p pr) k.m o.mb o.mc o.mx x2 y2 u (part 0 B₃) (part 1 B₃) z) (part_M 2 (omega arith))
                  (subst (λ z. PlacedAt (reading F.m.p pr) k.m o.mb o.mc o.mx x2 y2 u (part 0 B₃) z (part 2 B₁)) (part_M 1 (omega arith))
                  (subst (λ z. PlacedAt (reading F.m.p pr) k.m o.mb o.mc o.mx x2 y2 u z (part 1 B₁) (part 2 B₁)) (part_M 0 (omega arith)) (pm.at pr)))

              at_N : (pr : Prime F.m.p) → PlacedAt (reading F.m.p pr) k.n o.nb o.nc o.nx x2 y2 u (part 3 B₃) (part 4 B₃) (part 5 B₃)
              at_N pr = subst (λ z. PlacedAt (reading F.m.p pr) k.n o.nb o.nc o.nx x2 y2 u (part 3 B₃) (part 4 B₃) z) (part_N 5 (omega arith))
                  (subst (λ z. PlacedAt (reading F.m.p pr) k.n o.nb o.nc o.nx x2 y2 u (part 3 B₃) z (part 5 B₂)) (part_N 4 (omega arith))
                  (subst (λ z. PlacedAt (reading F.m.p pr) k.n o.nb o.nc o.nx x2 y2 u z (part 4 B₂) (part 5 B₂)) (part_N 3 (omega arith)) (pn.at pr)))

              module _ (μ : Meaning F) where
                is_U : at μ 6 B₃ ≡ rowμ μ u
                is_U = stored_part B₂ 6 u B₃ st (λ j l. let w : lu ≤ 17 = size_below g.hd sd in u_monic.size.above j (omega arith)) (rd μ)

                -- the pairs are those of the reduction, scaled
                times : ℕ → List ℕ → List ℕ → Pt (Ser μ)
                times s b c = record { b = (rd μ).𝓥.L.ops.mul ((rd μ).𝓥.const ((rd μ).cast s)) (rowμ μ b); c = (rd μ).𝓥.L.ops.mul ((rd μ).𝓥.const ((rd μ).cast s)) (rowμ μ c) }

                is_M : times k.m o.mb o.mc ≡ Mpt μ B₃
                unfolding times
                is_M = ap₂ (λ y z. record { b = y; c = z }) (sym (at_M μ.prime).is_b) (sym (at_M μ.prime).is_c)

                is_N : times k.n o.nb o.nc ≡ Npt μ B₃
                unfolding times
                is_N = ap₂ (λ y z. record { b = y; c = z }) (sym (at_N μ.prime).is_b) (sym (at_N μ.prime).is_c)

                times_X : (s : ℕ) (b c : List ℕ) → (rd μ).𝓥.L.ops.mul ((rd μ).𝓥.const ((rd μ).cast s)) (X μ (pt μ b c)) ≡ X μ (times s b c)
                unfolding times
                times_X s b c = solve (rd μ).𝓥.L (var 0 :* (var 1 :* var 3 :+ var 2 :* var 4)) (var 0 :* var 1 :* var 3 :+ var 0 :* var 2 :* var 4) tt ((rd μ).𝓥.const ((rd μ).cast s) ∷ rowμ μ b ∷ rowμ μ c ∷ μ.r ∷ μ.w ∷ [])

                times_Y : (s : ℕ) (b c : List ℕ) → (rd μ).𝓥.L.ops.mul ((rd μ).𝓥.const ((rd μ).cast s)) (Y μ (pt μ b c)) ≡ Y μ (times s b c)
                unfolding times
                times_Y s b c = solve (rd μ).𝓥.L (var 0 :* (var 1 :* var 3 :+ minus (var 2 :* var 4))) (var 0 :* var 1 :* var 3 :+ minus (var 0 :* var 2 :* var 4)) tt ((rd μ).𝓥.const ((rd μ).cast s) ∷ rowμ μ b ∷ rowμ μ c ∷ μ.r ∷ μ.w ∷ [])

                -- Z = (2a − s x) − s (X − x)
                low : {s : ℕ} {b c x a₀ b₀ c₀ : List ℕ} → Held F false top (point b c x) → PlacedAt (rd μ) s b c x x2 y2 u a₀ b₀ c₀ → Ltμ μ (Z μ (rowμ μ a₀) (rowμ μ b₀) (rowμ μ c₀)) g.u
                low {s} {b} {c} {x} {a₀} {b₀} {c₀} t e =
                    let ρ = rd μ in
                    lt_eq ρ.𝓥 (lt_add ρ.𝓥 (e.low g.u (ρ.𝓥.K.ops.𝟏, ρ.𝓥.one≢zero, u_lead μ.prime)) (lt_neg ρ.𝓥 (lt_up ρ.𝓥 g.u (lt_scale ρ (ρ.cast s) (t.floor μ)) (omega arith))))
                    (solve_by ρ.𝓥.L ((one :+ one) :* var 0 :+ minus (var 4 :* var 9) :+ minus (var 4 :* (var 5 :* var 7 :+ var 6 :* var 8 :+ minus (var 9)))) ((one :+ one) :* var 0 :+ minus (var 2 :* var 7) :+ minus (var 3 :* var 8))
                    (hyp (var 7) (var 2) (var 4 :* var 5) ∷ hyp (var 8) (var 3) (var 4 :* var 6) ∷ []) tt
                    (rowμ μ a₀ ∷ rowμ μ a₀ ∷ rowμ μ b₀ ∷ rowμ μ c₀ ∷ ρ.𝓥.const (ρ.cast s) ∷ rowμ μ b ∷ rowμ μ c ∷ μ.r ∷ μ.w ∷ rowμ μ x ∷ []) (e.is_b, (e.is_c, tt)))

                abbrev h₂ : Ser μ
                h₂ = (rd μ).𝓥.const ((rd μ).cast ((F.m.p + 1) / 2))

                twice : {x z : List ℕ} → Scaled F.m.p 2 x z → rowμ μ z ≡ (rd μ).𝓥.L.ops.mul ((rd μ).𝓥.L.ops.add (rd μ).𝓥.L.ops.𝟏 (rd μ).𝓥.L.ops.𝟏) (rowμ μ x)
                twice {x} e = e.law μ.prime ∙ ap (λ y. (rd μ).𝓥.L.ops.mul y (rowμ μ x)) (const_two (rd μ))

                -- row 0 is half of what is placed
                row_0 : {s : ℕ} {b c x a₀ b₀ c₀ : List ℕ} (e : PlacedAt (rd μ) s b c x x2 y2 u a₀ b₀ c₀)
                    → off (rd μ).𝓥.L.ops (rowμ μ x1) (rowμ μ y1) (rowμ μ a₀) (rowμ μ b₀) (rowμ μ c₀) ≡ (rd μ).𝓥.L.ops.mul (at μ 6 B₃) ((rd μ).𝓥.L.ops.mul h₂ e.k)
                row_0 {a₀ = a₀} {b₀} {c₀} e =
                    let ρ = rd μ in
                    solve_by ρ.𝓥.L (var 0 :+ (var 1 :* var 3 :+ var 2 :* var 4)) (var 7 :* (var 8 :* var 9))
                    (hyp (var 8) ((one :+ one) :* var 0 :+ (var 1 :* var 5 :+ var 2 :* var 6)) (var 7 :* var 9) ∷ hyp (minus (var 8 :* var 1)) (var 5) ((one :+ one) :* var 3) ∷ hyp (minus (var 8 :* var 2)) (var 6) ((one :+ one) :* var 4)
                    ∷ hyp (minus (var 0 :+ (var 1 :* var 3 :+ var 2 :* var 4))) (var 8 :+ var 8) one ∷ []) tt
                    (rowμ μ a₀ ∷ rowμ μ b₀ ∷ rowμ μ c₀ ∷ rowμ μ x1 ∷ rowμ μ y1 ∷ rowμ μ x2 ∷ rowμ μ y2 ∷ rowμ μ u ∷ h₂ ∷ e.k ∷ []) (e.framed, (twice e1.scaled, (twice e2.scaled, (half ρ g.odd, tt))))
                    ∙ ap (λ y. ρ.𝓥.L.ops.mul y (ρ.𝓥.L.ops.mul h₂ e.k)) (sym is_U)

                half_poly : (z : Ser μ) → (rd μ).𝓥.IsPoly z → (rd μ).𝓥.IsPoly ((rd μ).𝓥.L.ops.mul h₂ z)
                half_poly z hz = (rd μ).𝓥.closed.mul _ _ ((rd μ).𝓥.const_poly _) hz

                pub based_at : BasedAt μ q d x1 y1 B₃
                unfolding times
                based_at =
                    let ρ = rd μ in
                    let v = ρ.𝓥 in
                    let e : lu ≡ suc g.u = lu_is in
                    let w : lu - 1 ≡ g.u = omega arith in
                    let z : 0 < o.lx = lx_pos in
                    let l : h.x2 < o.lx = h.x_less in
                    let hi : lu ≤ suc h.y = h.y_high in record {
                      numbers = record {
                        u = g.u;
                        x = o.lx - 1;
                        y = h.y;
                        U_lead = lead_eq v (u_lead μ.prime) (sym is_U) refl;
                        X_M = lead_eq v (lead_scale ρ (ρ.cast k.m) (floor_top ρ o.lx (h.hm.floor μ) h.sx1 z)) (times_X k.m o.mb o.mc ∙ ap (X μ) is_M) (hk.m_law μ.prime);
                        Y_N = lead_eq v (lead_scale ρ (ρ.cast k.n) (ly.law μ h.y (h.y_has μ)).2) (times_Y k.n o.nb o.nc ∙ ap (Y μ) is_N) (hk.n_law μ.prime);
                        u≤y = omega arith;
                        X_N = lt_eq v (lt_scale ρ (ρ.cast k.n) (lt_up v (o.lx - 1) (floor_lt ρ (h.hn.floor μ) h.sx2) (omega arith))) (times_X k.n o.nb o.nc ∙ ap (X μ) is_N);
                        Y_M = lt_eq v (lt_scale ρ (ρ.cast k.m) (lt_up v g.u (h.y_low μ) (omega arith))) (times_Y k.m o.mb o.mc ∙ ap (Y μ) is_M);
                        Z_M = low h.hm (at_M μ.prime);
                        Z_N = low h.hn (at_N μ.prime);
                      };
                      k_m = ρ.𝓥.L.ops.mul h₂ (at_M μ.prime).k;
                      k_n = ρ.𝓥.L.ops.mul h₂ (at_N μ.prime).k;
                      k_m_poly = half_poly _ (at_M μ.prime).k_poly;
                      k_n_poly = half_poly _ (at_N μ.prime).k_poly;
                      M_a = row_0 (at_M μ.prime);
                      N_a = row_0 (at_N μ.prime);
                      ν = ρ.cast k.u;
                      ν_unit = not_zero μ k.u _ _ v.one≢zero (hk.u_law μ.prime);
                      U_eq = is_U ∙ su.law μ.prime;
                      moved = subst (λ y. Moved ρ (pt μ q.mb q.mc) (pt μ q.nb q.nc) (Mpt μ B₃) y) is_N
                          (subst (λ y. Moved ρ (pt μ q.mb q.mc) (pt μ q.nb q.nc) y (times k.n o.nb o.nc)) is_M
                          (moved_then ρ (h.moved μ)
                          (moved_scale ρ (ρ.cast k.m) (ρ.cast k.n) (not_zero μ k.m _ _ μ.two (hk.m_law μ.prime)) (not_zero μ k.n _ _ v.one≢zero (hk.n_law μ.prime)) (pt μ o.mb o.mc) (pt μ o.nb o.nc))));
                    }

              pub based : Based F q d x1 y1 B₃
              based = record {
                size = st.size;
                each = stored_each F.m.p B₂ 6 u B₃ st (pn.each (pm.each (λ j. let w : ◌≡◌ {A = ℕ} (get_or (replicate 119 0) j 0) 0 = zeros_at 119 j in let b : 1 < F.m.p = g.clear.room.fine.modulus.big in omega arith))) su.is_row.each;
                meant = based_at;
              }

              pad : {x y : List ℕ} → x ≡ y → x ++ replicate 15 0 ≡ y ++ replicate 15 0
              pad e = ap (λ z. z ++ replicate 15 0) e

              pub left : Left F.m.p x1 y1 B₃ o₁ u x2 y2
              left = record {
                rows = λ i. record { mb = (pm.left_b ∙ pad (part_M 1 (omega arith))) i; mc = (pm.left_c ∙ pad (part_M 2 (omega arith))) i; nb = (pn.left_b ∙ pad (part_N 4 (omega arith))) i; nc = (pn.left_c ∙ pad (part_N 5 (omega arith))) i };
                u = stored_padded st so.short (size_below g.hd sd);
                twice_x = e1.scaled;
                twice_y = e2.scaled;
              }

              pub left_mx : mx₁ ≡ padded 0 B₃
              left_mx = pm.left_x ∙ pad (part_M 0 (omega arith))

              pub left_nx : nx₁ ≡ padded 3 B₃
              left_nx = pn.left_x ∙ pad (part_N 3 (omega arith))
