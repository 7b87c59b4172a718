-- The order: the demands of the reduction hold for r and w, and its record is the basis of the order of an accepted field.
--   unit_is, nothing_is   the polynomials of the two rows
--   order_in, order_by    what `order` asks of its callee
--   order_start           the theorem
use mathlib.Core.Path.{◌≡◌, refl, sym, ap, ap₂, ◌∙◌}
use mathlib.Core.List.{[], ◌∷◌}
use Prim.Native.Nat.{ℕ, zero, suc, ◌+◌, ◌-◌, ◌<◌, ◌≤◌}
use native.Mathlib.Omega.{arith}
use lib.ListN.{get_or}
use Rattle.math_ring.proofs.Solve.{var, one, zer, minus, ◌:+◌, ◌:*◌, solve}
use Rattle.math_valued.specs.Degree.{Has}
use Rattle.math_valued.proofs.Degree.{has_eq, has_up, has_mul, has_neg, has_move}
use Rattle.math_rows.specs.Reading.{Reading}
use Rattle.math_rows.specs.Row.{Row, Size, row, psum, tpow}
use Rattle.math_rows.proofs.Rows.{row_cut}
use Rattle.basis_parts.specs.Frame.{Frame, Short, rd, pt, X, Y, D}
use Rattle.math_rows.proofs.Tab.{zeros_at}
use Rattle.poly_rows.proofs.Leaf.{zeros_row, zeros_size}
use Rattle.basis_finish.specs.Based.{BasisAsks, ReducedBasisAsks}
use Rattle.basis_scale.specs.First.{unit, nothing, units, OrderAsks}

-- ---- the rows of 1 and 0
unit_at : (i : ℕ) → 1 ≤ i → get_or unit i 0 ≡ 0
unit_at zero l = absurd (omega arith)
unit_at (suc i) l = zeros_at 31 i

unit_row : (p : ℕ) → 1 < p → Row p unit
unit_row p h = record { size = refl; each = at }
  where
    at : (i : ℕ) → get_or unit i 0 < p
    at zero = h
    at (suc i) = let e : get_or unit (suc i) 0 ≡ 0 = unit_at (suc i) (omega arith) in omega arith

unit_size : Size unit 1
unit_size = record { fits = omega arith; above = unit_at; top = λ l e. let z : ◌≡◌ {A = ℕ} 1 0 = e in absurd (omega arith) }

module _ {p : ℕ} (ρ : Reading p) where
  pub unit_is : row ρ unit ≡ ρ.𝓥.L.ops.𝟏
  unfolding psum tpow
  unit_is = row_cut ρ unit 1 unit_size ∙ ap (λ a. ρ.𝓥.L.ops.add ρ.𝓥.L.ops.𝟎 (ρ.𝓥.L.ops.mul a ρ.𝓥.L.ops.𝟏)) (ap ρ.𝓥.const ρ.cast_one ∙ ρ.const_one) ∙ solve ρ.𝓥.L (zer :+ one :* one) one tt []

  pub nothing_is : row ρ nothing ≡ ρ.𝓥.L.ops.𝟎
  unfolding psum
  nothing_is = row_cut ρ nothing 0 zeros_size

-- ---- the demands of the reduction
module _ {F : Frame} {top : ℕ} (i : OrderAsks F top) where
  pos : 1 < F.m.p
  pos = i.fine.modulus.big

  unit_short : (n : ℕ) → 1 ≤ n → Short F.m.p unit n
  unit_short n l = record { is_row = unit_row F.m.p pos; above = λ j u. unit_at j (omega arith) }

  nothing_short : (n : ℕ) → Short F.m.p nothing n
  nothing_short n = record { is_row = zeros_row F.m.p (let b : 1 < F.m.p = pos in omega arith); above = λ j u. zeros_at 32 j }

  at_m : pt i.some unit nothing ≡ record { b = (rd i.some).𝓥.L.ops.𝟏; c = (rd i.some).𝓥.L.ops.𝟎 }
  at_m = ap₂ (λ x y. record { b = x; c = y }) (unit_is (rd i.some)) (nothing_is (rd i.some))

  at_n : pt i.some nothing unit ≡ record { b = (rd i.some).𝓥.L.ops.𝟎; c = (rd i.some).𝓥.L.ops.𝟏 }
  at_n = ap₂ (λ x y. record { b = x; c = y }) (nothing_is (rd i.some)) (unit_is (rd i.some))

  pub order_in : BasisAsks F units top unit nothing nothing
  order_in =
      let μ = i.some in
      let v = (rd μ).𝓥 in
      let L = v.L in
      let rr = μ.r in
      let ww = μ.w in
      let t : top ≡ suc (F.dr + F.dw) = i.top_is in
      let f : top ≤ 17 = i.fits in
      let two : Has v (L.ops.add L.ops.𝟏 L.ops.𝟏) 0 = (_, μ.two, v.lead_add v.lead_one v.lead_one) in record {
        small = i.small;
        odd = i.odd;
        fits = i.fits;
        hd = unit_short 17 (omega arith);
        h1 = nothing_short (suc F.dr);
        h2 = nothing_short (suc F.dw);
        u = 0;
        d_size = unit_size;
        clear = record {
          room = record { fine = i.fine; fits = omega arith; low_r = omega arith; low_w = omega arith };
          hm = record { hb = unit_short (top - F.dr) (omega arith); hc = nothing_short (top - F.dw) };
          hn = record { hb = nothing_short (top - F.dr); hc = unit_short (top - F.dw) (omega arith) };
          s = F.dr + F.dw;
          u = 0;
          top_is = i.top_is;
          lu_is = refl;
          x1 = suc F.dr;
          x2 = suc F.dw;
          v1 = suc F.dr;
          v2 = suc F.dw;
          bx1 = omega arith;
          bx2 = omega arith;
          bv1 = omega arith;
          bv2 = omega arith;
          k1 = omega arith;
          k2 = omega arith;
          some = μ;
          lx1 = has_up v (suc F.dr) (has_eq v μ.r_deg (solve L (var 0) (one :* var 0 :+ zer :* var 1) tt (rr ∷ ww ∷ []) ∙ ap (X μ) (sym at_m))) (omega arith);
          lx2 = has_up v (suc F.dw) (has_eq v μ.w_deg (solve L (var 1) (zer :* var 0 :+ one :* var 1) tt (rr ∷ ww ∷ []) ∙ ap (X μ) (sym at_n))) (omega arith);
          ly1 = has_up v (suc F.dr) (has_eq v μ.r_deg (solve L (var 0) (one :* var 0 :+ minus (zer :* var 1)) tt (rr ∷ ww ∷ []) ∙ ap (Y μ) (sym at_m))) (omega arith);
          ly2 = has_up v (suc F.dw) (has_eq v (has_neg v μ.w_deg) (solve L (minus (var 1)) (zer :* var 0 :+ minus (one :* var 1)) tt (rr ∷ ww ∷ []) ∙ ap (Y μ) (sym at_n))) (omega arith);
          det = has_move v (F.dr + F.dw + 0) 0 (has_eq v (has_neg v (has_mul v two (has_mul v μ.r_deg μ.w_deg)))
              (solve L (minus ((one :+ one) :* (var 0 :* var 1)))
              ((one :* var 0 :+ zer :* var 1) :* (zer :* var 0 :+ minus (one :* var 1)) :+ minus ((zer :* var 0 :+ one :* var 1) :* (one :* var 0 :+ minus (zer :* var 1)))) tt (rr ∷ ww ∷ [])
              ∙ ap₂ (λ x y. D μ x y) (sym at_m) (sym at_n))) (omega arith);
        };
      }

  pub order_by : ReducedBasisAsks F units top unit 1 nothing 0 nothing 0
  order_by = record { inp = order_in; size = unit_size; size_1 = zeros_size; size_2 = zeros_size }
