-- One turn, s a − c t^k b: its rows fit, it is the turn of the elements, and its size ends before the bound.
--   shift_above     where t^k z lies below j, a row for z moved up by k is 0 from j on
--   cancel_drop     the leading terms cancel
--   cancel_b, cancel_c, cancel_top    what `canceled` asks of its callees
use mathlib.Core.Path.{◌≡◌, sym, ◌∙◌}
use mathlib.Core.Bool.{Bool}
use mathlib.Core.List.{List, [], ◌∷◌}
use Prim.Native.Nat.{ℕ, zero, suc, ◌+◌, ◌-◌, ◌<◌, ◌≤◌}
use native.Mathlib.Omega.{arith}
use native.Mathlib.Decide.{dec_lt}
use Rattle.math_ring.proofs.Solve.{var, minus, ◌:+◌, ◌:*◌, solve}
use Rattle.math_valued.specs.Degree.{Lt}
use Rattle.math_valued.proofs.Degree.{lt_eq, above, has_mul, has_move}
use Rattle.math_rows.specs.Reading.{Reading}
use Rattle.math_rows.specs.Row.{Row, Size, shift_at, tpow, row, comb}
use Rattle.math_rows.proofs.Tab.{shift_low, shift_high}
use Rattle.math_rows.proofs.Rows.{tpow_lead, size_has}
use Rattle.math_rows.proofs.Turn.{comb_drop}
use Rattle.math_rows.proofs.Floors.{sized}
use Rattle.math_turns.specs.Points.{Pt, Turned}
use Rattle.math_turns.proofs.Turn.{turned_side, b_lt, c_lt}
use Rattle.poly_cross.specs.Cross.{CrossInAsks, CrossInGives}
use Rattle.basis_parts.specs.Frame.{Frame, Meaning, rd, Ser, pt, X, Y, side, Ltμ, shift, rowμ}
use Rattle.basis_top.specs.Tops.{TopOfAsks}
use Rattle.basis_clear.specs.Clear.{CanceledAsks}
use Rattle.basis_top.specs.declared.Top.{Top}

module _ {p : ℕ} (ρ : Reading p) where
  pub shift_above : (l : List ℕ) (k j : ℕ) → Row p l → Lt ρ.𝓥 (ρ.𝓥.L.ops.mul (tpow ρ k) (row ρ l)) j → (i : ℕ) → j ≤ i → shift_at l k i ≡ 0
  shift_above l k j h g i u = let (m, s) = sized l in go m s (dec_lt i k)
    where
      go : (m : ℕ) → Size l m → Dec (i < k) → shift_at l k i ≡ 0
      go m s (yes w) = shift_low l k i w
      go zero s (no w) = shift_high l k i (omega arith) ∙ s.above (i - k) (omega arith)
      go (suc d) s (no w) =
          let v = ρ.𝓥 in
          let z : k + d < j = above v (has_move v (k + d) 0 (has_mul v (v.K.ops.𝟏, v.one≢zero, tpow_lead ρ k) (size_has ρ h s)) (omega arith)) g in
          shift_high l k i (omega arith) ∙ s.above (i - k) (omega arith)

module _ {F : Frame} {e : Bool} {ab ac bb bc : List ℕ} {a b : Top} {top low : ℕ} (i : CanceledAsks F e ab ac a bb bc b top low) where
  abbrev k : ℕ
  k = a.n - b.n

  moved_up : Pt (Ser i.some)
  moved_up = record { b = shift i.some k (rowμ i.some bb); c = shift i.some k (rowμ i.some bc) }

  up_x : Ltμ i.some (X i.some moved_up) top
  unfolding moved_up
  up_x = lt_eq (rd i.some).𝓥 i.at.xb (solve (rd i.some).𝓥.L (var 0 :* (var 1 :* var 3 :+ var 2 :* var 4)) (var 0 :* var 1 :* var 3 :+ var 0 :* var 2 :* var 4) tt (tpow (rd i.some) k ∷ rowμ i.some bb ∷ rowμ i.some bc ∷ i.some.r ∷ i.some.w ∷ []))

  up_y : Ltμ i.some (Y i.some moved_up) top
  unfolding moved_up
  up_y = lt_eq (rd i.some).𝓥 i.at.yb (solve (rd i.some).𝓥.L (var 0 :* (var 1 :* var 3 :+ minus (var 2 :* var 4))) (var 0 :* var 1 :* var 3 :+ minus (var 0 :* var 2 :* var 4)) tt (tpow (rd i.some) k ∷ rowμ i.some bb ∷ rowμ i.some bc ∷ i.some.r ∷ i.some.w ∷ []))

  -- t^k b is no longer than a
  fits_k : k ≤ 32
  fits_k =
      let f : top ≤ 32 = i.room.fits in
      let u : a.n ≤ top = i.ta.upto in
      omega arith

  pub cancel_b : CrossInAsks F.m b.c ab a.c k bb (top - F.dr)
  unfolding moved_up
  cancel_b =
      let σ = i.some in
      let f : top ≤ 32 = i.room.fits in
      let lc : a.c < F.m.p = i.ta.below in record {
        modulus = i.room.fine.modulus;
        prime = σ.prime;
        hs = i.tb.below;
        hc = omega arith;
        hx = i.ha.hb;
        hy = i.hb.hb.is_row;
        fits = omega arith;
        low = fits_k;
        above = shift_above (rd σ) bb k (top - F.dr) i.hb.hb.is_row (b_lt (rd σ) σ.r σ.w {a = moved_up} F.dr (top - F.dr) σ.two σ.r_deg up_x up_y (omega arith));
      }

  pub cancel_c : CrossInAsks F.m b.c ac a.c k bc (top - F.dw)
  unfolding moved_up
  cancel_c =
      let σ = i.some in
      let f : top ≤ 32 = i.room.fits in
      let lc : a.c < F.m.p = i.ta.below in record {
        modulus = i.room.fine.modulus;
        prime = σ.prime;
        hs = i.tb.below;
        hc = omega arith;
        hx = i.ha.hc;
        hy = i.hb.hc.is_row;
        fits = omega arith;
        low = fits_k;
        above = shift_above (rd σ) bc k (top - F.dw) i.hb.hc.is_row (c_lt (rd σ) σ.r σ.w {a = moved_up} F.dw (top - F.dw) σ.two σ.w_deg up_x up_y (omega arith));
      }

  pub cancel_drop : (μ : Meaning F) → Ltμ μ (comb (rd μ) ((rd μ).cast b.c) ((rd μ).cast a.c) k (side μ e (pt μ ab ac)) (side μ e (pt μ bb bc))) (a.n - 1)
  cancel_drop μ =
      let u : low < b.n = i.past in
      let v : b.n ≤ a.n = i.over in
      comb_drop (rd μ) k (i.ta.lead (omega arith) μ) (i.tb.lead u μ) (omega arith)

  module _ {nb nc : List ℕ} (xb : CrossInGives F.m.p b.c ab a.c k bb (top - F.dr) nb) (xc : CrossInGives F.m.p b.c ac a.c k bc (top - F.dw) nc) where
    turned_at : (μ : Meaning F) → Turned (rd μ) ((rd μ).cast b.c) ((rd μ).cast a.c) k (pt μ ab ac) (pt μ bb bc) (pt μ nb nc)
    turned_at μ = record { at_b = xb.crossed.law μ.prime; at_c = xc.crossed.law μ.prime }

    pub cancel_top : TopOfAsks F e nb nc top (a.n - 1) low
    cancel_top =
        let u : low < b.n = i.past in
        let v : b.n ≤ a.n = i.over in
        let w : a.n ≤ top = i.ta.upto in record {
          inp = record { fine = i.room.fine; some = i.some; hb = xb.short; hc = xc.short; fits = i.room.fits; low_r = i.room.low_r; low_w = i.room.low_w };
          fits = omega arith;
          room = omega arith;
          ends = λ μ. lt_eq (rd μ).𝓥 (cancel_drop μ) (sym (turned_side (rd μ) μ.r μ.w e (turned_at μ)));
        }
