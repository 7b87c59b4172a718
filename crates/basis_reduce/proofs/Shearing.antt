-- The second loop of the reduction: m stays, n loses leading terms of X, and Y(n) keeps its degree.
--   shear_in (from the end of the first loop), shear_pos, shear_top and shear_turn_in (demands of callees), shear_start, shear_turn, shear_end
--   reduced_end     both loops
use mathlib.Core.Path.{◌≡◌, refl, sym, subst}
use mathlib.Core.Logic.{◌⊎◌, inl, inr}
use mathlib.Core.Bool.{false}
use mathlib.Core.List.{List}
use Prim.Native.Nat.{ℕ, suc, ◌+◌, ◌-◌, ◌<◌, ◌≤◌}
use native.Mathlib.Omega.{arith}
use lib.ListN.{get_or}
use Rattle.math_valued.proofs.Degree.{has_eq, lt_up, has_up, above, same, look}
use Rattle.math_rows.specs.Row.{Size}
use Rattle.math_rows.proofs.Turn.{comb_keep, lead_shift}
use Rattle.math_rows.proofs.Floors.{sized, floor_lt, floor_le}
use Rattle.math_turns.proofs.Turn.{turned_Y, moved_start, moved_swap, moved_turn, moved_then, moved_has, full}
use Rattle.basis_parts.specs.Frame.{Frame, Meaning, rd, pt, X, Y, Ltμ, Hasμ, shift}
use Rattle.basis_parts.specs.Leaves.{Parted}
use Rattle.basis_top.specs.Tops.{TopOfAsks, Topped}
use Rattle.basis_clear.specs.Clear.{Pair, CanceledAsks, CanceledGives, Cleared}
use Rattle.basis_reduce.specs.Reduction.{ShearAsks, Shearing, Sheared, Reduced, Ends, ends}
use Rattle.basis_top.specs.declared.Top.{Top}
use Rattle.basis_top.proofs.Tops.{part_lt, part_top, topped_up, topped_not, topped_has}
use Rattle.basis_clear.proofs.Clearing.{part_in, part_held}

-- ---- from the first loop to the second
module _ {F : Frame} {q : Pair} {top lu : ℕ} {o : Pair} (c : Cleared F q top lu o) where
  -- a bound of X(m) makes up for Y(n)
  all_of : (a : ℕ) → Ltμ c.state.some (X c.state.some (pt c.state.some o.mb o.mc)) a → c.state.s + c.state.u + 2 ≤ a + c.y2.n
  all_of a h =
      let i = c.state in
      let σ = i.some in
      let t : top ≡ suc i.s = i.top_is in
      let e : lu ≡ suc i.u = i.lu_is in
      let low : c.y1.n < lu = c.low in
      let bx2 : i.x2 ≤ top = i.bx2 in
      let b2 : c.y2.n ≤ top = i.ty2.upto in
      full (rd σ) σ.r σ.w i.s i.u (moved_has (rd σ) σ.r σ.w (i.moved σ) i.det) (lt_up (rd σ).𝓥 (suc i.s) i.lx2 (omega arith))
      (lt_up (rd σ).𝓥 i.u (i.ty1.ends σ) (omega arith)) a c.y2.n h (i.ty2.ends σ) (omega arith)

  -- X(m) has all the degree that it may
  pub full_x : (x : ℕ) × (suc x + c.y2.n ≡ c.state.s + c.state.u + 2) × Hasμ c.state.some (X c.state.some (pt c.state.some o.mb o.mc)) x
  full_x = go (look (rd c.state.some).𝓥 c.state.x1 0 (lt_up (rd c.state.some).𝓥 (c.state.x1 + 0) c.state.lx1 (omega arith)))
    where
      go : ((x : ℕ) × (x < c.state.x1 + 0) × (0 ≤ x) × Hasμ c.state.some (X c.state.some (pt c.state.some o.mb o.mc)) x) ⊎ Ltμ c.state.some (X c.state.some (pt c.state.some o.mb o.mc)) 0
          → (x : ℕ) × (suc x + c.y2.n ≡ c.state.s + c.state.u + 2) × Hasμ c.state.some (X c.state.some (pt c.state.some o.mb o.mc)) x
      go (inl (x, l, z, h)) =
          let a : c.state.x1 + c.y2.n ≡ c.state.s + c.state.u + 2 = c.all in
          let g : c.state.s + c.state.u + 2 ≤ suc x + c.y2.n = all_of (suc x) (has_up (rd c.state.some).𝓥 (suc x) h (omega arith)) in
          (x, omega arith, h)
      go (inr h) =
          let g : c.state.s + c.state.u + 2 ≤ 0 + c.y2.n = all_of 0 h in
          let t : top ≡ suc c.state.s = c.state.top_is in
          let b2 : c.y2.n ≤ top = c.state.ty2.upto in
          absurd (omega arith)

  pub y_top : (μ : Meaning F) → Hasμ μ (Y μ (pt μ o.nb o.nc)) (c.y2.n - 1)
  y_top μ =
      let e : lu ≡ suc c.state.u = c.state.lu_is in
      let hi : lu ≤ c.y2.n = c.high in
      topped_has c.state.ty2 (omega arith) μ

  pub shear_in : ShearAsks F o top
  shear_in =
      let i = c.state in
      let (x, e, h) = full_x in
      let t : top ≡ suc i.s = i.top_is in
      let ul : lu ≡ suc i.u = i.lu_is in
      let low : c.y1.n < lu = c.low in
      let hi : lu ≤ c.y2.n = c.high in
      let b2 : c.y2.n ≤ top = i.ty2.upto in
      let bx1 : i.x1 ≤ top = i.bx1 in
      let a : i.x1 + c.y2.n ≡ i.s + i.u + 2 = c.all in record {
        room = i.room;
        hm = i.hm;
        hn = i.hn;
        x = x;
        y1 = c.y1.n;
        y2 = c.y2.n;
        by2 = b2;
        gap = omega arith;
        ym = i.ty1.ends;
        yn = y_top;
        some = i.some;
        xm = h;
        bm = omega arith;
        xn = lt_up (rd i.some).𝓥 top i.lx2 i.bx2;
      }

-- ---- the loop
module _ {F : Frame} {q : Pair} {top : ℕ} (i : ShearAsks F q top) {mx : List ℕ} (o : Parted F false q.mb q.mc top mx) (l : ℕ) (s : Size mx l) where
  shear_length : l ≡ suc i.x
  shear_length =
      let σ = i.some in
      let v = (rd σ).𝓥 in
      let lo : i.x < l = above v i.xm (floor_lt (rd σ) (o.law σ) s) in
      let hi : l ≤ suc i.x = floor_le (rd σ) (suc i.x) o.short.is_row (o.law σ) s (has_up v (suc i.x) i.xm (omega arith)) in
      omega arith

  pub shear_pos : 0 < l
  shear_pos = let e : l ≡ suc i.x = shear_length in omega arith

  pub shear_top : TopOfAsks F false q.nb q.nc top top (l - 1)
  shear_top =
      let e : l ≡ suc i.x = shear_length in
      let b : i.x < top = i.bm in
      let g = part_in i.some i.room i.hn in
      record { inp = g; fits = omega arith; room = omega arith; ends = part_lt false g }

  pub shear_start : {t : Top} → Topped F false q.nb q.nc (l - 1) top t → Shearing F q top q.nb q.nc (record { n = l; c = get_or mx (l - 1) 0 }) t
  shear_start h =
      let e : l ≡ suc i.x = shear_length in
      let b : i.x < top = i.bm in
      let w : i.y1 + top < suc i.x + i.y2 = i.gap in record {
        room = i.room;
        hm = i.hm;
        hn = i.hn;
        tx1 = part_top o l s (omega arith) (omega arith);
        tx2 = h;
        y1 = i.y1;
        y2 = i.y2;
        by2 = i.by2;
        gap = omega arith;
        ym = i.ym;
        yn = i.yn;
        was = i.yn;
        some = i.some;
        moved = λ μ. moved_start (rd μ) (pt μ q.mb q.mc) (pt μ q.nb q.nc);
      }

module _ {F : Frame} {q : Pair} {top : ℕ} {nb nc : List ℕ} {x1 x2 : Top} (i : Shearing F q top nb nc x1 x2) (le : x1.n ≤ x2.n) where
  abbrev k : ℕ
  k = x2.n - x1.n

  -- X(m) is not 0, as Y(n) is no longer than top
  past : x1.n - 1 < x1.n
  past =
      let w : i.y1 + top < x1.n + i.y2 = i.gap in
      let b : i.y2 ≤ top = i.by2 in
      omega arith

  -- t^k Y(m) is shorter than Y(n)
  under : k + i.y1 ≤ i.y2 - 1
  under =
      let w : i.y1 + top < x1.n + i.y2 = i.gap in
      let b : x2.n ≤ top = i.tx2.upto in
      omega arith

  shift_y : (μ : Meaning F) → Ltμ μ (shift μ k (Y μ (pt μ q.mb q.mc))) (k + i.y1)
  shift_y μ = lead_shift (rd μ) k (i.ym μ)

  pub shear_turn_in : CanceledAsks F false nb nc x2 q.mb q.mc x1 top (x1.n - 1)
  shear_turn_in =
      let σ = i.some in
      let u : k + i.y1 ≤ i.y2 - 1 = under in
      let z : x1.n - 1 < x1.n = past in
      let b2 : x2.n ≤ top = i.tx2.upto in
      let by : i.y2 ≤ top = i.by2 in
      let w : i.y1 + top < x1.n + i.y2 = i.gap in record {
        room = i.room;
        ha = i.hn;
        hb = i.hm;
        ta = i.tx2;
        tb = i.tx1;
        past = z;
        over = le;
        some = σ;
        at = record {
          xa = lt_up (rd σ).𝓥 top (i.tx2.ends σ) b2;
          ya = has_up (rd σ).𝓥 top (i.yn σ) (omega arith);
          xb = lt_up (rd σ).𝓥 top (lead_shift (rd σ) k (i.tx1.ends σ)) (omega arith);
          yb = lt_up (rd σ).𝓥 top (shift_y σ) (omega arith);
        };
      }

  module _ {nb' nc' : List ℕ} {t : Top} (h : CanceledGives F false nb nc x2 q.mb q.mc x1 top (x1.n - 1) nb' nc' t) where
    pub shear_turn : Shearing F q top nb' nc' x1 t
    shear_turn =
        let b : x2.n ≤ top = i.tx2.upto in record {
          room = i.room;
          hm = i.hm;
          hn = h.rows;
          tx1 = i.tx1;
          tx2 = topped_up h.is top (omega arith);
          y1 = i.y1;
          y2 = i.y2;
          by2 = i.by2;
          gap = i.gap;
          ym = i.ym;
          yn = λ μ.
              has_eq (rd μ).𝓥 (comb_keep (rd μ) k ((rd μ).cast x1.c) ((rd μ).cast x2.c) (topped_not i.tx1 past μ) (i.yn μ) (lt_up (rd μ).𝓥 (i.y2 - 1) (shift_y μ) under))
              (sym (turned_Y (rd μ) μ.r μ.w (h.each μ)));
          was = i.was;
          some = i.some;
          moved = λ μ. moved_swap (rd μ) (moved_turn (rd μ) (topped_not i.tx1 past μ) (moved_swap (rd μ) (i.moved μ)) (h.each μ));
        }

pub shear_end : {F : Frame} {q : Pair} {top : ℕ} {nb nc mx nx : List ℕ} {x1 x2 : Top} → Shearing F q top nb nc x1 x2 → x2.n < x1.n → Parted F false q.mb q.mc top mx → Size mx x1.n → Parted F false nb nc top nx
    → Sheared F q top (ends q.mb q.mc mx nb nc nx x1.n)
shear_end {F} {q} {top} {nb} {nc} {mx} {nx} {x1} {x2} i l pm sm pn =
    let σ = i.some in
    let (n, s) = sized nx in
    let g : n ≤ x2.n = floor_le (rd σ) x2.n pn.short.is_row (pn.law σ) s (i.tx2.ends σ) in record {
      same_b = refl;
      same_c = refl;
      hm = part_held i.hm pm;
      hn = part_held i.hn pn;
      x2 = n;
      sx1 = sm;
      sx2 = s;
      less = omega arith;
      kept = λ μ d h. subst (λ a. Hasμ μ (Y μ (pt μ nb nc)) a) (same (rd μ).𝓥 (i.was μ) h) (i.yn μ);
      moved = i.moved;
    }

-- ---- both loops
pub reduced_end : {F : Frame} {q : Pair} {top lu : ℕ} {a : Pair} {o : Ends} → Cleared F q top lu a → Sheared F a top o → Reduced F q top lu o
reduced_end {F} {q} {top} {lu} {a} {o} c h =
    let i = c.state in
    let σ = i.some in
    let v = (rd σ).𝓥 in
    let (x, e, hx) = full_x c in
    let t : top ≡ suc i.s = i.top_is in
    let ul : lu ≡ suc i.u = i.lu_is in
    let low : c.y1.n < lu = c.low in
    let hi : lu ≤ c.y2.n = c.high in
    let b2 : c.y2.n ≤ top = i.ty2.upto in
    let hx' : Hasμ σ (X σ (pt σ o.mb o.mc)) x = (subst (λ z. Hasμ σ (X σ (pt σ o.mb z)) x) (sym h.same_c) (subst (λ z. Hasμ σ (X σ (pt σ z a.mc)) x) (sym h.same_b) hx)) in
    let lo : x < o.lx = above v hx' (floor_lt (rd σ) (h.hm.floor σ) h.sx1) in
    let up : o.lx ≤ suc x = floor_le (rd σ) (suc x) h.hm.hz.is_row (h.hm.floor σ) h.sx1 (has_up v (suc x) hx' (omega arith)) in record {
      hm = h.hm;
      hn = h.hn;
      x2 = h.x2;
      sx1 = h.sx1;
      sx2 = h.sx2;
      x_less = h.less;
      y = c.y2.n - 1;
      y_low = λ μ. subst (λ z. Ltμ μ (Y μ (pt μ o.mb z)) (lu - 1)) (sym h.same_c) (subst (λ z. Ltμ μ (Y μ (pt μ z a.mc)) (lu - 1)) (sym h.same_b) (lt_up (rd μ).𝓥 (lu - 1) (i.ty1.ends μ) (omega arith)));
      y_has = λ μ. h.kept μ (c.y2.n - 1) (y_top c μ);
      y_high = omega arith;
      y_fits = omega arith;
      all = omega arith;
      moved = λ μ. moved_then (rd μ) (i.moved μ) (h.moved μ);
    }
