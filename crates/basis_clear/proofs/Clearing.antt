-- The first loop of the reduction: a turn cancels the leading term of the longer Y. Its bounds, that the lengths fall, and that no
-- number rises past the determinant. Symmetric branches share one lemma through `clear_swap`.
--   clear_top, clear_start, clear_swap, clear_in (a callee's demand), clear_less, clear_turn, clear_end
use mathlib.Core.Path.{◌≡◌, sym}
use mathlib.Core.Bool.{Bool, true}
use mathlib.Core.List.{List}
use Prim.Native.Nat.{ℕ, suc, ◌+◌, ◌-◌, ◌<◌, ◌≤◌, max}
use native.Mathlib.Omega.{arith}
use Rattle.math_valued.proofs.Degree.{lt_eq, lt_up, lt_add, lt_neg, lt_mul, above}
use Rattle.math_rows.proofs.Turn.{comb_lt, lead_shift}
use Rattle.math_turns.proofs.Turn.{turned_X, moved_start, moved_swap, moved_turn, moved_has, full}
use Rattle.basis_parts.specs.Frame.{Frame, Meaning, Point, point, Held, rd, pt, X, Ltμ, shift}
use Rattle.basis_parts.specs.Leaves.{PartAsks, Parted}
use Rattle.basis_top.specs.Tops.{TopOfAsks, Topped}
use Rattle.basis_clear.specs.Clear.{Pair, Rows, Room, CanceledAsks, CanceledGives, ClearYAsks, Clearing, Cleared, pair, swap_if}
use Rattle.basis_top.specs.declared.Top.{Top}
use Rattle.basis_top.proofs.Tops.{part_lt, topped_up, topped_not, topped_most}

-- what `part` asks, and what it gives
pub part_in : {F : Frame} {top : ℕ} {b c : List ℕ} → Meaning F → Room F top → Rows F top b c → PartAsks F b c top
part_in μ r h = record { fine = r.fine; some = μ; hb = h.hb; hc = h.hc; fits = r.fits; low_r = r.low_r; low_w = r.low_w }

pub part_held : {F : Frame} {e : Bool} {top : ℕ} {b c z : List ℕ} → Rows F top b c → Parted F e b c top z → Held F e top (point b c z)
part_held h o = record { hb = h.hb; hc = h.hc; hz = o.short; floor = o.law }

pub rows_of : {F : Frame} {e : Bool} {top : ℕ} {q : Point} → Held F e top q → Rows F top q.b q.c
rows_of h = record { hb = h.hb; hc = h.hc }

-- u' is no more than top, as the determinant is no longer than its products
clear_room : {F : Frame} {q : Pair} {top lu : ℕ} → ClearYAsks F q top lu → lu - 1 ≤ top
clear_room {F} {q} {top} {lu} i =
    let σ = i.some in
    let v = (rd σ).𝓥 in
    let t : top ≡ suc i.s = i.top_is in
    let e : lu ≡ suc i.u = i.lu_is in
    let d : i.s + i.u < top + top =
    above v i.det (lt_add v (lt_mul v (lt_up v top i.lx1 i.bx1) (lt_up v top i.ly2 i.bv2)) (lt_neg v (lt_mul v (lt_up v top i.lx2 i.bx2) (lt_up v top i.ly1 i.bv1)))) in
    omega arith

pub clear_top : {F : Frame} {q : Pair} {top lu : ℕ} {b c : List ℕ} → ClearYAsks F q top lu → Rows F top b c → TopOfAsks F true b c top top (lu - 1)
clear_top i h = let g = part_in i.some i.room h in record { inp = g; fits = omega arith; room = clear_room i; ends = part_lt true g }

pub clear_start : {F : Frame} {q : Pair} {top lu : ℕ} {y1 y2 : Top} → ClearYAsks F q top lu → Topped F true q.mb q.mc (lu - 1) top y1 → Topped F true q.nb q.nc (lu - 1) top y2 → Clearing F q top lu q y1 y2
clear_start {F} {q} {top} {lu} {y1} {y2} i t1 t2 =
    let σ = i.some in
    let t : top ≡ suc i.s = i.top_is in
    let e : lu ≡ suc i.u = i.lu_is in
    let b1 : i.x1 ≤ top = i.bx1 in
    let b2 : i.x2 ≤ top = i.bx2 in
    let c1 : i.x1 + i.v2 ≤ i.s + i.u + 2 = i.k1 in
    let c2 : i.x2 + i.v1 ≤ i.s + i.u + 2 = i.k2 in
    let g1 : y1.n ≤ i.s + i.u + 2 - i.x2 = topped_most t1 σ i.ly1 (i.s + i.u + 2 - i.x2) (omega arith) (omega arith) in
    let g2 : y2.n ≤ i.s + i.u + 2 - i.x1 = topped_most t2 σ i.ly2 (i.s + i.u + 2 - i.x1) (omega arith) (omega arith) in record {
      room = i.room;
      hm = i.hm;
      hn = i.hn;
      s = i.s;
      u = i.u;
      top_is = i.top_is;
      lu_is = i.lu_is;
      ty1 = t1;
      ty2 = t2;
      x1 = i.x1;
      x2 = i.x2;
      bx1 = i.bx1;
      bx2 = i.bx2;
      k1 = omega arith;
      k2 = omega arith;
      some = σ;
      lx1 = i.lx1;
      lx2 = i.lx2;
      det = i.det;
      moved = λ μ. moved_start (rd μ) (pt μ q.mb q.mc) (pt μ q.nb q.nc);
    }

pub clear_swap : {F : Frame} {q : Pair} {top lu : ℕ} {o : Pair} {y1 y2 : Top} → Clearing F q top lu o y1 y2 → Clearing F q top lu (swap_if true o) y2 y1
clear_swap i = record {
  room = i.room;
  hm = i.hn;
  hn = i.hm;
  s = i.s;
  u = i.u;
  top_is = i.top_is;
  lu_is = i.lu_is;
  ty1 = i.ty2;
  ty2 = i.ty1;
  x1 = i.x2;
  x2 = i.x1;
  bx1 = i.bx2;
  bx2 = i.bx1;
  k1 = i.k2;
  k2 = i.k1;
  some = i.some;
  lx1 = i.lx2;
  lx2 = i.lx1;
  det = i.det;
  moved = λ μ. moved_swap (rd μ) (i.moved μ);
}

module _ {F : Frame} {q : Pair} {top lu : ℕ} {o : Pair} {y1 y2 : Top} (i : Clearing F q top lu o y1 y2) (g : lu ≤ y2.n) (le : y2.n ≤ y1.n) where
  abbrev k : ℕ
  k = y1.n - y2.n

  past : lu - 1 < y2.n
  past = let e : lu ≡ suc i.u = i.lu_is in omega arith

  -- t^k X(n) and t^k Y(n) lie below top
  shift_x : Ltμ i.some (shift i.some k (X i.some (pt i.some o.nb o.nc))) (k + i.x2)
  shift_x = lead_shift (rd i.some) k i.lx2

  room_x : k + i.x2 ≤ top
  room_x =
      let c2 : i.x2 + y1.n ≤ i.s + i.u + 2 = i.k2 in
      let t : top ≡ suc i.s = i.top_is in
      let e : lu ≡ suc i.u = i.lu_is in
      omega arith

  pub clear_in : CanceledAsks F true o.mb o.mc y1 o.nb o.nc y2 top (lu - 1)
  clear_in =
      let σ = i.some in
      let b1 : y1.n ≤ top = i.ty1.upto in record {
        room = i.room;
        ha = i.hm;
        hb = i.hn;
        ta = i.ty1;
        tb = i.ty2;
        past = past;
        over = le;
        some = σ;
        at = record {
          xa = lt_up (rd σ).𝓥 top i.lx1 i.bx1;
          ya = lt_up (rd σ).𝓥 top (i.ty1.ends σ) b1;
          xb = lt_up (rd σ).𝓥 top shift_x room_x;
          yb = lt_up (rd σ).𝓥 top (lead_shift (rd σ) k (i.ty2.ends σ)) (omega arith);
        };
      }

  module _ {nb nc : List ℕ} {t : Top} (h : CanceledGives F true o.mb o.mc y1 o.nb o.nc y2 top (lu - 1) nb nc t) where
    pub clear_less : t.n < y1.n
    clear_less =
        let p : lu - 1 < y2.n = past in
        let d : t.n ≤ y1.n - 1 = h.is.upto in
        omega arith

    pub clear_turn : Clearing F q top lu (pair nb nc o.nb o.nc) t y2
    clear_turn =
        let σ = i.some in
        let x1' : ℕ = max i.x1 (k + i.x2) in
        let l : t.n < y1.n = clear_less in
        let ti : top ≡ suc i.s = i.top_is in
        let e : lu ≡ suc i.u = i.lu_is in
        let b1 : y1.n ≤ top = i.ty1.upto in
        let bx : i.x1 ≤ top = i.bx1 in
        let br : k + i.x2 ≤ top = room_x in
        let c1 : i.x1 + y2.n ≤ i.s + i.u + 2 = i.k1 in
        let c2 : i.x2 + y1.n ≤ i.s + i.u + 2 = i.k2 in record {
          room = i.room;
          hm = h.rows;
          hn = i.hn;
          s = i.s;
          u = i.u;
          top_is = i.top_is;
          lu_is = i.lu_is;
          ty1 = topped_up h.is top (omega arith);
          ty2 = i.ty2;
          x1 = x1';
          x2 = i.x2;
          bx1 = omega arith;
          bx2 = i.bx2;
          k1 = omega arith;
          k2 = omega arith;
          some = σ;
          lx1 = lt_eq (rd σ).𝓥 (comb_lt (rd σ) k _ _ (lt_up (rd σ).𝓥 x1' i.lx1 (omega arith)) (lt_up (rd σ).𝓥 x1' shift_x (omega arith))) (sym (turned_X (rd σ) σ.r σ.w (h.each σ)));
          lx2 = i.lx2;
          det = i.det;
          moved = λ μ. moved_turn (rd μ) (topped_not i.ty2 past μ) (i.moved μ) (h.each μ);
        }

pub clear_end : {F : Frame} {q : Pair} {top lu : ℕ} {o : Pair} {y1 y2 : Top} → Clearing F q top lu o y1 y2 → y1.n < lu → Cleared F q top lu o
clear_end {F} {q} {top} {lu} {o} {y1} {y2} i l =
    let σ = i.some in
    let v = (rd σ).𝓥 in
    let t : top ≡ suc i.s = i.top_is in
    let e : lu ≡ suc i.u = i.lu_is in
    let bx1 : i.x1 ≤ top = i.bx1 in
    let bx2 : i.x2 ≤ top = i.bx2 in
    let b2 : y2.n ≤ top = i.ty2.upto in
    let c1 : i.x1 + y2.n ≤ i.s + i.u + 2 = i.k1 in
    let z : i.s + i.u + 2 ≤ i.x1 + y2.n =
    full (rd σ) σ.r σ.w i.s i.u (moved_has (rd σ) σ.r σ.w (i.moved σ) i.det) (lt_up v (suc i.s) i.lx2 (omega arith))
    (lt_up v i.u (i.ty1.ends σ) (omega arith)) i.x1 y2.n i.lx1 (i.ty2.ends σ) (omega arith) in
    record { y1 = y1; y2 = y2; state = i; low = l; high = omega arith; all = omega arith }
