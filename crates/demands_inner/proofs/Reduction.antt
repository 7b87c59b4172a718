-- Crates basis_parts, basis_top, basis_clear and basis_reduce.
--   part_unique, top_of_unique, lead_of_unique   a polynomial part, its top, its leading coefficient
--   reduced_unique             two reductions have elements that differ by a constant each, and one length: more the contract does not settle
use mathlib.Core.Path.{◌≡◌, sym, ◌∙◌}
use mathlib.Core.Bool.{Bool}
use mathlib.Core.List.{List}
use Prim.Native.Nat.{ℕ, ◌-◌, ◌<◌, ◌≤◌}
use native.Mathlib.Omega.{arith}
use native.Mathlib.Decide.{dec_lt}
use Rattle.math_valued.specs.Degree.{Lt}
use Rattle.math_valued.proofs.Degree.{has_eq, lt_up, same}
use Rattle.math_valued.proofs.Compare.{has_scale, leads_unique}
use Rattle.math_rows.proofs.Floors.{floor_lt, floor_top, top_not}
use Rattle.math_rows.proofs.Unique.{row_unique, cast_inj}
use Rattle.math_turns.proofs.Turn.{moved_back, moved_then}
use Rattle.basis_parts.specs.Frame.{Frame, Meaning, rd, pt, X, Hasμ}
use Rattle.basis_parts.specs.Leaves.{PartAsks, Parted}
use Rattle.basis_top.specs.Tops.{TopOfAsks, Topped, LeadOfAsks, Led}
use Rattle.basis_top.specs.declared.Top.{Top}
use Rattle.basis_top.proofs.Tops.{topped_most, topped_not}
use Rattle.basis_clear.specs.Clear.{Pair, ClearYAsks}
use Rattle.basis_reduce.specs.Reduction.{Ends, Reduced}
use Rattle.demands_inner.proofs.Rows.{floor_unique}
use Rattle.demands_inner.specs.UpTo.{Scaled}
use Rattle.demands_inner.proofs.Pairs.{times_X, pairs_unique}

-- ---- polynomial parts and their tops
pub part_unique : {F : Frame} {e : Bool} {b c : List ℕ} {top : ℕ} {z z' : List ℕ} → PartAsks F b c top → Parted F e b c top z → Parted F e b c top z' → z ≡ z'
part_unique {z = z} {z' = z'} i h k = let μ = i.some in row_unique (rd μ) h.short.is_row k.short.is_row (floor_unique (rd μ) z z' (h.law μ) (k.law μ))

pub top_of_unique : {F : Frame} {e : Bool} {b c : List ℕ} {top l low : ℕ} (t t' : Top) → TopOfAsks F e b c top l low → Topped F e b c low l t → Topped F e b c low l t' → t ≡ t'
top_of_unique {low = low} t t' i h k = λ j. record { n = n j; c = leads (dec_lt low t.n) j }
  where
    n : t.n ≡ t'.n
    n =
        let a : t.n ≤ t'.n = topped_most h i.inp.some (k.ends i.inp.some) t'.n (omega arith) k.from in
        let b : t'.n ≤ t.n = topped_most k i.inp.some (h.ends i.inp.some) t.n (omega arith) h.from in
        omega arith

    leads : Dec (low < t.n) → t.c ≡ t'.c
    leads (yes u) =
        let μ = i.inp.some in
        let e : t.n ≡ t'.n = n in
        let v : low < t'.n = omega arith in
        cast_inj (rd μ) t.c t'.c h.below k.below (leads_unique (rd μ).𝓥 (t.n - 1, 0, topped_not h u μ, h.lead u μ) (t'.n - 1, 0, topped_not k v μ, k.lead v μ))
    leads (no u) =
        let a : low ≤ t.n = h.from in
        let e : t.n ≡ t'.n = n in
        h.none (omega arith) ∙ sym (k.none (omega arith))

pub lead_of_unique : {F : Frame} {e : Bool} {b c : List ℕ} {top r s : ℕ} → LeadOfAsks F e b c top → Led F e b c r → Led F e b c s → r ≡ s
lead_of_unique {r = r} {s = s} i h k =
    let μ = i.inp.some in
    let (a, l, x) = h.law μ i.d i.has in
    let (a', l', x') = k.law μ i.d i.has in
    cast_inj (rd μ) r s l l' ((rd μ).𝓥.lead_unique x x')

-- ---- the reduction
module _ {F : Frame} {q : Pair} {top lu : ℕ} (μ : Meaning F) where
  positive : {o : Ends} → Reduced F q top lu o → 0 < o.lx
  positive {o} h = let l : h.x2 < o.lx = h.x_less in omega arith

  X_has : {o : Ends} → Reduced F q top lu o → Hasμ μ (X μ (pt μ o.mb o.mc)) (o.lx - 1)
  X_has {o} h = (_, top_not (rd μ) o.lx h.hm.hz.is_row h.sx1 (positive h), floor_top (rd μ) o.lx (h.hm.floor μ) h.sx1 (positive h))

  X_lt : {o : Ends} → Reduced F q top lu o → Lt (rd μ).𝓥 (X μ (pt μ o.nb o.nc)) (o.lx - 1)
  X_lt {o} h = let l : h.x2 < o.lx = h.x_less in lt_up (rd μ).𝓥 (o.lx - 1) (floor_lt (rd μ) (h.hn.floor μ) h.sx2) (omega arith)

  alike : (o o' : Ends) → Reduced F q top lu o → Reduced F q top lu o'
      → (o.lx ≡ o'.lx) × Scaled (rd μ) (pt μ o.mb o.mc) (pt μ o.nb o.nc) (pt μ o'.mb o'.mc) (pt μ o'.nb o'.nc)
  alike o o' h k =
      let ρ = rd μ in
      let y : lu - 1 ≤ h.y = (let l = h.y_high in omega (arith, l)) in
      let y' : lu - 1 ≤ k.y = (let l = k.y_high in omega (arith, l)) in
      let s = pairs_unique ρ μ.r μ.w (moved_then ρ (moved_back ρ (h.moved μ)) (k.moved μ)) (X_has h) (X_lt h) (h.y_low μ) (h.y_has μ) y (X_has k) (X_lt k) (k.y_low μ) (k.y_has μ) y' in
      let e : o.lx - 1 ≡ o'.lx - 1 = same ρ.𝓥 (has_scale ρ.𝓥 (s.a, s.a_unit, ρ.𝓥.const_lead s.a) (X_has h))
      (has_eq ρ.𝓥 (X_has k) (times_X ρ μ.r μ.w (ρ.𝓥.const s.a) (pt μ o.mb o.mc) (pt μ o'.mb o'.mc) s.m_b s.m_c)) in
      let a : 0 < o.lx = positive h in
      let b : 0 < o'.lx = positive k in
      (omega arith, s)

pub reduced_unique : {F : Frame} {q : Pair} {top lu : ℕ} (o o' : Ends) (g : ClearYAsks F q top lu) → Reduced F q top lu o → Reduced F q top lu o'
    → (o.lx ≡ o'.lx) × (let μ = g.some in Scaled (rd μ) (pt μ o.mb o.mc) (pt μ o.nb o.nc) (pt μ o'.mb o'.mc) (pt μ o'.nb o'.nc))
reduced_unique o o' g h k = alike g.some o o' h k
