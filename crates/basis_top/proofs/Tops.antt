-- The leading term of b r ± c w, found from above.
--   part_lt                  the size ends before top
--   seek_more, seek_found    the loop of `top_of`: the size ends before j
--   topped_up, topped_not, topped_has, topped_le, topped_most    what a top says of the size
--   part_top, top_led        from a polynomial part to its top, and from a top to the leading coefficient
use mathlib.Core.Path.{◌≡◌, refl, sym, ap, ◌∙◌, subst}
use mathlib.Core.Logic.{◌≢◌}
use mathlib.Core.Bool.{Bool}
use mathlib.Core.List.{List, [], ◌∷◌}
use Prim.Native.Nat.{ℕ, zero, suc, ◌-◌, ◌<◌, ◌≤◌}
use Prim.Native.Nat as N
use native.Mathlib.Omega.{arith}
use native.Mathlib.Decide.{dec_lt}
use lib.ListN.{get_or}
use Rattle.math_ring.proofs.Solve.{var, zer, minus, ◌:+◌, ◌:*◌, solve}
use Rattle.math_valued.specs.Degree.{Lt}
use Rattle.math_valued.proofs.Degree.{lead_eq, lt_eq, lt_up, lt_add, lt_neg, above, same}
use Rattle.math_rows.specs.Reading.{Reading}
use Rattle.math_rows.specs.Row.{Size, tpow, psum}
use Rattle.math_rows.proofs.Rows.{const_zero, psum_cut, psum_lt, psum_lead}
use Rattle.math_rows.proofs.Floors.{floor_lt, floor_top}
use Rattle.basis_parts.specs.Frame.{Frame, Meaning, rd, pt, side, Ltμ, Hasμ}
use Rattle.basis_parts.specs.Leaves.{PartAsks, PartAt, part_at, Parted}
use Rattle.basis_parts.proofs.Leaves.{part_floor, part_high}
use Rattle.basis_top.specs.Tops.{TopOfAsks, Topped, Led}
use Rattle.basis_top.specs.declared.Top.{Top}

module _ {p : ℕ} (ρ : Reading p) where
  open ρ use {𝓥}
  open 𝓥 use {K, L, const, Lead}
  open L.ops use {add as ◌+◌, mul as ◌*◌, neg as -◌}

  infixl 60 ◌+◌
  infixl 70 ◌*◌
  infix 80 -◌
  -- a sum that ends earlier has no last term
  psum_less : (n d : ℕ) (f : ℕ → K.El) → d < n → Lt 𝓥 (psum ρ (suc n) f) (suc d) → psum ρ (suc n) f ≡ psum ρ n f
  unfolding psum
  psum_less n d f u h =
      let z : f n ≡ K.ops.𝟎 = 𝓥.lead_unique (psum_lead ρ n f) (lt_up 𝓥 n h (omega arith)) in
      ap (λ x. psum ρ n f + x * tpow ρ n) (ap const z ∙ const_zero ρ) ∙ solve L (var 0 :+ zer :* var 1) (var 0) tt (psum ρ n f ∷ tpow ρ n ∷ [])

  -- and one that ends before d + 1 has its coefficient at d in front
  psum_at : (n d : ℕ) (f : ℕ → K.El) → d < n → Lt 𝓥 (psum ρ n f) (suc d) → Lead (psum ρ n f) d 0 (f d)
  psum_at zero d f l h = absurd (omega arith)
  psum_at (suc n) d f l h = elim (dec_lt d n) [
    | yes u ↦ lead_eq 𝓥 (psum_at n d f u (lt_eq 𝓥 h (psum_less n d f u h))) (sym (psum_less n d f u h)) refl
    | no u ↦ let e : n ≡ d = omega arith in subst (λ m. Lead (psum ρ (suc n) f) m 0 (f m)) e (psum_lead ρ n f)
  ]

  -- the same of a series whose polynomial part the sum is
  near_at : (z : L.El) (n d : ℕ) (f : ℕ → K.El) → Lt 𝓥 (z + - psum ρ n f) 0 → d < n → Lt 𝓥 z (suc d) → Lead z d 0 (f d)
  near_at z n d f h l u =
      lead_eq 𝓥 (𝓥.lead_add (psum_at n d f l (lt_eq 𝓥 (lt_add 𝓥 u (lt_neg 𝓥 (lt_up 𝓥 (suc d) h (omega arith)))) (solve L (var 0 :+ minus (var 0 :+ minus (var 1))) (var 1) tt (z ∷ psum ρ n f ∷ [])))) (lt_up 𝓥 d h (omega arith)))
      (solve L (var 1 :+ (var 0 :+ minus (var 1))) (var 0) tt (z ∷ psum ρ n f ∷ [])) (K.laws.add-zero (f d))

module _ {F : Frame} (e : Bool) {b c : List ℕ} {top : ℕ} (g : PartAsks F b c top) (μ : Meaning F) where
  pub part_lt : Ltμ μ (side μ e (pt μ b c)) top
  part_lt =
      let ρ = rd μ in
      let f : ℕ → ρ.𝓥.K.El = λ j. part_at F μ.prime e b c top j in
      let l : top ≤ 32 = g.fits in
      let k : N.◌+◌ (N.◌-◌ 32 top) top ≡ 32 = omega arith in
      lt_eq ρ.𝓥 (lt_add ρ.𝓥 (lt_up ρ.𝓥 top (part_floor e g μ) (omega arith)) (lt_eq ρ.𝓥 (psum_lt ρ top f) (sym (psum_cut ρ top (N.◌-◌ 32 top) f (part_high e g μ)) ∙ ap (λ n. psum ρ n f) k)))
      (solve ρ.𝓥.L (var 0 :+ minus (var 1) :+ var 1) (var 0) tt (side μ e (pt μ b c) ∷ psum ρ 32 f ∷ []))

  pub part_lead : (d v : ℕ) → d < top → PartAt F e b c top d v → Ltμ μ (side μ e (pt μ b c)) (suc d) → (rd μ).𝓥.Lead (side μ e (pt μ b c)) d 0 ((rd μ).cast v)
  part_lead d v l h u = let f : top ≤ 32 = g.fits in lead_eq (rd μ).𝓥 (near_at (rd μ) _ 32 d _ (part_floor e g μ) (omega arith) u) refl (sym (h.law μ.prime))

-- ---- the loop of `top_of`: the size ends before j
pub record Seek (F : Frame) (e : Bool) (b c : List ℕ) (low l j : ℕ) : Type 0 where
  pub from : low ≤ j
  pub upto : j ≤ l
  pub ends : (μ : Meaning F) → Ltμ μ (side μ e (pt μ b c)) j

module _ {F : Frame} {e : Bool} {b c : List ℕ} {top l low : ℕ} (g : TopOfAsks F e b c top l low) where
  module _ (j v : ℕ) (past : low < j) (h : Seek F e b c low l j) (d : PartAt F e b c top (j - 1) v) where
    seek_lead : (μ : Meaning F) → (rd μ).𝓥.Lead (side μ e (pt μ b c)) (j - 1) 0 ((rd μ).cast v)
    seek_lead μ =
        let u : j ≤ l = h.upto in
        let f : l ≤ top = g.fits in
        part_lead e g.inp μ (j - 1) v (omega arith) d (lt_up (rd μ).𝓥 (suc (j - 1)) (h.ends μ) (omega arith))

    pub seek_more : v ≡ 0 → Seek F e b c low l (j - 1)
    seek_more z = let u : j ≤ l = h.upto in record { from = omega arith; upto = omega arith; ends = λ μ. lead_eq (rd μ).𝓥 (seek_lead μ) refl (ap (rd μ).cast z ∙ (rd μ).cast_zero) }

    -- the index at which the loop finds it is j - 1
    pub seek_found : 0 < v → Topped F e b c low l (record { n = N.◌+◌ (j - 1) 1; c = v })
    seek_found z =
        let k : j ≡ N.◌+◌ (j - 1) 1 = omega arith in
        subst (λ n. Topped F e b c low l (record { n = n; c = v })) k
        (record { from = h.from; upto = h.upto; below = d.below; ends = h.ends; none = λ q. absurd (omega arith); some = λ u. z; lead = λ u. seek_lead })

-- ---- what a top says of the size
module _ {F : Frame} {e : Bool} {b c : List ℕ} {low l : ℕ} {t : Top} (h : Topped F e b c low l t) where
  pub topped_up : (j : ℕ) → l ≤ j → Topped F e b c low j t
  topped_up j u = let v : t.n ≤ l = h.upto in record { from = h.from; upto = omega arith; below = h.below; ends = h.ends; none = h.none; some = h.some; lead = h.lead }

  module _ (past : low < t.n) (μ : Meaning F) where
    pub topped_not : (rd μ).cast t.c ≢ (rd μ).𝓥.K.ops.𝟎
    topped_not z = let v : 0 < t.c = h.some past in let w : t.c ≡ 0 = (rd μ).cast_small t.c h.below z in absurd (omega arith)

    pub topped_has : Hasμ μ (side μ e (pt μ b c)) (t.n - 1)
    topped_has = ((rd μ).cast t.c, topped_not, h.lead past μ)

    pub topped_le : (k : ℕ) → Ltμ μ (side μ e (pt μ b c)) k → t.n ≤ k
    topped_le k u = let v : t.n - 1 < k = above (rd μ).𝓥 topped_has u in omega arith

-- a bound of the size, and low, bound its top
pub topped_most : {F : Frame} {e : Bool} {b c : List ℕ} {low l : ℕ} {t : Top} → Topped F e b c low l t → (μ : Meaning F) {k : ℕ} → Ltμ μ (side μ e (pt μ b c)) k → (j : ℕ) → k ≤ j → low ≤ j → t.n ≤ j
topped_most {low = low} {t = t} h μ {k} g j u v = elim (dec_lt low t.n) [ yes w ↦ let z : t.n ≤ k = topped_le h w μ k g in omega arith | no w ↦ omega arith ]

pub part_top : {F : Frame} {e : Bool} {b c : List ℕ} {top : ℕ} {z : List ℕ} → Parted F e b c top z → (n : ℕ) → Size z n → 0 < n → n ≤ top → Topped F e b c (n - 1) top (record { n = n; c = get_or z (n - 1) 0 })
part_top {z = z} o n s u l = record {
  from = omega arith;
  upto = l;
  below = o.short.is_row.each (n - 1);
  ends = λ μ. floor_lt (rd μ) (o.law μ) s;
  none = λ q. absurd (omega arith);
  some = λ v. let w : get_or z (n - 1) 0 ≢ 0 = s.top u in nonzero (get_or z (n - 1) 0) w;
  lead = λ v μ. floor_top (rd μ) n (o.law μ) s u;
}
  where
    nonzero : (v : ℕ) → v ≢ 0 → 0 < v
    nonzero zero h = absurd (h refl)
    nonzero (suc v) h = omega arith

pub top_led : {F : Frame} {e : Bool} {b c : List ℕ} {l : ℕ} {t : Top} → Topped F e b c 0 l t → Led F e b c t.c
top_led {F} {e} {b} {c} {l} {t} h = record {
  law = λ μ d g.
      let u : d < t.n = above (rd μ).𝓥 g (h.ends μ) in
      let v : 0 < t.n = omega arith in
      (h.some v, h.below, subst (λ k. (rd μ).𝓥.Lead (side μ e (pt μ b c)) k 0 ((rd μ).cast t.c)) (same (rd μ).𝓥 (topped_has h v μ) g) (h.lead v μ));
}
