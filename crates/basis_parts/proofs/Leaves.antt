-- The laws behind the leaves.
--   less_square               numbers below p p
--   along_low                 terms that vanish
--   run_start, run_more       the loop of `terms`
--   heap_start, heap_more     the loop of `plain`
--   part_minus, part_plus     one coefficient from two sums
--   sums_quick, sums_large    the two sums, for p below 2^16 and for every p
--   part_floor, part_high     the sums `along` are the coefficients of the polynomial part of b r ± c w, which ends before top
use mathlib.Core.Path.{◌≡◌, refl, sym, ap, ap₂, ◌∙◌, subst}
use mathlib.Core.Bool.{Bool, true, false}
use mathlib.Core.List.{List, [], ◌∷◌}
use Prim.Native.Nat.{ℕ, zero, suc, ◌<◌, ◌≤◌, ◌%◌}
use Prim.Native.Nat as N
use native.Mathlib.Nat.{mul-le-mul, mod_self, mod-lt}
use native.Mathlib.Omega.{arith}
use native.Mathlib.Decide.{dec_lt}
use lib.ListN.{get_or}
use Rattle.math_ring.proofs.Laws as r
use Rattle.math_ring.specs.Ring.{CRing}
use Rattle.math_ring.proofs.Solve.{var, one, zer, minus, ◌:+◌, ◌:*◌, solve}
use Rattle.math_fp.specs.Fp.{Prime}
use Rattle.math_valued.specs.Degree.{Lt}
use Rattle.math_valued.proofs.Degree.{lead_eq, lt_eq, lt_add, lt_neg}
use Rattle.math_rows.specs.Reading.{Reading}
use Rattle.math_rows.specs.Made.{reading}
use Rattle.math_rows.specs.Row.{fall_at, tpow, psum, coefs, row, Reads}
use Rattle.math_rows.proofs.Rows.{const_zero, const_neg, psum_ext, psum_plus, row_upto, row_tab}
use Rattle.math_rows.proofs.Floors.{fall_in, fall_out}
use Rattle.math_rows.proofs.Turn.{lt_scale}
use Rattle.basis_parts.specs.Frame.{Frame, Meaning, rd, pt, side, Ltμ}
use Rattle.basis_parts.specs.Leaves.{Summed, TermsAsks, PlainAsks, Terms, along, PartAsks, PartAtAsks, PartAt, part_at, signed, Parted}
use Rattle.basis_parts.proofs.Laid.{Laid, laid_short, laid_row}

-- ---- numbers
-- a product of two numbers below p lies below p p
pub less_square : (p y z : ℕ) → y < p → z < p → N.◌*◌ y z < N.◌*◌ p p
less_square zero y z hy hz = absurd (omega arith)
less_square (suc p) y z hy hz =
    let a : y ≤ p = omega arith in
    let b : z ≤ p = omega arith in
    let m : N.◌*◌ y z ≤ N.◌*◌ p p = mul-le-mul a b in
    let e : N.◌*◌ (suc p) (suc p) ≡ N.◌+◌ (N.◌+◌ (N.◌*◌ p p) (N.◌+◌ p p)) 1 = omega arith in
    omega arith

module _ {p : ℕ} (ρ : Reading p) where
  open ρ use {𝓥, cast}
  open 𝓥 use {K, L, const}
  open K.ops use {add as ◌+ᵏ◌, mul as ◌*ᵏ◌, neg as -ᵏ◌, 𝟎 as 0ᵏ, 𝟏 as 1ᵏ}
  open L.ops use {add as ◌+◌, mul as ◌*◌, neg as -◌, 𝟎, 𝟏}

  infixl 60 ◌+◌ ◌+ᵏ◌
  infixl 70 ◌*◌ ◌*ᵏ◌
  infix 80 -◌ -ᵏ◌
  cast_p : cast p ≡ 0ᵏ
  cast_p = sym (ρ.cast_mod p) ∙ ap cast (mod_self p) ∙ ρ.cast_zero

  pub cast_square : cast (N.◌*◌ p p) ≡ 0ᵏ
  cast_square = ρ.cast_mul p p ∙ ap (λ x. x *ᵏ cast p) cast_p ∙ r.zero_mul' K (cast p)

  -- s − q is s mod p
  pub cast_less : (s q : ℕ) → q ≡ N.◌*◌ p p → q ≤ s → cast (N.◌-◌ s q) ≡ cast s
  cast_less s q e l =
      let z : s ≡ N.◌+◌ (N.◌-◌ s q) q = omega arith in
      sym (K.laws.add-zero (cast (N.◌-◌ s q))) ∙ ap (λ x. cast (N.◌-◌ s q) +ᵏ x) (sym (ap cast e ∙ cast_square)) ∙ sym (ρ.cast_add (N.◌-◌ s q) q) ∙ ap cast (sym z)

  pub cast_squares : (k q : ℕ) → q ≡ N.◌*◌ p p → cast (N.◌*◌ k q) ≡ 0ᵏ
  cast_squares k q e = ρ.cast_mul k q ∙ ap (λ x. cast k *ᵏ x) (ap cast e ∙ cast_square) ∙ solve K (var 0 :* zer) zer tt (cast k ∷ [])

  -- q − y is − y mod p, where p divides q
  pub cast_from : (q y : ℕ) → cast q ≡ 0ᵏ → y ≤ q → cast (N.◌-◌ q y) ≡ -ᵏ cast y
  cast_from q y e l =
      let z : N.◌+◌ y (N.◌-◌ q y) ≡ q = omega arith in
      r.neg_unique K (cast y) (cast (N.◌-◌ q y)) (sym (ρ.cast_add y (N.◌-◌ q y)) ∙ ap cast z ∙ e)

  -- ---- sums of terms
  pub along_none : (b s : List ℕ) (d j : ℕ) → along ρ b s d j 0 ≡ 0ᵏ
  unfolding along
  along_none b s d j = refl

  pub along_low : (b s : List ℕ) (d j n : ℕ) → N.◌+◌ d n ≤ j → along ρ b s d j n ≡ 0ᵏ
  unfolding along
  along_low b s d j zero l = refl
  along_low b s d j (suc n) l =
      ap₂ (λ x y. x +ᵏ cast (get_or b n 0) *ᵏ y) (along_low b s d j n (omega arith)) (ap cast (fall_out s (N.◌+◌ d n) j (omega arith)) ∙ ρ.cast_zero)
      ∙ solve K (zer :+ var 0 :* zer) zer tt (cast (get_or b n 0) ∷ [])

  pub along_more : (b s : List ℕ) (d j n a : ℕ) → cast a ≡ along ρ b s d j n → cast (N.◌+◌ a (N.◌*◌ (get_or b n 0) (fall_at s (N.◌+◌ d n) j))) ≡ along ρ b s d j (N.◌+◌ n 1)
  unfolding along
  along_more b s d j n a h =
      let e : suc n ≡ N.◌+◌ n 1 = omega arith in
      ρ.cast_add a (N.◌*◌ (get_or b n 0) (fall_at s (N.◌+◌ d n) j)) ∙ ap₂ ◌+ᵏ◌ h (ρ.cast_mul (get_or b n 0) (fall_at s (N.◌+◌ d n) j)) ∙ ap (along ρ b s d j) e

  psum_zero : (n : ℕ) → psum ρ n (λ i. 0ᵏ) ≡ 𝟎
  unfolding psum
  psum_zero zero = refl
  psum_zero (suc n) = ap₂ (λ x y. x + y * tpow ρ n) (psum_zero n) (const_zero ρ) ∙ solve L (zer :+ zer :* var 0) zer tt (tpow ρ n ∷ [])

  -- the first n terms of b times z
  along_part : (b s : List ℕ) (d n : ℕ) (z : L.El) → Reads ρ s d z → N.◌+◌ n d ≤ 32 → Lt 𝓥 (psum ρ n (coefs ρ b) * z + - psum ρ 32 (λ j. along ρ b s d j n)) 0
  unfolding psum along
  along_part b s d zero z h l = lead_eq 𝓥 (𝓥.lead_zero 0 0) (solve L zer (zer :* var 0 :+ minus zer) tt (z ∷ []) ∙ ap (λ x. 𝟎 * z + - x) (sym (psum_zero 32))) refl
  along_part b s d (suc n) z h l =
      let β = cast (get_or b n 0) in
      let u = psum ρ n (coefs ρ b) in
      let v = psum ρ 32 (λ j. along ρ b s d j n) in
      let w = psum ρ 32 (λ j. cast (fall_at s (N.◌+◌ d n) j)) in
      lt_eq 𝓥 (lt_add 𝓥 (along_part b s d n z h (omega arith)) (lt_scale ρ β (lt_eq 𝓥 (h n (omega arith)) (ap (λ x. tpow ρ n * z + - x) (row_tab ρ 32 (fall_at s (N.◌+◌ d n)))))))
      (solve L (var 0 :* var 1 :+ minus (var 2) :+ var 3 :* (var 4 :* var 1 :+ minus (var 5))) ((var 0 :+ var 3 :* var 4) :* var 1 :+ minus (var 2 :+ var 3 :* var 5)) tt (u ∷ z ∷ v ∷ const β ∷ tpow ρ n ∷ w ∷ [])
      ∙ ap (λ x. (u + const β * tpow ρ n) * z + - x) (sym (psum_plus ρ 32 β (λ j. along ρ b s d j n) (λ j. cast (fall_at s (N.◌+◌ d n) j)))))

  pub along_floor : (b s : List ℕ) (d n : ℕ) (z : L.El) → Reads ρ s d z → N.◌+◌ n d ≤ 32 → ((i : ℕ) → n ≤ i → get_or b i 0 ≡ 0) → Lt 𝓥 (row ρ b * z + - psum ρ 32 (λ j. along ρ b s d j n)) 0
  along_floor b s d n z h l e = lt_eq 𝓥 (along_part b s d n z h l) (ap (λ x. x * z + - psum ρ 32 (λ j. along ρ b s d j n)) (sym (row_upto ρ b n e)))

  -- sums and differences of two rows of coefficients
  pub signed_floor : (e : Bool) (x y : L.El) (f g : ℕ → K.El) → Lt 𝓥 (x + - psum ρ 32 f) 0 → Lt 𝓥 (y + - psum ρ 32 g) 0
      → Lt 𝓥 (signed L.ops e x y + - psum ρ 32 (λ j. signed K.ops e (f j) (g j))) 0
  signed_floor false x y f g h k =
      lt_eq 𝓥 (lt_add 𝓥 h k)
      (solve L (var 0 :+ minus (var 2) :+ (var 1 :+ minus (var 3))) (var 0 :+ var 1 :+ minus (var 2 :+ one :* var 3)) tt (x ∷ y ∷ psum ρ 32 f ∷ psum ρ 32 g ∷ [])
      ∙ ap (λ a. x + y + - (psum ρ 32 f + a * psum ρ 32 g)) (sym ρ.const_one)
      ∙ ap (λ a. x + y + - a) (sym (psum_plus ρ 32 1ᵏ f g) ∙ psum_ext ρ 32 _ _ (λ j l. ap (λ a. f j +ᵏ a) (r.one-mul K (g j)))))
  signed_floor true x y f g h k =
      lt_eq 𝓥 (lt_add 𝓥 h (lt_neg 𝓥 k))
      (solve L (var 0 :+ minus (var 2) :+ minus (var 1 :+ minus (var 3))) (var 0 :+ minus (var 1) :+ minus (var 2 :+ minus one :* var 3)) tt (x ∷ y ∷ psum ρ 32 f ∷ psum ρ 32 g ∷ [])
      ∙ ap (λ a. x + - y + - (psum ρ 32 f + a * psum ρ 32 g)) (sym (const_neg ρ 1ᵏ ∙ ap (λ a. - a) ρ.const_one))
      ∙ ap (λ a. x + - y + - a) (sym (psum_plus ρ 32 (-ᵏ 1ᵏ) f g) ∙ psum_ext ρ 32 _ _ (λ j l. ap (λ a. f j +ᵏ a) (solve K (minus one :* var 0) (minus (var 0)) tt (g j ∷ [])))))

-- ---- what the code of the leaves makes
side_signed : {F : Frame} (μ : Meaning F) (e : Bool) (b c : List ℕ) → side μ e (pt μ b c) ≡ signed (rd μ).𝓥.L.ops e ((rd μ).𝓥.L.ops.mul (row (rd μ) b) μ.r) ((rd μ).𝓥.L.ops.mul (row (rd μ) c) μ.w)
side_signed μ true b c = refl
side_signed μ false b c = refl

signed_zero : (R : CRing) (e : Bool) → signed R.ops e R.ops.𝟎 R.ops.𝟎 ≡ R.ops.𝟎
signed_zero R true = solve R (zer :+ minus zer) zer tt []
signed_zero R false = R.laws.add-zero R.ops.𝟎

module _ {F : Frame} (e : Bool) {b c : List ℕ} {top : ℕ} (g : PartAsks F b c top) (μ : Meaning F) where
  pub part_floor : Ltμ μ ((rd μ).𝓥.L.ops.add (side μ e (pt μ b c)) ((rd μ).𝓥.L.ops.neg (psum (rd μ) 32 (λ j. part_at F μ.prime e b c top j)))) 0
  part_floor =
      let ρ = rd μ in
      let lr : F.dr ≤ top = g.low_r in
      let lw : F.dw ≤ top = g.low_w in
      let f : top ≤ 32 = g.fits in
      lt_eq ρ.𝓥 (signed_floor ρ e (ρ.𝓥.L.ops.mul (row ρ b) μ.r) (ρ.𝓥.L.ops.mul (row ρ c) μ.w) (λ j. along ρ b F.r F.dr j (N.◌-◌ top F.dr)) (λ j. along ρ c F.w F.dw j (N.◌-◌ top F.dw))
      (along_floor ρ b F.r F.dr (N.◌-◌ top F.dr) μ.r μ.r_reads (omega arith) g.hb.above) (along_floor ρ c F.w F.dw (N.◌-◌ top F.dw) μ.w μ.w_reads (omega arith) g.hc.above))
      (ap (λ x. ρ.𝓥.L.ops.add x (ρ.𝓥.L.ops.neg (psum ρ 32 (λ j. part_at F μ.prime e b c top j)))) (sym (side_signed μ e b c)))

  pub part_high : (j : ℕ) → top ≤ j → part_at F μ.prime e b c top j ≡ (rd μ).𝓥.K.ops.𝟎
  part_high j u =
      let ρ = rd μ in
      let lr : F.dr ≤ top = g.low_r in
      let lw : F.dw ≤ top = g.low_w in
      ap₂ (signed ρ.𝓥.K.ops e) (along_low ρ b F.r F.dr j (N.◌-◌ top F.dr) (omega arith)) (along_low ρ c F.w F.dw j (N.◌-◌ top F.dw) (omega arith)) ∙ signed_zero ρ.𝓥.K e

pub parted : {F : Frame} {e : Bool} {b c : List ℕ} {top : ℕ} {z : List ℕ} {i : ℕ} → PartAsks F b c top → Laid F.m.p top (λ pr j. part_at F pr e b c top j) z i → top ≤ i → Parted F e b c top z
parted {F} {e} {b} {c} {top} {z} g h l = record {
  short = laid_short h l;
  law = λ μ. lt_eq (rd μ).𝓥 (part_floor e g μ) (ap (λ y. (rd μ).𝓥.L.ops.add (side μ e (pt μ b c)) ((rd μ).𝓥.L.ops.neg y)) (sym (laid_row h l μ.prime (part_high e g μ))));
}

-- the invariant of `terms`: i terms are summed
pub record Run (p q : ℕ) (b : List ℕ) (n : ℕ) (s : List ℕ) (d j i a : ℕ) : Type 0 where
  pub upto : i ≤ n
  pub from : j ≤ N.◌+◌ d i
  pub below : a < q
  pub law : (pr : Prime p) → (reading p pr).cast a ≡ along (reading p pr) b s d j i

module _ {p q : ℕ} {b : List ℕ} {n : ℕ} {s : List ℕ} {d j : ℕ} (g : TermsAsks p q b n s d j) where
  pub run_start : (i : ℕ) → i ≡ N.◌-◌ j d → Run p q b n s d j i 0
  run_start i e =
      let h : j ≤ N.◌+◌ n d = g.high in
      let k : 1 < p = g.modulus.big in
      let z : q ≡ N.◌*◌ p p = g.is_q in
      let o : N.◌*◌ 0 0 < N.◌*◌ p p = less_square p 0 0 (omega arith) (omega arith) in
      record { upto = omega arith; from = omega arith; below = omega arith; law = λ pr. (reading p pr).cast_zero ∙ sym (low pr (dec_lt d j)) }
    where
      low : (pr : Prime p) → Dec (d < j) → along (reading p pr) b s d j i ≡ (reading p pr).𝓥.K.ops.𝟎
      low pr (yes u) = along_low (reading p pr) b s d j i (omega arith)
      low pr (no u) = let z : i ≡ 0 = omega arith in ap (along (reading p pr) b s d j) z ∙ along_none (reading p pr) b s d j

  pub run_more : (i a a' : ℕ) → i < n → Run p q b n s d j i a → Summed p q a (get_or b i 0) (get_or s (N.◌-◌ (N.◌+◌ d i) j) 0) a' → Run p q b n s d j (N.◌+◌ i 1) a'
  run_more i a a' l h t =
      let f : j ≤ N.◌+◌ d i = h.from in record {
        upto = omega arith;
        from = omega arith;
        below = t.below;
        law = λ pr. t.law pr ∙ ap (λ v. (reading p pr).cast (N.◌+◌ a (N.◌*◌ (get_or b i 0) v))) (sym (fall_in s (N.◌+◌ d i) j f)) ∙ along_more (reading p pr) b s d j i a (h.law pr);
      }

-- the invariant of `plain`: the sum is kept as it is
module _ {p : ℕ} {b : List ℕ} {n : ℕ} {s : List ℕ} {d j : ℕ} (g : PlainAsks p b n s d j) where
  abbrev Heap : ℕ → ℕ → Type 0
  Heap i a = Run p (N.◌+◌ (N.◌*◌ i (N.◌*◌ p p)) 1) b n s d j i a

  pub heap_start : (i : ℕ) → i ≡ N.◌-◌ j d → Heap i 0
  heap_start i e = let h = run_start g.inp i e in record { upto = h.upto; from = h.from; below = omega arith; law = h.law }

  pub heap_term : (i : ℕ) → N.◌*◌ (get_or b i 0) (get_or s (N.◌-◌ (N.◌+◌ d i) j) 0) < N.◌*◌ p p
  heap_term i = less_square p _ _ (g.inp.hb.each i) (g.inp.hs.each (N.◌-◌ (N.◌+◌ d i) j))

  pub heap_more : (i a : ℕ) → i < n → Heap i a → Heap (N.◌+◌ i 1) (N.◌+◌ a (N.◌*◌ (get_or b i 0) (get_or s (N.◌-◌ (N.◌+◌ d i) j) 0)))
  heap_more i a l h =
      let f : j ≤ N.◌+◌ d i = h.from in
      let k : a < N.◌+◌ (N.◌*◌ i (N.◌*◌ p p)) 1 = h.below in
      let t : N.◌*◌ (get_or b i 0) (get_or s (N.◌-◌ (N.◌+◌ d i) j) 0) < N.◌*◌ p p = heap_term i in
      let e : N.◌*◌ (N.◌+◌ i 1) (N.◌*◌ p p) ≡ N.◌+◌ (N.◌*◌ i (N.◌*◌ p p)) (N.◌*◌ p p) = omega arith in record {
        upto = omega arith;
        from = omega arith;
        below = omega arith;
        law = λ pr. ap (λ v. (reading p pr).cast (N.◌+◌ a (N.◌*◌ (get_or b i 0) v))) (sym (fall_in s (N.◌+◌ d i) j f)) ∙ along_more (reading p pr) b s d j i a (h.law pr);
      }

-- ---- one coefficient of a size, from two sums; p divides q
module _ {F : Frame} {b c : List ℕ} {top j : ℕ} (g : PartAsks F b c top) (q Q x y : ℕ) (none : (pr : Prime F.m.p) → (reading F.m.p pr).cast q ≡ (reading F.m.p pr).𝓥.K.ops.𝟎)
    (hx : Terms F.m.p Q b (N.◌-◌ top F.dr) F.r F.dr j x) (hy : Terms F.m.p Q c (N.◌-◌ top F.dw) F.w F.dw j y) (le : y ≤ q) where
  pos : 0 < F.m.p
  pos = let k : 1 < F.m.p = g.fine.modulus.big in omega arith

  pub part_minus : {e : Bool} → e ≡ true → PartAt F e b c top j (N.◌+◌ x (N.◌-◌ q y) % F.m.p)
  part_minus {e} u = subst (λ e. PartAt F e b c top j (N.◌+◌ x (N.◌-◌ q y) % F.m.p)) (sym u) (record {
    below = mod-lt _ pos;
    law = λ pr.
        let ρ = reading F.m.p pr in
        ρ.cast_mod (N.◌+◌ x (N.◌-◌ q y)) ∙ ρ.cast_add x (N.◌-◌ q y) ∙ ap₂ ρ.𝓥.K.ops.add (hx.law pr) (cast_from ρ q y (none pr) le ∙ ap ρ.𝓥.K.ops.neg (hy.law pr));
  })

  pub part_plus : {e : Bool} → e ≡ false → PartAt F e b c top j (N.◌+◌ x y % F.m.p)
  part_plus {e} u = subst (λ e. PartAt F e b c top j (N.◌+◌ x y % F.m.p)) (sym u) (record {
    below = mod-lt _ pos;
    law = λ pr. let ρ = reading F.m.p pr in ρ.cast_mod (N.◌+◌ x y) ∙ ρ.cast_add x y ∙ ap₂ ρ.𝓥.K.ops.add (hx.law pr) (hy.law pr);
  })

-- a number of the same remainder
pub part_as : {F : Frame} {e : Bool} {b c : List ℕ} {top j u v : ℕ} → v ≡ u → PartAt F e b c top j u → PartAt F e b c top j v
part_as {F} {e} {b} {c} {top} {j} q h = subst (λ a. PartAt F e b c top j a) (sym q) h

-- the two sums that `digit` takes, and a multiple of p that the second does not pass: t is x, y, most
pub record Sums (F : Frame) (b c : List ℕ) (top j : ℕ) (t : ℕ × ℕ × ℕ) : Type 0 where
  pub Q : ℕ
  pub none : (pr : Prime F.m.p) → (reading F.m.p pr).cast t.2 ≡ (reading F.m.p pr).𝓥.K.ops.𝟎
  pub hx : Terms F.m.p Q b (N.◌-◌ top F.dr) F.r F.dr j t.0
  pub hy : Terms F.m.p Q c (N.◌-◌ top F.dw) F.w F.dw j t.1
  pub le : t.1 ≤ t.2

module _ {F : Frame} {b c : List ℕ} {top j q x y : ℕ} (g : PartAtAsks F q b c top j) where
  pub sums_quick : Terms F.m.p (N.◌+◌ (N.◌*◌ 32 (N.◌*◌ F.m.p F.m.p)) 1) b (N.◌-◌ top F.dr) F.r F.dr j x
      → Terms F.m.p (N.◌+◌ (N.◌*◌ 32 (N.◌*◌ F.m.p F.m.p)) 1) c (N.◌-◌ top F.dw) F.w F.dw j y → Sums F b c top j (x, y, N.◌*◌ 32 q)
  sums_quick hx hy =
      let e : q ≡ N.◌*◌ F.m.p F.m.p = g.is_q in
      let l : y < N.◌+◌ (N.◌*◌ 32 (N.◌*◌ F.m.p F.m.p)) 1 = hy.below in
      record { Q = _; none = λ pr. cast_squares (reading F.m.p pr) 32 q e; hx = hx; hy = hy; le = omega arith }

  pub sums_large : Terms F.m.p q b (N.◌-◌ top F.dr) F.r F.dr j x → Terms F.m.p q c (N.◌-◌ top F.dw) F.w F.dw j y → Sums F b c top j (x, y, q)
  sums_large hx hy =
      let l : y < q = hy.below in
      record { Q = _; none = λ pr. ap (reading F.m.p pr).cast g.is_q ∙ cast_square (reading F.m.p pr); hx = hx; hy = hy; le = omega arith }
