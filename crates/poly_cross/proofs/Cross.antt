-- From the formula of each coefficient to the polynomial: what the loops of `scale_in` and `cross_in` hand out.
use mathlib.Core.Path.{◌≡◌, refl, sym, ap, ap₂, ◌∙◌, subst}
use mathlib.Core.List.{List}
use Prim.Native.Nat.{ℕ, ◌+◌, ◌*◌, ◌-◌, ◌%◌, ◌<◌, ◌≤◌}
use native.Mathlib.Nat.{mul-zero, zero-mod}
use native.Mathlib.Omega.{arith}
use native.Mathlib.Decide.{dec_lt}
use lib.ListN.{length, get_or, set}
use lib.Seq.{get_or-set_other}
use Rattle.num_mod.proofs.Quick.{small_mul}
use Rattle.math_fp.specs.Fp.{Prime}
use Rattle.math_rows.specs.Made.{reading}
use Rattle.math_rows.specs.Row.{tab, Row, Size, row, shift_at}
use Rattle.math_rows.proofs.Tab.{cross_at, cross_row, Filled, filled_start, filled_more, Begun, begun_end, shift_high, shift_small}
use Rattle.math_rows.proofs.Rows.{scale_law, cross_law}
use Rattle.math_rows.proofs.Floors.{sized}
use Rattle.num_mod.specs.Prepared.{Prepared}
use Rattle.num_mod.specs.declared.Modulus.{Modulus}
use Rattle.poly_rows.specs.Leaf.{Short}
use Rattle.poly_rows.proofs.Leaf.{mod_row}
use Rattle.poly_cross.specs.Cross.{ScaleInAsks, ScaleInGives, CrossInAsks, CrossInGives}

-- ---- a loop that turns a row in place, from the front: the rest is as it was
pub record Swept (n : ℕ) (f : ℕ → ℕ) (r₀ r : List ℕ) (i : ℕ) : Type 0 where
  pub filled : Filled n f r i
  pub rest : (k : ℕ) → i ≤ k → get_or r k 0 ≡ get_or r₀ k 0

pub swept_start : (n : ℕ) (f : ℕ → ℕ) (r : List ℕ) → length r ≡ n → Swept n f r r 0
swept_start n f r e = record { filled = filled_start n f r e; rest = λ k l. refl }

pub swept_more : (n : ℕ) (f : ℕ → ℕ) (r₀ r : List ℕ) (i v : ℕ) → Swept n f r₀ r i → i < n → v ≡ f i → Swept n f r₀ (set r i v) (i + 1)
swept_more n f r₀ r i v h l e = record { filled = filled_more n f r i v h.filled l e; rest = λ k u. get_or-set_other r i k v 0 (omega arith) ∙ h.rest k (omega arith) }

-- the row ends before n, and the loop has come there
swept_begun : {p n i : ℕ} {f : ℕ → ℕ} {x r : List ℕ} → Short p x n → n ≤ i → Swept 32 f x r i → Begun 32 f r i
swept_begun h l s = record { size = s.filled.size; done = s.filled.done; rest = λ k u. s.rest k u ∙ h.above k (omega arith) }

pub scaled : {q : Modulus} {c : ℕ} {x : List ℕ} {n i : ℕ} {r : List ℕ} → ScaleInAsks q c x n → i ≡ n → Swept 32 (λ i. (c * get_or x i 0) % q.p) x r i → ScaleInGives q.p c x n r
scaled {q} {c} {x} {n} {i} {r} h l s =
    let b = swept_begun h.hx (omega arith) s in
    let e : r ≡ tab 32 (λ i. (c * get_or x i 0) % q.p) = begun_end 32 (λ i. (c * get_or x i 0) % q.p) r i b (λ k u v. ap (λ a. (c * a) % q.p) (h.hx.above k (omega arith)) ∙ ap (λ a. a % q.p) (mul-zero c) ∙ zero-mod q.p) in
    let w = mod_row q.p (λ i. c * get_or x i 0) h.modulus.big e in record {
      short = record { is_row = w; above = λ k u. b.rest k (omega arith) };
      scaled = record { is_row = w; law = λ pr. ap (row (reading q.p pr)) e ∙ scale_law (reading q.p pr) c x h.hx.is_row.size };
    }

-- what cross_in takes the remainder of, where a and z are the coefficients of x and of t^k y at i
pub cross_low : {q : Modulus} {s : ℕ} {x : List ℕ} {c k : ℕ} {y : List ℕ} {n : ℕ} → CrossInAsks q s x c k y n → (i a z : ℕ) → a ≡ get_or x i 0 → z ≡ shift_at y k i → s * a + (q.p - c) * z ≤ 9223372036854775808
cross_low {q} {s = s} {x = x} {c = c} {k = k} {y = y} h i a z e f =
    let b : 1 < q.p = h.modulus.big in
    let m : q.p < 2147483648 = h.modulus.small in
    let u : s < q.p = h.hs in
    let v : get_or x i 0 < q.p = h.hx.is_row.each i in
    let w : shift_at y k i < q.p = shift_small q.p y k i (omega arith) h.hy in
    omega (arith, small_mul s a (omega arith) (omega arith), small_mul (q.p - c) z (omega arith) (omega arith))

-- y ends so that t^k y fits
shift_room : {y : List ℕ} {m : ℕ} (n k : ℕ) → Size y m → n ≤ 32 → k ≤ 32 → ((i : ℕ) → n ≤ i → shift_at y k i ≡ 0) → m + k ≤ 32
shift_room {y} {m} n k s f l h = elim (dec_lt 32 (m + k)) [
  | yes u ↦
      let e : m - 1 + k - k ≡ m - 1 = omega arith in
      absurd (s.top (omega arith) (ap (λ j. get_or y j 0) (sym e) ∙ sym (shift_high y k (m - 1 + k) (omega arith)) ∙ h (m - 1 + k) (omega arith)))
  | no u ↦ omega arith
]

pub crossed : {q : Modulus} {s : ℕ} {x : List ℕ} {c k : ℕ} {y : List ℕ} {n i : ℕ} {r : List ℕ} → CrossInAsks q s x c k y n → i ≡ n → Swept 32 (cross_at q.p s x c k y) x r i → CrossInGives q.p s x c k y n r
crossed {q} {s} {x} {c} {k} {y} {n} {i} {r} h l w =
    let b = swept_begun h.hx (omega arith) w in
    let e : r ≡ tab 32 (cross_at q.p s x c k y) = begun_end 32 (cross_at q.p s x c k y) r i b (λ j u v. none j (omega arith)) in
    let g = subst (λ u. Row q.p u) (sym e) (cross_row q.p s x c k y (let z : 1 < q.p = h.modulus.big in omega arith)) in
    let (m, sy) = sized y in record {
      short = record { is_row = g; above = λ j u. b.rest j (omega arith) };
      crossed = record { is_row = g; law = λ pr. ap (row (reading q.p pr)) e ∙ cross_law (reading q.p pr) s x c k y m h.hc h.hx.is_row.size sy (shift_room n k sy h.fits h.low h.above) };
    }
  where
    none : (j : ℕ) → n ≤ j → cross_at q.p s x c k y j ≡ 0
    none j u =
        ap₂ (λ a z. (s * a + (q.p - c) * z) % q.p) (h.hx.above j u) (h.above j u) ∙ ap (λ z. z % q.p) (let o : s * 0 + (q.p - c) * 0 ≡ 0 = omega (arith, mul-zero s, mul-zero (q.p - c)) in o) ∙ zero-mod q.p

-- ---- what `cross_in` asks, by lengths
size_short : {p : ℕ} {x : List ℕ} {n : ℕ} (m : ℕ) → Row p x → Size x n → n ≤ m → Short p x m
size_short m h s l = record { is_row = h; above = λ i u. s.above i (omega arith) }

pub cross_by : {q : Modulus} {s : ℕ} {x : List ℕ} {c k : ℕ} {y : List ℕ} {n m : ℕ} (top : ℕ) → Prepared q → Prime q.p → s < q.p → c ≤ q.p → Row q.p x → Row q.p y → Size x n → Size y m
    → n ≤ top → m + k ≤ top → top ≤ 32 → CrossInAsks q s x c k y top
cross_by {k = k} {y = y} {n = n} {m = m} top h pr hs hc hx hy sx sy u v w = record {
  modulus = h;
  prime = pr;
  hs = hs;
  hx = size_short top hx sx u;
  hc = hc;
  hy = hy;
  fits = w;
  low = omega arith;
  above = λ i l. shift_high y k i (omega arith) ∙ sy.above (i - k) (omega arith);
}
