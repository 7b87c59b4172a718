-- The loop of the quotient, from the top: `Dividing` holds before each turn, and each turn adds one coefficient. Then what the
-- quotient gives: exact division, division with remainder, and that its answer is the only one (`divided_unique`).
use mathlib.Core.Path.{◌≡◌, sym, ap, ◌∙◌, subst}
use mathlib.Core.List.{List, [], ◌∷◌}
use Prim.Native.Nat.{ℕ, zero, suc, ◌+◌, ◌*◌, ◌-◌, ◌%◌, ◌<◌, ◌≤◌, min}
use native.Mathlib.Nat.{mod-lt, zero-mod, mul-zero, zero-mul}
use native.Mathlib.Omega.{arith}
use native.Mathlib.Decide.{dec_lt, dec_le, ℕ_discrete}
use lib.ListN.{length, get_or, set, replicate, length-set}
use lib.Seq.{get_or-set_same, get_or-set_other}
use Rattle.math_ring.proofs.Solve.{var, minus, ◌:+◌, solve}
use Rattle.math_fp.specs.Fp.{Prime}
use Rattle.math_valued.specs.Degree.{Lt}
use Rattle.math_valued.proofs.Degree.{same, lt_eq}
use Rattle.math_rows.specs.Made.{reading}
use Rattle.math_rows.specs.Row.{Row, Size, row, shift_at}
use Rattle.math_rows.specs.Sum.{sum_to, term_at}
use Rattle.math_rows.proofs.Tab.{zeros_at}
use Rattle.math_rows.proofs.Rows.{size_has_at, row_poly}
use Rattle.math_rows.proofs.Floors.{sized}
use Rattle.math_rows.proofs.Product.{sum_none, sum_skip}
use Rattle.math_rows.proofs.Quotient.{Agree, agree_more, agree_end, exact_law, division_unique}
use Rattle.math_rows.proofs.Unique.{row_unique}
use Rattle.num_mod.specs.Prepared.{Prepared}
use Rattle.num_mod.specs.declared.Modulus.{Modulus}
use Rattle.poly_rows.specs.Division.{DivisionAsks, Quotient, Exact, Divided, QuotientCoefficientAsks, Digit}
use Rattle.poly_rows.proofs.Leaf.{size_unique, zeros_row}
use Rattle.poly_rows.proofs.Coefficients.{term_past}

-- the terms of a product where q is 0
term_zero : (q b : List ℕ) (k i : ℕ) → get_or q i 0 ≡ 0 → term_at q b k i ≡ 0
term_zero q b k i z = ap (λ x. x * shift_at b i k) z ∙ zero-mul (shift_at b i k)

-- the run of terms that the code adds is the whole sum
pub digit_sum : (s : Modulus) (a q b : List ℕ) (m il top k to r : ℕ) → QuotientCoefficientAsks s a q b m il top k → to ≤ 32 → min (k + (m - 1) + 1) top ≤ to
    → (sum_to (term_at q b (k + (m - 1))) (k + 1) + r) % s.p ≡ sum_to (term_at q b (k + (m - 1))) to % s.p → r % s.p ≡ sum_to (term_at q b (k + (m - 1))) 32 % s.p
digit_sum s a q b m il top k to r h l u g =
    let f = term_at q b (k + (m - 1)) in
    let e : sum_to f (k + 1) ≡ 0 = sum_none f (k + 1) (λ i w. term_zero q b (k + (m - 1)) i (h.low i (omega arith))) in
    ap (λ z. z % s.p) (let o : r ≡ sum_to f (k + 1) + r = omega arith in o)
    ∙ g
    ∙ ap (λ z. z % s.p) (sym (sum_skip f to 32 l (λ i v w. elim (dec_lt (k + (m - 1)) i) [ yes o ↦ term_past q b (k + (m - 1)) i o | no o ↦ term_zero q b (k + (m - 1)) i (h.high i (omega arith)) ])))

pub div_pos : (p : ℕ) (a b : List ℕ) (il m : ℕ) → DivisionAsks p a b il → Size b m → 0 < m
div_pos p a b il zero h s =
    let z : (il * get_or b (0 - 1) 0) % p ≡ 0 = ap (λ x. (il * x) % p) (s.above (0 - 1) (omega arith)) ∙ ap (λ x. x % p) (mul-zero il) ∙ zero-mod p in
    let o : (il * get_or b (0 - 1) 0) % p ≡ 1 = h.inv 0 s in
    absurd (omega arith)
div_pos p a b il (suc m) h s = omega arith

-- the invariant: q holds the coefficients of the quotient from k to top − 1
pub record Dividing (p : ℕ) (a b : List ℕ) (il m top : ℕ) (q : List ℕ) (k : ℕ) : Type 0 where
  pub sb : Size b m
  pub pos : 0 < m
  pub fits : top + m ≤ 33
  pub hq : Row p q
  pub upto : k ≤ top
  pub low : (i : ℕ) → i < k → get_or q i 0 ≡ 0
  pub high : (i : ℕ) → top ≤ i → get_or q i 0 ≡ 0
  pub agree : (pr : Prime p) → Agree (reading p pr) a q b (k + (m - 1))

pub dividing_start : (p : ℕ) (a b : List ℕ) (il n m top : ℕ) → DivisionAsks p a b il → Size a n → Size b m → n + 1 ≤ top + m → top + m ≤ 33 → Dividing p a b il m top (replicate 32 0) top
dividing_start p a b il n m top h sa sb l fits =
    let pos : 0 < m = div_pos p a b il m h sb in record {
      sb = sb;
      pos = pos;
      fits = fits;
      hq = zeros_row p h.modulus.big;
      upto = omega arith;
      low = λ i u. zeros_at 32 i;
      high = λ i u. zeros_at 32 i;
      agree = λ pr j u. ap (reading p pr).cast (sa.above j (omega arith) ∙ sym (sum_none (term_at (replicate 32 0) b j) 32 (λ i w. term_zero (replicate 32 0) b j i (zeros_at 32 i))));
    }

pub dividing_digit : {s : Modulus} {a b : List ℕ} {il m top : ℕ} {q : List ℕ} {k : ℕ} → DivisionAsks s.p a b il → Dividing s.p a b il m top q k → 0 < k → Prepared s → QuotientCoefficientAsks s a q b m il top (k - 1)
dividing_digit {top = top} {k = k} h d u g = record {
  modulus = g;
  ha = h.ha;
  hq = d.hq;
  hb = h.hb;
  hi = h.hi;
  sb = d.sb;
  pos = d.pos;
  at = let l : k ≤ top = d.upto in omega arith;
  fits = d.fits;
  low = λ i w. d.low i (omega arith);
  high = d.high;
}

module _ {p : ℕ} {a b : List ℕ} {il m top : ℕ} {q : List ℕ} {k : ℕ} (h : DivisionAsks p a b il) (d : Dividing p a b il m top q k) (u : 0 < k) where
  pub dividing_turn : (v : ℕ) → Digit p a q b m il (k - 1) v → Dividing p a b il m top (set q (k - 1) v) (k - 1)
  dividing_turn v e =
      let g : 1 < p = h.modulus.big in
      let below : v < p = subst (λ x. x < p) (sym e) (mod-lt ((get_or a (k - 1 + (m - 1)) 0 + (p - sum_to (term_at q b (k - 1 + (m - 1))) 32 % p)) * il) (omega arith)) in
      let l : k ≤ top = d.upto in
      let f : top + m ≤ 33 = d.fits in
      let o : 0 < m = d.pos in
      let s : length q ≡ 32 = d.hq.size in record {
        sb = d.sb;
        pos = d.pos;
        fits = d.fits;
        hq = record {
          size = length-set q (k - 1) v ∙ s;
          each = λ i. elim (ℕ_discrete i (k - 1)) [
            | yes z ↦ subst (λ x. x < p) (sym (ap (λ j. get_or (set q (k - 1) v) j 0) z ∙ get_or-set_same q (k - 1) v 0 (omega arith))) below
            | no z ↦ subst (λ x. x < p) (sym (get_or-set_other q (k - 1) i v 0 z)) (d.hq.each i)
          ];
        };
        upto = omega arith;
        low = λ i w. get_or-set_other q (k - 1) i v 0 (omega arith) ∙ d.low i (omega arith);
        high = λ i w. get_or-set_other q (k - 1) i v 0 (omega arith) ∙ d.high i w;
        agree = λ pr. let R = reading p pr in
            agree_more R a q b m (k - 1) il v s (omega arith) (d.low (k - 1) (omega arith)) d.sb o
            (sym (R.cast_mul il (get_or b (m - 1) 0)) ∙ sym (R.cast_mod (il * get_or b (m - 1) 0)) ∙ ap R.cast (h.inv m d.sb) ∙ R.cast_one) e
            (λ j w. d.agree pr j (omega arith));
      }

pub dividing_end : (p : ℕ) (a b : List ℕ) (il m top : ℕ) (q : List ℕ) (k : ℕ) → DivisionAsks p a b il → Dividing p a b il m top q k → k ≤ 0 → Quotient p a b q
dividing_end p a b il m top q k h d z = record {
  is_row = d.hq;
  room = λ n' m' sq sb. let e : m' ≡ m = size_unique sb d.sb in let f : top + m ≤ 33 = d.fits in elim (dec_le n' top) [ yes l ↦ omega arith | no l ↦ absurd (sq.top (omega arith) (d.high (n' - 1) (omega arith))) ];
  law = λ pr n hn. let R = reading p pr in
      let o : 0 < m = d.pos in
      let f : top + m ≤ 33 = d.fits in
      let e : m - 1 ≡ n = same R.𝓥 (size_has_at R m h.hb d.sb o) hn in
      subst (λ j. Lt R.𝓥 (R.𝓥.L.ops.add (row R a) (R.𝓥.L.ops.neg (R.𝓥.L.ops.mul (row R q) (row R b)))) j) e (agree_end R a q b (m - 1) h.ha.size d.hq.size h.hb.size (omega arith) (λ j w. d.agree pr j (omega arith)));
}

pub exact_made : (p : ℕ) (a b : List ℕ) (il : ℕ) (q : List ℕ) → DivisionAsks p a b il → Quotient p a b q → Exact p a b q
exact_made p a b il q h g = record {
  is_row = g.is_row;
  law = λ pr w hw e. let R = reading p pr in let (m, s) = sized b in let d = size_has_at R m h.hb s (div_pos p a b il m h s) in
      exact_law R (row R a) (row R q) (row R b) (m - 1) d (g.law pr (m - 1) d) (row_poly R q) w hw e;
}

-- what is left over where q b is taken off
pub divided : (p : ℕ) (a b q r : List ℕ) → Quotient p a b q → Row p r
    → ((pr : Prime p) → let ρ = reading p pr in let o = ρ.𝓥.L.ops in row ρ r ≡ o.add (row ρ a) (o.neg (o.mul (row ρ q) (row ρ b)))) → Divided p a b q r
divided p a b q r g h d = record {
  q_row = g.is_row;
  r_row = h;
  law = λ pr. let R = reading p pr in let L = R.𝓥.L in let s = L.ops.mul (row R q) (row R b) in
      solve L (var 0) (var 1 :+ (var 0 :+ minus (var 1))) tt (row R a ∷ s ∷ []) ∙ ap (λ x. L.ops.add s x) (sym (d pr));
  low = λ pr n hn. lt_eq (reading p pr).𝓥 (g.law pr n hn) (sym (d pr));
}

-- there is one such pair
pub divided_unique : (p : ℕ) (pr : Prime p) (a b : List ℕ) (il : ℕ) (q r q' r' : List ℕ) → DivisionAsks p a b il → Divided p a b q r → Divided p a b q' r' → (q ≡ q') × (r ≡ r')
divided_unique p pr a b il q r q' r' h d e =
    let R = reading p pr in
    let (m, s) = sized b in
    let g = size_has_at R m h.hb s (div_pos p a b il m h s) in
    let (x, y) = division_unique R (row R a) (row R b) (row R q) (row R r) (row R q') (row R r') (m - 1) g (row_poly R q) (row_poly R q') (d.law pr) (e.law pr) (d.low pr (m - 1) g) (e.low pr (m - 1) g) in
    (row_unique R d.q_row e.q_row x, row_unique R d.r_row e.r_row y)
