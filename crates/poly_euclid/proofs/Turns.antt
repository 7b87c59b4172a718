-- Euclid's turns, and what the trimmed length of a greatest common divisor says: 1, a unit; 2 or more, not constant.
use mathlib.Core.Path.{◌≡◌, sym, subst}
use mathlib.Core.List.{List}
use Prim.Native.Nat.{ℕ, suc, ◌+◌, ◌-◌, ◌<◌, ◌≤◌}
use native.Mathlib.Omega.{arith}
use lib.ListN.{length, get_or}
use Rattle.math_fp.specs.Fp.{Prime}
use Rattle.math_valued.specs.Polynomial.{IsUnit}
use Rattle.math_valued.specs.Factor.{Nonconstant}
use Rattle.math_valued.proofs.Degree.{lt_eq}
use Rattle.math_valued.proofs.Polynomial.{const_unit}
use Rattle.num_mod.specs.Prepared.{Prepared}
use Rattle.num_mod.specs.declared.Modulus.{Modulus}
use Rattle.math_rows.specs.Made.{reading}
use Rattle.math_rows.specs.Row.{Row, Size, row}
use Rattle.math_rows.proofs.Rows.{size_le, size_has, size_lead_at}
use Rattle.math_rows.proofs.Turn.{comb_drop}
use Rattle.math_rows.proofs.Floors.{zero_row, top_not, sized}
use Rattle.math_turns.proofs.Euclid.{Span, span_start, span_swap, span_turn, span_gcd}
use Rattle.poly_rows.specs.Leaf.{Cut}
use Rattle.poly_cross.specs.Cross.{CrossInAsks, Crossed}
use Rattle.poly_rows.specs.Polynomial.{polynomial}
use Rattle.poly_euclid.specs.Euclid.{GcdAsks, Common, LoweredAsks, Lowered, Found}
use Rattle.poly_euclid.specs.declared.Divisor.TheVariants.{First, Second}
use Rattle.poly_cross.proofs.Cross.{cross_by}

-- ---- one turn of Euclid
module _ {q : Modulus} {x : List ℕ} {n : ℕ} {y : List ℕ} {m : ℕ} (h : LoweredAsks q x n y m) where
  room : m + (n - m) ≤ n × n ≤ 32
  room =
      let f : n ≤ length x = h.sx.fits in
      let g : length x ≡ 32 = h.rows.hx.size in
      let l : m ≤ n = h.over in
      (omega arith, omega arith)

  pub lowered_asks : CrossInAsks q (get_or y (m - 1) 0) x (get_or x (n - 1) 0) (n - m) y n
  lowered_asks =
      let i = h.rows in
      let l : get_or x (n - 1) 0 < q.p = i.hx.each (n - 1) in
      cross_by n i.modulus i.prime (i.hy.each (m - 1)) (omega arith) i.hx i.hy h.sx h.sy (omega arith) room.0 room.1

  module _ {r : List ℕ} (o : Crossed q.p (get_or y (m - 1) 0) x (get_or x (n - 1) 0) (n - m) y r) where
    -- the leading terms cancel
    less : (k : ℕ) → Size r k → k < n
    less k s =
        let R = reading q.p h.rows.prime in
        let u : 0 < m = h.some in
        let v : m ≤ n = h.over in
        let l : k ≤ n - 1 = size_le R (n - 1) o.is_row s (lt_eq R.𝓥 (comb_drop R (n - m) (size_lead_at R n h.sx (omega arith)) (size_lead_at R m h.sy u) (omega arith)) (sym (o.law h.rows.prime))) in
        omega arith

    pub lowered_cut : Cut r (n - 1)
    lowered_cut =
        let (k, s) = sized r in
        let l : k < n = less k s in
        record { size = o.is_row.size; fits = omega (arith, room.1); above = λ j u. s.above j (omega arith) }

    pub lowered_made : {k : ℕ} → Size r k → Lowered q.p x n y m r k
    lowered_made {k} s = record { crossed = o; size = s; less = less k s }

-- ---- Euclid: a and b as they were lent, x and y as they stand
pub record Euclid (p : ℕ) (a b x y : List ℕ) (n m : ℕ) : Type 0 where
  pub hx : Row p x
  pub hy : Row p y
  pub sx : Size x n
  pub sy : Size y m
  pub each : (pr : Prime p) → let ρ = reading p pr in Span ρ (row ρ a) (row ρ b) (row ρ x) (row ρ y)

pub euclid_start : {q : Modulus} {a b : List ℕ} {n m : ℕ} → GcdAsks q a b → Size a n → Size b m → Euclid q.p a b a b n m
euclid_start {q} {a} {b} h s u = record { hx = h.hx; hy = h.hy; sx = s; sy = u; each = λ pr. let ρ = reading q.p pr in span_start ρ (row ρ a) (row ρ b) }

-- the two rows change places
pub euclid_swap : {p : ℕ} {a b x y : List ℕ} {n m : ℕ} → Euclid p a b x y n m → Euclid p a b y x m n
euclid_swap {p} i = record { hx = i.hy; hy = i.hx; sx = i.sy; sy = i.sx; each = λ pr. span_swap (reading p pr) (i.each pr) }

pub euclid_asks : {q : Modulus} {a b x y : List ℕ} {n m : ℕ} → Euclid q.p a b x y n m → Prepared q → Prime q.p → 0 < m → m ≤ n → LoweredAsks q x n y m
euclid_asks i h pr pos le = record { rows = record { modulus = h; prime = pr; hx = i.hx; hy = i.hy }; sx = i.sx; sy = i.sy; some = pos; over = le }

pub euclid_turn : {p : ℕ} {a b x y r : List ℕ} {n m k : ℕ} → Euclid p a b x y n m → 0 < m → Lowered p x n y m r k → Euclid p a b r y k m
euclid_turn {p} {x = x} {y = y} {n = n} {m = m} i pos o = record {
  hx = o.crossed.is_row;
  hy = i.hy;
  sx = o.size;
  sy = i.sy;
  each = λ pr. let R = reading p pr in span_turn R (R.cast (get_or y (m - 1) 0)) (R.cast (get_or x (n - 1) 0)) (n - m) (top_not R m i.hy i.sy pos) (i.each pr) (o.crossed.law pr);
}

none_left : {y : List ℕ} {m : ℕ} → Size y m → m ≤ 0 → Size y 0
none_left {y} {m} s z = subst (Size y) (let e : m ≡ 0 = omega arith in e) s

euclid_end : {p : ℕ} {a b x y : List ℕ} {n m : ℕ} → Euclid p a b x y n m → m ≤ 0 → Common p a b x
euclid_end {p} {a} {b} {x} {y} {m = m} i z = record {
  is_row = i.hx;
  law = λ pr. let R = reading p pr in
      span_gcd R (polynomial p pr a) (polynomial p pr b) (polynomial p pr x) (row R y) (i.each pr) (zero_row R y (none_left i.sy z));
}

pub found_first : {p : ℕ} {a b x y : List ℕ} {n m : ℕ} → Euclid p a b x y n m → m ≤ 0 → Found p a b x y (First n)
found_first i z = record { common = euclid_end i z; size = i.sx; nothing = none_left i.sy z }

pub found_second : {p : ℕ} {a b x y : List ℕ} {n m : ℕ} → Euclid p a b x y n m → n ≤ 0 → Found p a b x y (Second m)
found_second i z = record { common = euclid_end (euclid_swap i) z; size = i.sy; nothing = none_left i.sx z }

-- ---- what the trimmed length of a row says
module _ (p : ℕ) (pr : Prime p) (g : List ℕ) (hg : Row p g) where
  -- a row of length 1 is a unit
  pub size_unit : Size g 1 → IsUnit (reading p pr).𝓥 (polynomial p pr g)
  size_unit s = const_unit (reading p pr).𝓥 (polynomial p pr g) (size_has (reading p pr) hg s)

  pub more_two : (n : ℕ) → Size g (suc (suc n)) → Nonconstant (reading p pr).𝓥 (polynomial p pr g)
  more_two n s = (n, size_has (reading p pr) hg s)
