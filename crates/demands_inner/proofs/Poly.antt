-- Crates num_mod, num_prime, poly_rows, poly_cross, poly_euclid and poly_factors. `size_unique` is also for poly_long.
use mathlib.Core.Path.{◌≡◌, refl, sym, ap, ◌∙◌}
use mathlib.Core.Logic.{◌⊎◌, inl, inr}
use mathlib.Core.Bool.{Bool, true, false}
use mathlib.Core.List.{List, [], ◌∷◌}
use Prim.Native.Nat.{ℕ, ◌+◌, ◌-◌, ◌%◌}
use native.Mathlib.Omega.{arith}
use lib.Seq.{ext_get_or}
use Rattle.math_ring.proofs.Solve.{var, minus, ◌:+◌, solve}
use Rattle.math_fp.specs.Fp.{Prime}
use Rattle.math_valued.specs.Val.{Valued}
use Rattle.math_valued.specs.Degree.{Has}
use Rattle.math_valued.specs.Polynomial.{polys, Poly, Divides, IsUnit}
use Rattle.math_valued.proofs.Degree.{has_move}
use Rattle.math_valued.proofs.Polynomial.{P_path, view, not_zero, factor, const_unit}
use Rattle.math_valued.proofs.Coprime.{gcd_greatest, zero_divides}
use Rattle.math_valued.proofs.Factor.{free_no_square, apart_no_common}
use Rattle.math_rows.specs.Made.{reading}
use Rattle.math_rows.specs.Row.{Size, row}
use Rattle.math_rows.proofs.Rows.{row_poly, size_has_at}
use Rattle.math_rows.proofs.Floors.{sized}
use Rattle.math_rows.proofs.Quotient.{division_unique}
use Rattle.math_rows.proofs.Unique.{row_unique}
use Rattle.num_prime.specs.Table.{PrimeTest}
use Rattle.poly_rows.specs.Leaf.{Given, Opposite, MulAsks, Product, Listed}
use Rattle.poly_cross.specs.Cross.{Scaled, ScaleInAsks, ScaleInGives, CrossInAsks, CrossInGives}
use Rattle.num_mod.specs.Prepared.{Added}
use Rattle.num_mod.specs.declared.Modulus.{Modulus}
use Rattle.poly_rows.specs.Division.{DivisionAsks, Quotient}
use Rattle.poly_rows.specs.Polynomial.{polynomial}
use Rattle.poly_euclid.specs.Euclid.{Common}
use Rattle.poly_factors.specs.Factors.{OverBoth, SquareTest, CoprimeTest}
use Rattle.poly_rows.proofs.Leaf as leaf
use Rattle.poly_rows.proofs.Division.{div_pos}
use Rattle.demands_inner.proofs.Rows.{by_row}

pub is_prime_unique : {p : ℕ} (r s : Bool) → PrimeTest p r → PrimeTest p s → r ≡ s
is_prime_unique true true h k = refl
is_prime_unique false false h k = refl
is_prime_unique true false h k = let (a, b) = h.yes! refl in absurd (k.no! refl a b)
is_prime_unique false true h k = let (a, b) = k.yes! refl in absurd (h.no! refl a b)

-- ---- for every modulus: size, size_from, from_list
pub size_unique : {l : List ℕ} {n m : ℕ} → Size l n → Size l m → n ≡ m
size_unique h k = leaf.size_unique h k

pub from_list_unique : {l r s : List ℕ} → Listed l r → Listed l s → r ≡ s
from_list_unique {l} {r} {s} h k = ext_get_or 0 r s (h.size ∙ sym k.size) (λ i _. h.each i ∙ sym (k.each i))

-- one class mod p
pub add_product_unique : {p s x y r r' : ℕ} → Added p s x y r → Added p s x y r' → r % p ≡ r' % p
add_product_unique h k = h.law ∙ sym k.law

-- ---- rows
pub minus_unique : {p : ℕ} {x r s : List ℕ} → Given p x → Opposite p x r → Opposite p x s → r ≡ s
minus_unique {p} g h k = by_row (reading p g.prime) h.is_row k.is_row (h.law g.prime) (k.law g.prime)

pub scaled_at : {p : ℕ} (pr : Prime p) {c : ℕ} {x r s : List ℕ} → Scaled p c x r → Scaled p c x s → r ≡ s
scaled_at {p} pr h k = by_row (reading p pr) h.is_row k.is_row (h.law pr) (k.law pr)

pub scale_in_unique : {q : Modulus} {c : ℕ} {x : List ℕ} {n : ℕ} {r s : List ℕ} → ScaleInAsks q c x n → ScaleInGives q.p c x n r → ScaleInGives q.p c x n s → r ≡ s
scale_in_unique g h k = scaled_at g.prime h.scaled k.scaled

pub cross_in_unique : {q : Modulus} {a : ℕ} {x : List ℕ} {c k : ℕ} {y : List ℕ} {n : ℕ} {r s : List ℕ} → CrossInAsks q a x c k y n
    → CrossInGives q.p a x c k y n r → CrossInGives q.p a x c k y n s → r ≡ s
cross_in_unique {q} g h k = by_row (reading q.p g.prime) h.short.is_row k.short.is_row (h.crossed.law g.prime) (k.crossed.law g.prime)

pub mul_unique : {p : ℕ} {x y r s : List ℕ} → MulAsks p x y → Product p x y r → Product p x y s → r ≡ s
mul_unique {p} g h k = by_row (reading p g.prime) h.is_row k.is_row (h.law g.prime) (k.law g.prime)

module _ {p : ℕ} (pr : Prime p) where
  -- what is left over, a − q b, is below b
  abbrev left : List ℕ → List ℕ → List ℕ → (reading p pr).𝓥.L.El
  left a b v = let ρ = reading p pr in let o = ρ.𝓥.L.ops in o.add (row ρ a) (o.neg (o.mul (row ρ v) (row ρ b)))

  back : (a b v : List ℕ) → row (reading p pr) a ≡ (reading p pr).𝓥.L.ops.add ((reading p pr).𝓥.L.ops.mul (row (reading p pr) v) (row (reading p pr) b)) (left a b v)
  back a b v = let ρ = reading p pr in solve ρ.𝓥.L (var 0) (var 1 :+ (var 0 :+ minus (var 1))) tt (row ρ a ∷ ρ.𝓥.L.ops.mul (row ρ v) (row ρ b) ∷ [])

pub quotient_unique : {p : ℕ} {a b q q' : List ℕ} {il : ℕ} → DivisionAsks p a b il → Quotient p a b q → Quotient p a b q' → q ≡ q'
quotient_unique {p} {a} {b} {q} {q'} {il} h g f =
    let pr = h.prime in
    let ρ = reading p pr in
    let (m, s) = sized b in
    let d = size_has_at ρ m h.hb s (div_pos p a b il m h s) in
    let (x, y) = division_unique ρ (row ρ a) (row ρ b) (row ρ q) (left pr a b q) (row ρ q') (left pr a b q') (m - 1) d (row_poly ρ q) (row_poly ρ q') (back pr a b q) (back pr a b q') (g.law pr (m - 1) d) (f.law pr (m - 1) d) in
    row_unique ρ g.is_row f.is_row x

-- ---- tests
pub squarefree_unique : {p : ℕ} {x : List ℕ} (r s : Bool) → Given p x → SquareTest p x r → SquareTest p x s → r ≡ s
squarefree_unique true true g h k = refl
squarefree_unique false false g h k = refl
squarefree_unique {p} {x} true false g h k = absurd (free_no_square (reading p g.prime).𝓥 (polynomial p g.prime x) (h g.prime) (k g.prime))
squarefree_unique {p} {x} false true g h k = absurd (free_no_square (reading p g.prime).𝓥 (polynomial p g.prime x) (k g.prime) (h g.prime))

pub coprime_unique : {p : ℕ} {x y : List ℕ} (r s : Bool) → OverBoth p x y → CoprimeTest p x y r → CoprimeTest p x y s → r ≡ s
coprime_unique true true g h k = refl
coprime_unique false false g h k = refl
coprime_unique {p} {x} {y} true false g h k = absurd (apart_no_common (reading p g.prime).𝓥 (polynomial p g.prime x) (polynomial p g.prime y) (h g.prime) (k g.prime))
coprime_unique {p} {x} {y} false true g h k = absurd (apart_no_common (reading p g.prime).𝓥 (polynomial p g.prime x) (polynomial p g.prime y) (k g.prime) (h g.prime))

-- ---- a greatest common divisor is settled up to a constant
module _ (𝓥 : Valued) where
  divisors : (g h : Poly 𝓥) → Divides 𝓥 g h → Divides 𝓥 h g → (v : Poly 𝓥) × IsUnit 𝓥 v × (h ≡ (polys 𝓥).ops.mul g v)
  divisors g h (a, e) (b, f) = go (view 𝓥 g) (view 𝓥 h)
    where
      go : (g.0 ≡ 𝓥.L.ops.𝟎) ⊎ ((n : ℕ) × Has 𝓥 g.0 n) → (h.0 ≡ 𝓥.L.ops.𝟎) ⊎ ((n : ℕ) × Has 𝓥 h.0 n) → (v : Poly 𝓥) × IsUnit 𝓥 v × (h ≡ (polys 𝓥).ops.mul g v)
      go (inl z) y = ((polys 𝓥).ops.𝟏, ((polys 𝓥).ops.𝟏, sym ((polys 𝓥).laws.mul-one (polys 𝓥).ops.𝟏)), P_path 𝓥 {a = h} {b = g} (zero_divides 𝓥 g h z (a, e) ∙ sym z) ∙ sym ((polys 𝓥).laws.mul-one g))
      go (inr (m, x)) (inl z) = absurd (not_zero 𝓥 x (zero_divides 𝓥 h g z (b, f)))
      go (inr (m, x)) (inr (n, y)) =
          let (i, s, p) = factor 𝓥 g a h x y e in
          let (j, t, q) = factor 𝓥 h b g y x f in
          let z : i ≡ 0 = omega (arith, p, q) in
          (a, const_unit 𝓥 a (has_move 𝓥 0 0 s (ap (λ k. k + 0) z)), e)

pub gcd_unique : {p : ℕ} {x y r s : List ℕ} (g : OverBoth p x y) → Common p x y r → Common p x y s
    → (v : Poly (reading p g.prime).𝓥) × IsUnit (reading p g.prime).𝓥 v × (polynomial p g.prime s ≡ (polys (reading p g.prime).𝓥).ops.mul (polynomial p g.prime r) v)
gcd_unique {p} {x} {y} {r} {s} g h k =
    let 𝓥 = (reading p g.prime).𝓥 in
    let c = h.law g.prime in
    let d = k.law g.prime in
    divisors 𝓥 (polynomial p g.prime r) (polynomial p g.prime s) (gcd_greatest 𝓥 _ d c.left c.right) (gcd_greatest 𝓥 _ c d.left d.right)
