-- Crates poly_lent and poly_divide: what is in the lent rows, and its length. `det_at`, at a prime, is also for basis_lattice.
use mathlib.Core.Path.{◌≡◌, subst}
use mathlib.Core.Bool.{Bool}
use mathlib.Core.List.{List}
use Prim.Native.Nat.{ℕ}
use Rattle.num_mod.specs.declared.Modulus.{Modulus}
use Rattle.math_fp.specs.Fp.{Prime}
use Rattle.math_rows.specs.Made.{reading}
use Rattle.math_rows.specs.Row.{Size}
use Rattle.poly_rows.proofs.Division.{divided_unique}
use Rattle.poly_lent.specs.Sized.{MixAsks, Mixed, BothInAsks, BothInGives, TimesInAsks, TimesInGives, DetInAsks, DetInGives}
use Rattle.poly_divide.specs.Divide.{QuotientAsks, QuotientInGives, LessInGives, DivideInGives}
use Rattle.demands_inner.proofs.Rows.{by_row}
use Rattle.demands_inner.proofs.Poly.{size_unique, quotient_unique}

-- one row has one length
pub both : {o o' : List ℕ} {l l' : ℕ} → o ≡ o' → Size o l → Size o' l' → (o ≡ o') × (l ≡ l')
both {l = l} e s s' = (e, size_unique (subst (λ z. Size z l) e s) s')

module _ {q : Modulus} {x : List ℕ} {n : ℕ} {y : List ℕ} {m : ℕ} {r o o' : List ℕ} where
  pub mix_in_unique : {e : Bool} → MixAsks q x n y m r → Mixed q.p e x n y m r o → Mixed q.p e x n y m r o' → o ≡ o'
  mix_in_unique g h k = by_row (reading q.p g.prime) h.is_row k.is_row (h.law g.prime) (k.law g.prime)

  pub times_in_unique : {l l' : ℕ} → TimesInAsks q x n y m r → TimesInGives q.p x y o l → TimesInGives q.p x y o' l' → (o ≡ o') × (l ≡ l')
  times_in_unique g h k = both (by_row (reading q.p g.prime) h.product.is_row k.product.is_row (h.product.law g.prime) (k.product.law g.prime)) h.size k.size

  pub less_in_unique : {l l' : ℕ} → MixAsks q x n y m r → LessInGives q.p x y r o l → LessInGives q.p x y r o' l' → (o ≡ o') × (l ≡ l')
  less_in_unique g h k = both (by_row (reading q.p g.prime) h.is_row k.is_row (h.law g.prime) (k.law g.prime)) h.size k.size

pub both_in_unique : {q : Modulus} {e f : Bool} {x : List ℕ} {nx : ℕ} {y : List ℕ} {ny : ℕ} {z : List ℕ} {nz : ℕ} {v : List ℕ} {nv : ℕ} {r : List ℕ} {n : ℕ} {o o' : List ℕ} {l l' : ℕ}
    → BothInAsks q x nx y ny z nz v nv r n → BothInGives q.p e x y f z v r o l → BothInGives q.p e x y f z v r o' l' → (o ≡ o') × (l ≡ l')
both_in_unique {q} g h k = both (by_row (reading q.p g.prime) h.is_row k.is_row (h.law g.prime) (k.law g.prime)) h.size k.size

pub det_at : {p : ℕ} (pr : Prime p) {x y z v o o' : List ℕ} {l l' : ℕ} → DetInGives p x y z v o l → DetInGives p x y z v o' l' → (o ≡ o') × (l ≡ l')
det_at {p} pr h k = both (by_row (reading p pr) h.is_row k.is_row (h.law pr) (k.law pr)) h.size k.size

pub det_in_unique : {q : Modulus} {x : List ℕ} {nx : ℕ} {y : List ℕ} {ny : ℕ} {z : List ℕ} {nz : ℕ} {v : List ℕ} {nv : ℕ} {r o o' : List ℕ} {l l' : ℕ}
    → DetInAsks q x nx y ny z nz v nv r → DetInGives q.p x y z v o l → DetInGives q.p x y z v o' l' → (o ≡ o') × (l ≡ l')
det_in_unique g h k = det_at g.prime h k

module _ {s : Modulus} {a : List ℕ} {n : ℕ} {b : List ℕ} {m il : ℕ} {o : List ℕ} where
  pub quotient_in_unique : {q q' : List ℕ} {l l' : ℕ} → QuotientAsks s a n b m il o → QuotientInGives s.p a b q l → QuotientInGives s.p a b q' l' → (q ≡ q') × (l ≡ l')
  quotient_in_unique g h k = both (quotient_unique g.inp h.quotient k.quotient) h.size k.size

  pub divide_in_unique : {q q' r r' : List ℕ} {l l' k k' : ℕ} → QuotientAsks s a n b m il o → DivideInGives s.p a b q r l k → DivideInGives s.p a b q' r' l' k'
      → (q ≡ q') × (r ≡ r') × (l ≡ l') × (k ≡ k')
  divide_in_unique {q} {q'} {r} {r'} g d e =
      let (x, y) = divided_unique s.p g.inp.prime a b il q r q' r' g.inp d.divided e.divided in
      (x, y, (both x d.sq e.sq).1, (both y d.sr e.sr).1)
