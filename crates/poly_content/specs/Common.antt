-- Four polynomials without their common factor, in place.
--   content     Content: a divisor of four, which every common divisor of the four divides
--   shorten     Shortened: an exact quotient and its length
--   Four        four rows, a fifth for their determinant over the common factor, and the degree of that factor
--   Without     the four and their determinant are these five times one polynomial, and no factor is left in the four
--   taken_off   CutAsks, CutOff: what it asks and makes of the rows; WithoutContentAsks, Taken: the same with the lengths
use Rattle.std.specs.Prelude.{◌≡◌, ◌≢◌, List, ℕ, replicate}
use Rattle.math_fp.specs.Fp.{Prime}
use Rattle.math_valued.specs.Degree.{Has}
use Rattle.math_valued.specs.Polynomial.{polys, Poly, Divides, IsUnit}
use Rattle.num_mod.specs.Residue.{IsModulus}
use Rattle.math_rows.specs.Made.{reading}
use Rattle.math_rows.specs.Row.{Row, Size}
use Rattle.poly_rows.specs.Leaf.{Fits}
use Rattle.num_mod.specs.Prepared.{Prepared}
use Rattle.num_mod.specs.declared.Modulus.{Modulus}
use Rattle.poly_rows.specs.Division.{DivisionAsks, Exact}
use Rattle.poly_rows.specs.Polynomial.{polynomial}

pub record FourRows (p : ℕ) (x0 x2 y0 y2 : List ℕ) : Type 0 where
  pub modulus : IsModulus p
  pub prime : Prime p
  pub h0 : Row p x0
  pub h2 : Row p x2
  pub k0 : Row p y0
  pub k2 : Row p y2

pub record ContentAsks (q : Modulus) (x0 x2 y0 y2 : List ℕ) : Type 0 where
  pub rows : FourRows q.p x0 x2 y0 y2
  pub modulus : Prepared q

pub record Content (p : ℕ) (x0 x2 y0 y2 r : List ℕ) : Type 0 where
  pub is_row : Row p r
  pub divides : (pr : Prime p) → let D = Divides (reading p pr).𝓥 (polynomial p pr r) in
      D (polynomial p pr x0) × D (polynomial p pr x2) × D (polynomial p pr y0) × D (polynomial p pr y2)
  pub most : (pr : Prime p) (d : Poly (reading p pr).𝓥) → let D = Divides (reading p pr).𝓥 d in
      D (polynomial p pr x0) → D (polynomial p pr x2) → D (polynomial p pr y0) → D (polynomial p pr y2) → D (polynomial p pr r)

pub record Four : Type 0 where
  pub a0 : List ℕ
  pub a2 : List ℕ
  pub b0 : List ℕ
  pub b2 : List ℕ
  pub d : List ℕ
  pub cut : ℕ

abbrev pub four : List ℕ → List ℕ → List ℕ → List ℕ → List ℕ → ℕ → Four
four a0 a2 b0 b2 d cut = record { a0 = a0; a2 = a2; b0 = b0; b2 = b2; d = d; cut = cut }

-- x2 y0 − x0 y2
abbrev pub four_det : (p : ℕ) (pr : Prime p) → List ℕ → List ℕ → List ℕ → List ℕ → Poly (reading p pr).𝓥
four_det p pr x0 x2 y0 y2 =
    let o = (polys (reading p pr).𝓥).ops in
    o.add (o.mul (polynomial p pr x2) (polynomial p pr y0)) (o.neg (o.mul (polynomial p pr x0) (polynomial p pr y2)))

pub record CutAsks (p : ℕ) (x0 x2 y0 y2 : List ℕ) : Type 0 where
  pub rows : FourRows p x0 x2 y0 y2
  pub left : Fits x2 y0
  pub right : Fits x0 y2
  pub nz : (four_det p rows.prime x0 x2 y0 y2).0 ≢ (reading p rows.prime).𝓥.L.ops.𝟎

-- x0 = g a0, .., and d = x2 y0 − x0 y2 = g d', where no factor is left in a0, a2, b0, b2; the degree of g is o.cut
pub record Without (p : ℕ) (pr : Prime p) (x0 x2 y0 y2 : List ℕ) (o : Four) : Type 0 where
  pub g : Poly (reading p pr).𝓥
  pub g_has : Has (reading p pr).𝓥 g.0 o.cut
  pub x0_eq : polynomial p pr x0 ≡ (polys (reading p pr).𝓥).ops.mul g (polynomial p pr o.a0)
  pub x2_eq : polynomial p pr x2 ≡ (polys (reading p pr).𝓥).ops.mul g (polynomial p pr o.a2)
  pub y0_eq : polynomial p pr y0 ≡ (polys (reading p pr).𝓥).ops.mul g (polynomial p pr o.b0)
  pub y2_eq : polynomial p pr y2 ≡ (polys (reading p pr).𝓥).ops.mul g (polynomial p pr o.b2)
  pub d_eq : four_det p pr x0 x2 y0 y2 ≡ (polys (reading p pr).𝓥).ops.mul g (polynomial p pr o.d)
  pub alone : (d : Poly (reading p pr).𝓥) → let D = Divides (reading p pr).𝓥 d in
      D (polynomial p pr o.a0) → D (polynomial p pr o.a2) → D (polynomial p pr o.b0) → D (polynomial p pr o.b2) → IsUnit (reading p pr).𝓥 d

pub record CutOff (p : ℕ) (x0 x2 y0 y2 : List ℕ) (o : Four) : Type 0 where
  pub h0 : Row p o.a0
  pub h2 : Row p o.a2
  pub k0 : Row p o.b0
  pub k2 : Row p o.b2
  pub hd : Row p o.d
  pub law : (pr : Prime p) → Without p pr x0 x2 y0 y2 o

pub record WithoutContentAsks (q : Modulus) (x0 : List ℕ) (a0 : ℕ) (x2 : List ℕ) (a2 : ℕ) (y0 : List ℕ) (b0 : ℕ) (y2 : List ℕ) (b2 : ℕ) (d : List ℕ) : Type 0 where
  pub inp : CutAsks q.p x0 x2 y0 y2
  pub modulus : Prepared q
  pub sx0 : Size x0 a0
  pub sx2 : Size x2 a2
  pub sy0 : Size y0 b0
  pub sy2 : Size y2 b2
  pub blank : d ≡ replicate 32 0

pub record Taken (p : ℕ) (x0 x2 y0 y2 : List ℕ) (o : Four) (l : ℕ) : Type 0 where
  pub off : CutOff p x0 x2 y0 y2 o
  pub size : Size o.d l

-- ---- in place
pub record ShortenAsks (q : Modulus) (x : List ℕ) (n : ℕ) (k : List ℕ) (m il : ℕ) : Type 0 where
  pub inp : DivisionAsks q.p x k il
  pub modulus : Prepared q
  pub sx : Size x n
  pub sk : Size k m

pub record Shortened (p : ℕ) (x k o : List ℕ) (l : ℕ) : Type 0 where
  pub exact : Exact p x k o
  pub size : Size o l
