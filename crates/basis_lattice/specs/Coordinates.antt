-- Coordinates in a basis as quotients.
--   Quotients      α, β, γ with e β = b N2 − c N1, e γ = c M1 − b M2, U α = a − (β M0 + γ N0): then a + b r + c w = α U + β M + γ N
--   lengths_of     LengthsOfAsks, Found: the lengths of the seven rows, by number, and e = M1 N2 − M2 N1 with its length
--   ElementAsks      an element and a basis on rows, with lengths; e and U can be divided by, and the products for β and γ fit
--   outer          OuterAsks, OuterGives: what e divides for β and γ, and the two quotients
--   coordinates    CoordinatesAsks, Coordinates: there are exact quotients, and the products on the way fit; three rows hold them, and the
--                  row va holds U α
-- Exact quotients are the coordinates of the theory: `quot_of`, `coords_from` in proofs/Elements.antt.
use Rattle.std.specs.Prelude.{◌≡◌, List, ℕ, zero, suc, ◌+◌, ◌≤◌, replicate}
use Rattle.math_fp.specs.Fp.{Prime}
use Rattle.math_valued.specs.Degree.{Lt}
use Rattle.math_rows.specs.Made.{reading}
use Rattle.math_rows.specs.Row.{Row, Size, row}
use Rattle.poly_rows.specs.Leaf.{Cut, Fits}
use Rattle.num_mod.specs.Prepared.{Prepared}
use Rattle.num_mod.specs.declared.Modulus.{Modulus}
use Rattle.poly_rows.specs.Division.{Inverts}
use Rattle.poly_lent.specs.Sized.{DetInGives}
use Rattle.poly_divide.specs.Divide.{QuotientInGives}
use Rattle.basis_record.specs.Seven.{row_at, AreRows, Three, Blank}
use Rattle.basis_record.specs.declared.Seven.{Seven}
use Rattle.basis_lattice.specs.declared.Lengths.{Lengths}
use Rattle.basis_lattice.specs.declared.OuterSpans.{OuterSpans}
use Rattle.basis_lattice.specs.declared.Spans.{Spans}

module _ {p : ℕ} (pr : Prime p) where
  open reading p pr use {𝓥}
  open 𝓥 use {L, IsPoly}
  open L.ops use {add as ◌⊕◌, mul as ◌⊗◌, neg as ⊖◌}

  infixl 60 ◌⊕◌
  infixl 70 ◌⊗◌
  infix 80 ⊖◌
  pub record Quotients (va vb vc : List ℕ) (b : Seven) (e : List ℕ) (α β γ : L.El) : Type 0 where
    pub α_poly : IsPoly α
    pub β_poly : IsPoly β
    pub γ_poly : IsPoly γ
    pub e_β : row (reading p pr) vb ⊗ row (reading p pr) b.n2 ⊕ ⊖ (row (reading p pr) vc ⊗ row (reading p pr) b.n1) ≡ row (reading p pr) e ⊗ β
    pub e_γ : row (reading p pr) vc ⊗ row (reading p pr) b.m1 ⊕ ⊖ (row (reading p pr) vb ⊗ row (reading p pr) b.m2) ≡ row (reading p pr) e ⊗ γ
    pub U_α : row (reading p pr) va ⊕ ⊖ (β ⊗ row (reading p pr) b.m0 ⊕ γ ⊗ row (reading p pr) b.n0) ≡ row (reading p pr) b.u ⊗ α

-- ---- lengths
abbrev pub length_at : Lengths → ℕ → ℕ
length_at l zero = l.m0
length_at l (suc zero) = l.m1
length_at l (suc (suc zero)) = l.m2
length_at l (suc (suc (suc zero))) = l.n0
length_at l (suc (suc (suc (suc zero)))) = l.n1
length_at l (suc (suc (suc (suc (suc zero))))) = l.n2
length_at l (suc (suc (suc (suc (suc (suc i)))))) = l.u

abbrev pub AreLengths : Seven → Lengths → Type 0
AreLengths b l = (i : ℕ) → Size (row_at b i) (length_at l i)

pub record LengthsOfAsks (q : Modulus) (cap : ℕ) (b : Seven) (e : List ℕ) : Type 0 where
  pub modulus : Prepared q
  pub prime : Prime q.p
  pub rows : AreRows q.p b
  pub ends : (i : ℕ) → Cut (row_at b i) cap
  pub left : Fits b.m1 b.n2
  pub right : Fits b.m2 b.n1
  pub blank : e ≡ replicate 32 0

pub record Found (p : ℕ) (b : Seven) (e : List ℕ) (l : Lengths) : Type 0 where
  pub sizes : AreLengths b l
  pub det : DetInGives p b.m1 b.n2 b.m2 b.n1 e l.e

-- ---- quotients
pub record ElementAsks (q : Modulus) (va : List ℕ) (na : ℕ) (vb : List ℕ) (nb : ℕ) (vc : List ℕ) (nc : ℕ) (b : Seven) (l : Lengths) (e : List ℕ) (ie : ℕ) : Type 0 where
  pub modulus : Prepared q
  pub prime : Prime q.p
  pub ha : Row q.p va
  pub hb : Row q.p vb
  pub hc : Row q.p vc
  pub sa : Size va na
  pub sb : Size vb nb
  pub sc : Size vc nc
  pub rows : AreRows q.p b
  pub sizes : AreLengths b l
  pub he : Row q.p e
  pub se : Size e l.e
  pub by_e : Inverts q.p e ie
  pub by_u : Inverts q.p b.u 1
  pub b_n2 : Fits vb b.n2
  pub c_n1 : Fits vc b.n1
  pub c_m1 : Fits vc b.m1
  pub b_m2 : Fits vb b.m2

pub record OuterAsks (q : Modulus) (vb : List ℕ) (nb : ℕ) (vc : List ℕ) (nc : ℕ) (b : Seven) (l : Lengths) (e : List ℕ) (ie : ℕ) (s t β γ : List ℕ) : Type 0 where
  pub va : List ℕ
  pub na : ℕ
  pub inp : ElementAsks q va na vb nb vc nc b l e ie
  pub blank_s : s ≡ replicate 32 0
  pub blank_t : t ≡ replicate 32 0
  pub blank_β : β ≡ replicate 32 0
  pub blank_γ : γ ≡ replicate 32 0

pub record OuterGives (p : ℕ) (vb vc : List ℕ) (b : Seven) (e s t β γ : List ℕ) (o : OuterSpans) : Type 0 where
  pub s_is : DetInGives p vb b.n2 vc b.n1 s o.s
  pub t_is : DetInGives p vc b.m1 vb b.m2 t o.t
  pub β_is : QuotientInGives p s e β o.b
  pub γ_is : QuotientInGives p t e γ o.c

-- ---- coordinates
pub record CoordinatesAsks (q : Modulus) (va : List ℕ) (na : ℕ) (vb : List ℕ) (nb : ℕ) (vc : List ℕ) (nc : ℕ) (b : Seven) (l : Lengths) (e : List ℕ) (ie : ℕ) (o : Three) : Type 0 where
  pub inp : ElementAsks q va na vb nb vc nc b l e ie
  pub α : (reading q.p inp.prime).𝓥.L.El
  pub β : (reading q.p inp.prime).𝓥.L.El
  pub γ : (reading q.p inp.prime).𝓥.L.El
  pub some : Quotients inp.prime va vb vc b e α β γ
  pub kβ : ℕ
  pub kγ : ℕ
  pub β_lt : Lt (reading q.p inp.prime).𝓥 β kβ
  pub γ_lt : Lt (reading q.p inp.prime).𝓥 γ kγ
  pub room_m0 : (n : ℕ) → Size b.m0 n → kβ + n ≤ 33
  pub room_n0 : (n : ℕ) → Size b.n0 n → kγ + n ≤ 33
  pub blank : Blank o

pub record AreSpans (p : ℕ) (t : Three) (o : Spans) : Type 0 where
  pub ha : Row p t.a
  pub hb : Row p t.b
  pub hc : Row p t.c
  pub sa : Size t.a o.a
  pub sb : Size t.b o.b
  pub sc : Size t.c o.c

pub record Coordinates (p : ℕ) (va vb vc : List ℕ) (b : Seven) (e : List ℕ) (t : Three) (va' : List ℕ) (o : Spans) : Type 0 where
  pub spans : AreSpans p t o
  pub is_row : Row p va'
  pub law : (pr : Prime p) (α β γ : (reading p pr).𝓥.L.El) → Quotients pr va vb vc b e α β γ
      → (row (reading p pr) t.a ≡ α) × (row (reading p pr) t.b ≡ β) × (row (reading p pr) t.c ≡ γ)
      × (row (reading p pr) va' ≡ (reading p pr).𝓥.L.ops.mul (row (reading p pr) b.u) α)
