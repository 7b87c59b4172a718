-- What the reduction is given of a field, and what that stands for.
--   Frame          the struct: a modulus m with its number p, two lists r, w and two numbers dr, dw
--   Fine F         m is prepared, r and w are rows of numbers below p
--   Meaning F      p is prime, 2 is not 0 mod p, and r, w hold the first coefficients of two series of degrees dr, dw. A
--                  contract asks for one where it bounds a size, and holds at each
--   Point          rows b, c for the element b r + c w, and a row z
--   pt μ b c       the element
--   side           its sizes X and Y (crate math_turns), here of a Boolean: Y for true, X for false
--   Short          a row that is 0 from a place on (crate poly_rows)
--   Held F e top q    q's rows end before top − dr, top − dw and top, and z is the polynomial part of a size
use Rattle.std.specs.Prelude.{◌≢◌, Bool, List, ℕ, ◌-◌}
use Rattle.math_fp.specs.Fp.{Prime}
use Rattle.math_valued.specs.Degree.{Has, Lt}
use Rattle.math_rows.specs.Reading.{Reading}
use Rattle.math_rows.specs.Made.{reading}
use Rattle.math_rows.specs.Row.{Row, row, tpow, Floor, Reads}
use Rattle.num_mod.specs.Prepared.{Prepared}
use Rattle.num_mod.specs.declared.Modulus.{Modulus}
use Rattle.math_turns.specs.Points as T
use Rattle.math_turns.specs.Points.{Pt}
pub use Rattle.poly_rows.specs.Leaf.{Short}
use Rattle.basis_parts.specs.declared.Frame as Given

-- the struct
abbrev pub Frame : Type 0
Frame = Given.Frame

abbrev pub frame : Modulus → List ℕ → List ℕ → ℕ → ℕ → Frame
frame m r w dr dw = record { m = m; r = r; w = w; dr = dr; dw = dw }

pub record Fine (F : Frame) : Type 0 where
  pub modulus : Prepared F.m
  pub hr : Row F.m.p F.r
  pub hw : Row F.m.p F.w

pub record Meaning (F : Frame) : Type 0 where
  pub prime : Prime F.m.p
  pub r : (reading F.m.p prime).𝓥.L.El
  pub w : (reading F.m.p prime).𝓥.L.El
  pub r_deg : Has (reading F.m.p prime).𝓥 r F.dr
  pub w_deg : Has (reading F.m.p prime).𝓥 w F.dw
  pub r_reads : Reads (reading F.m.p prime) F.r F.dr r
  pub w_reads : Reads (reading F.m.p prime) F.w F.dw w
  pub two : let k = (reading F.m.p prime).𝓥.K.ops in k.add k.𝟏 k.𝟏 ≢ k.𝟎

module _ {F : Frame} (μ : Meaning F) where
  abbrev pub rd : Reading F.m.p
  rd = reading F.m.p μ.prime

  abbrev pub Ser : Type 0
  Ser = (reading F.m.p μ.prime).𝓥.L.El

  abbrev pub rowμ : List ℕ → Ser
  rowμ = row (reading F.m.p μ.prime)

  abbrev pub pt : List ℕ → List ℕ → Pt Ser
  pt b c = record { b = row (reading F.m.p μ.prime) b; c = row (reading F.m.p μ.prime) c }

  abbrev pub X : Pt Ser → Ser
  X a = T.X (reading F.m.p μ.prime) μ.r μ.w a

  abbrev pub Y : Pt Ser → Ser
  Y a = T.Y (reading F.m.p μ.prime) μ.r μ.w a

  abbrev pub side : Bool → Pt Ser → Ser
  side e a = T.side (reading F.m.p μ.prime) μ.r μ.w e a

  abbrev pub D : Pt Ser → Pt Ser → Ser
  D m n = T.D (reading F.m.p μ.prime) μ.r μ.w m n

  abbrev pub Ltμ : Ser → ℕ → Type 0
  Ltμ z n = Lt (reading F.m.p μ.prime).𝓥 z n

  abbrev pub Hasμ : Ser → ℕ → Type 0
  Hasμ z n = Has (reading F.m.p μ.prime).𝓥 z n

  abbrev pub shift : ℕ → Ser → Ser
  shift k z = (reading F.m.p μ.prime).𝓥.L.ops.mul (tpow (reading F.m.p μ.prime) k) z

pub record Point : Type 0 where
  pub b : List ℕ
  pub c : List ℕ
  pub z : List ℕ

abbrev pub point : List ℕ → List ℕ → List ℕ → Point
point b c z = record { b = b; c = c; z = z }

pub record Held (F : Frame) (e : Bool) (top : ℕ) (q : Point) : Type 0 where
  pub hb : Short F.m.p q.b (top - F.dr)
  pub hc : Short F.m.p q.c (top - F.dw)
  pub hz : Short F.m.p q.z top
  pub floor : (μ : Meaning F) → Floor (rd μ) (side μ e (pt μ q.b q.c)) q.z
