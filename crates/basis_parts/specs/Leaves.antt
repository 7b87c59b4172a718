-- The contracts of the leaves: sums of products, and polynomial parts of b r ± c w.
--   Terms .. r               r is the coefficient at t^j of b times the series that s holds, up to multiples of p
--   PartAt .. v              v is the coefficient at t^j of b r ± c w, below p
--   Parted F e b c top z     z is the polynomial part of b r + c w (e false) or b r − c w (e true)
use Rattle.std.specs.Prelude.{◌≡◌, Bool, true, false, List, ℕ, zero, suc, ◌+◌, ◌*◌, ◌-◌, ◌<◌, ◌≤◌, get_or}
use Rattle.math_ring.specs.Ring.{Ops}
use Rattle.math_fp.specs.Fp.{Prime}
use Rattle.math_rows.specs.Reading.{Reading}
use Rattle.math_rows.specs.Made.{reading}
use Rattle.math_rows.specs.Row.{Row, fall_at, Floor}
use Rattle.num_mod.specs.Residue.{IsModulus}
use Rattle.basis_parts.specs.Frame.{Frame, Fine, Meaning, Short, rd, pt, side}

-- ---- sums of products, kept below p p
pub record PlusAsks (p q x y z : ℕ) : Type 0 where
  pub modulus : IsModulus p
  pub is_q : q ≡ p * p
  pub hx : x < q
  pub hy : y < p
  pub hz : z < p

pub record Summed (p q x y z r : ℕ) : Type 0 where
  pub below : r < q
  pub law : (pr : Prime p) → (reading p pr).cast r ≡ (reading p pr).cast (x + y * z)

-- Σ b_i s_(d + i − j), i < n
unfoldable pub along : {p : ℕ} (ρ : Reading p) (b s : List ℕ) (d j n : ℕ) → ρ.𝓥.K.El
along ρ b s d j zero = ρ.𝓥.K.ops.𝟎
along ρ b s d j (suc n) = ρ.𝓥.K.ops.add (along ρ b s d j n) (ρ.𝓥.K.ops.mul (ρ.cast (get_or b n 0)) (ρ.cast (fall_at s (d + n) j)))

pub record TermsAsks (p q : ℕ) (b : List ℕ) (n : ℕ) (s : List ℕ) (d j : ℕ) : Type 0 where
  pub modulus : IsModulus p
  pub is_q : q ≡ p * p
  pub hb : Row p b
  pub hs : Row p s
  pub fits : n + d ≤ 32
  pub high : j ≤ n + d

pub record PlainAsks (p : ℕ) (b : List ℕ) (n : ℕ) (s : List ℕ) (d j : ℕ) : Type 0 where
  pub inp : TermsAsks p (p * p) b n s d j
  pub small : p < 65536

pub record Terms (p q : ℕ) (b : List ℕ) (n : ℕ) (s : List ℕ) (d j r : ℕ) : Type 0 where
  pub below : r < q
  pub law : (pr : Prime p) → (reading p pr).cast r ≡ along (reading p pr) b s d j n

-- ---- polynomial parts
pub record PartAsks (F : Frame) (b c : List ℕ) (top : ℕ) : Type 0 where
  pub fine : Fine F
  pub some : Meaning F
  pub hb : Short F.m.p b (top - F.dr)
  pub hc : Short F.m.p c (top - F.dw)
  pub fits : top ≤ 32
  pub low_r : F.dr ≤ top
  pub low_w : F.dw ≤ top

pub record PartAtAsks (F : Frame) (q : ℕ) (b c : List ℕ) (top j : ℕ) : Type 0 where
  pub inp : PartAsks F b c top
  pub is_q : q ≡ F.m.p * F.m.p
  pub high : j < top

-- x + y or x − y
abbrev pub signed : {A : Type 0} → Ops A → Bool → A → A → A
signed o true x y = o.add x (o.neg y)
signed o false x y = o.add x y

abbrev pub part_at : (F : Frame) → (pr : Prime F.m.p) → Bool → List ℕ → List ℕ → ℕ → ℕ → (reading F.m.p pr).𝓥.K.El
part_at F pr e b c top j =
    signed (reading F.m.p pr).𝓥.K.ops e (along (reading F.m.p pr) b F.r F.dr j (top - F.dr)) (along (reading F.m.p pr) c F.w F.dw j (top - F.dw))

pub record PartAt (F : Frame) (e : Bool) (b c : List ℕ) (top j v : ℕ) : Type 0 where
  pub below : v < F.m.p
  pub law : (pr : Prime F.m.p) → (reading F.m.p pr).cast v ≡ part_at F pr e b c top j

pub record Parted (F : Frame) (e : Bool) (b c : List ℕ) (top : ℕ) (z : List ℕ) : Type 0 where
  pub short : Short F.m.p z top
  pub law : (μ : Meaning F) → Floor (rd μ) (side μ e (pt μ b c)) z
