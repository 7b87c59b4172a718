-- r m and w m in coordinates, from the rows of a good basis.
--   GeneratorsAsks        the rows hold the field of some G, H and a good basis of it; ie = −lead(GH) is the inverse of the leading coefficient of e;
--                         cap is past the degree of G H, and so past every row
--   TurnAsks              the rows of `GeneratorsAsks`, their lengths, and three zero rows to write into
--   Says σ b v t        the rows t hold every coordinates of v
--   turned_r, turned_w  TurnedR, TurnedW: the coordinates of r m and w m, with their lengths
--   negate              Negated: − x, of the same length
-- In proofs/Once: `turned_r_unique`, `turned_w_unique`, `negated_unique`, one outcome for each input (of `negate` for a prime p).
use Rattle.std.specs.Prelude.{◌≡◌, List, ℕ, ◌+◌, ◌-◌, ◌<◌, ◌≤◌, get_or}
use Rattle.math_fp.specs.Fp.{Prime}
use Rattle.num_mod.specs.Residue.{IsModulus}
use Rattle.math_rows.specs.Row.{Row, Size}
use Rattle.poly_rows.specs.Leaf.{Opposite}
use Rattle.num_mod.specs.Prepared.{Prepared}
use Rattle.num_mod.specs.declared.Modulus.{Modulus}
use Rattle.math_ideals.specs.Element.{O, times_r, times_w}
use Rattle.math_ideals.specs.Ideal.{Coords}
use Rattle.math_ideals.specs.Basis.{Good}
use Rattle.field_open.specs.Refusal.{Accepted}
use Rattle.basis_record.specs.Record.{setting, poly_of}
use Rattle.basis_record.specs.Seven.{AreRows, rows_of, Holds, Three, Blank}
use Rattle.basis_record.specs.declared.Seven.{Seven}
use Rattle.basis_lattice.specs.Coordinates.{Found, AreSpans}
use Rattle.basis_lattice.specs.declared.Spans.{Spans}
use Rattle.basis_lattice.specs.declared.Lengths.{Lengths}

pub record GeneratorsAsks (p cap : ℕ) (g h gh : List ℕ) (ie : ℕ) (b : Seven) : Type 0 where
  pub hg : Row p g
  pub hh : Row p h
  pub hgh : Row p gh
  pub rows : AreRows p b
  pub inverse : (n : ℕ) → Size gh n → ie ≡ p - get_or gh (n - 1) 0
  pub G : List ℕ
  pub H : List ℕ
  pub σ : Accepted p G H
  pub holds : Holds σ g h gh
  pub good : Good (setting σ) (rows_of σ b)
  pub past : σ.deg_g + σ.deg_h < cap
  pub fits : cap ≤ 32

pub record TurnAsks (q : Modulus) (g h gh : List ℕ) (lk : ℕ) (b : Seven) (l : Lengths) (e : List ℕ) (ie : ℕ) (o : Three) : Type 0 where
  pub cap : ℕ
  pub inp : GeneratorsAsks q.p cap g h gh ie b
  pub modulus : Prepared q
  pub sk : Size gh lk
  pub found : Found q.p b e l
  pub blank : Blank o

abbrev pub CoordinatesOfRmAsks : (q : Modulus) (h : List ℕ) (lh : ℕ) (gh : List ℕ) → ℕ → Seven → Lengths → List ℕ → ℕ → Three → Type 0
CoordinatesOfRmAsks q h lh gh lk b l e ie o = (g : List ℕ) × TurnAsks q g h gh lk b l e ie o × Size h lh

abbrev pub CoordinatesOfWmAsks : (q : Modulus) (g : List ℕ) (lg : ℕ) (gh : List ℕ) → ℕ → Seven → Lengths → List ℕ → ℕ → Three → Type 0
CoordinatesOfWmAsks q g lg gh lk b l e ie o = (h : List ℕ) × TurnAsks q g h gh lk b l e ie o × Size g lg

abbrev pub Says : {p : ℕ} {G H : List ℕ} (σ : Accepted p G H) (b : Seven) → (O (setting σ)).El → Three → Type 0
Says σ b v t = (q : Coords (setting σ) (rows_of σ b) v) → (poly_of σ t.a ≡ q.α) × (poly_of σ t.b ≡ q.β) × (poly_of σ t.c ≡ q.γ)

pub record TurnedR (p : ℕ) (h gh : List ℕ) (b : Seven) (t : Three) (o : Spans) : Type 0 where
  pub spans : AreSpans p t o
  pub law : {G H g : List ℕ} (σ : Accepted p G H) → Holds σ g h gh → Says σ b (times_r (setting σ) (rows_of σ b).M) t

pub record TurnedW (p : ℕ) (g gh : List ℕ) (b : Seven) (t : Three) (o : Spans) : Type 0 where
  pub spans : AreSpans p t o
  pub law : {G H h : List ℕ} (σ : Accepted p G H) → Holds σ g h gh → Says σ b (times_w (setting σ) (rows_of σ b).M) t

-- ---- in place
pub record NegateAsks (p : ℕ) (x : List ℕ) (n : ℕ) : Type 0 where
  pub modulus : IsModulus p
  pub prime : Prime p
  pub hx : Row p x
  pub sx : Size x n

pub record Negated (p : ℕ) (x o : List ℕ) (n : ℕ) : Type 0 where
  pub opposite : Opposite p x o
  pub size : Size o n
