-- The generators of the next ideal: from the seven rows of a good basis, x1, y1, the pairs (−y2, x2)/g, (y0, −x0)/g and
-- their denominator d/g.
--   Generators       seven rows: x1, y1, the two pairs, their denominator; and the degree of what was taken off
--   Generated σ b o  o holds the parts of r m and w m and the pairs without their common factor (crate math_chain)
--   divided          NextGeneratorsAsks, Divided: with seven zero rows to write into, and the lengths of x1, y1 and of the denominator
use Rattle.std.specs.Prelude.{◌≡◌, List, ℕ, replicate}
use Rattle.math_valued.specs.Degree.{Has}
use Rattle.math_rows.specs.Row.{Row, Size}
use Rattle.num_mod.specs.Prepared.{Prepared}
use Rattle.num_mod.specs.declared.Modulus.{Modulus}
use Rattle.math_ideals.specs.Basis.{Good}
use Rattle.math_chain.specs.Parts.{Parts, Cut, x1, y1, base}
use Rattle.field_open.specs.Refusal.{Accepted}
use Rattle.basis_record.specs.Record.{setting, poly_of}
use Rattle.basis_record.specs.Seven.{rows_of, Holds, Three, Blank}
use Rattle.basis_record.specs.declared.Seven.{Seven}
use Rattle.step_coordinates.specs.Turns.{GeneratorsAsks}
use Rattle.step_divide.specs.declared.Cuts.{Cuts}

pub record Generators : Type 0 where
  pub x : List ℕ
  pub y : List ℕ
  pub mb : List ℕ
  pub mc : List ℕ
  pub nb : List ℕ
  pub nc : List ℕ
  pub u : List ℕ
  pub cut : ℕ

abbrev pub generators : List ℕ → List ℕ → List ℕ → List ℕ → List ℕ → List ℕ → List ℕ → ℕ → Generators
generators x y mb mc nb nc u cut = record { x = x; y = y; mb = mb; mc = mc; nb = nb; nc = nc; u = u; cut = cut }

module _ {p : ℕ} {G H : List ℕ} (σ : Accepted p G H) where
  pub record Generated (b : Seven) (o : Generators) : Type 0 where
    pub k : Parts (setting σ) (rows_of σ b)
    pub c : Cut (setting σ) (rows_of σ b) k
    pub x_is : poly_of σ o.x ≡ x1 (setting σ) (rows_of σ b) k
    pub y_is : poly_of σ o.y ≡ y1 (setting σ) (rows_of σ b) k
    pub mb_is : poly_of σ o.mb ≡ (base (setting σ) (rows_of σ b) k c).M.b
    pub mc_is : poly_of σ o.mc ≡ (base (setting σ) (rows_of σ b) k c).M.c
    pub nb_is : poly_of σ o.nb ≡ (base (setting σ) (rows_of σ b) k c).N.b
    pub nc_is : poly_of σ o.nc ≡ (base (setting σ) (rows_of σ b) k c).N.c
    pub u_is : poly_of σ o.u ≡ (base (setting σ) (rows_of σ b) k c).U
    pub g_has : Has (setting σ).𝓥 c.g.0 o.cut

pub record AreGenerators (p : ℕ) (g h gh : List ℕ) (b : Seven) (o : Generators) : Type 0 where
  pub hx : Row p o.x
  pub hy : Row p o.y
  pub hmb : Row p o.mb
  pub hmc : Row p o.mc
  pub hnb : Row p o.nb
  pub hnc : Row p o.nc
  pub hu : Row p o.u
  pub each : {G H : List ℕ} (σ : Accepted p G H) → Holds σ g h gh → Good (setting σ) (rows_of σ b) → Generated σ b o

pub record NextGeneratorsAsks (q : Modulus) (cap : ℕ) (g : List ℕ) (lg : ℕ) (h : List ℕ) (lh : ℕ) (gh : List ℕ) (ie : ℕ) (b : Seven) (x y : Three) (d : List ℕ) : Type 0 where
  pub inp : GeneratorsAsks q.p cap g h gh ie b
  pub modulus : Prepared q
  pub sg : Size g lg
  pub sh : Size h lh
  pub sgh : Size gh cap
  pub blank_x : Blank x
  pub blank_y : Blank y
  pub blank_d : d ≡ replicate 32 0

pub record Divided (p : ℕ) (g h gh : List ℕ) (b : Seven) (o : Generators) (c : Cuts) : Type 0 where
  pub are : AreGenerators p g h gh b o
  pub x_size : Size o.x c.x
  pub y_size : Size o.y c.y
  pub size_u : Size o.u c.d
  pub was_m0 : Size b.m0 c.m0
  pub was_u : Size b.u c.u
