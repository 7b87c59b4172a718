-- Closure under products with r and w ("closed under products with r and w"), as it is tested: on U, M and N.
--   element σ a b c    the element of three rows
--   Kept σ b v         r v and w v lie in the lattice of the seven rows b (`Coords` of crate math_ideals: three exact divisions)
--   Closed σ b         the lattice has rank 3, and r, w, r m, w m, r n, w n lie in it: `IsClosed` of crate math_ideals, by its names
--   Keeps, Under       an answer that decides the one, the other, at each field that the rows g, h, gh hold
--   Room p b           how long the rows of b are; with it all products on the way fit into 32 coefficients
-- Rows of a basis of a reduced ideal are no longer: crate basis_accept tests that first. Two answers of one question are equal: `under_unique`.
use Rattle.std.specs.Prelude.{◌≢◌, Bool, List, ℕ, zero, suc}
use Rattle.math_valued.specs.Polynomial.{polys}
use Rattle.num_mod.specs.Residue.{IsModulus}
use Rattle.math_ideals.specs.Element.{O, times_r, times_w}
use Rattle.math_ideals.specs.Ideal.{det, Coords}
use Rattle.field_open.specs.Refusal.{Accepted}
use Rattle.basis_record.specs.Record.{setting, poly_of}
use Rattle.math_rows.specs.Row.{Size}
use Rattle.poly_rows.specs.Leaf.{Short}
use Rattle.num_mod.specs.Prepared.{Prepared}
use Rattle.num_mod.specs.declared.Modulus.{Modulus}
use Rattle.poly_rows.specs.Division.{Inverts}
use Rattle.base_answers.specs.Decides.{Decides}
use Rattle.basis_record.specs.Seven.{row_at, rows_of, Holds}
use Rattle.basis_record.specs.declared.Seven.{Seven}
use Rattle.basis_lattice.specs.Coordinates.{Found}
use Rattle.basis_lattice.specs.declared.Lengths.{Lengths}

module _ {p : ℕ} {G H : List ℕ} (σ : Accepted p G H) where
  abbrev pub element : List ℕ → List ℕ → List ℕ → (O (setting σ)).El
  element a b c = record { a = poly_of σ a; b = poly_of σ b; c = poly_of σ c }

  pub record Kept (b : Seven) (v : (O (setting σ)).El) : Type 0 where
    pub by_r : Coords (setting σ) (rows_of σ b) (times_r (setting σ) v)
    pub by_w : Coords (setting σ) (rows_of σ b) (times_w (setting σ) v)

  pub record Closed (b : Seven) : Type 0 where
    pub rank : (det (setting σ) (rows_of σ b)).0 ≢ (setting σ).𝓥.L.ops.𝟎
    pub r_one : Coords (setting σ) (rows_of σ b) (record { a = (polys (setting σ).𝓥).ops.𝟎; b = poly_of σ b.u; c = (polys (setting σ).𝓥).ops.𝟎 })
    pub w_one : Coords (setting σ) (rows_of σ b) (record { a = (polys (setting σ).𝓥).ops.𝟎; b = (polys (setting σ).𝓥).ops.𝟎; c = poly_of σ b.u })
    pub r_M : Coords (setting σ) (rows_of σ b) (times_r (setting σ) (rows_of σ b).M)
    pub w_M : Coords (setting σ) (rows_of σ b) (times_w (setting σ) (rows_of σ b).M)
    pub r_N : Coords (setting σ) (rows_of σ b) (times_r (setting σ) (rows_of σ b).N)
    pub w_N : Coords (setting σ) (rows_of σ b) (times_w (setting σ) (rows_of σ b).N)

-- how many coefficients the i-th row has at most
abbrev pub longest : ℕ → ℕ
longest zero = 17
longest (suc zero) = 10
longest (suc (suc zero)) = 10
longest (suc (suc (suc zero))) = 17
longest (suc (suc (suc (suc zero)))) = 10
longest (suc (suc (suc (suc (suc zero))))) = 10
longest (suc (suc (suc (suc (suc (suc i)))))) = 17

pub record Room (p : ℕ) (b : Seven) : Type 0 where
  pub rows : (i : ℕ) → Short p (row_at b i) (longest i)
  pub by_u : Inverts p b.u 1

-- the rows of an accepted field
pub record Given (p : ℕ) (g h gh : List ℕ) : Type 0 where
  pub modulus : IsModulus p
  pub G : List ℕ
  pub H : List ℕ
  pub σ : Accepted p G H
  pub holds : Holds σ g h gh
  pub hg : Short p g 13
  pub hh : Short p h 13
  pub hgh : Short p gh 17

pub record ClosedUnderRAndWAsks (q : Modulus) (g h gh : List ℕ) (b : Seven) : Type 0 where
  pub given : Given q.p g h gh
  pub modulus : Prepared q
  pub room : Room q.p b

abbrev pub Under : ℕ → List ℕ → List ℕ → List ℕ → Seven → Bool → Type 0
Under p g h gh b o = (G H : List ℕ) (σ : Accepted p G H) → Holds σ g h gh → Decides o (Closed σ b)

-- an element, the rows of the field and the basis with their lengths; e is not 0, and ie the inverse of its leading coefficient
pub record ClosedOnAsks (q : Modulus) (g : List ℕ) (lg : ℕ) (h : List ℕ) (lh : ℕ) (gh : List ℕ) (lk : ℕ) (va : List ℕ) (na : ℕ) (vb : List ℕ) (nb : ℕ) (vc : List ℕ) (nc : ℕ)
    (b : Seven) (l : Lengths) (e : List ℕ) (ie : ℕ) : Type 0 where
  pub given : Given q.p g h gh
  pub modulus : Prepared q
  pub sg : Size g lg
  pub sh : Size h lh
  pub sk : Size gh lk
  pub room : Room q.p b
  pub ha : Short q.p va 17
  pub hb : Short q.p vb 10
  pub hc : Short q.p vc 10
  pub sa : Size va na
  pub sb : Size vb nb
  pub sc : Size vc nc
  pub found : Found q.p b e l
  pub by_e : Inverts q.p e ie

abbrev pub Keeps : ℕ → List ℕ → List ℕ → List ℕ → List ℕ → List ℕ → List ℕ → Seven → Bool → Type 0
Keeps p g h gh va vb vc b o = (G H : List ℕ) (σ : Accepted p G H) → Holds σ g h gh → Decides o (Kept σ b (element σ va vb vc))
