-- Membership in the lattice of a basis, and how the tests decide it.
--   Inside    U divides a − (b m + c n)
--   Member    an element lies in the lattice: its coordinates are exact (`inside_yes`, `inside_only`, `member_of`, `member_in` in proofs/Members)
use Rattle.std.specs.Prelude.{◌≡◌, Bool, List, ℕ}
use Rattle.math_fp.specs.Fp.{Prime}
use Rattle.math_rows.specs.Made.{reading}
use Rattle.math_rows.specs.Row.{Row, Size, row}
use Rattle.base_answers.specs.Decides.{Decides}
use Rattle.poly_rows.specs.Leaf.{Short}
use Rattle.num_mod.specs.Prepared.{Prepared}
use Rattle.num_mod.specs.declared.Modulus.{Modulus}
use Rattle.poly_rows.specs.Division.{Inverts}
use Rattle.basis_record.specs.declared.Seven.{Seven}
use Rattle.basis_lattice.specs.Coordinates.{Quotients, ElementAsks}
use Rattle.basis_lattice.specs.declared.Lengths.{Lengths}

pub record InsideAsks (q : Modulus) (a : List ℕ) (na : ℕ) (b : List ℕ) (nb : ℕ) (c : List ℕ) (nc : ℕ) (m : List ℕ) (lm : ℕ) (n : List ℕ) (ln : ℕ) (u : List ℕ) (lu : ℕ) : Type 0 where
  pub modulus : Prepared q
  pub prime : Prime q.p
  pub ha : Row q.p a
  pub hb : Row q.p b
  pub hc : Row q.p c
  pub sa : Size a na
  pub sb : Size b nb
  pub sc : Size c nc
  pub hm : Short q.p m 17
  pub hn : Short q.p n 17
  pub hu : Short q.p u 17
  pub sm : Size m lm
  pub sn : Size n ln
  pub su : Size u lu
  pub by_u : Inverts q.p u 1

pub record InsideAt {p : ℕ} (pr : Prime p) (a b c m n u : List ℕ) : Type 0 where
  pub α : (reading p pr).𝓥.L.El
  pub α_poly : (reading p pr).𝓥.IsPoly α
  pub U_α : let ρ = reading p pr in let o = ρ.𝓥.L.ops in
      o.add (row ρ a) (o.neg (o.add (o.mul (row ρ b) (row ρ m)) (o.mul (row ρ c) (row ρ n)))) ≡ o.mul (row ρ u) α

abbrev pub Inside : ℕ → List ℕ → List ℕ → List ℕ → List ℕ → List ℕ → List ℕ → Bool → Type 0
Inside p a b c m n u o = (pr : Prime p) → Decides o (InsideAt pr a b c m n u)

pub record MemberAsks (q : Modulus) (va : List ℕ) (na : ℕ) (vb : List ℕ) (nb : ℕ) (vc : List ℕ) (nc : ℕ) (b : Seven) (l : Lengths) (e : List ℕ) (ie : ℕ) : Type 0 where
  pub inp : ElementAsks q va na vb nb vc nc b l e ie
  pub h0 : Short q.p b.m0 17
  pub k0 : Short q.p b.n0 17
  pub hu : Short q.p b.u 17

pub record MemberAt {p : ℕ} (pr : Prime p) (va vb vc : List ℕ) (b : Seven) (e : List ℕ) : Type 0 where
  pub α : (reading p pr).𝓥.L.El
  pub β : (reading p pr).𝓥.L.El
  pub γ : (reading p pr).𝓥.L.El
  pub quotients : Quotients pr va vb vc b e α β γ

abbrev pub Member : ℕ → List ℕ → List ℕ → List ℕ → Seven → List ℕ → Bool → Type 0
Member p va vb vc b e o = (pr : Prime p) → Decides o (MemberAt pr va vb vc b e)
