-- What holds of a basis holds of it lent.
use mathlib.Core.Path.{◌≡◌, sym, subst}
use mathlib.Core.List.{List}
use Prim.Native.Nat.{ℕ}
use Rattle.basis_record.specs.declared.Seven.{Seven}
use Rattle.basis_lattice.specs.declared.Lattice.{Lattice}
use Rattle.basis_lattice.specs.declared.Lengths.{Lengths}
use Rattle.basis_lattice.specs.Lent.{seven_of, sizes_of, Lent}

pub as_lent : {b : Seven} {l : Lengths} {e : List ℕ} {ie : ℕ} {k : Lattice} → Lent b l e ie k → (P : Seven → Lengths → List ℕ → ℕ → Type 0) → P b l e ie
    → P (seven_of k) (sizes_of k) k.e.row.now k.ie
as_lent {b} {l} {e} {ie} {k} s P h =
    subst (λ a. P a (sizes_of k) k.e.row.now k.ie) (sym s.rows) (subst (λ a. P b a k.e.row.now k.ie) (sym s.sizes) (subst (λ a. P b l a k.ie) (sym s.det) (subst (P b l e) (sym s.inverse) h)))
