-- A lent basis.
--   seven_of, sizes_of   its seven rows, and the lengths of these and of e
--   Lent                 lent_basis: what it lends
use Rattle.std.specs.Prelude.{◌≡◌, List, ℕ}
use Rattle.basis_record.specs.declared.Seven.{Seven}
use Rattle.basis_lattice.specs.declared.Lattice.{Lattice}
use Rattle.basis_lattice.specs.declared.Lengths.{Lengths}

abbrev pub seven_of : Lattice → Seven
seven_of k = record { m0 = k.m0.row.now; m1 = k.m1.row.now; m2 = k.m2.row.now; n0 = k.n0.row.now; n1 = k.n1.row.now; n2 = k.n2.row.now; u = k.u.row.now }

abbrev pub sizes_of : Lattice → Lengths
sizes_of k = record { m0 = k.m0.len; m1 = k.m1.len; m2 = k.m2.len; n0 = k.n0.len; n1 = k.n1.len; n2 = k.n2.len; u = k.u.len; e = k.e.len }

pub record Lent (b : Seven) (l : Lengths) (e : List ℕ) (ie : ℕ) (k : Lattice) : Type 0 where
  pub rows : seven_of k ≡ b
  pub sizes : sizes_of k ≡ l
  pub det : k.e.row.now ≡ e
  pub inverse : k.ie ≡ ie
