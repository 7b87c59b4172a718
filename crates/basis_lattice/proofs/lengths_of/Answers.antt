-- `basis_lattice::lengths_of` meets its contract: seven lengths and a determinant.
use Rattle.basis_lattice.proofs.Quotients.{measured}
use Rattle.basis_lattice.proofs.lengths_of.Goals as goal

pub size_from-requires : goal.size_from-requires
size_from-requires c = c.requires.ends 0

pub size_from-m1-requires : goal.size_from-m1-requires
size_from-m1-requires c = c.requires.ends 1

pub size_from-m2-requires : goal.size_from-m2-requires
size_from-m2-requires c = c.requires.ends 2

pub size_from-requires-2 : goal.size_from-requires-2
size_from-requires-2 c = c.requires.ends 3

pub size_from-n1-requires : goal.size_from-n1-requires
size_from-n1-requires c = c.requires.ends 4

pub size_from-n2-requires : goal.size_from-n2-requires
size_from-n2-requires c = c.requires.ends 5

pub size_from-requires-3 : goal.size_from-requires-3
size_from-requires-3 c = c.requires.ends 6

pub det_in-k-requires : goal.det_in-k-requires
det_in-k-requires c = let i = c.requires in
    let m1 = c.size_from-m1.ensures in
    let m2 = c.size_from-m2.ensures in
    let n1 = c.size_from-n1.ensures in
    let n2 = c.size_from-n2.ensures in
    record {
      modulus = i.modulus;
      prime = i.prime;
      hx = i.rows 1;
      hy = i.rows 5;
      hz = i.rows 2;
      hv = i.rows 4;
      sx = m1;
      sy = n2;
      sz = m2;
      sv = n1;
      left = i.left _ _ m1 n2;
      right = i.right _ _ m2 n1;
      blank = i.blank;
    }

pub returns : goal.returns
returns c = let m0 = c.size_from.ensures in
    let m1 = c.size_from-m1.ensures in
    let m2 = c.size_from-m2.ensures in
    let n0 = c.size_from-2.ensures in
    let n1 = c.size_from-n1.ensures in
    let n2 = c.size_from-n2.ensures in
    let u = c.size_from-3.ensures in
    record { sizes = measured c.det_in-k.result m0 m1 m2 n0 n1 n2 u; det = c.det_in-k.ensures }
