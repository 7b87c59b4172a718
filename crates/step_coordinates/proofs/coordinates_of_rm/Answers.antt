-- `step_coordinates::coordinates_of_rm` meets its contract.
use mathlib.Core.Path.{refl}
use Rattle.step_coordinates.proofs.Products.{by_h, by_gh, m1_by, m2_by}
use Rattle.step_coordinates.proofs.Turned.{x_in, turned_r}
use Rattle.step_coordinates.proofs.coordinates_of_rm.Goals as goal

pub times_in-nx-requires : goal.times_in-nx-requires
times_in-nx-requires c = let s = c.requires.1 in
    m2_by s.inp s.modulus (by_gh s.inp) (s.found.sizes 2) s.sk refl

pub times_in-nz-requires : goal.times_in-nz-requires
times_in-nz-requires c = let s = c.requires.1 in
    m1_by s.inp s.modulus (by_h s.inp) (s.found.sizes 1) c.requires.2 refl

pub coordinates-requires : goal.coordinates-requires
coordinates-requires c = let s = c.requires.1 in
    x_in s.inp s.found c.times_in-nx.ensures c.times_in-nz.ensures s.modulus s.blank

pub returns : goal.returns
returns c = let s = c.requires.1 in
    turned_r s.inp s.found c.times_in-nx.ensures c.times_in-nz.ensures c.coordinates.ensures
