-- `step_coordinates::coordinates_of_wm` meets its contract.
use mathlib.Core.Path.{refl}
use Rattle.step_coordinates.proofs.Products.{by_g, by_gh, m1_by, m2_by}
use Rattle.step_coordinates.proofs.Turned.{y_in, turned_w}
use Rattle.step_coordinates.proofs.coordinates_of_wm.Goals as goal

pub times_in-nx-requires : goal.times_in-nx-requires
times_in-nx-requires c = let s = c.requires.1 in
    m1_by s.inp s.modulus (by_gh s.inp) (s.found.sizes 1) s.sk refl

pub times_in-ny-requires : goal.times_in-ny-requires
times_in-ny-requires c = let s = c.requires.1 in
    m2_by s.inp s.modulus (by_g s.inp) (s.found.sizes 2) c.requires.2 refl

pub coordinates-requires : goal.coordinates-requires
coordinates-requires c = let s = c.requires.1 in
    y_in s.inp s.found c.times_in-nx.ensures c.times_in-ny.ensures s.modulus s.blank

pub returns : goal.returns
returns c = let s = c.requires.1 in
    turned_w s.inp s.found c.times_in-nx.ensures c.times_in-ny.ensures c.coordinates.ensures
