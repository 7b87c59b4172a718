-- `step_divide::next_generators` meets its contract.
use mathlib.Core.Path.{refl}
use Rattle.step_coordinates.proofs.Products.{modulus, lengths_in}
use Rattle.step_divide.proofs.Generate.{turn_in, lent_turn, turned_r_rows, turned_w_rows, take_in, divided}
use Rattle.step_divide.proofs.next_generators.Goals as goal

pub lengths_of-l-requires : goal.lengths_of-l-requires
lengths_of-l-requires c = let s = c.requires in lengths_in s.inp s.modulus refl

pub coordinates_of_rm-of_r-requires : goal.coordinates_of_rm-of_r-requires
coordinates_of_rm-of_r-requires c = let s = c.requires in
    (_, lent_turn c.lent_basis-k.ensures (turn_in s.inp s.modulus s.sgh c.lengths_of-l.ensures s.blank_x), s.sh)

pub coordinates_of_wm-of_w-requires : goal.coordinates_of_wm-of_w-requires
coordinates_of_wm-of_w-requires c = let s = c.requires in
    (_, lent_turn c.lent_basis-k.ensures (turn_in s.inp s.modulus s.sgh c.lengths_of-l.ensures s.blank_y), s.sg)

pub negate-requires : goal.negate-requires
negate-requires c = let s = c.coordinates_of_rm-of_r.ensures.spans in
    record { modulus = modulus c.requires.inp; prime = c.requires.inp.σ.prime; hx = s.ha; sx = s.sa }

pub negate-requires-2 : goal.negate-requires-2
negate-requires-2 c = let s = c.coordinates_of_wm-of_w.ensures.spans in
    record { modulus = modulus c.requires.inp; prime = c.requires.inp.σ.prime; hx = s.hc; sx = s.sc }

pub without_content-o-requires : goal.without_content-o-requires
without_content-o-requires c = let s = c.requires in
    let tr = turned_r_rows c.lent_basis-k.ensures.rows c.coordinates_of_rm-of_r.ensures in
    let tw = turned_w_rows c.lent_basis-k.ensures.rows c.coordinates_of_wm-of_w.ensures in
    take_in s.inp tr tw c.negate.ensures c.negate-2.ensures s.modulus s.blank_d

pub returns : goal.returns
returns c = let s = c.requires in
    let l = c.lengths_of-l.ensures.sizes in
    let tr = turned_r_rows c.lent_basis-k.ensures.rows c.coordinates_of_rm-of_r.ensures in
    let tw = turned_w_rows c.lent_basis-k.ensures.rows c.coordinates_of_wm-of_w.ensures in
    divided s.inp tr tw c.negate.ensures c.negate-2.ensures c.without_content-o.ensures _ refl refl refl (l 0) (l 6)
