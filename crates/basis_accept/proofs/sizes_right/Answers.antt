-- `basis_accept::sizes_right` meets its contract: the shape of the polynomial parts.
use Rattle.basis_accept.proofs.Shapes.{part_m, part_n, twice_in, shaped_of}
use Rattle.basis_accept.proofs.sizes_right.Goals as goal

pub floor-mx-requires : goal.floor-mx-requires
floor-mx-requires c = part_m c.requires

pub floor-my-requires : goal.floor-my-requires
floor-my-requires c = part_m c.requires

pub floor-nx-requires : goal.floor-nx-requires
floor-nx-requires c = part_n c.requires

pub floor-ny-requires : goal.floor-ny-requires
floor-ny-requires c = part_n c.requires

pub cross_in-requires : goal.cross_in-requires
cross_in-requires c = let i = c.requires in
    twice_in i (i.rows 0) c.floor-mx.ensures.short.is_row

pub cross_in-requires-2 : goal.cross_in-requires-2
cross_in-requires-2 c = let i = c.requires in
    twice_in i (i.rows 3) c.floor-nx.ensures.short.is_row

pub shape-requires : goal.shape-requires
shape-requires c = record {
  hu = (c.requires.rows 6).size;
  hmx = c.floor-mx.ensures.short.is_row.size;
  hmy = c.floor-my.ensures.short.is_row.size;
  hnx = c.floor-nx.ensures.short.is_row.size;
  hny = c.floor-ny.ensures.short.is_row.size;
  hzm = c.cross_in.ensures.short.is_row.size;
  hzn = c.cross_in-2.ensures.short.is_row.size;
}

pub returns : goal.returns
returns c = let i = c.requires in
    let mx = c.floor-mx.ensures in
    let my = c.floor-my.ensures in
    let nx = c.floor-nx.ensures in
    let ny = c.floor-ny.ensures in
    λ μ. shaped_of μ i mx my nx ny c.cross_in.ensures.crossed c.cross_in-2.ensures.crossed c.shape.ensures
