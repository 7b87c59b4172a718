-- `unit_inverse::invert` meets its contract: proofs/Inverting.antt.
use Prim.Native.Nat.{◌-◌, ◌+◌}
use mathlib.Core.Path.{◌∙◌, ap, refl}
use native.Mathlib.Omega.{arith}
use lib.ListN.{length}
use lib.ListN.{length-replicate}
use Rattle.unit_inverse.proofs.Inverting.{invert_asks, norm_asks, inverse_asks, inverted}
use Rattle.unit_inverse.proofs.invert.Goals as goal

pub cofactor-requires : goal.cofactor-requires
cofactor-requires c = invert_asks c.args.p c.args.c c.args.k c.args.g.now c.args.h.now c.args.gh.now c.args.ngh.now c.args.rows.now
    c.args.s.now c.requires c.args.c (c.args.c + c.args.c) 0 0 _ _ _ _ _ (omega arith) (omega arith) (omega arith) (omega arith) (omega arith)
    c.requires.ngh_most (omega arith) refl refl

pub cofactor-requires-2 : goal.cofactor-requires-2
cofactor-requires-2 c = invert_asks c.args.p c.args.c c.args.k c.args.g.now c.args.h.now c.args.gh.now c.args.ngh.now c.args.rows.now
    c.args.s.now c.requires (c.args.c + c.args.c) (c.args.c + c.args.c) 0 c.args.c _ _ _ _ _ (omega arith) (omega arith) (omega arith) (omega arith)
    (omega arith) c.requires.g_most (omega arith) c.cofactor.ensures.size c.cofactor.ensures.s_size

pub cofactor-requires-3 : goal.cofactor-requires-3
cofactor-requires-3 c = invert_asks c.args.p c.args.c c.args.k c.args.g.now c.args.h.now c.args.gh.now c.args.ngh.now c.args.rows.now
    c.args.s.now c.requires c.args.c c.args.c 0 (c.args.c + c.args.c) _ _ _ _ _ (omega arith) (omega arith) (omega arith) (omega arith) (omega arith)
    c.requires.h_most (omega arith) (c.cofactor-2.ensures.size ∙ c.cofactor.ensures.size) (c.cofactor-2.ensures.s_size ∙ c.cofactor.ensures.s_size)

pub norm-requires : goal.norm-requires
norm-requires c = norm_asks c.args.p c.args.c c.args.k c.args.g.now c.args.h.now c.args.gh.now c.args.ngh.now c.args.rows.now c.args.s.now
    c.requires _ _ _ _ _ _ c.cofactor.ensures c.cofactor-2.ensures c.cofactor-3.ensures

pub inverse-q-requires : goal.inverse-q-requires
inverse-q-requires c = inverse_asks c.args.p c.args.c c.args.k c.args.g.now c.args.h.now c.args.gh.now c.args.ngh.now c.args.rows.now
    c.args.s.now c.requires _ _ _ _ _ _ c.cofactor.ensures c.cofactor-2.ensures c.cofactor-3.ensures _ c.norm.ensures

pub offset_bounds-rows-c3 : goal.offset_bounds-rows-c3
offset_bounds-rows-c3 c = omega (arith, c.requires.most)

pub slice_bounds-scale-end : goal.slice_bounds-scale-end
slice_bounds-scale-end c = omega (arith, c.cofactor.ensures.size, c.cofactor-2.ensures.size, c.cofactor-3.ensures.size, c.requires.room)

pub scale-requires : goal.scale-requires
scale-requires c = record { modulus = c.requires.modulus; below = c.inverse-q.ensures.below }

pub shape_of-rows : goal.shape_of-rows
shape_of-rows c = (inverted c.args.p c.args.c c.args.k c.args.g.now c.args.h.now c.args.gh.now c.args.ngh.now c.args.rows.now c.args.s.now
    c.requires _ _ _ _ _ _ c.cofactor.ensures c.cofactor-2.ensures c.cofactor-3.ensures _ _ _ _
    (c.args.c + c.args.c + c.args.c + c.args.c + c.args.c + c.args.c - (c.args.c + c.args.c + c.args.c)) (omega arith)
    c.norm.ensures c.inverse-q.ensures c.scale.ensures c.clear.ensures).size

pub shape_of-s : goal.shape_of-s
shape_of-s c = ap length (inverted c.args.p c.args.c c.args.k c.args.g.now c.args.h.now c.args.gh.now c.args.ngh.now c.args.rows.now
    c.args.s.now c.requires _ _ _ _ _ _ c.cofactor.ensures c.cofactor-2.ensures c.cofactor-3.ensures _ _ _ _
    (c.args.c + c.args.c + c.args.c + c.args.c + c.args.c + c.args.c - (c.args.c + c.args.c + c.args.c)) (omega arith)
    c.norm.ensures c.inverse-q.ensures c.scale.ensures c.clear.ensures).blank ∙ length-replicate (length c.args.s.now) 0

pub returns : goal.returns
returns c = inverted c.args.p c.args.c c.args.k c.args.g.now c.args.h.now c.args.gh.now c.args.ngh.now c.args.rows.now c.args.s.now
    c.requires _ _ _ _ _ _ c.cofactor.ensures c.cofactor-2.ensures c.cofactor-3.ensures _ _ _ _
    (c.args.c + c.args.c + c.args.c + c.args.c + c.args.c + c.args.c - (c.args.c + c.args.c + c.args.c)) (omega arith)
    c.norm.ensures c.inverse-q.ensures c.scale.ensures c.clear.ensures
