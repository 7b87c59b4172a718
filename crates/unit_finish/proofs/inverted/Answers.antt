-- `inverted` meets its contract: proofs/Cofactor.antt.
use Prim.Native.Nat.{◌-◌}
use mathlib.Core.Path.{◌∙◌, ap}
use lib.ListN.{length, length-replicate}
use Rattle.unit_finish.proofs.Stored.{stored_g, stored_h, stored_gh}
use Rattle.unit_finish.proofs.Cofactor.{minus_in, stored_minus, invert_in, inverses}
use Rattle.unit_finish.proofs.inverted.Goals as goal

pub minus-requires : goal.minus-requires
minus-requires c = minus_in c.requires.known.kept

pub to_stored-g-requires : goal.to_stored-g-requires
to_stored-g-requires c = stored_g c.requires.known.kept

pub to_stored-h-requires : goal.to_stored-h-requires
to_stored-h-requires c = stored_h c.requires.known.kept

pub to_stored-gh-requires : goal.to_stored-gh-requires
to_stored-gh-requires c = stored_gh c.requires.known.kept

pub to_stored-ngh-requires : goal.to_stored-ngh-requires
to_stored-ngh-requires c = stored_minus c.requires.known.kept.accepted c.minus.ensures

pub invert-requires : goal.invert-requires
invert-requires c = let a = c.args in
    invert_in a.f a.c a.k a.rows.now a.s.now _ _ _ c.minus.result _ c.to_stored-g.ensures c.to_stored-h.ensures
    c.to_stored-gh.ensures c.to_stored-ngh.ensures c.minus.ensures c.requires

pub shape_of-rows : goal.shape_of-rows
shape_of-rows c = c.invert.ensures.size

pub shape_of-s : goal.shape_of-s
shape_of-s c = ap length c.invert.ensures.blank ∙ length-replicate (length c.args.s.now) 0

pub returns : goal.returns
returns c = let a = c.args in
    inverses a.f a.c a.k a.rows.now a.s.now _ _ _ c.minus.result _ c.to_stored-g.ensures c.to_stored-h.ensures
    c.to_stored-gh.ensures c.to_stored-ngh.ensures c.minus.ensures _ _ c.invert.ensures
