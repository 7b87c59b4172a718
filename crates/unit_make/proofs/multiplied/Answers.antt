-- `multiplied` meets its contract: proofs/Turning.antt.
use Prim.Native.Nat.{◌-◌}
use mathlib.Core.Path.{◌∙◌, ap}
use lib.ListN.{length, length-replicate}
use Rattle.unit_finish.proofs.Stored.{stored_g, stored_h, stored_gh}
use Rattle.unit_make.proofs.Turning.{turn_in, multiplies}
use Rattle.unit_make.proofs.multiplied.Goals as goal

pub to_stored-g-requires : goal.to_stored-g-requires
to_stored-g-requires c = stored_g c.requires.known.kept

pub to_stored-h-requires : goal.to_stored-h-requires
to_stored-h-requires c = stored_h c.requires.known.kept

pub to_stored-gh-requires : goal.to_stored-gh-requires
to_stored-gh-requires c = stored_gh c.requires.known.kept

pub multiply_by_m-requires : goal.multiply_by_m-requires
multiply_by_m-requires c = let a = c.args in
    turn_in a.f a.c a.n a.b a.rows.now a.s.now _ _ _ c.to_stored-g.ensures c.to_stored-h.ensures c.to_stored-gh.ensures c.requires

pub shape_of-rows : goal.shape_of-rows
shape_of-rows c = c.multiply_by_m.ensures.size

pub shape_of-s : goal.shape_of-s
shape_of-s c = ap length c.multiply_by_m.ensures.blank ∙ length-replicate (length c.args.s.now) 0

pub returns : goal.returns
returns c = let a = c.args in
    multiplies a.f a.c a.n a.b a.rows.now a.s.now _ _ _ c.to_stored-g.ensures c.to_stored-h.ensures c.to_stored-gh.ensures _ _
    c.requires.space.whole c.multiply_by_m.ensures
