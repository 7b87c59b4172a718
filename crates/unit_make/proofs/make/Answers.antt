-- `make` meets its contract: proofs/Whole.antt.
use Prim.Native.Nat.{◌-◌}
use mathlib.Core.Path.{◌∙◌, ap}
use lib.ListN.{length, length-replicate}
use Rattle.unit_make.proofs.Whole.{make_start, make_product, make_finish, making}
use Rattle.unit_make.proofs.make.Goals as goal

pub started-requires : goal.started-requires
started-requires c = let a = c.args in
    make_start a.f a.b a.steps a.d a.c a.rows.now a.s.now c.requires

pub product-requires : goal.product-requires
product-requires c = let a = c.args in
    make_product a.f a.b a.steps a.d a.c a.rows.now a.s.now _ _ c.started.ensures c.requires

pub finished-requires : goal.finished-requires
finished-requires c = let a = c.args in
    make_finish a.f a.b a.steps a.d a.c a.rows.now a.s.now _ _ c.started.ensures _ _ c.product.ensures c.requires

pub shape_of-rows : goal.shape_of-rows
shape_of-rows c = let a = c.args in
    (making a.f a.b a.steps a.d a.c a.rows.now a.s.now _ _ c.started.ensures _ _ c.product.ensures _ _ c.finished.ensures).size

pub shape_of-s : goal.shape_of-s
shape_of-s c = let a = c.args in
    ap length (making a.f a.b a.steps a.d a.c a.rows.now a.s.now _ _ c.started.ensures _ _ c.product.ensures _ _
    c.finished.ensures).blank ∙ length-replicate (length a.s.now) 0

pub returns : goal.returns
returns c = let a = c.args in
    making a.f a.b a.steps a.d a.c a.rows.now a.s.now _ _ c.started.ensures _ _ c.product.ensures _ _ c.finished.ensures
