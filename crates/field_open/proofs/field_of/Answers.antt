-- `field_open::field_of` meets its contract. The degrees are at most 16, so that every sum fits and every index is inside.
use native.Mathlib.Omega.{arith}
use Rattle.field_open.proofs.Parts.{length_of}
use Rattle.field_open.proofs.Rows.{product_room, field_holds}
use Rattle.field_open.proofs.field_of.Goals as goal

pub mul-z-requires : goal.mul-z-requires
mul-z-requires c = product_room c.requires c.from_list-x.ensures c.from_list-y.ensures

pub overflow_mul-result : goal.overflow_mul-result
overflow_mul-result c = omega (arith, length_of _ c.requires.list_g c.list_length-lg.ensures, length_of _ c.requires.list_h c.list_length-lh.ensures, c.requires.sum)

pub overflow_add-result : goal.overflow_add-result
overflow_add-result c = omega (arith, length_of _ c.requires.list_g c.list_length-lg.ensures, length_of _ c.requires.list_h c.list_length-lh.ensures, c.requires.sum)

pub overflow_mul-result-2 : goal.overflow_mul-result-2
overflow_mul-result-2 c = omega (arith, length_of _ c.requires.list_g c.list_length-lg.ensures, length_of _ c.requires.list_h c.list_length-lh.ensures, c.requires.sum)

pub overflow_add-result-2 : goal.overflow_add-result-2
overflow_add-result-2 c = omega (arith, length_of _ c.requires.list_g c.list_length-lg.ensures, length_of _ c.requires.list_h c.list_length-lh.ensures, c.requires.sum)

pub returns : goal.returns
returns c = field_holds c.requires c.from_list-x.ensures c.from_list-y.ensures _ _
    c.list_length-lg.ensures c.list_length-lh.ensures c.mul-z.ensures
