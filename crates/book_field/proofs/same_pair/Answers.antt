-- `book_field::same_pair` meets its contract: the body's two lists are at most 13 long, and what is read of them is compared.
use mathlib.Core.Path.{sym}
use native.Mathlib.Omega.{arith}
use lib.Seq.{length-take-le}
use Rattle.base_lists.proofs.Puts.{front_is}
use Rattle.book_body.specs.Body.{list_at}
use Rattle.book_field.proofs.Compare.{short_g, short_h, both_read, one_read}
use Rattle.book_field.proofs.same_pair.Goals as goal

pub read_list-n2-requires : goal.read_list-n2-requires
read_list-n2-requires c = let f = c.requires.sold.second in (omega arith, omega arith, omega arith, omega (arith, short_g _ f, short_h _ f))

pub read_list-m2-requires : goal.read_list-m2-requires
read_list-m2-requires c = let f = c.requires.sold.second in (omega arith, omega arith, omega arith, omega (arith, short_g _ f, short_h _ f))

pub slice_bounds-g2-end : goal.slice_bounds-g2-end
slice_bounds-g2-end c = let f = c.requires.sold.second in
    let e = c.read_list-n2.ensures in
    omega (arith, e.next, e.same, short_g _ f, short_h _ f)

pub slice_bounds-one_field-end : goal.slice_bounds-one_field-end
slice_bounds-one_field-end c = let f = c.requires.sold.second in
    let e = c.read_list-n2.ensures in
    sym (length-take-le _ _ (omega (arith, e.next, e.same, short_g _ f, short_h _ f)))

pub slice_bounds-h2-end : goal.slice_bounds-h2-end
slice_bounds-h2-end c = let f = c.requires.sold.second in
    let e = c.read_list-m2.ensures in
    omega (arith, e.next, e.same, short_g _ f, short_h _ f)

pub slice_bounds-one_field-end-2 : goal.slice_bounds-one_field-end-2
slice_bounds-one_field-end-2 c = let f = c.requires.sold.second in
    let e = c.read_list-m2.ensures in
    sym (length-take-le _ _ (omega (arith, e.next, e.same, short_g _ f, short_h _ f)))

pub one_field-requires : goal.one_field-requires
one_field-requires c = let f = c.requires.sold.second in
    both_read _ c.requires
    (front_is {x = list_at c.args.b.now 0} c.read_list-n2.ensures (omega (arith, short_g _ f)))
    (front_is {x = list_at c.args.b.now 1} c.read_list-m2.ensures (omega (arith, short_h _ f)))

pub returns : goal.returns
returns c = let f = c.requires.sold.second in
    one_read _ c.requires
    (front_is {x = list_at c.args.b.now 0} c.read_list-n2.ensures (omega (arith, short_g _ f)))
    (front_is {x = list_at c.args.b.now 1} c.read_list-m2.ensures (omega (arith, short_h _ f)))
    _ c.one_field.ensures
