-- `book_first::earlier` meets its contract: the body's two lists are at most 13 long, and what is read of them stands for the body.
use mathlib.Core.Path.{sym}
use native.Mathlib.Omega.{arith}
use lib.Seq.{length-take-le}
use Rattle.base_lists.proofs.Puts.{front_is}
use Rattle.book_body.specs.Body.{list_at}
use Rattle.book_field.proofs.Compare.{short_g, short_h}
use Rattle.book_first.proofs.Search.{search_own, earliest_own}
use Rattle.book_first.proofs.earlier.Goals as goal

pub read_list-n-requires : goal.read_list-n-requires
read_list-n-requires c = let f = c.requires.own in (omega arith, omega arith, omega arith, omega (arith, short_g _ f, short_h _ f))

pub read_list-m-requires : goal.read_list-m-requires
read_list-m-requires c = let f = c.requires.own in (omega arith, omega arith, omega arith, omega (arith, short_g _ f, short_h _ f))

pub slice_bounds-g-end : goal.slice_bounds-g-end
slice_bounds-g-end c = let f = c.requires.own in
    let e = c.read_list-n.ensures in
    omega (arith, e.next, e.same, short_g _ f, short_h _ f)

pub slice_bounds-first_of-end : goal.slice_bounds-first_of-end
slice_bounds-first_of-end c = let f = c.requires.own in
    let e = c.read_list-n.ensures in
    sym (length-take-le _ _ (omega (arith, e.next, e.same, short_g _ f, short_h _ f)))

pub slice_bounds-h-end : goal.slice_bounds-h-end
slice_bounds-h-end c = let f = c.requires.own in
    let e = c.read_list-m.ensures in
    omega (arith, e.next, e.same, short_g _ f, short_h _ f)

pub slice_bounds-first_of-end-2 : goal.slice_bounds-first_of-end-2
slice_bounds-first_of-end-2 c = let f = c.requires.own in
    let e = c.read_list-m.ensures in
    sym (length-take-le _ _ (omega (arith, e.next, e.same, short_g _ f, short_h _ f)))

pub first_of-requires : goal.first_of-requires
first_of-requires c = search_own c.args.s.now c.args.b.now c.two-p.ensures.0
    (front_is {x = list_at c.args.b.now 0} c.read_list-n.ensures (omega (arith, short_g _ c.requires.own)))
    (front_is {x = list_at c.args.b.now 1} c.read_list-m.ensures (omega (arith, short_h _ c.requires.own)))
    c.requires

pub returns : goal.returns
returns c = earliest_own c.args.s.now c.args.b.now c.two-p.ensures.0
    (front_is {x = list_at c.args.b.now 0} c.read_list-n.ensures (omega (arith, short_g _ c.requires.own)))
    (front_is {x = list_at c.args.b.now 1} c.read_list-m.ensures (omega (arith, short_h _ c.requires.own)))
    c.first_of.ensures
