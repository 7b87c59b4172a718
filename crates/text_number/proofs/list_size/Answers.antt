-- `text_number::list_size` meets its contract.
use mathlib.Core.Path.{sym, subst}
use native.Mathlib.Omega.{arith}
use Rattle.std.proofs.Common.{rules, tests}
use Rattle.text_put.specs.Print.{comma}
use Rattle.text_number.specs.Tells.{SizeTells}
use Rattle.text_number.proofs.Taken.{left_split, left_piece, few_pieces}
use Rattle.text_number.proofs.Lists.{numerals_none, numerals_more, numerals_bad, numerals_end}
use Rattle.text_number.proofs.list_size.Goals as goal

pub loop-part-init : goal.loop-part-init
loop-part-init c = let s = c.split-part-items.ensures in
    numerals_none (left_split comma c.args.s.now s.runs c.into_iter-part-iterator.ensures.into_iter_gives s.rest s.done s.closure (λ x r q k. search (rules, tests)))

pub overflow_add-n : goal.overflow_add-n
overflow_add-n c = let i = (left_piece c.next.new.self c.loop-part.invariant.left c.in-Some.part c.in-Some.ensures.steps).0 in
    let k = few_pieces comma c.args.s.now in omega arith

pub returns-in_err-number : goal.returns-in_err-number
returns-in_err-number c = subst (SizeTells _) (sym c.from_residual.ensures)
    (numerals_bad c.next.new.self c.loop-part.invariant c.in-Some.part c.in-Some.ensures.steps c.in_err-number.ensures)

pub loop-part-preserved : goal.loop-part-preserved
loop-part-preserved c = numerals_more c.next.new.self c.loop-part.invariant c.in-Some.part c.in-Some.ensures.steps c.in_ok-number.ensures

pub returns : goal.returns
returns c = numerals_end c.next.new.self c.loop-part.invariant c.in-None.ensures.steps
