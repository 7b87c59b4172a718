-- `lister::answer` meets its contract.
use mathlib.Core.Path.{sym}
use lib.Dec.{lit≤}
use lib.Seq.{length-take-le}
use Rattle.lister.proofs.Replies.{lent_G, lent_H, told_read, told_not}
use Rattle.lister.proofs.answer.Goals as goal

pub returns-in_default : goal.returns-in_default
returns-in_default c = told_not _ _ _ _ (lit≤ tt) (lit≤ tt) c.in_default.ensures c.put_refused.ensures

pub slice_bounds-g-end : goal.slice_bounds-g-end
slice_bounds-g-end c = lent_G c.in-Some.ensures

pub slice_bounds-field_answer-end : goal.slice_bounds-field_answer-end
slice_bounds-field_answer-end c = sym (length-take-le _ _ (lent_G c.in-Some.ensures))

pub slice_bounds-h-end : goal.slice_bounds-h-end
slice_bounds-h-end c = lent_H c.in-Some.ensures

pub slice_bounds-field_answer-end-2 : goal.slice_bounds-field_answer-end-2
slice_bounds-field_answer-end-2 c = sym (length-take-le _ _ (lent_H c.in-Some.ensures))

pub returns : goal.returns
returns c = told_read c.in-Some.ensures c.field_answer.ensures
