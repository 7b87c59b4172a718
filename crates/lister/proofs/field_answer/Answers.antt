-- `lister::field_answer` meets its contract: what `unit` answers, printed behind the fronts that the two lists stand for.
use mathlib.Core.Path.{sym}
use native.Mathlib.Omega.{arith}
use lib.Seq.{length-take-le}
use Rattle.lister_print.proofs.Prints.{told_put}
use Rattle.lister.proofs.Replies.{told_front}
use Rattle.lister.proofs.field_answer.Goals as goal

pub slice_bounds-put_made-end : goal.slice_bounds-put_made-end
slice_bounds-put_made-end c = sym (length-take-le _ _ (omega (arith, c.unpadded-n.ensures.fits)))

pub slice_bounds-put_made-end-2 : goal.slice_bounds-put_made-end-2
slice_bounds-put_made-end-2 c = sym (length-take-le _ _ (omega (arith, c.unpadded-k.ensures.fits)))

pub returns : goal.returns
returns c = let put = told_put _ _ _ c.unit-m.result c.map_err-made.ensures.cases c.put_made.ensures in
    told_front put c.unpadded-n.ensures c.unpadded-k.ensures c.unit-m.ensures
