-- `book_bytes::put_list` meets its contract.
use Rattle.book_bytes.proofs.Write.{list_none, list_more}
use native.Mathlib.Omega.{arith}
use Rattle.book_bytes.proofs.put_list.Goals as goal

pub loop-v-init : goal.loop-v-init
loop-v-init c = list_none c.args.out.now c.args.at c.args.l.now

pub loop-v-preserved : goal.loop-v-preserved
loop-v-preserved c = let a = c.args in
    list_more a.out.now a.at a.l.now c.loop-v.v-index c.loop-v.o c.loop-v.out _ _ (omega arith) c.loop-v.invariant c.put_two-o.ensures
