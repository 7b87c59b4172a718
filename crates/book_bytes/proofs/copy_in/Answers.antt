-- `book_bytes::copy_in` meets its contract.
use mathlib.Core.Path.{refl}
use native.Mathlib.Omega.{arith}
use Rattle.base_lists.proofs.Puts.{written_none, written_more, written_all}
use Rattle.book_bytes.proofs.copy_in.Goals as goal

pub loop-v-init : goal.loop-v-init
loop-v-init c = written_none _ c.args.at

pub bounds-out-o : goal.bounds-out-o
bounds-out-o c = let q = c.loop-v.invariant in let s = q.same in let n = q.next in omega arith

pub overflow_add-o : goal.overflow_add-o
overflow_add-o c = let q = c.loop-v.invariant in let s = q.same in let n = q.next in omega arith

pub loop-v-preserved : goal.loop-v-preserved
loop-v-preserved c = written_more _ _ _ c.loop-v.v-index c.loop-v.o _ _ (omega arith) refl c.loop-v.invariant

pub shape_of-out : goal.shape_of-out
shape_of-out c = c.loop-v.invariant.same

pub returns : goal.returns
returns c = written_all _ _ _ _ c.loop-v.v-index _ _ refl (omega arith) (omega arith) c.loop-v.invariant
