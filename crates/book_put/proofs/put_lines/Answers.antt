-- `book_put::put_lines` meets its contract.
use Rattle.book_put.proofs.Lines.{line_end_more, line_end_first, lines_none, line_read, lines_more, lines_all}
use Prim.Native.Nat.{suc, ◌*◌, ◌+◌}
use native.Mathlib.Omega.{arith}
use Rattle.book_put.proofs.put_lines.Goals as goal

pub loop-i-init : goal.loop-i-init
loop-i-init c = ((let e = line_end_first c.args.out.now (6 + 8 * suc c.args.c) in omega arith), lines_none c.args.out.now (6 + 8 * suc c.args.c))

pub put_line-o-requires : goal.put_line-o-requires
put_line-o-requires c = let w = c.loop-i.invariant in
    let q = w.1 in
    let s = q.same in
    let n = q.next in
    let e = w.0 in
    let h = c.requires.2 c.loop-i.i (omega arith) in
    (omega arith, omega arith, omega arith)

pub overflow_add-at-in-loop-i : goal.overflow_add-at-in-loop-i
overflow_add-at-in-loop-i c = let e = c.loop-i.invariant.0 in
    let h = c.requires.2 c.loop-i.i (omega arith) in
    let l = c.four-l.ensures.1 in
    omega arith

pub loop-i-preserved : goal.loop-i-preserved
loop-i-preserved c = let a = c.args in
    let w = c.loop-i.invariant in
    let m = line_end_more a.out.now (6 + 8 * suc a.c) c.loop-i.i in
    let l = line_read a.out.now (6 + 8 * suc a.c) c.loop-i.i _ _ _ w.1 c.four-l.ensures.0 in
    let e = w.0 in
    (omega arith, lines_more a.out.now (6 + 8 * suc a.c) c.loop-i.i _ _ _ _ _ _ e l w.1 c.put_line-o.ensures)

pub returns : goal.returns
returns c = let a = c.args in lines_all a.out.now (6 + 8 * suc a.c) a.c c.loop-i.i _ _ (omega arith) (omega arith) c.loop-i.invariant.1
