-- `book_bytes::read_list` meets its contract.
use Rattle.book_bytes.specs.Bytes.{u2, list_at}
use Rattle.book_bytes.proofs.Lists.{length_list, list_read}
use Rattle.base_lists.proofs.Puts.{written_more, written_all}
use Prim.Native.Nat.{◌*◌, ◌+◌}
use mathlib.Core.Path.{◌≡◌}
use native.Mathlib.Omega.{arith}
use lib.ListN.{length}
use Rattle.book_bytes.proofs.read_list.Goals as goal

pub loop-i-preserved : goal.loop-i-preserved
loop-i-preserved c = let a = c.args in
    let e : length (list_at a.head a.from a.s.now a.k) ≡ u2 a.s.now (a.from + 2 * a.k) = length_list a.head a.from a.s.now a.k in
    written_more _ _ (list_at a.head a.from a.s.now a.k) c.loop-i.i _ _ _ (omega arith)
    (list_read a.head a.from a.s.now a.k _ _ _ (omega arith) c.start-at.ensures.0 c.two.ensures.0) c.loop-i.invariant

pub returns : goal.returns
returns c = let a = c.args in
    let e : c.two-n.result ≡ c.loop-i.i = omega arith in
    rw e
    (written_all _ _ (list_at a.head a.from a.s.now a.k) _ c.loop-i.i _ _ (length_list a.head a.from a.s.now a.k) (omega (arith, c.two-n.ensures.0)) (omega (arith, c.two-n.ensures.0))
    c.loop-i.invariant)
