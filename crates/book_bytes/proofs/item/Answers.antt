-- `book_bytes::item` meets its contract.
use lib.ListN.{get_or-eq_default}
use Rattle.book_bytes.specs.Bytes.{u2, list_at}
use Rattle.book_bytes.proofs.Lists.{length_list, list_read}
use Prim.Native.Nat.{◌*◌, ◌+◌}
use mathlib.Core.Path.{◌≡◌, sym}
use native.Mathlib.Omega.{arith}
use lib.ListN.{length}
use Rattle.book_bytes.proofs.item.Goals as goal

pub returns-then-i-two : goal.returns-then-i-two
returns-then-i-two c = list_read _ _ _ _ _ _ _ (omega arith) c.start.ensures.0 c.two-then-i-two.ensures.0

pub returns-else-i-two : goal.returns-else-i-two
returns-else-i-two c = let a = c.args in
    sym (get_or-eq_default (list_at a.head a.from a.s.now a.k) 0 {n = a.i} (let e : length (list_at a.head a.from a.s.now a.k) ≡ u2
    a.s.now (a.from + 2 * a.k) = length_list a.head a.from a.s.now a.k in omega arith))
