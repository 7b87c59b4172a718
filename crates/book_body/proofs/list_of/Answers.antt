-- `book_body::list_of` meets its contract.
use Rattle.book_body.specs.Code.{none, short}
use Rattle.book_bytes.proofs.Lists.{length_list}
use Rattle.book_body.proofs.Facts.{list_got}
use mathlib.Core.Path.{refl}
use native.Mathlib.Omega.{arith}
use Rattle.book_body.proofs.list_of.Goals as goal

pub returns-then-k-gt4 : goal.returns-then-k-gt4
returns-then-k-gt4 c = none (omega arith) refl refl

pub returns-then-n-out : goal.returns-then-n-out
returns-then-n-out c = let a = c.args in let n = length_list 16 2 a.s.now a.k in short (omega arith) (omega arith) refl refl

pub returns : goal.returns
returns c = let a = c.args in
    list_got a.s.now a.k _ _ _ (omega arith) c.read_list.ensures (omega arith)
