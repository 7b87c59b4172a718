-- `book_rule::unit_at` meets its contract.
use Prim.Native.Nat.{ℕ}
use mathlib.Core.Path.{◌≡◌, refl}
use native.Mathlib.Omega.{arith}
use lib.ListN.{length, replicate}
use Rattle.base_answers.proofs.Tests.{answer_no}
use Rattle.base_lists.proofs.Puts.{front_count}
use Rattle.book_rule.proofs.Facts.{row_short, row_decided}
use Rattle.book_rule.proofs.unit_at.Goals as goal

pub returns-then-n-gt-LONGEST : goal.returns-then-n-gt-LONGEST
returns-then-n-gt-LONGEST c = answer_no (row_short c.args.s.now c.args.k _ _ c.two-n.ensures.0 c.if-n-gt-LONGEST.true)

pub slice_bounds-unit_list-end : goal.slice_bounds-unit_list-end
slice_bounds-unit_list-end c = front_count c.read_list-m.ensures (let e : length {A = ℕ} (replicate 4096 0) ≡ 4096 = refl in omega arith)

pub returns : goal.returns
returns c = let a = c.args in
    row_decided a.s.now a.k (replicate 4096 0) _ _ (let e : length {A = ℕ} (replicate 4096 0) ≡ 4096 = refl in omega arith)
    c.read_list-m.ensures _ _ c.two-p.ensures.0 c.unit_list.ensures
