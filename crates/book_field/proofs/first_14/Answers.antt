-- `book_field::first_14` meets its contract.
use Prim.Native.Nat.{ℕ, ◌<◌}
use mathlib.Core.Path.{◌≡◌}
use native.Mathlib.Omega.{arith}
use borrow.Author.Rules.{rules}
use lib.ListN.{get_or}
use Rattle.math_rows.proofs.Tab.{filled_end}
use Rattle.book_body.specs.Body.{list_at}
use Rattle.book_field.proofs.first_14.Goals as goal

pub returns : goal.returns
returns c =
    let h : (i : ℕ) → i < 14 → get_or c.from_fn.result i 0 ≡ get_or (list_at c.args.s.now c.args.k) i 0 = search rules in
    filled_end 14 _ c.from_fn.result 14 record { size = c.from_fn.ensures.items.long; upto = omega arith; done = h } (omega arith)
