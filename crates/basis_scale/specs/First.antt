-- The basis of the order: the reduction of r and w, whose denominator is 1.
--   unit, nothing     the rows of 1 and of 0
--   units             the elements r and w
--   OrderAsks F top     the numbers are in range, and top is deg r + deg w + 1
-- The contract of `order` is `Based`. That the record is then the basis of the order O of an accepted field is `order_start` in proofs/First.antt.
use Rattle.std.specs.Prelude.{◌≡◌, List, ℕ, suc, ◌+◌, ◌%◌, ◌≤◌, set, replicate}
use Rattle.basis_parts.specs.Frame.{Frame, Fine, Meaning}
use Rattle.basis_clear.specs.Clear.{Pair, pair}

abbrev pub nothing : List ℕ
nothing = replicate 32 0

abbrev pub unit : List ℕ
unit = set (replicate 32 0) 0 1

abbrev pub units : Pair
units = pair unit nothing nothing unit

pub record OrderAsks (F : Frame) (top : ℕ) : Type 0 where
  pub fine : Fine F
  pub small : F.m.p ≤ 65535
  pub odd : F.m.p % 2 ≡ 1
  pub top_is : top ≡ suc (F.dr + F.dw)
  pub fits : top ≤ 17
  pub some : Meaning F
