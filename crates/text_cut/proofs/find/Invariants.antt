-- `text_cut::find` meets its contract. The invariant: from i on the first c is where it is from `from` on.
use Prim.Native.Nat.{◌+◌}
use mathlib.Core.Path.{◌≡◌}
use lib.ListN.{length, drop}
use Rattle.text_cut.specs.Pieces.{until}
use Rattle.text_cut.proofs.find.Given as goal

abbrev pub invariant-loop-i : goal.invariant-loop-i
invariant-loop-i l = l.i + length (until l.c (drop l.i l.s)) ≡ l.from + length (until l.c (drop l.from l.s))
