-- `lister::pass` meets its contract.
use mathlib.Core.Path.{◌≡◌}
use Prim.Native.Nat.{ℕ, ◌-◌}
use lib.ListN.{length}
use Rattle.lister.specs.Listing.{Way}
use Rattle.lister.proofs.pass.Given as goal

abbrev pub invariant-loop-g : goal.invariant-loop-g
invariant-loop-g l = (length l.kept ≡ length l.initial.kept) × (length l.out ≡ length l.initial.out) × ((i : ℕ) × Way l.initial.kept l.s l.initial.out l.initial.g i l.g l.kept l.out)

abbrev pub decreases-loop-g : goal.decreases-loop-g
decreases-loop-g l = length l.s - l.g.at
