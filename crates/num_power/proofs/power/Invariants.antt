-- `num_power::power` meets its contract. The loop's invariant: r b^n = a^e mod p, r and b below p. The measure is n.
use mathlib.Core.Path.{◌≡◌}
use Prim.Native.Nat.{◌*◌, ◌%◌, ◌^◌, ◌<◌}
use Rattle.num_power.proofs.power.Given as goal

abbrev pub invariant-loop-n : goal.invariant-loop-n
invariant-loop-n l = (l.r < l.p) × (l.b < l.p) × ((l.r * l.b ^ l.n) % l.p ≡ (l.a ^ l.e) % l.p)

abbrev pub decreases-loop-n : goal.decreases-loop-n
decreases-loop-n l = l.n
