-- `field_next::lack` meets its contract.
use Prim.Native.Nat.{◌-◌, ◌+◌}
use native.Mathlib.Nat.{mod-lt}
use borrow.Author.Rules.{rules}
use Rattle.field_next.proofs.lack.Goals as goal

pub returns : goal.returns
returns c = record { value = search rules; below = mod-lt (c.args.x + (c.args.p - c.args.y)) c.requires.pos }
