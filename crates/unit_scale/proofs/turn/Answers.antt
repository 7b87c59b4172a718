-- `unit_scale::turn` meets its contract.
use Prim.Native.Nat.{◌-◌, ◌+◌}
use native.Mathlib.Omega.{arith}
use Rattle.unit_finish.proofs.Stored.{storable}
use Rattle.unit_scale.specs.Scale.{numbered}
use Rattle.unit_scale.proofs.Turning.{turns, twice_scaled}
use borrow.Author.Rules.{rules}
use Rattle.unit_scale.proofs.turn.Goals as goal

pub scale-requires : goal.scale-requires
scale-requires c = let m = storable c.requires.kept.accepted in let a = c.factor-by.ensures.below in let b = c.inverse-back.ensures.below in search rules

pub scale-requires-2 : goal.scale-requires-2
scale-requires-2 c = let m = storable c.requires.kept.accepted in
    let a = c.factor-by.ensures.below in
    let b = c.inverse-back.ensures.below in
    search rules

pub returns : goal.returns
returns c = let k = c.args.c + c.args.c + c.args.c in
    turns c.args.f (numbered c.args.convention) c.args.c _ _ c.args.rows.now _ c.factor-by.ensures c.inverse-back.ensures.law
    (twice_scaled c.args.f.field.p _ _ c.args.c c.args.rows.now _ _ (k - 0) (k + k - k) (omega arith) (omega arith) c.requires.holds.whole c.scale.ensures c.scale-2.ensures)
