-- `units::run` meets its contract.
use mathlib.Core.List.{[], ◌++◌}
use native.Mathlib.Omega.{arith}
use Rattle.units.specs.Serve.{begin, more}
use Rattle.units.proofs.Turning.{none_read, none_written, reads_more, writes_more}
use Rattle.units.proofs.Hearing.{run_asks, ran}
use Rattle.units.proofs.run.Goals as goal

pub loop-init : goal.loop-init
loop-init g c = ([], begin _ _ _ c.requires.kept_size c.requires.room, none_read _, none_written _)

pub turn-s-requires : goal.turn-s-requires
turn-s-requires g c = run_asks c.loop.invariant.1

pub loop-preserved : goal.loop-preserved
loop-preserved g c =
    let i = c.loop.invariant in
    let t = c.turn-s.ensures in
    (t.calls ++ i.0, more i.1 (omega (arith, c.if-phase-gt1.false)) t.turn, reads_more _ _ _ t.calls i.0 i.2 t.input, writes_more _ _ _ t.calls i.0 i.3 t.output)

pub returns-then-phase-gt1 : goal.returns-then-phase-gt1
returns-then-phase-gt1 g c = let i = c.loop.invariant in ran i.1 _ _ _ _ i.2 i.3

pub returns-after-loop : goal.returns-after-loop
returns-after-loop g c = let i = c.loop.invariant in ran i.1 _ _ _ _ i.2 i.3
