-- The turns so far are a run, and what they read and wrote is what the reader lost and the writer got.
use mathlib.Core.List.{List}
use Rattle.std.specs.Io.KnownBytes.{Consumes, Appends}
use Rattle.units.specs.Serve.{Call, Run, brought, took}
use Rattle.units.proofs.run.Given as goal

abbrev pub invariant-loop : goal.invariant-loop
invariant-loop g l =
    (cs : List Call) × Run cs l.kept l.buf l.out l.s × Consumes (g.R.Read.remaining l.fn.input) (g.R.Read.remaining l.input) (brought cs)
    × Appends (g.W.Write.contents l.fn.output) (g.W.Write.contents l.output) (took cs)
