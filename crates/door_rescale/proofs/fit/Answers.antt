-- `door_rescale::fit` meets its contract.
use mathlib.Core.Path.{subst}
use mathlib.Core.Bool.{true}
use Prim.Native.Nat.{◌/◌}
use lib.ListN.{length}
use Rattle.base_answers.proofs.Limits.{no_six, six_of}
use Rattle.unit_scale.specs.Scale.{meant}
use Rattle.door_rescale.specs.Test.{Misscaled}
use Rattle.door_rescale.proofs.Testing.{unfit_six, unfit_last}
use Rattle.door_rescale.proofs.fit.Goals as goal
use Rattle.door_rescale.proofs.fit.Goals.{then-no_six_rows-via-then-no_six_rows, then-no_six_rows-via-else-no_six_rows+then-misscaled}

pub returns-then-no_six_rows-clause-rule : goal.returns-then-no_six_rows-clause-rule
returns-then-no_six_rows-clause-rule c = let a = c.args in
    elim c.then-no_six_rows.branch [
      | then-no_six_rows-via-then-no_six_rows w ↦ unfit_six a.f a.from a.to a.rows.now (no_six c.no_six_rows.ensures w.if-no_six_rows.true)
      | then-no_six_rows-via-else-no_six_rows+then-misscaled w ↦ unfit_last a.f a.from a.to a.rows.now true (six_of c.no_six_rows.ensures w.if-no_six_rows.false)
          (meant c.in_ok-k.k, c.in_ok-k.ensures.some) (meant c.in_ok-l.l, c.in_ok-l.ensures.some)
          (subst (λ n. Misscaled a.f n (length a.rows.now / 6) a.rows.now true) c.in_ok-k.ensures.some (subst (Misscaled _ _ _ _) w.if-misscaled.true w.misscaled.ensures))
    ]
