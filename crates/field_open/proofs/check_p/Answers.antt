-- `field_open::check_p` meets its contract: refusal 1 has two ways in.
use mathlib.Core.Path.{refl}
use mathlib.Core.Logic.{inl}
use native.Mathlib.Omega.{arith}
use Rattle.field_open.proofs.Parts.{no_prime}
use Rattle.field_open.proofs.check_p.Goals as goal
use Rattle.field_open.proofs.check_p.Goals.{then-p-lt5-via-then-p-lt5, then-p-lt5-via-else-p-lt5+then-not-is_prime}

pub returns-then-p-lt5 : goal.returns-then-p-lt5
returns-then-p-lt5 c = elim c.then-p-lt5.branch [
  | then-p-lt5-via-then-p-lt5 w ↦ inl (inl (omega arith), refl)
  | then-p-lt5-via-else-p-lt5+then-not-is_prime w ↦ inl (no_prime _ _ w.is_prime.ensures w.if-not-is_prime.true, refl)
]
