-- `put` meets its contract.
use mathlib.Core.Path.{refl}
use mathlib.Core.Logic.{inl, inr}
use Rattle.capi_walk.proofs.put.Goals as goal

pub returns-then-n-eq0 : goal.returns-then-n-eq0
returns-then-n-eq0 c = record {
  number = refl;
  steps_is = refl;
  sum_is = refl;
  rows = record { stored = λ _. refl; kept = λ f g. elim c.then-n-eq0.either [ inl e ↦ absurd (f e) | inr e ↦ absurd (g e.1) ] };
}

pub returns-else-n-eq10 : goal.returns-else-n-eq10
returns-else-n-eq10 c = record {
  number = refl;
  steps_is = refl;
  sum_is = refl;
  rows = record { stored = elim [ inl e ↦ absurd (c.if-n-eq0.false e) | inr e ↦ absurd (c.if-n-eq10.false e) ]; kept = λ f g. refl };
}
