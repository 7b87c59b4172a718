-- `lister::pass` meets its contract.
use mathlib.Core.Path.{refl, ◌∙◌}
use mathlib.Core.Logic.{inl, inr}
use Prim.Native.Nat.{suc}
use native.Mathlib.Omega.{arith}
use Rattle.lister.specs.Listing.{here, more}
use Rattle.lister.proofs.Paces.{stride}
use Rattle.lister.proofs.pass.Goals as goal

pub returns-in_default : goal.returns-in_default
returns-in_default c = record { steps = 0; way = here; stops = inr (let h = c.in_default.ensures in omega arith) }

pub loop-g-init : goal.loop-g-init
loop-g-init c = (refl, refl, (0, here))

pub loop-g-smaller : goal.loop-g-smaller
loop-g-smaller c = let h = (stride c.step-g.ensures).forward c.loop-g-test.true in
    let l = c.loop-g-test.true in
    omega arith

pub loop-g-preserved : goal.loop-g-preserved
loop-g-preserved c = (
  c.step-g.auto.kept ∙ c.loop-g.invariant.0,
  c.step-g.auto.out ∙ c.loop-g.invariant.1,
  (suc _, more c.loop-g.invariant.2.1 c.loop-g-test.true (let h = c.in-Some.ensures in let l = c.if-g-last.true in omega arith) c.step-g.ensures),
)

pub returns-else-g-last : goal.returns-else-g-last
returns-else-g-last c = record { steps = _; way = c.loop-g.invariant.2.1; stops = inr (let h = c.in-Some.ensures in let l = c.if-g-last.false in omega arith) }

pub returns-after-loop-g : goal.returns-after-loop-g
returns-after-loop-g c = record { steps = _; way = c.loop-g.invariant.2.1; stops = inl c.loop-g-test.false }
