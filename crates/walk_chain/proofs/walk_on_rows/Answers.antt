-- `walk_on_rows` meets its contract. The loop's invariant is `Going`.
use Prim.Native.Nat.{◌-◌, ◌≤◌}
use mathlib.Core.Bool.{Bool}
use mathlib.Core.Path.{refl, subst}
use native.Mathlib.Omega.{arith}
use native.Mathlib.Numerals.{add-one}
use Rattle.base_answers.specs.Limits.{most}
use Rattle.walk_closed.specs.Closed.{OnePart}
use Rattle.walk_chain.proofs.Going.{going_start, record_at, gone_spent, degree_at, closed_at, gone_closed, going_more}
use Rattle.walk_chain.proofs.walk_on_rows.Goals as goal

pub loop-steps-init : goal.loop-steps-init
loop-steps-init c = going_start _ _ _ _ _ _ _ _ _ _

pub step_on_rows-o-requires : goal.step_on_rows-o-requires
step_on_rows-o-requires c = record {
  G = c.requires.G;
  H = c.requires.H;
  keeps = c.requires.keeps;
  is_a_record = record_at _ _ _ _ _ _ _ _ _ _ c.requires _ _ _ c.loop-steps.invariant;
}

pub overflow_add-sum : goal.overflow_add-sum
overflow_add-sum c = let d : c.step_on_rows-o.result.degree ≤ 16 = degree_at _ _ _ _ _ _ _ _ _ _ c.requires _ _ _ c.loop-steps.invariant c.step_on_rows-o.result c.step_on_rows-o.ensures in
    let l : c.args.budget ≤ most = c.requires.within in
    record { fits = omega arith }

pub is_closed-requires : goal.is_closed-requires
is_closed-requires c = closed_at _ _ _ _ _ _ _ _ _ _ c.requires _ _ _ c.loop-steps.invariant c.step_on_rows-o.result c.step_on_rows-o.ensures

pub returns-then-is_closed : goal.returns-then-is_closed
returns-then-is_closed c = gone_closed _ _ _ _ _ _ _ _ _ _ c.requires _ _ _ c.loop-steps.invariant c.step_on_rows-o.result c.step_on_rows-o.ensures (omega (arith, c.loop-steps-test.true)) _ _ (add-one _) refl
    (subst (λ (z : Bool). OnePart c.args.p c.step_on_rows-o.result.basis z) c.if-is_closed.true c.is_closed.ensures)

pub loop-steps-preserved : goal.loop-steps-preserved
loop-steps-preserved c = going_more _ _ _ _ _ _ _ _ _ _ c.requires _ _ _ c.loop-steps.invariant c.step_on_rows-o.result c.step_on_rows-o.ensures (omega (arith, c.loop-steps-test.true)) _ _ (add-one _) refl
    (subst (λ (z : Bool). OnePart c.args.p c.step_on_rows-o.result.basis z) c.if-is_closed.false c.is_closed.ensures)

pub returns : goal.returns
returns c = let u : c.loop-steps.steps ≤ c.args.budget = c.loop-steps.invariant.upto in
    gone_spent _ _ _ _ _ _ _ _ _ _ c.requires _ _ _ c.loop-steps.invariant (omega arith)
