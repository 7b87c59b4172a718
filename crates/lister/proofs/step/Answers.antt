-- `lister::step` meets its contract.
use mathlib.Core.Path.{refl, sym}
use lib.Seq.{length-take-le}
use Rattle.text_cut.proofs.Steps.{whole_step}
use Rattle.text_cut.specs.declared.Step.TheVariants.{Whole, Broken, Pending}
use Rattle.lister.proofs.step.Goals as goal

pub slice_bounds-answer-end : goal.slice_bounds-answer-end
slice_bounds-answer-end c = (whole_step c.args.kept.now c.args.g.n c.args.s.now c.args.g.at c.next_line.new.kept refl c.in-Whole.ensures).0

pub slice_bounds-answer-end-in-Whole : goal.slice_bounds-answer-end-in-Whole
slice_bounds-answer-end-in-Whole c = sym (length-take-le _ _ (whole_step c.args.kept.now c.args.g.n c.args.s.now c.args.g.at c.next_line.new.kept refl c.in-Whole.ensures).0)

pub returns-in-Whole : goal.returns-in-Whole
returns-in-Whole c = record { c = Whole c.in-Whole.m c.in-Whole.next; cuts = c.in-Whole.ensures; does = (refl, refl, c.answer.ensures) }

pub returns-in-Broken : goal.returns-in-Broken
returns-in-Broken c = record { c = Broken c.in-Broken.next; cuts = c.in-Broken.ensures; does = (refl, refl, c.put_refused.ensures) }

pub returns-in-Pending : goal.returns-in-Pending
returns-in-Pending c = record { c = Pending c.in-Pending.m; cuts = c.in-Pending.ensures; does = (refl, refl, refl, refl) }
