-- `advance`: what is neither passed over nor unfit is walked.
use Rattle.door_record.specs.Advance.{walked}
use Rattle.door_record.proofs.Outcomes.{fits}
use Rattle.door_record.proofs.advance.Goals as goal

pub after-requires-clause-fits : goal.after-requires-clause-fits
after-requires-clause-fits c = fits _ _ (c.unfit.ensures.no! c.if-unfit.false) c.walk_from-w.ensures.walks

pub returns : goal.returns
returns c = walked (c.passed_over.ensures.no! c.if-passed_over.false) (c.unfit.ensures.no! c.if-unfit.false) _ c.walk_from-w.ensures.walks
    c.after.ensures
