-- `pair_agree::paired` meets its contract.
use Rattle.pair_agree.proofs.Outcomes.{first_apart}
use Rattle.pair_agree.proofs.paired.Goals as goal

pub returns-else-agree-2 : goal.returns-else-agree-2
returns-else-agree-2 c = first_apart c.requires (c.agree.ensures.yes! c.if-agree.true) (c.agree-then-agree.ensures.no! c.if-agree-2.false)
