-- `text_end::finish` meets its contract.
use Rattle.text_end.proofs.Ending.{end_none, end_some}
use Rattle.text_end.proofs.finish.Goals as goal

pub returns-then-n-eq0 : goal.returns-then-n-eq0
returns-then-n-eq0 c = end_none c.args.out.now c.args.n c.if-n-eq0.true

pub returns-else-n-eq0 : goal.returns-else-n-eq0
returns-else-n-eq0 c = end_some c.args.n c.if-n-eq0.false c.put_refused.ensures
