-- `text_put::put_byte` meets its contract.
use Rattle.base_lists.proofs.Puts.{put_in, put_out}
use Rattle.text_put.proofs.put_byte.Goals as goal

pub returns-then-at-out : goal.returns-then-at-out
returns-then-at-out c = put_in c.args.out.now c.args.at c.args.b c.if-at-out.true

pub returns-else-at-out : goal.returns-else-at-out
returns-else-at-out c = put_out c.args.out.now c.args.at c.args.b c.if-at-out.false
