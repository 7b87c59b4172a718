-- `text_put::put_list` meets its contract.
use Rattle.text_put.proofs.Texts.{first_put}
use Rattle.text_put.proofs.put_list.Goals as goal

pub returns : goal.returns
returns c = first_put c.args.l.now c.args.n _ c.min.ensures c.put_all.ensures
