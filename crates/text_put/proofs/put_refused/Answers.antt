-- `text_put::put_refused` meets its contract.
use mathlib.Core.Path.{◌∙◌}
use Rattle.base_lists.proofs.Puts.{placed_same}
use Rattle.text_put.proofs.Texts.{refused_put}
use Rattle.text_put.proofs.put_refused.Goals as goal

pub shape_of-out : goal.shape_of-out
shape_of-out c = placed_same c.put_byte.ensures ∙ placed_same c.put_number-number.ensures ∙ placed_same c.put_bytes-word.ensures

pub returns : goal.returns
returns c = refused_put c.args.n c.put_bytes-word.ensures c.put_number-number.ensures c.put_byte.ensures
