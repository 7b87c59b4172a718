-- `text_put::put_field` meets its contract: its five pieces one after the other, `line_put`.
use Rattle.text_put.proofs.Texts.{line_put, as_they_are}
use Rattle.text_put.proofs.put_field.Goals as goal

pub returns : goal.returns
returns c = let a = c.args in
    line_put a.p a.g.now a.h.now c.put_number-a.ensures c.put_byte-b.ensures (as_they_are _ c.put_all-c.ensures) c.put_byte-d.ensures
    (as_they_are _ c.put_all.ensures)
