-- `lister_print::put_unit` meets its contract.
use Rattle.text_put.specs.Print.{line_text}
use Rattle.lister_print.proofs.Prints.{unit_put}
use Rattle.lister_print.proofs.put_unit.Goals as goal

pub returns : goal.returns
returns c = let a = c.args in
    unit_put (line_text a.p a.g.now a.h.now) a.cycle.period.0 a.cycle.regulator.0 a.rows.now _ _ _ _ _ _ _ _ _ _ c.put_field-a.ensures
    c.put_count-b.ensures c.put_count-c.ensures c.put_rows.ensures
