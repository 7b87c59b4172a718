-- `field_open::check_lists` meets its contract: refusals 3 to 6.
use native.Mathlib.Omega.{arith}
use Rattle.field_open.proofs.Parts.{list_short, row_three, row_four, row_five, row_six, row_none}
use Rattle.field_open.proofs.check_lists.Goals as goal

pub returns-then-lh-eq0 : goal.returns-then-lh-eq0
returns-then-lh-eq0 c = row_three c.list_length-lg.ensures c.list_length-lh.ensures c.if-lg-eq0.false c.if-lh-eq0.true

-- the sum of two numbers up to 13 fits
pub overflow_add-d : goal.overflow_add-d
overflow_add-d c = omega (arith, list_short _ c.list_length-lg.ensures, list_short _ c.list_length-lh.ensures)

pub returns-then-d-e-eq0 : goal.returns-then-d-e-eq0
returns-then-d-e-eq0 c = row_four c.list_length-lg.ensures c.list_length-lh.ensures c.if-lg-eq0.false c.if-lh-eq0.false c.if-d-e-eq0.true

pub overflow_add-d-2 : goal.overflow_add-d-2
overflow_add-d-2 c = omega (arith, list_short _ c.list_length-lg.ensures, list_short _ c.list_length-lh.ensures)

pub returns-then-d-e-gt-HIGHEST : goal.returns-then-d-e-gt-HIGHEST
returns-then-d-e-gt-HIGHEST c = row_five c.list_length-lg.ensures c.list_length-lh.ensures c.if-lg-eq0.false c.if-lh-eq0.false c.if-d-e-eq0.false c.if-d-e-gt-HIGHEST.true

pub returns-then-d-e : goal.returns-then-d-e
returns-then-d-e c = row_six c.list_length-lg.ensures c.list_length-lh.ensures c.if-lg-eq0.false c.if-lh-eq0.false
    c.if-d-e-eq0.false c.if-d-e-gt-HIGHEST.false c.if-d-e.true

pub returns : goal.returns
returns c = row_none c.list_length-lg.ensures c.list_length-lh.ensures c.if-lg-eq0.false c.if-lh-eq0.false
    c.if-d-e-eq0.false c.if-d-e-gt-HIGHEST.false c.if-d-e.false
