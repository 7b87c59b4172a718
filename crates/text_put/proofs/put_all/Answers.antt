-- `text_put::put_all` meets its contract.
use native.Mathlib.Omega.{arith}
use Rattle.text_put.proofs.Texts.{list_none, tail_none, tail_more, tail_end}
use Rattle.text_put.proofs.put_all.Goals as goal

pub returns-in_default : goal.returns-in_default
returns-in_default g c = list_none g.T.Entry.number c.args.l.now c.in_default.ensures.cases

pub loop-x-init : goal.loop-x-init
loop-x-init g c = tail_none _ _

pub loop-x-preserved : goal.loop-x-preserved
loop-x-preserved g c = tail_more g.T.Entry.number c.in-Some.others.now c.loop-x.x-index c.x-item.result (omega arith) c.x-item.is c.wide-in-loop-x.ensures c.loop-x.invariant
    c.put_byte-to.ensures c.put_number-to-in-loop-x.ensures

pub returns : goal.returns
returns g c = tail_end g.T.Entry.number c.args.l.now c.in-Some.others.now c.loop-x.x-index c.in-Some.first.now c.in-Some.ensures.cases.0 c.wide.ensures (omega arith) c.put_number-to.ensures
    c.loop-x.invariant
