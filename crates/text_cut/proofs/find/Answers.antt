-- `text_cut::find` meets its contract. The invariant: from i on the first c is where it is from `from` on.
use mathlib.Core.Path.{refl, ◌∙◌}
use Rattle.text_cut.proofs.Cuts.{until_here, search_here, search_on, search_past}
use Rattle.text_cut.proofs.find.Goals as goal

pub loop-i-init : goal.loop-i-init
loop-i-init c = refl

pub returns-then-s-i : goal.returns-then-s-i
returns-then-s-i c = let a = c.args in
    search_here a.c a.s.now c.loop-i.i _ (until_here a.c a.s.now c.loop-i.i c.loop-i-test.true c.if-s-i.true)
    c.loop-i.invariant

pub loop-i-preserved : goal.loop-i-preserved
loop-i-preserved c = search_on c.args.c c.args.s.now c.loop-i.i _ c.loop-i-test.true c.if-s-i.false c.loop-i.invariant

pub returns : goal.returns
returns c = c.max.ensures ∙ search_past c.args.c c.args.s.now c.args.from c.loop-i.i c.loop-i-test.false c.loop-i.auto.i-end c.loop-i.invariant
