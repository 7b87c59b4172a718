-- `is_closed` meets its contract: U begins with 1, and its other numbers are 0.
use mathlib.Core.Path.{◌≡◌, sym, subst}
use mathlib.Core.Logic.{◌≢◌}
use mathlib.Core.Bool.{false}
use lib.ListN.{get_or}
use Rattle.std.proofs.Common.{rules, tests, nat_eq}
use Rattle.std.specs.List.{between}
use Rattle.std.proofs.lemmas.Iterator.{YieldsList-from_slice, cases_from_all}
use Rattle.walk_closed.specs.Closed.{OnePart}
use Rattle.walk_closed.proofs.One.{first_other, rest_settles}
use Rattle.walk_closed.proofs.is_closed.Goals as goal

pub returns-then-b-eq1 : goal.returns-then-b-eq1
returns-then-b-eq1 c = rest_settles _ c.args.b.now c.if-b-eq1.true c.requires c.all.result
    (cases_from_all c.all.new.self _ c.all.result (λ x. x ≡ 0) (λ x. x ≢ 0) c.all.ensures.ran
    (YieldsList-from_slice (between 103 119 c.args.b.now) cc) (λ x q k. search (rules, tests)) (λ x q k. search (rules, tests)))

pub returns-else-b-eq1 : goal.returns-else-b-eq1
returns-else-b-eq1 c = let e : nat_eq (get_or c.args.b.now 102 0) 1 ≡ false = search (rules, tests) in
    subst (OnePart c.args.p c.args.b.now) (sym e) (first_other _ _ c.requires c.if-b-eq1.false)
