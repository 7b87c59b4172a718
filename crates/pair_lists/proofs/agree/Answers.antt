-- `pair_lists::agree` meets its contract. The closure tests a pair of entries; both stand at one place of the two lists.
use mathlib.Core.Path.{ap, ◌∙◌}
use Prim.Native.Nat.{◌*◌, ◌<◌, ◌-◌}
use native.Mathlib.Omega.{arith}
use lib.ListN.{length, get_or}
use mir.Syntax.{w64}
use mir.Val.{Fits}
use Rattle.std.proofs.Common.{rules, tests}
use Rattle.std.proofs.lemmas.Grind.{get_or_default_zero}
use Rattle.std.proofs.lemmas.Iterator.{YieldsList-from_zip, YieldsList-from_slice, cases_from_all}
use Rattle.std.proofs.lemmas.Iterator.Adapters.{serves_from_places}
use Rattle.std.proofs.lemmas.Slice.Zip.{length-zip}
use Rattle.base_answers.proofs.Tests.{answer_no}
use Rattle.pair_lists.proofs.Agreeing.{some_in, entries_in, product_fits, long_no, Same, pair_at, pairs_settle}
use Rattle.pair_lists.proofs.agree.Goals as goal

pub returns-then-a-b : goal.returns-then-a-b
returns-then-a-b c = answer_no (long_no c.if-a-b.true)

pub overflow_sub-top : goal.overflow_sub-top
overflow_sub-top c = some_in c.requires

pub bounds-a-top : goal.bounds-a-top
bounds-a-top c = omega (arith, some_in c.requires)

pub bounds-b-top : goal.bounds-b-top
bounds-b-top c = omega (arith, some_in c.requires)

pub all-requires-clause-callable : goal.all-requires-clause-callable
all-requires-clause-callable c =
    let a = c.args.a.now in
    let b = c.args.b.now in
    let even = c.if-a-b.false in
    serves_from_places (YieldsList-from_zip (YieldsList-from_slice a cc) (YieldsList-from_slice b cc)) (λ x q r. search (rules, tests))
    (λ x k l e. let m : k < length a = omega (arith, length-zip a b) in
    let z = e ∙ pair_at c.requires even k (x.0.now, x.1.now) m in
    let n = entries_in c.requires even k m in
    let first = ap (λ p. p.0) z ∙ get_or_default_zero a k x.0.now m in
    let second = ap (λ p. p.1) z ∙ get_or_default_zero b k x.1.now (omega arith) in
    let some : 0 < c.args.p = omega (arith, c.requires.prime.big) in
    let u : Fits w64 (get_or b (length a - 1) 0 * x.0.now) = product_fits n.1 (omega (arith, n.2)) in
    let v : Fits w64 (get_or a (length a - 1) 0 * x.1.now) = product_fits n.0 (omega (arith, n.3)) in
    search rules)

pub returns : goal.returns
returns c = let a = c.args.a.now in
    let b = c.args.b.now in
    let s = c.requires in
    let even = c.if-a-b.false in
    pairs_settle s even c.all.result (cases_from_all c.all.new.self _ c.all.result (Same s even) (λ z. Same s even z → ⊥) c.all.ensures.ran
    (YieldsList-from_zip (YieldsList-from_slice a cc) (YieldsList-from_slice b cc)) (λ x q k. search (rules, tests)) (λ x q k. search (rules, tests)))
