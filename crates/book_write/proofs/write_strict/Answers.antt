-- `book_write::write_strict` meets its contract.
use Rattle.book_write.specs.Write.{body_from, field, rule, short}
use Rattle.book_write.proofs.Pieces.{known, head_of, lists_of, long_body, rule_any, done_of}
use mathlib.Core.Path.{refl}
use mathlib.Core.List.{[]}
use Rattle.std.proofs.lemmas.Result.{err_from_is_err_and}
use Rattle.base_answers.proofs.Faults.{some_number}
use native.Mathlib.Omega.{arith}
use Rattle.book_write.proofs.write_strict.Goals as goal

pub returns-in_err-strict_refusal : goal.returns-in_err-strict_refusal
returns-in_err-strict_refusal c = let p = err_from_is_err_and c.from_residual.result c.from_residual.ensures.1 in
    rw (p.1, p.2) (field _ (some_number _) c.in_err-strict_refusal.ensures refl refl)

pub returns-then-not-rule_of : goal.returns-then-not-rule_of
returns-then-not-rule_of c = let a = c.args in
    rule c.in_ok-strict_refusal.ensures
    (λ r. c.if-not-rule_of.ensures.no! refl (rule_any a.p a.g.now a.h.now [] [] a.period.0 a.a.now a.b.now a.c.now r)) refl refl

pub returns-then-size-out : goal.returns-then-size-out
returns-then-size-out c = let a = c.args in
    let b = body_from a.p a.g.now a.h.now a.period.0 a.a.now a.b.now a.c.now in
    let k = known a.p a.g.now a.h.now a.period.0 a.a.now a.b.now a.c.now c.in_ok-strict_refusal.ensures (c.if-not-rule_of.ensures.yes! refl) in
    short k.field k.rule (let e = long_body b in omega arith) refl refl

pub put_head-at-requires : goal.put_head-at-requires
put_head-at-requires c = let a = c.args in
    let b = body_from a.p a.g.now a.h.now a.period.0 a.a.now a.b.now a.c.now in
    let k = known a.p a.g.now a.h.now a.period.0 a.a.now a.b.now a.c.now c.in_ok-strict_refusal.ensures (c.if-not-rule_of.ensures.yes! refl) in
    head_of b _ k (omega arith)

pub put_lists-requires : goal.put_lists-requires
put_lists-requires c = let a = c.args in
    let b = body_from a.p a.g.now a.h.now a.period.0 a.a.now a.b.now a.c.now in
    let k = known a.p a.g.now a.h.now a.period.0 a.a.now a.b.now a.c.now c.in_ok-strict_refusal.ensures (c.if-not-rule_of.ensures.yes! refl) in
    lists_of b a.out.now _ _ _ k (omega arith) c.put_head-at.ensures

pub returns : goal.returns
returns c = let a = c.args in
    let b = body_from a.p a.g.now a.h.now a.period.0 a.a.now a.b.now a.c.now in
    let k = known a.p a.g.now a.h.now a.period.0 a.a.now a.b.now a.c.now c.in_ok-strict_refusal.ensures (c.if-not-rule_of.ensures.yes! refl) in
    done_of b a.out.now _ _ _ _ k.field k.rule (omega arith) c.put_head-at.ensures c.put_lists.ensures
