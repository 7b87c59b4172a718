-- `text_read::fields` meets its contract.
use mathlib.Core.Path.{refl, sym, subst}
use Rattle.std.proofs.Common.{rules, tests}
use Rattle.text_put.specs.Print.{semicolon}
use Rattle.text_number.proofs.Taken.{left_split}
use Rattle.text_read.specs.Inner.{FieldsTell}
use Rattle.text_read.proofs.Parts.{not_one, not_two, not_four, three_parts}
use Rattle.text_read.proofs.fields.Goals as goal

pub returns-in_err-g : goal.returns-in_err-g
returns-in_err-g c = let s = c.split-parts.ensures in
    subst (FieldsTell _) (sym c.from_residual-in_err-g.ensures)
    (not_one c.next.new.self c.args.line.now (left_split semicolon c.args.line.now s.runs refl s.rest s.done s.closure (λ x r q k. search (rules, tests)))
    c.in_ok-p.p c.in_ok-p.ensures.steps c.next-2.new.self c.in_err-g.ensures.steps)

pub returns-in_err-h : goal.returns-in_err-h
returns-in_err-h c = let s = c.split-parts.ensures in
    subst (FieldsTell _) (sym c.from_residual-in_err-h.ensures)
    (not_two c.next.new.self c.args.line.now (left_split semicolon c.args.line.now s.runs refl s.rest s.done s.closure (λ x r q k. search (rules, tests)))
    c.in_ok-p.p c.in_ok-p.ensures.steps c.next-2.new.self c.in_ok-g.g c.in_ok-g.ensures.steps c.next-3.new.self c.in_err-h.ensures.steps)

pub returns-then-is_some : goal.returns-then-is_some
returns-then-is_some c = let s = c.split-parts.ensures in
    not_four c.next.new.self c.args.line.now (left_split semicolon c.args.line.now s.runs refl s.rest s.done s.closure (λ x r q k. search (rules, tests)))
    c.in_ok-p.p c.in_ok-p.ensures.steps c.next-2.new.self c.in_ok-g.g c.in_ok-g.ensures.steps c.next-3.new.self c.in_ok-h.h c.in_ok-h.ensures.steps
    c.next-4.new.self c.next-4.result c.next-4.ensures.steps c.if-is_some.ensures

pub returns : goal.returns
returns c = let s = c.split-parts.ensures in
    three_parts c.next.new.self c.args.line.now (left_split semicolon c.args.line.now s.runs refl s.rest s.done s.closure (λ x r q k. search (rules, tests)))
    c.in_ok-p.p c.in_ok-p.ensures.steps c.next-2.new.self c.in_ok-g.g c.in_ok-g.ensures.steps c.next-3.new.self c.in_ok-h.h c.in_ok-h.ensures.steps
    c.next-4.new.self c.next-4.result c.next-4.ensures.steps c.if-is_some.ensures
