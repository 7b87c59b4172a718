-- `ask` meets its contract.
use mathlib.Core.Path.{refl}
use Rattle.book_place.proofs.Asked.{near, asked_there, asked_none}
use native.Mathlib.Omega.{arith}
use Rattle.book_place.proofs.ask.Goals as goal

pub overflow_mul-i : goal.overflow_mul-i
overflow_mul-i c = let h = near _ _ _ _ c.ask_answer-a.ensures c.request_row-o.ensures c.if-o-eq0.true in omega arith

pub overflow_add-i : goal.overflow_add-i
overflow_add-i c = let h = near _ _ _ _ c.ask_answer-a.ensures c.request_row-o.ensures c.if-o-eq0.true in omega arith

pub overflow_mul-i-then-o-eq0 : goal.overflow_mul-i-then-o-eq0
overflow_mul-i-then-o-eq0 c = let h = near _ _ _ _ c.ask_answer-a.ensures c.request_row-o.ensures c.if-o-eq0.true in omega arith

pub overflow_add-i-then-o-eq0 : goal.overflow_add-i-then-o-eq0
overflow_add-i-then-o-eq0 c = let h = near _ _ _ _ c.ask_answer-a.ensures c.request_row-o.ensures c.if-o-eq0.true in omega arith

pub returns-then-o-eq0 : goal.returns-then-o-eq0
returns-then-o-eq0 c = asked_there _ _ _ _ c.ask_answer-a.ensures c.request_row-o.ensures c.if-o-eq0.true _ _ c.four.ensures.0 c.four-then-o-eq0.ensures.0

pub returns-else-o-eq0 : goal.returns-else-o-eq0
returns-else-o-eq0 c = asked_none _ _ _ _ c.ask_answer-a.ensures c.request_row-o.ensures c.if-o-eq0.false _ _ refl refl
