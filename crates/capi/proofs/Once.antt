-- Two outcomes of a function of the C interface that meet its contract are equal: results and lent arrays.
--   order_tells_unique, step_tells_unique, walk_tells_unique, from_order_tells_unique, unit_tells_unique, one_field_tells_unique
--   check_says_unique, write_says_unique, add_says_unique, attest_says_unique
-- Those that only pass on have theirs below: ask_says_unique in book_place/proofs/Once.antt, prime_says_unique, period_says_unique and
-- list_says_unique in book_parts/proofs/Once.antt, begin_says_unique in book_begin/proofs/Once.antt, rows_says_unique in
-- book_rows/proofs/Once.antt.
use mathlib.Core.Path.{◌≡◌, ◌∙◌, sym, ap, subst}
use mathlib.Core.List.{List}
use Prim.Native.Nat.{ℕ, zero, suc}
use native.Mathlib.Omega.{arith}
use Rattle.book_body.specs.Body.{Body}
use Rattle.book_check.proofs.One.{tells_unique}
use Rattle.book_write.proofs.One.{write_unique}
use Rattle.book_add.proofs.One.{add_unique}
use Rattle.book_attest.proofs.One.{attest_unique}
use Rattle.book_numbers.proofs.Same.{same_numbers}
use Rattle.door_order.specs.Answer.{OrderAnswer}
use Rattle.door_order.proofs.Answer.{orders_unique}
use Rattle.door_step.specs.Answer.{StepAnswer}
use Rattle.door_step.proofs.Answers.{answers_unique}
use Rattle.walk_chain.proofs.Walk.{walks_unique}
use Rattle.capi_walk.proofs.Once.{puts_unique}
use Rattle.door_period.specs.Order.{PeriodAnswer}
use Rattle.door_period.proofs.Order.{from_order_unique}
use Rattle.door_unit.proofs.Once.{makes_unique}
use Rattle.door_compare.specs.Answer.{CompareAnswer}
use Rattle.door_compare.proofs.Once.{compares_unique}
use Rattle.capi.specs.Told.{Left, OrderTells, StepTells, WalkTells, FromOrderTells, UnitTells, as_number, OneFieldTells}
use Rattle.capi.specs.Books.{CheckSays, WriteSays, AddSays, AttestSays}

-- ---- what is lent
left_unique : (n : ℕ) {a b b' x x' : List ℕ} → x ≡ x' → Left n a b x → Left n a b' x' → b ≡ b'
left_unique zero f l l' = l.stored (omega arith) ∙ f ∙ sym (l'.stored (omega arith))
left_unique (suc n) f l l' = l.kept (λ z. omega arith) ∙ sym (l'.kept (λ z. omega arith))

pub order_tells_unique : {p : ℕ} {G H a : List ℕ} {n n' : ℕ} {b b' : List ℕ} → OrderTells p G H a n b → OrderTells p G H a n' b' → (n ≡ n') × (b ≡ b')
order_tells_unique {a = a} {n = n} {b' = b'} t u =
    let e = orders_unique t.o u.o t.orders u.orders in
    let m = t.number ∙ ap (λ (o : OrderAnswer). o.refusal) e ∙ sym u.number in
    (m, left_unique n (ap (λ (o : OrderAnswer). o.basis) e) t.rows (subst (λ k. Left k a b' u.o.basis) (sym m) u.rows))

pub step_tells_unique : {p : ℕ} {G H a : List ℕ} {n n' d d' : ℕ} {b b' : List ℕ} → StepTells p G H a n d b → StepTells p G H a n' d' b' → (n ≡ n') × (d ≡ d') × (b ≡ b')
step_tells_unique {a = a} {n = n} {b' = b'} t u =
    let e = answers_unique t.s u.s t.answers u.answers in
    let m = t.number ∙ ap (λ (s : StepAnswer). s.refusal) e ∙ sym u.number in (
      m,
      t.degree_is ∙ ap (λ (s : StepAnswer). s.degree) e ∙ sym u.degree_is,
      left_unique n (ap (λ (s : StepAnswer). s.basis) e) t.rows (subst (λ k. Left k a b' u.s.basis) (sym m) u.rows),
    )

pub walk_tells_unique : {p k : ℕ} {G H a : List ℕ} {n n' s s' d d' : ℕ} {b b' : List ℕ} → WalkTells p G H k a n s d b → WalkTells p G H k a n' s' d' b' → (n ≡ n') × (s ≡ s') × (d ≡ d') × (b ≡ b')
walk_tells_unique t u =
    let e : t.o ≡ u.o = walks_unique _ _ _ _ _ t.o u.o t.walks u.walks in
    puts_unique (ap (λ o. o.refusal) e) (ap (λ o. o.steps) e) (ap (λ o. o.sum) e) (ap (λ o. o.basis) e) t.puts u.puts

pub from_order_tells_unique : {p : ℕ} {G H : List ℕ} {k n n' l l' r r' : ℕ} → FromOrderTells p G H k n l r → FromOrderTells p G H k n' l' r' → (n ≡ n') × (l ≡ l') × (r ≡ r')
from_order_tells_unique t u =
    let e = from_order_unique _ _ _ _ t.o u.o t.from u.from in (
      t.number ∙ ap (λ (o : PeriodAnswer). o.refusal) e ∙ sym u.number,
      t.period_is ∙ ap (λ (o : PeriodAnswer). o.period.0) e ∙ sym u.period_is,
      t.regulator_is ∙ ap (λ (o : PeriodAnswer). o.regulator.0) e ∙ sym u.regulator_is,
    )

pub unit_tells_unique : {i p k : ℕ} {G H a b : List ℕ} {n n' l l' r r' : ℕ} {c c' d d' : List ℕ} → UnitTells i p G H k a b n l r c d → UnitTells i p G H k a b n' l' r' c' d' → (n ≡ n') × (l ≡ l') × (r ≡ r') × (c ≡ c') × (d ≡ d')
unit_tells_unique t u =
    let e = makes_unique _ _ _ _ _ _ _ t.m u.m _ _ _ _ t.makes u.makes in (
      t.number ∙ e.number ∙ sym u.number,
      t.period_is ∙ e.period ∙ sym u.period_is,
      t.regulator_is ∙ e.regulator ∙ sym u.regulator_is,
      e.rows_same,
      e.scratch_same,
    )

pub one_field_tells_unique : {p : ℕ} {G H G' H' : List ℕ} {n n' s s' : ℕ} → OneFieldTells p G H G' H' n s → OneFieldTells p G H G' H' n' s' → (n ≡ n') × (s ≡ s')
one_field_tells_unique t u =
    let e = compares_unique t.compares u.compares in
    (t.number ∙ ap (λ (a : CompareAnswer). a.refusal) e ∙ sym u.number, t.same_is ∙ ap (λ (a : CompareAnswer). as_number a.same) e ∙ sym u.same_is)

-- ---- books
pub check_says_unique : {s o o' : List ℕ} → CheckSays s o → CheckSays s o' → o ≡ o'
check_says_unique {s} t u = same_numbers (tells_unique s t.tells u.tells) t.written u.written

pub write_says_unique : {b : Body} {d e e' o o' : List ℕ} → WriteSays b d e o → WriteSays b d e' o' → (e ≡ e') × (o ≡ o')
write_says_unique t u = let w = write_unique _ _ t.tells u.tells in (w.1, same_numbers w.0 t.written u.written)

pub add_says_unique : {d : List ℕ} {n : ℕ} {b e e' o o' : List ℕ} → AddSays d n b e o → AddSays d n b e' o' → (e ≡ e') × (o ≡ o')
add_says_unique t u = let w = add_unique _ _ _ t.tells u.tells in (w.1, same_numbers w.0 t.written u.written)

pub attest_says_unique : {s : List ℕ} {i : ℕ} {o o' : List ℕ} → AttestSays s i o → AttestSays s i o' → o ≡ o'
attest_says_unique {s} {i} t u = same_numbers (attest_unique s i _ _ t.tells u.tells) t.written u.written
