-- Which numbers come with an answer: what each contract's cases say.
--   numbered    an answer's number is one of its row
use Rattle.std.specs.Prelude.{Option, Some, None}
use mathlib.Core.Path.{◌≡◌, refl, sym, ap, ◌∙◌, subst}
use mathlib.Core.Logic.{◌≢◌, ◌⊎◌, inl, inr}
use mathlib.Core.List.{List, [], ◌∷◌, ◌++◌}
use Prim.Native.Nat.{ℕ, zero, suc, ◌-◌, ◌≤◌, ◌<◌}
use native.Mathlib.Omega.{arith}
use native.Mathlib.Decide.{ℕ_discrete}
use lib.ListN.{length, get_or, take, drop, length-append, length-replicate, get_or-append}
use lib.Seq.{take_at}
use Rattle.base_answers.specs.Said.{Said}
use Rattle.field_open.specs.Padding.{unpad}
use Rattle.field_open.specs.Opening.{FieldAnswer}
use Rattle.field_open.proofs.Stages as stages
use Rattle.field_open.proofs.Door.{door_out}
use Rattle.field_series.specs.Answer as ser
use Rattle.field_series.specs.Answer.{OpenedAnswer}
use Rattle.door_order.specs.Answer.{OrderAnswer, Orders}
use Rattle.door_check.specs.Answer as checks
use Rattle.door_step.specs.Answer.{StepAnswer}
use Rattle.door_step.specs.Answer as stepped
use Rattle.walk_chain.specs.Walk.{WalkAnswer}
use Rattle.walk_chain.specs.Walk as walks
use Rattle.door_period.specs.Order.{PeriodAnswer}
use Rattle.door_period.specs.Order as told
use Rattle.math_chain.specs.Convention.{e0_monic}
use Rattle.door_unit.specs.Unit.{UnitAnswer}
use Rattle.door_unit.specs.Unit as made
use Rattle.door_unit.proofs.Once.{refused_number}
use Rattle.door_compare.specs.Answer.{CompareAnswer}
use Rattle.door_compare.specs.Answer as compared
use Rattle.door_compare.proofs.Doors.{doors_out}
use Rattle.door_transfer.specs.Transfer as carried
use Rattle.door_rescale.specs.Rescale as turned
use Rattle.walk_record.specs.declared.WalkRecord.{WalkRecord}
use Rattle.walk_record.specs.State.{Passed}
use Rattle.door_record.specs.Advance as advanced
use Rattle.door_sheet.specs.Sheet as sheets
use Rattle.book_body.specs.Body.{Body}
use Rattle.book_body.specs.Code as code
use Rattle.book_write.specs.Write as written
use Rattle.book_check.specs.Answer as books
use Rattle.book_check.proofs.Facts.{body_thirteen, fault_thirteen}
use Rattle.book_begin.specs.Begin as begun
use Rattle.book_parts.specs.Parts as parts
use Rattle.book_rows.specs.Rows as rowed
use Rattle.book_add.specs.Add as added
use Rattle.book_attest.specs.Attest as attested
use Rattle.book_numbers.specs.Numbers.{numbers}
use Rattle.text_put.specs.Print.{semicolon, newline, number_text, join, list_text, line_text, refused_text}
use Rattle.text_cut.specs.Feed.{end_text}
use Rattle.text_number.proofs.Values.{value_text}
use Rattle.text_number.proofs.Inverse.{text_numeral}
use Rattle.text_number.specs.Grammar.{value}
use Rattle.text_read.proofs.Writings.{reads_below}
use Rattle.base_lists.specs.Pieces.{cut}
use Rattle.base_lists.specs.Coefficients.{trim}
use Rattle.lister_rows.specs.Text.{rows_text}
use Rattle.lister_print.specs.Text.{unit_text, made_text}
use Rattle.lister_print.proofs.Prints.{made_unit, made_refused}
use Rattle.lister.specs.Listing as listing
use Rattle.demands_calls.specs.Numbers.{Numbered, Says, refuses, answers, Gives, refusal, open_field, series, open_series, order, check, step, walk, from_the_order, unit, rescale, sheet, advance, pairs, compare, transfer, book, ask, attest, list, write, add, parse, line, end, order_c, step_c, walk_c, from_order_c, unit_c, one_field_c, book_c, ask_c, attest_c, begin_c, prime_c, period_c, list_c, rows_c, write_c, c_added}
use Rattle.base_answers.proofs.Said.{number_of}

-- ---- the book
zero_of : {k n : ℕ} {A : Type 0} → n ≡ 0 → (n ≤ k) ⊎ A
zero_of e = inl (omega (arith, e))

-- the book is fine, or 13
book_cases : {s : List ℕ} {x : Said} → books.Tells s x → (x.number ≡ 0) ⊎ (x.number ≡ 13)
book_cases (books.mark f e) = inr (number_of e)
book_cases (books.contents m f e) = inr (number_of e)
book_cases (books.at_entry m l i u g f) = inr (fault_thirteen f)
book_cases (books.fine a e) = inl (number_of e)

book_numbered : {n : ℕ} {A : Type 0} → (n ≡ 0) ⊎ (n ≡ 13) → (n ≤ 0) ⊎ ((n ≡ 13) ⊎ A)
book_numbered (inl e) = zero_of e
book_numbered (inr e) = inr (inl e)

ask_numbered : {s : List ℕ} {i : ℕ} {x : Said} → books.AskTells s i x → Numbered 0 (13 ∷ 14 ∷ []) x.number
ask_numbered (books.book f t) = book_numbered (book_cases t)
ask_numbered (books.no_entry a h e) = inr (inr (inl (number_of e)))
ask_numbered (books.there a h e) = zero_of (number_of e)

attest_numbered : {s : List ℕ} {i : ℕ} {x : Said} → attested.AttestTells s i x → Numbered 0 (13 ∷ 14 ∷ []) x.number
attest_numbered (attested.book f t) = book_numbered (book_cases t)
attest_numbered (attested.no_entry a h e) = inr (inr (inl (number_of e)))
attest_numbered (attested.yes a h n e) = zero_of (number_of e)
attest_numbered (attested.no a h n e) = zero_of (number_of e)

list_numbered : {k : ℕ} {s d d' : List ℕ} {x : Said} → code.ListTells s k d x d' → Numbered 0 (11 ∷ 14 ∷ []) x.number
list_numbered (code.read h l e q) = zero_of (number_of e)
list_numbered (code.none h e q) = inr (inr (inl (number_of e)))
list_numbered (code.short h l e q) = inr (inl (number_of e))

write_numbered : {b : Body} {d d' : List ℕ} {x : Said} → written.WriteTells b d x d' → Numbered 8 (11 ∷ 13 ∷ []) x.number
write_numbered {b} (written.field n h s e q) = let z = stages.numbered b.p b.G b.H n s in inl (omega (arith, number_of e))
write_numbered (written.rule s r e q) = inr (inr (inl (number_of e)))
write_numbered (written.short s r l e q) = inr (inl (number_of e))
write_numbered (written.done s r l e q) = zero_of (number_of e)

begin_numbered : {d d' : List ℕ} {x : Said} → begun.BeginTells d x d' → Numbered 0 (11 ∷ []) x.number
begin_numbered (begun.short h e q) = inr (inl (number_of e))
begin_numbered (begun.begun h e q) = zero_of (number_of e)

number_numbered : {s : List ℕ} {n : ℕ} {x : Said} → parts.NumberTells s n x → Numbered 0 (13 ∷ []) x.number
number_numbered (parts.fault f) = inr (inl (body_thirteen f))
number_numbered (parts.told f e) = zero_of (number_of e)

part_numbered : {k : ℕ} {s d d' : List ℕ} {x : Said} → parts.PartTells s k d x d' → Numbered 0 (11 ∷ 13 ∷ 14 ∷ []) x.number
part_numbered (parts.faulty f q) = inr (inr (inl (body_thirteen f)))
part_numbered (parts.listed f (code.read h l e q)) = zero_of (number_of e)
part_numbered (parts.listed f (code.none h e q)) = inr (inr (inr (inl (number_of e))))
part_numbered (parts.listed f (code.short h l e q)) = inr (inl (number_of e))

-- what writing a body gives, and 14
with_fourteen : {n : ℕ} → Numbered 8 (11 ∷ 13 ∷ []) n → Numbered 8 (11 ∷ 13 ∷ 14 ∷ []) n
with_fourteen (inl h) = inl h
with_fourteen (inr (inl e)) = inr (inl e)
with_fourteen (inr (inr (inl e))) = inr (inr (inl e))
with_fourteen (inr (inr (inr none))) = absurd none

rows_numbered : {p t : ℕ} {G H l d d' : List ℕ} {x : Said} → rowed.RowsTells p G H t l d x d' → Numbered 8 (11 ∷ 13 ∷ 14 ∷ []) x.number
rows_numbered {p} {t} {G} {H} (rowed.field f n h r e q) = let z = stages.numbered p G H n r in inl (omega (arith, number_of e))
rows_numbered (rowed.unfit f r e q) = inr (inr (inr (inl (number_of e))))
rows_numbered (rowed.body c s w) = with_fourteen (write_numbered w)

add_numbered : {n : ℕ} {d b d' : List ℕ} {x : Said} → added.AddTells d n b x d' → Numbered 0 (11 ∷ 13 ∷ 14 ∷ 15 ∷ []) x.number
add_numbered (added.length_out l e q) = inr (inr (inr (inl (number_of e))))
add_numbered (added.book l f t q) = elim (book_cases t) [ inl e ↦ zero_of e | inr e ↦ inr (inr (inl e)) ]
add_numbered (added.body l a t q) = inr (inr (inl (body_thirteen t)))
add_numbered (added.known l a t j h o e q) = inr (inr (inr (inr (inl (number_of e)))))
add_numbered (added.short l a t u o e q) = inr (inl (number_of e))
add_numbered (added.added l a t u h k e q) = zero_of (number_of e)

-- ---- a field: a refusal of the table, or what comes next
refused_of : {k m n : ℕ} {A : Type 0} → 8 ≤ k → n ≤ 8 → m ≡ n → (m ≤ k) ⊎ A
refused_of a h e = inl (omega (arith, e))

order_numbered : {p : ℕ} {G H : List ℕ} (o : OrderAnswer) → Orders p G H o → Numbered 8 [] o.refusal
order_numbered o = door_out (λ k f l e. refused_of (omega arith) l (ap (λ (x : OrderAnswer). x.refusal) e)) (λ A g. zero_of g.0)

series_goes : {p n : ℕ} {G H r w r' w' : List ℕ} → ser.Goes p G H r w r' w' n → Numbered 8 (14 ∷ []) n
series_goes (ser.unfit f e) = inr (inl e.number)
series_goes (ser.filled f e l s) = zero_of e

check_goes : {p n : ℕ} {G H B : List ℕ} → checks.Goes p G H B n → Numbered 9 [] n
check_goes (checks.no_record f e) = inl (omega (arith, e))
check_goes (checks.is_a_record r e) = zero_of e

step_goes : {p : ℕ} {G H B : List ℕ} (s : StepAnswer) → stepped.Goes p G H B s → Numbered 9 [] s.refusal
step_goes s (stepped.no_record f e) = inl (omega (arith, ap (λ (x : StepAnswer). x.refusal) e))
step_goes s (stepped.taken r e t) = zero_of e

step_numbered : {p : ℕ} {G H B : List ℕ} (s : StepAnswer) → stepped.Answers p G H B s → Numbered 9 [] s.refusal
step_numbered s = door_out (λ k f l e. refused_of (omega arith) l (ap (λ (x : StepAnswer). x.refusal) e)) (λ A. step_goes s)

walk_goes : {p n : ℕ} {G H B : List ℕ} (w : WalkAnswer) → walks.Goes p G H n B w → Numbered 10 (14 ∷ []) w.refusal
walk_goes w (walks.budget l e) = inr (inl (ap (λ (x : WalkAnswer). x.refusal) e))
walk_goes w (walks.no_record l f e) = inl (omega (arith, ap (λ (x : WalkAnswer). x.refusal) e))
walk_goes w (walks.closed l r c) = zero_of c.number
walk_goes w (walks.spent l r s) = inl (omega (arith, s.number))

walk_numbered : {p n : ℕ} {G H B : List ℕ} (w : WalkAnswer) → walks.Walks p G H n B w → Numbered 10 (14 ∷ []) w.refusal
walk_numbered w = door_out (λ k f l e. refused_of (omega arith) l (ap (λ (x : WalkAnswer). x.refusal) e)) (λ A. walk_goes w)

told_goes : {p n : ℕ} {G H : List ℕ} (o : PeriodAnswer) → told.Goes p G H n o → Numbered 8 (10 ∷ 14 ∷ []) o.refusal
told_goes o (told.budget l e) = inr (inr (inl (ap (λ (x : PeriodAnswer). x.refusal) e)))
told_goes o (told.closed l B f c) = zero_of c.number
told_goes o (told.spent l B f g e) = inr (inl (ap (λ (x : PeriodAnswer). x.refusal) e))

from_order_numbered : {p n : ℕ} {G H : List ℕ} (o : PeriodAnswer) → told.FromOrder p G H n o → Numbered 8 (10 ∷ 14 ∷ []) o.refusal
from_order_numbered o = door_out (λ k f l e. refused_of (omega arith) l (ap (λ (x : PeriodAnswer). x.refusal) e)) (λ A. told_goes o)

unit_goes : {i p n : ℕ} {G H rows scratch rows' scratch' : List ℕ} (m : UnitAnswer)
    → made.Goes i p G H n rows scratch m rows' scratch' → Numbered 8 (10 ∷ 11 ∷ 14 ∷ []) m.refusal
unit_goes m (made.bad f r) = inr (inr (inr (inl (refused_number r))))
unit_goes m (made.spent v c b f r) = inr (inl (refused_number r))
unit_goes m (made.narrow v c l d b s f g r) = inr (inr (inl (refused_number r)))
unit_goes m (made.made v c l d b s f g r) = zero_of r.number

unit_numbered : {i p n : ℕ} {G H rows scratch rows' scratch' : List ℕ} (m : UnitAnswer)
    → made.Makes i p G H n rows scratch m rows' scratch' → Numbered 8 (10 ∷ 11 ∷ 14 ∷ []) m.refusal
unit_numbered m = door_out (λ k f l r. refused_of (omega arith) l (refused_number r)) (λ A. unit_goes m)

compare_numbered : {p : ℕ} {G H G' H' : List ℕ} (a : CompareAnswer) → compared.Compares p G H G' H' a → Numbered 8 [] a.refusal
compare_numbered a = doors_out (λ k f l e. refused_of (omega arith) l (ap (λ (x : CompareAnswer). x.refusal) e)) (λ t g. zero_of g.0)

transfer_goes : {p n : ℕ} {G H G' H' rows rows' : List ℕ} → carried.Goes p G H G' H' rows n rows' → Numbered 8 (14 ∷ []) n
transfer_goes (carried.unfit u e) = inr (inl e.number)
transfer_goes (carried.carried c l e m w) = zero_of e

rescale_goes : {p i j n : ℕ} {G H rows rows' : List ℕ} → turned.Goes p G H i j rows n rows' → Numbered 8 (14 ∷ []) n
rescale_goes (turned.unfit u e) = inr (inl e.number)
rescale_goes (turned.turned k k' c a b s z t) = zero_of z

-- ---- a line: the text of a refusal says its number, and no unit's text is one
-- the digits stand between the word and the newline
digits : List ℕ → List ℕ
digits t = take (length (drop 8 t) - 1) (drop 8 t)

digits_of_lem : (n : ℕ) → digits (refused_text n) ≡ number_text n
unfolding digits refused_text
digits_of_lem n =
    let c = length-append (number_text n) (newline ∷ []) in
    take_at (number_text n) (newline ∷ []) (length (number_text n ++ newline ∷ []) - 1) (omega arith)

refused_unique : (m n : ℕ) → refused_text m ≡ refused_text n → m ≡ n
refused_unique m n e = sym (value_text m) ∙ ap value (sym (digits_of_lem m) ∙ ap digits e ∙ digits_of_lem n) ∙ value_text n

-- a unit's text begins with a digit of p, a refusal's with the letter r
refused_head : (n : ℕ) → get_or (refused_text n) 0 0 ≡ 114
unfolding refused_text
refused_head n = refl

-- what follows does not change the first byte
record Headed (s t : List ℕ) : Type 0 where
  some : 1 ≤ length t
  head : get_or t 0 0 ≡ get_or s 0 0

headed_more : (s t u : List ℕ) → Headed s t → Headed s (t ++ u)
headed_more s t u h =
    let a = h.some in
    let c = length-append t u in
    record { some = omega arith; head = get_or-append t u 0 0 a ∙ h.head }

unit_head : (p : ℕ) (G H : List ℕ) (l R : ℕ) (E0 E1 E2 : List ℕ) → 1 ≤ length (number_text p)
    → get_or (unit_text (line_text p G H) l R E0 E1 E2) 0 0 ≡ get_or (number_text p) 0 0
unfolding unit_text line_text join
unit_head p G H l R E0 E1 E2 a =
    let d = number_text p in
    let s = headed_more d d (semicolon ∷ join semicolon (list_text G ∷ list_text H ∷ [])) (record { some = a; head = refl }) in
    (headed_more d _ (rows_text E0 E1 E2) (headed_more d _ (semicolon ∷ number_text R) (headed_more d _ (semicolon ∷ number_text l) s))).head

made_not : (p : ℕ) (G H : List ℕ) (m : UnitAnswer) (rows : List ℕ) → p < 100000 → m.refusal ≡ 0
    → (n : ℕ) → made_text (line_text p G H) m rows ≡ refused_text n → ⊥
made_not p G H m rows h z n e =
    let t = text_numeral p h in
    let d = (t.digits 0 t.some).1 in
    let a = ap (λ s. get_or s 0 0) (sym (made_unit (line_text p G H) m rows z)) in
    let b = unit_head p G H m.period.0 m.regulator.0 (trim (cut 0 1024 rows)) (trim (cut 1024 1024 rows)) (trim (cut 2048 1024 rows)) t.some in
    let f : get_or (made_text (line_text p G H) m rows) 0 0 ≡ get_or (number_text p) 0 0 = sym a ∙ b in
    let g : get_or (made_text (line_text p G H) m rows) 0 0 ≡ 114 = ap (λ s. get_or s 0 0) e ∙ refused_head n in
    omega (arith, d, f, g)

-- what `unit` gives for a line: two blank slices of 6 · 1,024 numbers and the budget 1,000 are within their rule, so that 14 does not come
line_unit : {p : ℕ} {G H rows scratch : List ℕ} (m : UnitAnswer) → made.Makes 1 p G H listing.budget listing.blank listing.blank m rows scratch
    → Numbered 8 (10 ∷ 11 ∷ 12 ∷ []) m.refusal
line_unit {p} {G} {H} {rows} {scratch} m = door_out (λ k f l r. refused_of (omega arith) l (refused_number r)) (λ A. goes)
  where
    lent : made.Lent 1 e0_monic 1024 listing.blank listing.blank listing.budget
    lent = record { named = refl; six = record { room = omega arith; whole = length-replicate {A = ℕ} 6144 0 }; even = refl; budget = omega arith }

    goes : made.Goes 1 p G H listing.budget listing.blank listing.blank m rows scratch → Numbered 8 (10 ∷ 11 ∷ 12 ∷ []) m.refusal
    goes (made.bad f r) = absurd (f e0_monic 1024 lent)
    goes (made.spent v c b f r) = inr (inl (refused_number r))
    goes (made.narrow v c l d b s f g r) = inr (inr (inl (refused_number r)))
    goes (made.made v c l d b s f g r) = zero_of r.number

line_numbered : {s t : List ℕ} {n : ℕ} → listing.Lists s t → Says t n → Numbered 8 (10 ∷ 11 ∷ 12 ∷ []) n
line_numbered (listing.malformed f) (refuses n e) = inr (inr (inr (inl (refused_unique n 12 (sym e)))))
line_numbered (listing.malformed f) (answers g) = absurd (g 12 refl)
line_numbered (listing.read p G H m rows scratch r h) (refuses n e) = go (ℕ_discrete m.refusal 0)
  where
    go : Dec (m.refusal ≡ 0) → Numbered 8 (10 ∷ 11 ∷ 12 ∷ []) n
    go (yes z) = absurd (made_not p (unpad G) (unpad H) m rows (reads_below r).0 z n e)
    go (no f) =
        let k = refused_unique n m.refusal (sym e ∙ made_refused (line_text p (unpad G) (unpad H)) m rows f) in
        subst (Numbered 8 (10 ∷ 11 ∷ 12 ∷ [])) (sym k) (line_unit m h)
line_numbered (listing.read p G H m rows scratch r h) (answers g) = zero_of refl

-- at the input's end
end_none : (n : ℕ) → end_text 0 ≡ refused_text n → ⊥
unfolding end_text refused_text
end_none n e = let l : 0 ≡ length (refused_text n) = ap length e in omega arith

end_some : (m : ℕ) → end_text (suc m) ≡ refused_text 12
unfolding end_text
end_some m = refl

end_numbered : (m : ℕ) {n : ℕ} → Says (end_text m) n → Numbered 0 (12 ∷ []) n
end_numbered m (answers g) = zero_of refl
end_numbered zero (refuses n e) = absurd (end_none n e)
end_numbered (suc m) (refuses n e) = inr (inl (refused_unique n 12 (sym e ∙ end_some m)))

-- ---- walk records
sheet_numbered : {rs os : List WalkRecord} {b n : ℕ} → sheets.Sheet rs b n os → Numbered 0 (14 ∷ []) n
sheet_numbered (sheets.refused v e f) = inr (inl e)
sheet_numbered (sheets.walked g e s) = zero_of e

passed_numbered : {s : ℕ} → Passed s → Numbered 9 (14 ∷ 100 ∷ []) s
passed_numbered (inl e) = inr (inr (inl e))
passed_numbered (inr (inl (a, b))) = inl b
passed_numbered (inr (inr e)) = inr (inl e)

advance_numbered : {b : ℕ} {r o : WalkRecord} → advanced.Advances b r o → Numbered 9 (14 ∷ 100 ∷ []) o.state
advance_numbered {r = r} {o} = go
  where
    state_is : {x : WalkRecord} → o ≡ x → o.state ≡ x.state
    state_is e = ap (λ (z : WalkRecord). z.state) e

    refused : {x : ℕ} → Numbered 10 (14 ∷ []) x → x ≢ 10 → o.state ≡ x → Numbered 9 (14 ∷ 100 ∷ []) o.state
    refused (inl l) f e = inl (omega arith)
    refused (inr (inl q)) f e = inr (inl (e ∙ q))
    refused (inr (inr q)) f e = absurd q

    go : {b : ℕ} → advanced.Advances b r o → Numbered 9 (14 ∷ 100 ∷ []) o.state
    go (advanced.passed s e) = passed_numbered (subst Passed (sym (state_is e)) s)
    go (advanced.unfit f u d) = door_out (λ k g l e. inl (let q = state_is e in omega arith)) (λ A e. inr (inl (state_is e))) d
    go (advanced.walked f u w h (advanced.closed z e)) = inr (inr (inl (state_is e)))
    go (advanced.walked f u w h (advanced.spent z e)) = zero_of (state_is e)
    go (advanced.walked f u w h (advanced.refused x y e)) = refused (walk_numbered w h) y (state_is e)

-- ---- the functions for C and Rust put the number of the function behind them first
first_is : {out : List ℕ} {x : Said} → out ≡ numbers x → get_or out 0 0 ≡ x.number
first_is e = ap (λ l. get_or l 0 0) e

pub numbered : {k : ℕ} {l : List ℕ} {n : ℕ} → Gives k l n → Numbered k l n
numbered (refusal p G H n h) = inl (stages.numbered p G H n h)
numbered (open_field o h) = door_out (λ k f l e. refused_of (omega arith) l (ap (λ (x : FieldAnswer). x.refusal) e)) (λ A g. zero_of g.0) h
numbered (series h) = door_out (λ k f l r. refused_of (omega arith) l r.number) (λ A. series_goes) h
numbered (open_series o h) = door_out (λ k f l e. refused_of (omega arith) l (ap (λ (x : OpenedAnswer). x.refusal) e)) (λ A g. zero_of g.0) h
numbered (order o h) = order_numbered o h
numbered (check h) = door_out (λ k f l e. refused_of (omega arith) l e) (λ A. check_goes) h
numbered (step s h) = step_numbered s h
numbered (walk w h) = walk_numbered w h
numbered (from_the_order o h) = from_order_numbered o h
numbered (unit m h) = unit_numbered m h
numbered (rescale h) = door_out (λ k f l r. refused_of (omega arith) l r.number) (λ A. rescale_goes) h
numbered (sheet h) = sheet_numbered h
numbered (advance h) = advance_numbered h
numbered (pairs h) = doors_out (λ k f l e. refused_of (omega arith) l e) (λ t e. zero_of e) h
numbered (compare a h) = compare_numbered a h
numbered (transfer h) = doors_out (λ k f l r. refused_of (omega arith) l r.number) (λ t. transfer_goes) h
numbered (book x h) = book_numbered (book_cases h)
numbered (ask x h) = ask_numbered h
numbered (attest x h) = attest_numbered h
numbered (list x h) = list_numbered h
numbered (write x h) = write_numbered h
numbered (add x h) = add_numbered h
numbered (parse s g h g' h' (Some l) t) = zero_of refl
numbered (parse s g h g' h' None t) = inr (inl refl)
numbered (line h s) = line_numbered h s
numbered (end m s) = end_numbered m s
numbered (order_c t) = subst (Numbered 8 []) (sym t.number) (order_numbered t.o t.orders)
numbered (step_c t) = subst (Numbered 9 []) (sym t.number) (step_numbered t.s t.answers)
numbered (walk_c t) = subst (Numbered 10 (14 ∷ [])) (sym t.puts.number) (walk_numbered t.o t.walks)
numbered (from_order_c t) = subst (Numbered 8 (10 ∷ 14 ∷ [])) (sym t.number) (from_order_numbered t.o t.from)
numbered (unit_c t) = subst (Numbered 8 (10 ∷ 11 ∷ 14 ∷ [])) (sym t.number) (unit_numbered t.m t.makes)
numbered (one_field_c t) = subst (Numbered 8 []) (sym t.number) (compare_numbered t.a t.compares)
numbered (book_c t) = subst (Numbered 0 (13 ∷ [])) (sym (first_is t.written)) (book_numbered (book_cases t.tells))
numbered (ask_c t) = subst (Numbered 0 (13 ∷ 14 ∷ [])) (sym (first_is t.written)) (ask_numbered t.tells)
numbered (attest_c t) = subst (Numbered 0 (13 ∷ 14 ∷ [])) (sym (first_is t.written)) (attest_numbered t.tells)
numbered (begin_c t) = subst (Numbered 0 (11 ∷ [])) (sym (first_is t.written)) (begin_numbered t.tells)
numbered (prime_c t) = subst (Numbered 0 (13 ∷ [])) (sym (first_is t.written)) (number_numbered t.tells)
numbered (period_c t) = subst (Numbered 0 (13 ∷ [])) (sym (first_is t.written)) (number_numbered t.tells)
numbered (list_c t) = subst (Numbered 0 (11 ∷ 13 ∷ 14 ∷ [])) (sym (first_is t.written)) (part_numbered t.tells)
numbered (rows_c t) = subst (Numbered 8 (11 ∷ 13 ∷ 14 ∷ [])) (sym (first_is t.written)) (rows_numbered t.tells)
numbered (write_c t) = subst (Numbered 8 (11 ∷ 13 ∷ [])) (sym (first_is t.written)) (write_numbered t.tells)
numbered (c_added t) = subst (Numbered 0 (11 ∷ 13 ∷ 14 ∷ 15 ∷ [])) (sym (first_is t.written)) (add_numbered t.tells)
