-- The numbers that come with an answer (document 01, "What we say no to"; 0 is no refusal).
--   Among l n          n is one of l
--   Numbered k l n     n is a number from 0 to k, or one of l
--   parse_says r        the number of a line read: 12 where it does not read
--   Says t n           the text t of a line's answer refuses with n; with 0 it is no refusal
--   Gives k l n        n comes with an answer that meets a contract whose numbers are 0 to k, and l: a row for each contract
-- The rows:
--   field_open::refusal, open               0 to 8              book_check::check                   0, 13
--   field_series::series                    0 to 8, 14          book_check::ask_answer              0, 13, 14
--   field_series::open_with_series          0 to 8              book_attest::attest                 0, 13, 14
--   door_order::order                       0 to 8              book_body::list_of                  0, 11, 14
--   door_check::check, door_step::step      0 to 9              book_write::write_body              0 to 8, 11, 13
--   door_walk::walk                         0 to 10, 14         book_add::add                       0, 11, 13, 14, 15
--   door_period::from_order                 0 to 8, 10, 14      text_read::parse                    0, 12
--   door_unit::unit, unit_scaled            0 to 8, 10, 11, 14  lister::answer                      0 to 8, 10, 11, 12
--   door_compare::refusal, compare          0 to 8              text_end::finish                    0, 12
--   door_transfer::transfer                 0 to 8, 14          book_begin::begin                   0, 11
--   book_parts::prime, period               0, 13               book_parts::list                    0, 11, 13, 14
--   door_rescale::rescale                   0 to 8, 14          book_rows::write_rows               0 to 8, 11, 13, 14
--   door_sheet::sheet                       0, 14               door_record::advance, in the state  0 to 9, 14, 100
-- The other functions for C and Rust (crate capi) give the numbers of the functions behind them.
-- That every such n is one of the row's numbers is `numbered` of `demand_1`.
use Rattle.std.specs.Prelude.{◌≡◌, ◌⊎◌, Option, Some, None, List, [], ◌∷◌, ℕ, ◌≤◌, get_or}
use Rattle.base_answers.specs.Said.{Said}
use Rattle.field_open.specs.Refusal.{Refusal}
use Rattle.field_open.specs.Opening.{Opens, FieldAnswer}
use Rattle.field_series.specs.Answer.{Answer, Expands, OpenedAnswer}
use Rattle.door_order.specs.Answer.{OrderAnswer, Orders}
use Rattle.door_check.specs.Answer.{Checks}
use Rattle.door_step.specs.Answer.{StepAnswer, Answers}
use Rattle.walk_chain.specs.Walk.{WalkAnswer, Walks}
use Rattle.door_period.specs.Order.{PeriodAnswer, FromOrder}
use Rattle.door_unit.specs.Unit.{UnitAnswer, Makes}
use Rattle.door_compare.specs.Answer.{CompareAnswer, Refusals, Compares}
use Rattle.door_transfer.specs.Transfer.{Transfers}
use Rattle.door_rescale.specs.Rescale.{Rescales}
use Rattle.walk_record.specs.declared.WalkRecord.{WalkRecord}
use Rattle.door_record.specs.Advance.{Advances}
use Rattle.door_sheet.specs.Sheet.{Sheet}
use Rattle.book_body.specs.Body.{Body}
use Rattle.book_body.specs.Code.{ListTells}
use Rattle.book_write.specs.Write.{WriteTells}
use Rattle.book_check.specs.Answer.{Tells, AskTells}
use Rattle.book_add.specs.Add.{AddTells}
use Rattle.book_attest.specs.Attest.{AttestTells}
use Rattle.book_place.specs.Place.{AskSays}
use Rattle.capi.specs.Told.{OrderTells, StepTells, WalkTells, FromOrderTells, UnitTells, OneFieldTells}
use Rattle.book_begin.specs.Begin.{BeginSays}
use Rattle.book_parts.specs.Parts.{PrimeSays, PeriodSays, ListSays}
use Rattle.book_rows.specs.Rows.{RowsSays}
use Rattle.capi.specs.Books.{CheckSays, WriteSays, AddSays, AttestSays}
use Rattle.text_put.specs.Print.{refused_text}
use Rattle.text_cut.specs.Feed.{end_text}
use Rattle.text_read.specs.Tells.{ParseTells}
use Rattle.text_read.specs.declared.Line.{Line}
use Rattle.lister.specs.Listing.{Lists}

abbrev pub Among : List ℕ → ℕ → Type 0
Among [] n = ⊥
Among (m ∷ l) n = (n ≡ m) ⊎ Among l n

abbrev pub Numbered : ℕ → List ℕ → ℕ → Type 0
Numbered k l n = (n ≤ k) ⊎ Among l n

abbrev pub parse_says : Option Line → ℕ
parse_says (Some l) = 0
parse_says None = 12

pub data Says (t : List ℕ) : ℕ → Type 0 where
  refuses : (n : ℕ) → t ≡ refused_text n → Says t n
  answers : ((n : ℕ) → t ≡ refused_text n → ⊥) → Says t 0

pub data Gives : ℕ → List ℕ → ℕ → Type 0 where
  -- ---- a field
  refusal : (p : ℕ) (G H : List ℕ) (n : ℕ) → Refusal p G H n → Gives 8 [] n
  open_field : {p : ℕ} {G H : List ℕ} (o : FieldAnswer) → Opens p G H o → Gives 8 [] o.refusal
  series : {p n : ℕ} {G H r w r' w' : List ℕ} → Answer p G H r w r' w' n → Gives 8 (14 ∷ []) n
  open_series : {p : ℕ} {G H : List ℕ} (o : OpenedAnswer) → Expands p G H o → Gives 8 [] o.refusal
  order : {p : ℕ} {G H : List ℕ} (o : OrderAnswer) → Orders p G H o → Gives 8 [] o.refusal
  check : {p n : ℕ} {G H B : List ℕ} → Checks p G H B n → Gives 9 [] n
  step : {p : ℕ} {G H B : List ℕ} (s : StepAnswer) → Answers p G H B s → Gives 9 [] s.refusal
  walk : {p n : ℕ} {G H B : List ℕ} (w : WalkAnswer) → Walks p G H n B w → Gives 10 (14 ∷ []) w.refusal
  from_the_order : {p n : ℕ} {G H : List ℕ} (o : PeriodAnswer) → FromOrder p G H n o → Gives 8 (10 ∷ 14 ∷ []) o.refusal
  unit : {i p n : ℕ} {G H rows scratch rows' scratch' : List ℕ} (m : UnitAnswer)
      → Makes i p G H n rows scratch m rows' scratch' → Gives 8 (10 ∷ 11 ∷ 14 ∷ []) m.refusal
  rescale : {p i j n : ℕ} {G H rows rows' : List ℕ} → Rescales p G H i j rows n rows' → Gives 8 (14 ∷ []) n
  -- ---- walk records: the answer of a sheet, and the state that a record is left in
  sheet : {rs os : List WalkRecord} {b n : ℕ} → Sheet rs b n os → Gives 0 (14 ∷ []) n
  advance : {b : ℕ} {r o : WalkRecord} → Advances b r o → Gives 9 (14 ∷ 100 ∷ []) o.state
  -- ---- two pairs
  pairs : {p n : ℕ} {G H G' H' : List ℕ} → Refusals p G H G' H' n → Gives 8 [] n
  compare : {p : ℕ} {G H G' H' : List ℕ} (a : CompareAnswer) → Compares p G H G' H' a → Gives 8 [] a.refusal
  transfer : {p n : ℕ} {G H G' H' rows rows' : List ℕ} → Transfers p G H G' H' rows n rows' → Gives 8 (14 ∷ []) n
  -- ---- the book
  book : {s : List ℕ} (x : Said) → Tells s x → Gives 0 (13 ∷ []) x.number
  ask : {s : List ℕ} {i : ℕ} (x : Said) → AskTells s i x → Gives 0 (13 ∷ 14 ∷ []) x.number
  attest : {s : List ℕ} {i : ℕ} (x : Said) → AttestTells s i x → Gives 0 (13 ∷ 14 ∷ []) x.number
  list : {k : ℕ} {s d d' : List ℕ} (x : Said) → ListTells s k d x d' → Gives 0 (11 ∷ 14 ∷ []) x.number
  write : {b : Body} {d d' : List ℕ} (x : Said) → WriteTells b d x d' → Gives 8 (11 ∷ 13 ∷ []) x.number
  add : {n : ℕ} {d b d' : List ℕ} (x : Said) → AddTells d n b x d' → Gives 0 (11 ∷ 13 ∷ 14 ∷ 15 ∷ []) x.number
  -- ---- a line of text
  parse : (line g h g' h' : List ℕ) (r : Option Line) → ParseTells line g h r g' h' → Gives 0 (12 ∷ []) (parse_says r)
  line : {s t : List ℕ} {n : ℕ} → Lists s t → Says t n → Gives 8 (10 ∷ 11 ∷ 12 ∷ []) n
  end : (m : ℕ) {n : ℕ} → Says (end_text m) n → Gives 0 (12 ∷ []) n
  -- ---- the functions for C and Rust: what they return, or the first of the five numbers
  order_c : {p n : ℕ} {G H a b : List ℕ} → OrderTells p G H a n b → Gives 8 [] n
  step_c : {p n d : ℕ} {G H a b : List ℕ} → StepTells p G H a n d b → Gives 9 [] n
  walk_c : {p k n s d : ℕ} {G H a b : List ℕ} → WalkTells p G H k a n s d b → Gives 10 (14 ∷ []) n
  from_order_c : {p k n l r : ℕ} {G H : List ℕ} → FromOrderTells p G H k n l r → Gives 8 (10 ∷ 14 ∷ []) n
  unit_c : {i p k n l r : ℕ} {G H a b c d : List ℕ} → UnitTells i p G H k a b n l r c d → Gives 8 (10 ∷ 11 ∷ 14 ∷ []) n
  one_field_c : {p n s : ℕ} {G H G' H' : List ℕ} → OneFieldTells p G H G' H' n s → Gives 8 [] n
  book_c : {s out : List ℕ} → CheckSays s out → Gives 0 (13 ∷ []) (get_or out 0 0)
  ask_c : {s : List ℕ} {i a l : ℕ} {out : List ℕ} → AskSays s i a l out → Gives 0 (13 ∷ 14 ∷ []) (get_or out 0 0)
  attest_c : {s : List ℕ} {i : ℕ} {out : List ℕ} → AttestSays s i out → Gives 0 (13 ∷ 14 ∷ []) (get_or out 0 0)
  begin_c : {d d' out : List ℕ} → BeginSays d d' out → Gives 0 (11 ∷ []) (get_or out 0 0)
  prime_c : {s out : List ℕ} → PrimeSays s out → Gives 0 (13 ∷ []) (get_or out 0 0)
  period_c : {s out : List ℕ} → PeriodSays s out → Gives 0 (13 ∷ []) (get_or out 0 0)
  list_c : {s : List ℕ} {k : ℕ} {d d' out : List ℕ} → ListSays s k d d' out → Gives 0 (11 ∷ 13 ∷ 14 ∷ []) (get_or out 0 0)
  rows_c : {p t : ℕ} {G H l d d' out : List ℕ} → RowsSays p G H t l d d' out → Gives 8 (11 ∷ 13 ∷ 14 ∷ []) (get_or out 0 0)
  write_c : {b : Body} {d d' out : List ℕ} → WriteSays b d d' out → Gives 8 (11 ∷ 13 ∷ []) (get_or out 0 0)
  c_added : {d : List ℕ} {n : ℕ} {b d' out : List ℕ} → AddSays d n b d' out → Gives 0 (11 ∷ 13 ∷ 14 ∷ 15 ∷ []) (get_or out 0 0)
