-- Demand 1 for the functions that C and Rust call (crate capi): "A refusal writes nothing to a lent buffer, and all of its answer is fixed
-- by the input."
--   FromC   a field `.._kept` says that a refusal leaves what is lent as it was, `.._fixed` that two outcomes of one call are equal
-- How to read it: n is the number that a function returns. The functions of the book return nothing and put five numbers into a lent row
-- `out`, of which the first is the refusal's. zaminuk_refusal, zaminuk_series, zaminuk_check, zaminuk_transfer, zaminuk_rescale and
-- zaminuk_sheet have the contracts of the functions behind them, so that the fields of `Demand1` are theirs; zaminuk_book_bodies has an equation for a contract.
-- The theorem `from_c` is in proofs/FromC.antt.
use Rattle.std.specs.Prelude.{◌≡◌, ◌≢◌, List, ℕ, get_or}
use Rattle.book_body.specs.Body.{Body}
use Rattle.book_place.specs.Place.{AskSays}
use Rattle.capi.specs.Told.{OrderTells, StepTells, WalkTells, FromOrderTells, UnitTells, OneFieldTells}
use Rattle.book_begin.specs.Begin.{BeginSays}
use Rattle.book_parts.specs.Parts.{PrimeSays, PeriodSays, ListSays}
use Rattle.book_rows.specs.Rows.{RowsSays}
use Rattle.capi.specs.Books.{CheckSays, WriteSays, AddSays, AttestSays}

pub record FromC : Type 0 where
  -- "A refusal writes nothing to a lent buffer"; a walk refused with 10 is the exception that document 01 names
  pub order_kept : {p n : ℕ} {G H a b : List ℕ} → OrderTells p G H a n b → n ≢ 0 → b ≡ a
  pub step_kept : {p n d : ℕ} {G H a b : List ℕ} → StepTells p G H a n d b → n ≢ 0 → b ≡ a
  pub walk_kept : {p k n s d : ℕ} {G H a b : List ℕ} → WalkTells p G H k a n s d b → n ≢ 0 → n ≢ 10 → b ≡ a
  pub unit_kept :
      {i p k n l r : ℕ} {G H a b c d : List ℕ} →
      UnitTells i p G H k a b n l r c d → n ≢ 0 →
      (c ≡ a) × (d ≡ b)
  pub begin_kept : {d e out : List ℕ} → BeginSays d e out → get_or out 0 0 ≢ 0 → e ≡ d
  pub rows_kept : {p t : ℕ} {G H l d e out : List ℕ} → RowsSays p G H t l d e out → get_or out 0 0 ≢ 0 → e ≡ d
  pub list_kept : {s : List ℕ} {k : ℕ} {d e out : List ℕ} → ListSays s k d e out → get_or out 0 0 ≢ 0 → e ≡ d
  pub write_kept : {b : Body} {d e out : List ℕ} → WriteSays b d e out → get_or out 0 0 ≢ 0 → e ≡ d
  pub add_kept : {d : List ℕ} {n : ℕ} {b e out : List ℕ} → AddSays d n b e out → get_or out 0 0 ≢ 0 → e ≡ d
  -- "all of its answer is fixed by the input"
  pub order_fixed :
      {p n n' : ℕ} {G H a b b' : List ℕ} →
      OrderTells p G H a n b → OrderTells p G H a n' b' →
      (n ≡ n') × (b ≡ b')
  pub step_fixed :
      {p n n' d d' : ℕ} {G H a b b' : List ℕ} →
      StepTells p G H a n d b → StepTells p G H a n' d' b' →
      (n ≡ n') × (d ≡ d') × (b ≡ b')
  pub walk_fixed :
      {p k n n' s s' d d' : ℕ} {G H a b b' : List ℕ} →
      WalkTells p G H k a n s d b → WalkTells p G H k a n' s' d' b' →
      (n ≡ n') × (s ≡ s') × (d ≡ d') × (b ≡ b')
  pub from_order_fixed :
      {p k n n' l l' r r' : ℕ} {G H : List ℕ} →
      FromOrderTells p G H k n l r → FromOrderTells p G H k n' l' r' →
      (n ≡ n') × (l ≡ l') × (r ≡ r')
  pub unit_fixed :
      {i p k n n' l l' r r' : ℕ} {G H a b c c' d d' : List ℕ} →
      UnitTells i p G H k a b n l r c d → UnitTells i p G H k a b n' l' r' c' d' →
      (n ≡ n') × (l ≡ l') × (r ≡ r') × (c ≡ c') × (d ≡ d')
  pub one_field_fixed :
      {p n n' s s' : ℕ} {G H G' H' : List ℕ} →
      OneFieldTells p G H G' H' n s → OneFieldTells p G H G' H' n' s' →
      (n ≡ n') × (s ≡ s')
  pub check_book_fixed : {s o o' : List ℕ} → CheckSays s o → CheckSays s o' → o ≡ o'
  pub ask_fixed :
      {s : List ℕ} {i a a' l l' : ℕ} {o o' : List ℕ} →
      AskSays s i a l o → AskSays s i a' l' o' →
      (a ≡ a') × (l ≡ l') × (o ≡ o')
  pub attest_fixed : {s : List ℕ} {i : ℕ} {o o' : List ℕ} → AttestSays s i o → AttestSays s i o' → o ≡ o'
  pub begin_fixed : {d e e' o o' : List ℕ} → BeginSays d e o → BeginSays d e' o' → (e ≡ e') × (o ≡ o')
  pub prime_fixed : {s o o' : List ℕ} → PrimeSays s o → PrimeSays s o' → o ≡ o'
  pub period_fixed : {s o o' : List ℕ} → PeriodSays s o → PeriodSays s o' → o ≡ o'
  pub rows_fixed :
      {p t : ℕ} {G H l d e e' o o' : List ℕ} →
      RowsSays p G H t l d e o → RowsSays p G H t l d e' o' →
      (e ≡ e') × (o ≡ o')
  pub list_fixed :
      {s : List ℕ} {k : ℕ} {d e e' o o' : List ℕ} →
      ListSays s k d e o → ListSays s k d e' o' →
      (e ≡ e') × (o ≡ o')
  pub write_fixed :
      {b : Body} {d e e' o o' : List ℕ} →
      WriteSays b d e o → WriteSays b d e' o' →
      (e ≡ e') × (o ≡ o')
  pub add_fixed :
      {d : List ℕ} {n : ℕ} {b e e' o o' : List ℕ} →
      AddSays d n b e o → AddSays d n b e' o' →
      (e ≡ e') × (o ≡ o')
