-- What a line of the table of worked examples (crate examples_table) says.
--   Only       one outcome meets a contract, and nothing else does
--   Holds      what a line says: at that input the contract is met by the line's answer only
--   AllHold    all of a list of lines hold
-- The contracts' definitions are those of crates field_open, field_series, door_order, door_step, walk_chain, door_period, door_unit and
-- book_check; `stored` (crate examples_tests) writes the record of 119 numbers of a basis.
use Rattle.std.specs.Prelude.{◌≡◌, List, [], ◌∷◌, ℕ, ◌*◌, ◌≤◌, length, replicate, Result, Ok, Err}
use Rattle.math_ideals.specs.Element.{norm}
use Rattle.math_chain.specs.Convention.{Convention, e0_monic, number}
use Rattle.field_open.specs.Refusal.{Accepted}
use Rattle.field_open.specs.Opening.{Opens, nothing}
use Rattle.basis_record.specs.Record.{setting, poly_of}
use Rattle.field_series.specs.Answer as filled
use Rattle.door_order.specs.Answer.{Orders}
use Rattle.door_step.specs.Answer.{Answers}
use Rattle.walk_chain.specs.Walk.{Walks}
use Rattle.base_answers.specs.Limits.{most}
use Rattle.door_period.specs.Order as told
use Rattle.door_period.specs.Order.{FromOrder}
use Rattle.door_unit.specs.Unit.{refusal, Makes, UnitAnswer}
use Rattle.unit_finish.specs.Rows.{six}
use Rattle.book_check.specs.Answer.{answer_says, Tells}
use Rattle.book_judge.specs.declared.Reason.{Reason}
use Rattle.book_judge.specs.declared.Reason.TheVariants.{Mark}
use Rattle.examples_tests.specs.Rows.{stored}
use Rattle.examples_table.specs.Lines.{Input, whatever, empty_G, Line, refuses, series, order, steps, closes, spends, period, no_period, unit, unit_norm, narrow, begun_book, no_book, six_rows}

abbrev pub made : ℕ → ℕ → UnitAnswer
made l e = record { refusal = 0; period = record { 0 = l }; regulator = record { 0 = e } }

-- a meets the contract, and nothing else does
pub record Only {A : Type 0} (Contract : A → Type 0) (a : A) : Type 0 where
  pub meets : Contract a
  pub alone : (b : A) → Contract b → b ≡ a

abbrev pub Refuses : ℕ → List ℕ → List ℕ → ℕ → Type 0
Refuses p G H n = Only (Opens p G H) (record { refusal = n; field = nothing })

-- an outcome of the unit: the answer, and what the two slices hold after it
abbrev pub Outcome : Type 0
Outcome = UnitAnswer × List ℕ × List ℕ

-- what is said of these outcomes under a convention, from whatever the slices held and within any budget that suffices for the period
abbrev pub Units : Convention → Input → ℕ → ℕ → (List ℕ → List ℕ → (Outcome → Type 0) → Type 0) → Type 0
Units by k c l Says = (n : ℕ) → l ≤ n → n ≤ most → (rows scratch : List ℕ) → length rows ≡ 6 * c → length scratch ≡ 6 * c
    → Says rows scratch (λ (o : Outcome). Makes (number by) k.p k.G k.H n rows scratch o.0 o.1 o.2)

abbrev pub Holds : Line → Type 0
Holds (refuses p whatever n) = (G H : List ℕ) → Refuses p G H n
Holds (refuses p empty_G n) = (H : List ℕ) → Refuses p [] H n
Holds (series k r w) = (r₀ w₀ : List ℕ) → length r₀ ≡ length r → length w₀ ≡ length r
    → Only (λ (o : ℕ × List ℕ × List ℕ). filled.Answer k.p k.G k.H r₀ w₀ o.1 o.2 o.0) (0, r, w)
Holds (order k b) = Only (Orders k.p k.G k.H) (record { refusal = 0; basis = stored b })
Holds (steps k from d b) = Only (Answers k.p k.G k.H (stored from)) (record { refusal = 0; degree = d; basis = stored b })
Holds (closes k n from s d b) = Only (Walks k.p k.G k.H n (stored from)) (record { refusal = 0; steps = s; sum = d; basis = stored b })
Holds (spends k n from d b) = Only (Walks k.p k.G k.H n (stored from)) (record { refusal = 10; steps = n; sum = d; basis = stored b })
Holds (period k n l e) = Only (FromOrder k.p k.G k.H n) (record { refusal = 0; period = record { 0 = l }; regulator = record { 0 = e } })
Holds (no_period k n) = Only (FromOrder k.p k.G k.H n) (told.refusal 10)
Holds (unit by k c l e E F) = Units by k c l (λ rows scratch Contract. Only Contract (made l e, six_rows c E F, replicate (6 * c) 0))
Holds (unit_norm k c l N) = Units e0_monic k c l (λ rows scratch Contract. (o : Outcome) → Contract o
    → (A : Accepted k.p k.G k.H) → norm (setting A) (six A c 0 o.1) ≡ poly_of A N)
Holds (narrow k c l) = Units e0_monic k c l (λ rows scratch Contract. Only Contract (refusal 11, rows, scratch))
Holds begun_book = Only (λ (a : Result (Unit {0}) Reason). Tells (80 ∷ 67 ∷ 70 ∷ 49 ∷ 0 ∷ 0 ∷ []) (answer_says a)) (Ok tt)
Holds (no_book n) = (s : List ℕ) → length s ≡ n → Only (λ (a : Result (Unit {0}) Reason). Tells s (answer_says a)) (Err Mark)

abbrev pub AllHold : List (ℕ × Line) → Type 0
AllHold [] = Unit {0}
AllHold ((n, l) ∷ ls) = Holds l × AllHold ls
