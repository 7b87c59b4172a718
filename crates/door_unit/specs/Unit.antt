-- The answer to `unit` and `unit_scaled` (document 01: "Unit", refusals 10, 11, 14, "All buffers, scratch too, stay untouched on refusal";
-- request E6: "convention 1 with E0 monic, convention 2 with norm 1, as the caller names it").
--   UnitAnswer              document 01's answer: the refusal's number, 0 for none, with period and regulator beside it
--   refusal n               the answer beside the refusal n: the other results are 0
--   told r                  the answer that a result tells
--   Lent i k c rows scratch n   the number i names the convention k, lengths and budget are within their rule: two slices of 6 c numbers, c at
--                           most 4,096, the budget at most 1,000,000
--   Finds p G H l d         from the order the chain closes after l steps with degree sum d
--   Makes i p G H n rows scratch m rows' scratch'   the whole answer under the convention with the number i, and both slices after it; `unit`
--                           is asked no number and answers with 1
-- What the first slice holds after success is `Holds` of crate unit_finish. In proofs/Once.antt: `makes_unique`, two outcomes that meet it
-- are equal; `told_one`, and so are two results that tell one answer.
use Rattle.std.specs.Prelude.{◌≡◌, List, ℕ, ◌+◌, ◌<◌, ◌≤◌, length, replicate, Result, Ok, Err}
use Rattle.base_answers.specs.declared.Fault.{Fault}
use Rattle.base_answers.specs.declared.Period.{Period}
use Rattle.base_answers.specs.declared.Regulator.{Regulator}
use Rattle.base_answers.specs.Faults.{fault_number}
use Rattle.base_answers.specs.Limits.{most, Six}
use Rattle.field_open.specs.Refusal.{Accepted}
use Rattle.field_open.specs.Door.{Door}
use Rattle.math_ideals.specs.Ideal.{Basis}
use Rattle.math_ideals.specs.Next.{Start}
use Rattle.math_chain.specs.Chain.{Closing, Open}
use Rattle.math_chain.specs.Convention.{Convention, number}
use Rattle.basis_record.specs.Record.{setting}
use Rattle.unit_finish.specs.Rows.{Holds}
use Rattle.base_answers.specs.declared.Cycle.{Cycle}

pub record UnitAnswer : Type 0 where
  pub refusal : ℕ
  pub period : Period
  pub regulator : Regulator

-- the answer beside a refusal
abbrev pub refusal : ℕ → UnitAnswer
refusal n = record { refusal = n; period = record { 0 = 0 }; regulator = record { 0 = 0 } }

abbrev pub told : Result Cycle Fault → UnitAnswer
told (Ok m) = record { refusal = 0; period = m.period; regulator = m.regulator }
told (Err k) = refusal (fault_number k)

pub record Lent (i : ℕ) (k : Convention) (c : ℕ) (rows scratch : List ℕ) (n : ℕ) : Type 0 where
  pub named : number k ≡ i
  pub six : Six c rows
  pub even : length scratch ≡ length rows
  pub budget : n ≤ most

abbrev pub Finds : ℕ → List ℕ → List ℕ → ℕ → ℕ → Type 0
Finds p G H l d = (A : Accepted p G H) (B₀ : Basis (setting A)) → Start (setting A) B₀ → (B : Basis (setting A)) × Closing (setting A) B₀ l d B

abbrev pub Misses : ℕ → List ℕ → List ℕ → ℕ → Type 0
Misses p G H n = (A : Accepted p G H) (B₀ : Basis (setting A)) → Start (setting A) B₀ → Open (setting A) B₀ n

-- "the other results with a refusal are 0"
pub record Refused (no : ℕ) (rows scratch : List ℕ) (m : UnitAnswer) (rows' scratch' : List ℕ) : Type 0 where
  pub answer : m ≡ refusal no
  pub rows_same : rows' ≡ rows
  pub scratch_same : scratch' ≡ scratch

-- "On success: period and regulator"; the scratch holds only zeros
pub record Success (k : Convention) (p : ℕ) (G H : List ℕ) (l d c : ℕ) (scratch : List ℕ) (m : UnitAnswer) (rows' scratch' : List ℕ) : Type 0 where
  pub number : m.refusal ≡ 0
  pub period : m.period.0 ≡ l
  pub regulator : m.regulator.0 + m.regulator.0 ≡ d
  pub rows_hold : Holds k p G H l d c rows'
  pub scratch_blank : scratch' ≡ replicate (length scratch) 0

module _ (i p : ℕ) (G H : List ℕ) (n : ℕ) (rows scratch : List ℕ) where
  -- an accepted field: 14, then 10, then 11
  pub data Goes (m : UnitAnswer) (rows' scratch' : List ℕ) : Type 0 where
    bad : ((k : Convention) (c : ℕ) → Lent i k c rows scratch n → ⊥) → Refused 14 rows scratch m rows' scratch' → Goes m rows' scratch'
    spent : (k : Convention) (c : ℕ) → Lent i k c rows scratch n → Misses p G H n → Refused 10 rows scratch m rows' scratch' → Goes m rows' scratch'
    narrow : (k : Convention) (c l d : ℕ) → Lent i k c rows scratch n → l ≤ n → Finds p G H l d → c ≤ d → Refused 11 rows scratch m rows' scratch' → Goes m rows' scratch'
    made : (k : Convention) (c l d : ℕ) → Lent i k c rows scratch n → l ≤ n → Finds p G H l d → d < c → Success k p G H l d c scratch m rows' scratch' → Goes m rows' scratch'

  abbrev pub Makes : UnitAnswer → List ℕ → List ℕ → Type 0
  Makes m rows' scratch' = Door p G H (λ no. Refused no rows scratch m rows' scratch') (Goes m rows' scratch')
