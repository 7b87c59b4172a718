-- Which case of its contract an answer is, by its number: every other case has another number.
--   walk_closed walk_spent        a walk answered with 0 has closed; one answered with 10 has spent its budget
--   walk_reaches walk_stays       with either number it has reached its basis; with 10 none of its steps closed
--   told_closed told_spent        the same of a walk from the order
--   unit_made success_unit        a unit answered with 0 was made, and the rows are that unit
--   unit_spent unit_narrow        with 10 the budget was spent, with 11 the room was too little
--   told_accepted unit_accepted   then the field is accepted
use mathlib.Core.Path.{◌≡◌, sym, ap, ◌∙◌, subst}
use mathlib.Core.Logic.{◌⊎◌, inl, inr}
use mathlib.Core.List.{List}
use Prim.Native.Nat.{ℕ, ◌+◌, ◌≤◌}
use native.Mathlib.Omega.{arith}
use Rattle.field_open.specs.Refusal.{Accepted}
use Rattle.field_open.proofs.Door.{door_out}
use Rattle.math_ideals.specs.Ideal.{Basis}
use Rattle.math_ideals.specs.Next.{Start}
use Rattle.math_chain.specs.Convention.{Convention}
use Rattle.math_chain.specs.Unit.{UnitOf}
use Rattle.basis_record.specs.Record.{setting}
use Rattle.basis_field.specs.First.{IsFirst}
use Rattle.walk_chain.specs.Walk.{WalkAnswer}
use Rattle.walk_chain.specs.Walk as walk
use Rattle.door_period.specs.Order.{PeriodAnswer}
use Rattle.door_period.specs.Order as walks
use Rattle.door_unit.specs.Unit.{UnitAnswer}
use Rattle.door_unit.specs.Unit as unit
use Rattle.door_unit.proofs.Once.{refused_number}
use Rattle.unit_finish.specs.Rows.{six}

-- ---- the walk
module _ (p n : ℕ) (G H B : List ℕ) (w : WalkAnswer) (h : walk.Walks p G H n B w) where
  walk_number : {k : ℕ} → w ≡ walk.refused k → w.refusal ≡ k
  walk_number e = ap (λ (x : WalkAnswer). x.refusal) e

  pub walk_closed : w.refusal ≡ 0 → walk.Closed p G H n B w
  walk_closed z = door_out (λ k f l e. let q = walk_number e in absurd (f (sym q ∙ z))) (λ A. case) h
    where
      case : walk.Goes p G H n B w → walk.Closed p G H n B w
      case (walk.budget l e) = let k = walk_number e in absurd (omega arith)
      case (walk.no_record l f e) = let k = walk_number e in absurd (omega arith)
      case (walk.closed l r c) = c
      case (walk.spent l r s) = let k = s.number in absurd (omega arith)

  pub walk_spent : w.refusal ≡ 10 → walk.Spent p G H n B w
  walk_spent z = door_out (λ k f l e. let q = walk_number e in absurd (omega arith)) (λ A. case) h
    where
      case : walk.Goes p G H n B w → walk.Spent p G H n B w
      case (walk.budget l e) = let k = walk_number e in absurd (omega arith)
      case (walk.no_record l f e) = let k = walk_number e in absurd (omega arith)
      case (walk.closed l r c) = let k = c.number in absurd (omega arith)
      case (walk.spent l r s) = s

  pub walk_reaches : (w.refusal ≡ 0) ⊎ (w.refusal ≡ 10) → walk.Reaches p G H B w.steps w.sum w.basis
  walk_reaches (inl z) = let k = (walk_closed z).closes in record { is_a_record = k.is_a_record; chain = λ A. (k.closing A).chain }
  walk_reaches (inr z) = let s = walk_spent z in subst (λ k. walk.Reaches p G H B k w.sum w.basis) (sym s.all) s.reaches

  pub walk_stays : w.refusal ≡ 10 → walk.StaysOpen p G H B w.steps
  walk_stays z = let s = walk_spent z in subst (walk.StaysOpen p G H B) (sym s.all) s.none

-- ---- the walk from the order
module _ (p n : ℕ) (G H : List ℕ) (o : PeriodAnswer) (h : walks.FromOrder p G H n o) where
  told_number : {k : ℕ} → o ≡ walks.refusal k → o.refusal ≡ k
  told_number e = ap (λ (x : PeriodAnswer). x.refusal) e

  abbrev Closed : Type 0
  Closed = (B : List ℕ) × IsFirst p G H B × walks.Periodic p G H n B o

  abbrev Spent : Type 0
  Spent = (B : List ℕ) × IsFirst p G H B × walk.StaysOpen p G H B n

  pub told_closed : o.refusal ≡ 0 → Closed
  told_closed z = door_out (λ k f l e. let q = told_number e in absurd (f (sym q ∙ z))) (λ A. case) h
    where
      case : walks.Goes p G H n o → Closed
      case (walks.budget l e) = let k = told_number e in absurd (omega arith)
      case (walks.closed l B f c) = (B, f, c)
      case (walks.spent l B f g e) = let k = told_number e in absurd (omega arith)

  pub told_spent : o.refusal ≡ 10 → Spent
  told_spent z = door_out (λ k f l e. let q = told_number e in absurd (omega arith)) (λ A. case) h
    where
      case : walks.Goes p G H n o → Spent
      case (walks.budget l e) = let k = told_number e in absurd (omega arith)
      case (walks.closed l B f c) = let k = c.number in absurd (omega arith)
      case (walks.spent l B f g e) = (B, f, g)

  pub told_accepted : o.refusal ≡ 0 → Accepted p G H
  told_accepted z = door_out (λ k f l e. let q = told_number e in absurd (f (sym q ∙ z))) (λ A _. A) h

-- ---- the unit
module _ (i p n : ℕ) (G H rows scratch rows' scratch' : List ℕ) (m : UnitAnswer) (h : unit.Makes i p G H n rows scratch m rows' scratch') where
  abbrev Done : Type 0
  Done = (k : Convention) × (c l d : ℕ) × unit.Lent i k c rows scratch n × unit.Success k p G H l d c scratch m rows' scratch'

  abbrev Narrow : Type 0
  Narrow = (k : Convention) × (c l d : ℕ) × unit.Lent i k c rows scratch n × unit.Finds p G H l d × (c ≤ d)

  pub unit_made : m.refusal ≡ 0 → Done
  unit_made z = door_out (λ k f l e. let q = refused_number e in absurd (f (sym q ∙ z))) (λ A. case) h
    where
      case : unit.Goes i p G H n rows scratch m rows' scratch' → Done
      case (unit.bad f r) = let k = refused_number r in absurd (omega arith)
      case (unit.spent v c b f r) = let k = refused_number r in absurd (omega arith)
      case (unit.narrow v c l d b s f g r) = let k = refused_number r in absurd (omega arith)
      case (unit.made v c l d b s f g r) = (v, c, l, d, b, r)

  pub unit_spent : m.refusal ≡ 10 → unit.Misses p G H n
  unit_spent z = door_out (λ k f l e. let q = refused_number e in absurd (omega arith)) (λ A. case) h
    where
      case : unit.Goes i p G H n rows scratch m rows' scratch' → unit.Misses p G H n
      case (unit.bad f r) = let k = refused_number r in absurd (omega arith)
      case (unit.spent v c b f r) = f
      case (unit.narrow v c l d b s f g r) = let k = refused_number r in absurd (omega arith)
      case (unit.made v c l d b s f g r) = let k = r.number in absurd (omega arith)

  pub unit_narrow : m.refusal ≡ 11 → Narrow
  unit_narrow z = door_out (λ k f l e. let q = refused_number e in absurd (omega arith)) (λ A. case) h
    where
      case : unit.Goes i p G H n rows scratch m rows' scratch' → Narrow
      case (unit.bad f r) = let k = refused_number r in absurd (omega arith)
      case (unit.spent v c b f r) = let k = refused_number r in absurd (omega arith)
      case (unit.narrow v c l d b s f g r) = (v, c, l, d, b, f, g)
      case (unit.made v c l d b s f g r) = let k = r.number in absurd (omega arith)

  pub unit_accepted : m.refusal ≡ 0 → Accepted p G H
  unit_accepted z = door_out (λ k f l e. let q = refused_number e in absurd (f (sym q ∙ z))) (λ A _. A) h

-- the rows are the unit of the chain, with the period and the regulator told
pub success_unit :
    (p : ℕ) (G H rows : List ℕ) (m : UnitAnswer) {k : Convention} {l d c : ℕ} {scratch scratch' : List ℕ} →
    unit.Success k p G H l d c scratch m rows scratch' →
    (A : Accepted p G H) (B₀ : Basis (setting A)) → Start (setting A) B₀ →
    UnitOf (setting A) k B₀ m.period.0 (m.regulator.0 + m.regulator.0) (six A c 0 rows) (six A c (c + c + c) rows)
success_unit p G H rows m {k} {l} {d} {c} r A B₀ st =
    subst (λ x. UnitOf (setting A) k B₀ x (m.regulator.0 + m.regulator.0) (six A c 0 rows) (six A c (c + c + c) rows)) (sym r.period)
    (subst (λ x. UnitOf (setting A) k B₀ l x (six A c 0 rows) (six A c (c + c + c) rows)) (sym r.regulator) (r.rows_hold.unit A B₀ st))
