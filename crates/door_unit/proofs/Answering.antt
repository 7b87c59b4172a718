-- The cases of `unit`: each answer meets the table.
--   lent_of, lent_not   lengths and budget within their rule, and out of it
--   Ready               the field is opened, lengths and budget are within their rule
--   makes_refused, makes_bad, makes_spent, makes_narrow, makes_made   the answers, in the order of the code
--   walked_at, make_in  what the walk and `make` ask
use mathlib.Core.Path.{◌≡◌, refl, subst}
use mathlib.Core.Logic.{◌≢◌, ◌⊎◌, inl, inr}
use mathlib.Core.List.{List}
use Prim.Native.Nat.{ℕ, ◌/◌, ◌≤◌, ◌<◌}
use native.Mathlib.Omega.{arith}
use lib.ListN.{length}
use Rattle.base_answers.proofs.Limits.{six_at, six_none}
use Rattle.field_open.specs.Refusal.{Accepted}
use Rattle.field_open.proofs.Door.{door_refused, door_goes}
use Rattle.math_chain.specs.Chain.{Closing, Open}
use Rattle.math_chain.specs.Convention.{Convention}
use Rattle.math_chain.proofs.Closing.{start_unique}
use Rattle.basis_record.specs.Record.{setting, basis_of}
use Rattle.field_series.specs.Answer.{Expands, OpenedAnswer}
use Rattle.field_series.specs.Keeps.{Kept}
use Rattle.field_series.proofs.Answer.{expands_number}
use Rattle.basis_field.specs.First.{IsFirst, First}
use Rattle.basis_field.proofs.Known.{prime_of, kept_of, field_of, known_of}
use Rattle.walk_chain.specs.Walk.{WalkAnswer, Closes, StaysOpen, Closed, Spent}
use Rattle.walk_chain.specs.InField.{WalkInFieldAsks, WalkInFieldGives}
use Rattle.walk_chain.proofs.Even.{sum_even}
use Rattle.unit_finish.specs.Rows.{Holds}
use Rattle.unit_make.specs.Making.{MakeAsks}
use Rattle.door_unit.specs.Unit.{UnitAnswer, refusal, Lent, Finds, Misses, Refused, Goes, bad, spent, narrow, made, Makes}
use Rattle.door_unit.specs.Fit.{Rule}
use Rattle.door_unit.specs.Scaled.{MakeScaledAsks, MakesScaled}

-- ---- lengths and budget
module _ (i : ℕ) (rows scratch : List ℕ) (n : ℕ) where
  lent_of : (h : Rule i (length rows) (length scratch) n) → Lent i h.0 (length rows / 6) rows scratch n
  lent_of (k, e, a, b, d) = record { named = e; six = six_at rows b; even = a; budget = d }

  lent_not : (Rule i (length rows) (length scratch) n → ⊥) → (k : Convention) (c : ℕ) → Lent i k c rows scratch n → ⊥
  lent_not f k c l = six_none rows (λ b. f (k, l.named, l.even, b, l.budget)) c l.six

-- the walk from the order's record is the walk from the order
module _ {p : ℕ} {G H B : List ℕ} (first : IsFirst p G H B) where
  finds_of : {l d : ℕ} {last : List ℕ} → Closes p G H B l d last → Finds p G H l d
  finds_of {l} {d} {last} k A B₀ st =
      (basis_of A last, subst (λ b. Closing (setting A) b l d (basis_of A last)) (start_unique (setting A) (basis_of A B) B₀ (first.start A) st) (k.closing A))

  misses_of : {n : ℕ} → StaysOpen p G H B n → Misses p G H n
  misses_of {n} o A B₀ st = subst (λ b. Open (setting A) b n) (start_unique (setting A) (basis_of A B) B₀ (first.start A) st) (o A)

refused_is : {no : ℕ} {rows scratch : List ℕ} {m : UnitAnswer} → m ≡ refusal no → Refused no rows scratch m rows scratch
refused_is e = record { answer = e; rows_same = refl; scratch_same = refl }

-- ---- before the walk
module _ {i p : ℕ} {G H : List ℕ} {n : ℕ} {rows scratch : List ℕ} {e : OpenedAnswer} (opens : Expands p G H e) {m : UnitAnswer} where
  pub makes_refused : e.refusal ≢ 0 → m ≡ refusal e.refusal → Makes i p G H n rows scratch m rows scratch
  makes_refused f q = door_refused (expands_number opens) f (refused_is q)

  pub makes_bad : e.refusal ≡ 0 → (Rule i (length rows) (length scratch) n → ⊥) → m ≡ refusal 14 → Makes i p G H n rows scratch m rows scratch
  makes_bad z f q = door_goes (expands_number opens) z (bad (lent_not i rows scratch n f) (refused_is q))

pub record Ready (i p : ℕ) (G H : List ℕ) (n : ℕ) (rows scratch : List ℕ) (e : OpenedAnswer) : Type 0 where
  pub opens : Expands p G H e
  pub zero : e.refusal ≡ 0
  pub rule : Rule i (length rows) (length scratch) n

module _ {i p : ℕ} {G H : List ℕ} {n : ℕ} {rows scratch : List ℕ} {e : OpenedAnswer} (k : Ready i p G H n rows scratch e)
    {b : List ℕ} (first : First e.cubic b) where
  field_at : Accepted p G H
  field_at = field_of k.opens k.zero

  abbrev q : ℕ
  q = e.cubic.field.p

  -- the struct's own p is p
  q_is : q ≡ p
  q_is = prime_of k.opens k.zero

  kept_at : Kept e.cubic G H
  kept_at = kept_of k.opens k.zero

  first_q : IsFirst q G H b
  first_q = first G H kept_at

  first_at : IsFirst p G H b
  first_at = subst (λ t. IsFirst t G H b) q_is first_q

  abbrev way : Convention
  way = k.rule.0

  lent_at : Lent i way (length rows / 6) rows scratch n
  lent_at = lent_of i rows scratch n k.rule

  makes_goes : {m : UnitAnswer} {rows' scratch' : List ℕ} → Goes i p G H n rows scratch m rows' scratch' → Makes i p G H n rows scratch m rows' scratch'
  makes_goes g = door_goes (expands_number k.opens) k.zero g

  pub walked_at : WalkInFieldAsks e.cubic b n
  walked_at = record { G = G; H = H; keeps = kept_at; is_a_record = first_q.is_a_record; within = k.rule.4 }

  -- ---- after the walk
  module _ (w : WalkAnswer) (out : WalkInFieldGives e.cubic b n w) where
    ended : Closed q G H n b w ⊎ Spent q G H n b w
    ended = out G H kept_at first_q.is_a_record

    pub makes_spent : {m : UnitAnswer} → w.refusal ≢ 0 → m ≡ refusal 10 → Makes i p G H n rows scratch m rows scratch
    makes_spent {m} f u = go ended
      where
        go : Closed q G H n b w ⊎ Spent q G H n b w → Makes i p G H n rows scratch m rows scratch
        go (inl x) = absurd (f x.number)
        go (inr x) = makes_goes (spent way (length rows / 6) lent_at (subst (λ t. Misses t G H n) q_is (misses_of first_q x.none)) (refused_is u))

    module _ (f : w.refusal ≡ 0) where
      closed_q : Closed q G H n b w
      closed_q = go ended
        where
          go : Closed q G H n b w ⊎ Spent q G H n b w → Closed q G H n b w
          go (inl x) = x
          go (inr x) = absurd (let u : w.refusal ≡ 10 = x.number in omega arith)

      closed_at : Closed p G H n b w
      closed_at = subst (λ t. Closed t G H n b w) q_is closed_q

      finds_at : Finds p G H w.steps w.sum
      finds_at = finds_of first_at closed_at.closes

      pub makes_narrow : {m : UnitAnswer} → length rows / 6 ≤ w.sum → m ≡ refusal 11 → Makes i p G H n rows scratch m rows scratch
      makes_narrow l u = makes_goes (narrow way (length rows / 6) w.steps w.sum lent_at closed_at.within finds_at l (refused_is u))

      module _ (l : w.sum < length rows / 6) where
        make_asks : MakeAsks e.cubic b w.steps w.sum (length rows / 6) rows scratch
        make_asks = record {
          task = record {
            known = known_of k.opens k.zero;
            is_first = first_q;
            last = w.basis;
            closes = closed_q.closes;
            room = l;
            most = lent_at.six.room;
          };
          whole = lent_at.six.whole;
          even = lent_at.even;
        }

        pub make_in : MakeScaledAsks e.cubic b w.steps w.sum (length rows / 6) i rows scratch
        make_in = record { make = make_asks; k = way; named = k.rule.1 }

        pub makes_made : {rows' scratch' : List ℕ} → MakesScaled e.cubic b w.steps w.sum (length rows / 6) i rows scratch rows' scratch'
            → Makes i p G H n rows scratch (record { refusal = 0; period = record { 0 = w.steps }; regulator = record { 0 = w.sum / 2 } }) rows' scratch'
        unfolding make_asks
        makes_made {rows'} m = makes_goes (made way (length rows / 6) w.steps w.sum lent_at closed_at.within finds_at l (record {
          number = refl;
          period = refl;
          regulator = sum_even field_at b first_at closed_at.closes;
          rows_hold = subst (λ t. Holds way t G H w.steps w.sum (length rows / 6) rows') q_is (m.goes make_asks way k.rule.1);
          scratch_blank = m.blank;
        }))
