-- The unit of two pairs of one field: what `unit` answers for the one, its rows carried over, is an answer for the other, and there is one.
--   MadeOver, makes_over   the answer for the other pair
--   Rows, made_rows        the rows after success
--   made_same              the same refusal, period and regulator, and after success rows that carry over
use mathlib.Core.Path.{◌≡◌, refl, sym, ap, ◌∙◌, subst}
use mathlib.Core.Logic.{◌≢◌}
use mathlib.Core.List.{List}
use Prim.Native.Nat.{ℕ, ◌*◌, ◌≤◌}
use native.Mathlib.Omega.{arith}
use lib.ListN.{length, replicate}
use Rattle.field_open.specs.Refusal.{Accepted}
use Rattle.door_unit.specs.Unit.{UnitAnswer, Lent, Refused, Goes, bad, spent, narrow, made, Makes}
use Rattle.math_chain.specs.Convention.{Convention}
use Rattle.base_answers.specs.Limits.{longest}
use Rattle.door_unit.proofs.Once.{makes_unique}
use Rattle.pair_laws.specs.OneField.{OneField}
use Rattle.pair_agree.specs.Answer.{Coefficients}
use Rattle.pair_laws.specs.Rows.{RowsCarry}
use Rattle.pair_answers.specs.Alike.{MadeSame}
use Rattle.pair_answers.proofs.Way.{Way, way, split}
use Rattle.pair_answers.proofs.UnitRows.{rows_in, over, holds_over, finds_over, misses_over}

-- rows of 6 c numbers that carry over
pub record Rows (p : ℕ) (G H G' H' : List ℕ) (r r' : List ℕ) : Type 0 where
  pub c : ℕ
  pub room : c ≤ longest
  pub whole : length r ≡ 6 * c
  pub whole' : length r' ≡ 6 * c
  pub carries : RowsCarry p G H G' H' c r r'

-- v with some slices is an answer, and after success the first slice is r carried over
pub record MadeOver (p : ℕ) (G H G' H' : List ℕ) (v : UnitAnswer) (r : List ℕ) (Answer : List ℕ → List ℕ → Type 0) : Type 0 where
  pub rows : List ℕ
  pub scratch : List ℕ
  pub answer : Answer rows scratch
  pub carried : v.refusal ≡ 0 → Rows p G H G' H' r rows

module _ {i n : ℕ} {x y x' y' : List ℕ} (ex : length x ≡ length x') (ey : length y ≡ length y') where
  lent_over : {k : Convention} {c : ℕ} → Lent i k c x y n → Lent i k c x' y' n
  lent_over t = record { named = t.named; six = record { room = t.six.room; whole = sym ex ∙ t.six.whole }; even = sym ey ∙ t.even ∙ ex; budget = t.budget }

  lent_back : {k : Convention} {c : ℕ} → Lent i k c x' y' n → Lent i k c x y n
  lent_back t = record { named = t.named; six = record { room = t.six.room; whole = ex ∙ t.six.whole }; even = ey ∙ t.even ∙ sym ex; budget = t.budget }

module _ (p : ℕ) (G H G' H' : List ℕ) (i n : ℕ) (x y x' y' : List ℕ) (ex : length x ≡ length x') (ey : length y ≡ length y') (v : UnitAnswer) (r s : List ℕ) where
  -- a refusal leaves both slices
  left : {a : ℕ} {Answer : List ℕ → List ℕ → Type 0} → a ≢ 0 → Refused a x y v r s → (Refused a x' y' v x' y' → Answer x' y')
      → MadeOver p G H G' H' v r Answer
  left f h k = record {
    rows = x';
    scratch = y';
    answer = k (record { answer = h.answer; rows_same = refl; scratch_same = refl });
    carried = λ z. absurd (f (sym (ap (λ m. m.refusal) h.answer) ∙ z));
  }

  goes_over : Accepted p G H → Way p G H G' H' → Goes i p G H n x y v r s → MadeOver p G H G' H' v r (Goes i p G' H' n x' y' v)
  goes_over A w (bad a h) = left (λ z. omega arith) h (λ k. bad (λ m c t. a m c (lent_back ex ey t)) k)
  goes_over A w (spent m c t o h) = left (λ z. omega arith) h (λ k. spent m c (lent_over ex ey t) (misses_over A w o) k)
  goes_over A w (narrow m c l d t u f q h) = left (λ z. omega arith) h (λ k. narrow m c l d (lent_over ex ey t) u (finds_over A w f) q k)
  goes_over A w (made m c l d t u f q h) =
      let (r', o) = over c r h.rows_hold.each w in
      record {
        rows = r';
        scratch = replicate (length y') 0;
        answer = made m c l d (lent_over ex ey t) u (finds_over A w f) q (record {
          number = h.number;
          period = h.period;
          regulator = h.regulator;
          rows_hold = holds_over A w o h.rows_hold;
          scratch_blank = refl;
        });
        carried = λ z. record { c = c; room = t.six.room; whole = h.rows_hold.whole; whole' = o.size; carries = rows_in w o.rows };
      }

  pub makes_over : Coefficients p G H → Coefficients p G' H' → OneField p G H G' H' → Makes i p G H n x y v r s
      → MadeOver p G H G' H' v r (Makes i p G' H' n x' y' v)
  makes_over cs cs' one a = split p cs cs' one a.no a.first
      (λ f first. left f (a.none f) (λ k. record { no = a.no; first = first; none = λ _. k; goes = λ z. absurd (f z) }))
      (λ z A A' first. let g = goes_over A (way A A' one) (a.goes z) in record {
        rows = g.rows;
        scratch = g.scratch;
        answer = record { no = a.no; first = first; none = λ f. absurd (f z); goes = λ _. g.answer };
        carried = g.carried;
      })

-- the same budget, slices of the same lengths
module _ (p : ℕ) {G H G' H' : List ℕ} (cs : Coefficients p G H) (cs' : Coefficients p G' H') (one : OneField p G H G' H')
    (i n : ℕ) (x y x' y' : List ℕ) (ex : length x ≡ length x') (ey : length y ≡ length y') (v w : UnitAnswer) (r r' s s' : List ℕ) where
  pub made_rows : Makes i p G H n x y v r s → Makes i p G' H' n x' y' w r' s' → v.refusal ≡ 0 → Rows p G H G' H' r r'
  made_rows a b z =
      let o = makes_over p G H G' H' i n x y x' y' ex ey v r s cs cs' one a in
      subst (Rows p G H G' H' r) (makes_unique i p G' H' n x' y' v w o.rows r' o.scratch s' o.answer b).rows_same (o.carried z)

  pub made_same : Makes i p G H n x y v r s → Makes i p G' H' n x' y' w r' s' → MadeSame p G H G' H' v w r r'
  made_same a b =
      let o = makes_over p G H G' H' i n x y x' y' ex ey v r s cs cs' one a in
      let q = makes_unique i p G' H' n x' y' v w o.rows r' o.scratch s' o.answer b in
      record {
        number = q.number;
        period = q.period;
        regulator = q.regulator;
        rows = λ z. let k = made_rows a b z in (k.c, k.whole, k.whole', k.carries);
      }
