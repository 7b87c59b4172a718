-- One outcome for each input: the answer and what both slices hold.
--   makes_unique        two outcomes that meet `Makes` are equal
--   makes_alike         two outcomes under two conventions are, but for the rows
--   refused_number   the number beside a refusal
--   told_one         two results that tell one answer are equal
use mathlib.Core.Path.{◌≡◌, refl, sym, ap, ◌∙◌, subst}
use mathlib.Core.List.{List}
use Prim.Native.Nat.{ℕ, ◌+◌, ◌≤◌}
use native.Mathlib.Omega.{arith}
use Rattle.base_answers.proofs.Limits.{six_unique}
use Rattle.field_open.specs.Refusal.{Accepted}
use Rattle.field_open.proofs.Door.{door_unique}
use Rattle.math_chain.specs.Convention.{Convention, number}
use Rattle.math_chain.proofs.Walk.{closing_unique}
use Rattle.math_chain.proofs.Exists.{order_exists}
use Rattle.math_chain.proofs.Scaling.{number_unique}
use Rattle.basis_record.specs.Record.{setting}
use Rattle.unit_finish.specs.Rows.{Holds}
use Rattle.unit_finish.proofs.Rows.{rows_unique}
use Rattle.std.specs.declared.result.Result.{Result}
use Rattle.std.specs.declared.result.Result.TheVariants.{Ok, Err}
use Rattle.base_answers.specs.declared.Fault.{Fault}
use Rattle.base_answers.proofs.Faults.{some_number, number_one}
use Rattle.base_answers.specs.declared.Cycle.{Cycle}
use Rattle.door_unit.specs.Unit.{UnitAnswer, told, Lent, Finds, Misses, Refused, Goes, bad, spent, narrow, made, Makes}

pub told_one : (r s : Result Cycle Fault) → told r ≡ told s → r ≡ s
told_one (Ok x) (Ok y) e = λ i. Ok (record { period = (e i).period; regulator = (e i).regulator })
told_one (Ok x) (Err k) e = absurd (some_number k (sym (ap (λ (o : UnitAnswer). o.refusal) e)))
told_one (Err j) (Ok y) e = absurd (some_number j (ap (λ (o : UnitAnswer). o.refusal) e))
told_one (Err j) (Err k) e = ap Err (number_one j k (ap (λ (o : UnitAnswer). o.refusal) e))

pub record Same (m m' : UnitAnswer) (rows rows' scratch scratch' : List ℕ) : Type 0 where
  pub number : m.refusal ≡ m'.refusal
  pub period : m.period.0 ≡ m'.period.0
  pub regulator : m.regulator.0 ≡ m'.regulator.0
  pub rows_same : rows ≡ rows'
  pub scratch_same : scratch ≡ scratch'

-- the same but for the rows, which are so under one number
pub record Alike (i j : ℕ) (m m' : UnitAnswer) (rows rows' scratch scratch' : List ℕ) : Type 0 where
  pub number_same : m.refusal ≡ m'.refusal
  pub period_same : m.period.0 ≡ m'.period.0
  pub regulator_same : m.regulator.0 ≡ m'.regulator.0
  pub scratch_alike : scratch ≡ scratch'
  pub rows_alike : i ≡ j → rows ≡ rows'

pub refused_number : {a : ℕ} {rows scratch r s : List ℕ} {m : UnitAnswer} → Refused a rows scratch m r s → m.refusal ≡ a
refused_number x = ap (λ m. m.refusal) x.answer

refused_alike : {i j a : ℕ} {rows scratch : List ℕ} {m m' : UnitAnswer} {r r' s s' : List ℕ} → Refused a rows scratch m r s → Refused a rows scratch m' r' s' → Alike i j m m' r r' s s'
refused_alike {m = m} {m'} x y =
    let e : m ≡ m' = x.answer ∙ sym y.answer in
    record {
      number_same = ap (λ z. z.refusal) e;
      period_same = ap (λ z. z.period.0) e;
      regulator_same = ap (λ z. z.regulator.0) e;
      scratch_alike = x.scratch_same ∙ sym y.scratch_same;
      rows_alike = λ _. x.rows_same ∙ sym y.rows_same;
    }

abbrev pub Names : ℕ → ℕ → Type 0
Names i j = (k : Convention) → number k ≡ i → (k' : Convention) × (number k' ≡ j)

module _ {p : ℕ} {G H : List ℕ} (A : Accepted p G H) where
  -- from the order there is one closing
  finds_unique : {l l' d d' : ℕ} → Finds p G H l d → Finds p G H l' d' → (l ≡ l') × (d ≡ d')
  finds_unique f g =
      let (B₀, st) = order_exists (setting A) in
      let (e, k, r) = closing_unique (setting A) B₀ st.good (f A B₀ st).1 (g A B₀ st).1 in
      (e, k)

  not_both : {n l d : ℕ} → l ≤ n → Finds p G H l d → Misses p G H n → ⊥
  not_both l f o =
      let (B₀, st) = order_exists (setting A) in
      let (B, k) = f A B₀ st in
      o A B₀ st _ _ B k.some l k.chain k.closed

  -- two numbers that both name a convention, or none
  module _ (i j n : ℕ) (rows scratch : List ℕ) (to : Names i j) (from : Names j i) where
    lent_to : {k : Convention} {c : ℕ} (t : Lent i k c rows scratch n) → Lent j (to k t.named).0 c rows scratch n
    lent_to {k} t = record { named = (to k t.named).1; six = t.six; even = t.even; budget = t.budget }

    lent_from : {k : Convention} {c : ℕ} (t : Lent j k c rows scratch n) → Lent i (from k t.named).0 c rows scratch n
    lent_from {k} t = record { named = (from k t.named).1; six = t.six; even = t.even; budget = t.budget }

    goes_alike : (m m' : UnitAnswer) (r r' s s' : List ℕ) → Goes i p G H n rows scratch m r s → Goes j p G H n rows scratch m' r' s' → Alike i j m m' r r' s s'
    goes_alike m m' r r' s s' (bad a x) (bad b y) = refused_alike x y
    goes_alike m m' r r' s s' (bad a x) (spent way c t o y) = absurd (a _ c (lent_from t))
    goes_alike m m' r r' s s' (bad a x) (narrow way c l d t u f k y) = absurd (a _ c (lent_from t))
    goes_alike m m' r r' s s' (bad a x) (made way c l d t u f k y) = absurd (a _ c (lent_from t))
    goes_alike m m' r r' s s' (spent way c t o x) (bad b y) = absurd (b _ c (lent_to t))
    goes_alike m m' r r' s s' (spent way c t o x) (spent way' c' t' o' y) = refused_alike x y
    goes_alike m m' r r' s s' (spent way c t o x) (narrow way' c' l d t' u f k y) = absurd (not_both u f o)
    goes_alike m m' r r' s s' (spent way c t o x) (made way' c' l d t' u f k y) = absurd (not_both u f o)
    goes_alike m m' r r' s s' (narrow way c l d t u f k x) (bad b y) = absurd (b _ c (lent_to t))
    goes_alike m m' r r' s s' (narrow way c l d t u f k x) (spent way' c' t' o y) = absurd (not_both u f o)
    goes_alike m m' r r' s s' (narrow way c l d t u f k x) (narrow way' c' l' d' t' u' f' k' y) = refused_alike x y
    goes_alike m m' r r' s s' (narrow way c l d t u f k x) (made way' c' l' d' t' u' f' k' y) = let (a, b) = finds_unique f f' in let e : c ≡ c' = six_unique t.six t'.six in absurd (omega arith)
    goes_alike m m' r r' s s' (made way c l d t u f k x) (bad b y) = absurd (b _ c (lent_to t))
    goes_alike m m' r r' s s' (made way c l d t u f k x) (spent way' c' t' o y) = absurd (not_both u f o)
    goes_alike m m' r r' s s' (made way c l d t u f k x) (narrow way' c' l' d' t' u' f' k' y) = let (a, b) = finds_unique f f' in let e : c ≡ c' = six_unique t.six t'.six in absurd (omega arith)
    goes_alike m m' r r' s s' (made way c l d t u f k x) (made way' c' l' d' t' u' f' k' y) =
        let (a, b) = finds_unique f f' in
        let e : c ≡ c' = six_unique t.six t'.six in
        let v : m.regulator.0 + m.regulator.0 ≡ d = x.regulator in
        let w : m'.regulator.0 + m'.regulator.0 ≡ d' = y.regulator in
        record {
          number_same = x.number ∙ sym y.number;
          period_same = x.period ∙ a ∙ sym y.period;
          regulator_same = omega arith;
          scratch_alike = x.scratch_blank ∙ sym y.scratch_blank;
          rows_alike = λ h. rows_unique A c r r' x.rows_hold (subst (λ q. Holds way p G H l' d' q r') (sym e)
              (subst (λ u. Holds u p G H l' d' c' r') (number_unique way' way (t'.named ∙ sym h ∙ sym t.named)) y.rows_hold));
        }

module _ (i j p : ℕ) (G H : List ℕ) (n : ℕ) (rows scratch : List ℕ) (to : Names i j) (from : Names j i) (m m' : UnitAnswer) (r r' s s' : List ℕ) where
  pub makes_alike : Makes i p G H n rows scratch m r s → Makes j p G H n rows scratch m' r' s' → Alike i j m m' r r' s s'
  makes_alike = door_unique (λ k. refused_alike) (λ A. goes_alike A i j n rows scratch to from m m' r r' s s')

pub makes_unique : (i p : ℕ) (G H : List ℕ) (n : ℕ) (rows scratch : List ℕ) (m m' : UnitAnswer) (r r' s s' : List ℕ) → Makes i p G H n rows scratch m r s → Makes i p G H n rows scratch m' r' s' → Same m m' r r' s s'
makes_unique i p G H n rows scratch m m' r r' s s' x y =
    let e = makes_alike i i p G H n rows scratch (λ k e. (k, e)) (λ k e. (k, e)) m m' r r' s s' x y in
    record { number = e.number_same; period = e.period_same; regulator = e.regulator_same; rows_same = e.rows_alike refl; scratch_same = e.scratch_alike }
