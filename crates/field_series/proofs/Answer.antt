-- What `series` and `open_with_series` answer.
--   done                    what `series` answers where it fills both lists
--   opening                 what `with_series` asks, of the fronts that the lists stand for
--   answer_unique              two outcomes of one call of `series` are equal
--   answer_kept             a refusal leaves both lists
--   expands_unique             two answers of `open_with_series` to one field are equal
--   told_one                two results that tell one answer are equal
--   expands_number          the number beside the opened field is the table's
--   expands_holding         beside 0: the field, opened
use mathlib.Core.Path.{◌≡◌, refl, sym, ap, ◌∙◌}
use mathlib.Core.Logic.{◌≢◌}
use mathlib.Core.List.{List}
use Prim.Native.Nat.{ℕ}
use lib.ListN.{take}
use Rattle.std.specs.declared.result.Result.{Result}
use Rattle.std.specs.declared.result.Result.TheVariants.{Ok, Err}
use Rattle.base_lists.proofs.Paddings.{fronts, unfronts}
use Rattle.base_answers.specs.declared.Fault.{Fault}
use Rattle.base_answers.proofs.Faults.{some_number, number_one}
use Rattle.field_open.specs.Refusal.{Refusal, Accepted}
use Rattle.field_open.specs.Padding.{unpad, Unpadded}
use Rattle.field_open.specs.Opening.{FieldAnswer, Held, Opens}
use Rattle.field_open.proofs.Opening.{opens_number, opens_held}
use Rattle.field_open.proofs.Paddings.{front_accepted}
use Rattle.field_open.proofs.Door.{door_refused, door_goes, door_out, door_unique, door_number, door_open}
use Rattle.field_roots.proofs.Only.{series_of_unique}
use Rattle.field_fill.specs.Fill.{Grown}
use Rattle.field_series.specs.Keeps.{Holding}
use Rattle.field_series.specs.declared.OpenedField.{OpenedField}
use Rattle.field_series.specs.Answer.{Fits, Refused, Goes, unfit, filled, Answer, OpenedAnswer, told, Opening, Expands}
use Rattle.field_series.proofs.Keeps.{holding_unique}

module _ {p : ℕ} {G H r w : List ℕ} where
  pub done : {r' w' : List ℕ} {n : ℕ} → Refusal p G H n → n ≡ 0 → Fits r w → Grown p G H r r' w' → Answer p G H r w r' w' 0
  done f z h g = door_goes f z (filled h refl g.size g.series)

  pub answer_unique : {n n' : ℕ} (r₁ w₁ r₂ w₂ : List ℕ) → Answer p G H r w r₁ w₁ n → Answer p G H r w r₂ w₂ n' → (n ≡ n') × (r₁ ≡ r₂) × (w₁ ≡ w₂)
  answer_unique {n} {n'} r₁ w₁ r₂ w₂ = door_unique (λ k. refusals) goes
    where
      refusals : {k : ℕ} → Refused r w r₁ w₁ n k → Refused r w r₂ w₂ n' k → (n ≡ n') × (r₁ ≡ r₂) × (w₁ ≡ w₂)
      refusals a b = (a.number ∙ sym b.number, a.kept.0 ∙ sym b.kept.0, a.kept.1 ∙ sym b.kept.1)

      goes : Accepted p G H → Goes p G H r w r₁ w₁ n → Goes p G H r w r₂ w₂ n' → (n ≡ n') × (r₁ ≡ r₂) × (w₁ ≡ w₂)
      goes A (unfit f a) (unfit g b) = refusals a b
      goes A (unfit f a) (filled g e s t) = absurd (f g)
      goes A (filled f e s t) (unfit g b) = absurd (g f)
      goes A (filled f e s t) (filled g e' s' t') = let (x, y) = series_of_unique r₁ w₁ r₂ w₂ A t t' (s ∙ sym s') in (e ∙ sym e', x, y)

  pub answer_kept : {r' w' : List ℕ} {n : ℕ} → Answer p G H r w r' w' n → n ≢ 0 → (r' ≡ r) × (w' ≡ w)
  answer_kept {r'} {w'} {n} a f = door_out (λ k z l h. h.kept) (λ A. goes) a
    where
      goes : Goes p G H r w r' w' n → (r' ≡ r) × (w' ≡ w)
      goes (unfit g h) = h.kept
      goes (filled g e s t) = absurd (f e)

module _ {p : ℕ} {G H : List ℕ} {i j : ℕ} (a : Unpadded G i) (b : Unpadded H j) where
  pub opening : {o : FieldAnswer} → Opens p (unpad G) (unpad H) o → o.refusal ≡ 0 → Opening p (take i G) (take j H) o.field
  opening {o} f z =
      let (A, k) = opens_held f z in
      record { accepted = front_accepted a b A; held = unfronts (λ x y. Held p x y o.field) a b k }

pub expands_unique : {p : ℕ} {G H : List ℕ} (o o' : OpenedAnswer) → Expands p G H o → Expands p G H o' → o ≡ o'
expands_unique o o' = door_unique (λ n e f. e ∙ sym f)
    (λ A (z, h) (z', h').
    let e : o.refusal ≡ o'.refusal = z ∙ sym z' in
    let c : o.cubic ≡ o'.cubic = holding_unique o.cubic o'.cubic h h' in
    (λ i. record { refusal = e i; cubic = c i }))

pub told_one : (r s : Result OpenedField Fault) → told r ≡ told s → r ≡ s
told_one (Ok c) (Ok d) e = ap (λ (o : OpenedAnswer). Ok o.cubic) e
told_one (Ok c) (Err k) e = absurd (some_number k (sym (ap (λ (o : OpenedAnswer). o.refusal) e)))
told_one (Err j) (Ok d) e = absurd (some_number j (ap (λ (o : OpenedAnswer). o.refusal) e))
told_one (Err j) (Err k) e = ap Err (number_one j k (ap (λ (o : OpenedAnswer). o.refusal) e))

module _ {p : ℕ} {G H : List ℕ} {o : OpenedAnswer} (h : Expands p G H o) where
  pub expands_number : Refusal p G H o.refusal
  expands_number = door_number (λ n e. ap (λ a. a.refusal) e) (λ k. k.0) h

  pub expands_holding : o.refusal ≡ 0 → Holding p G H o.cubic
  expands_holding z = let (A, k) = door_open (λ n e. ap (λ a. a.refusal) e) (λ k. k.0) h z in k.1
