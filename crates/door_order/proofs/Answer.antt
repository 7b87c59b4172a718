-- What the public function of the order's basis answers.
--   orders_unique    two answers of `order` to one p, G, H are equal
--   told_one      two results that tell one answer are equal
--   orders_made   what `order` answers for an accepted field
--   orders_first  beside 0: accepted, and the record of the order
use mathlib.Core.Path.{◌≡◌, refl, sym, ap, ◌∙◌, subst}
use mathlib.Core.List.{List}
use Prim.Native.Nat.{ℕ}
use Rattle.std.specs.declared.result.Result.{Result}
use Rattle.std.specs.declared.result.Result.TheVariants.{Ok, Err}
use Rattle.base_answers.specs.declared.Fault.{Fault}
use Rattle.base_answers.proofs.Faults.{some_number, number_one}
use Rattle.field_open.specs.Refusal.{Accepted}
use Rattle.field_open.proofs.Door.{door_goes, door_unique, door_open}
use Rattle.field_series.specs.Answer.{Expands, OpenedAnswer}
use Rattle.field_series.proofs.Answer.{expands_number}
use Rattle.basis_field.specs.First.{IsFirst, First}
use Rattle.basis_field.proofs.First.{first_unique}
use Rattle.basis_field.proofs.Known.{prime_of, kept_of}
use Rattle.door_order.specs.Answer.{OrderAnswer, told, Orders}

pub orders_unique : {p : ℕ} {G H : List ℕ} (o o' : OrderAnswer) → Orders p G H o → Orders p G H o' → o ≡ o'
orders_unique o o' = door_unique (λ n e f. e ∙ sym f)
    (λ A (z, h) (z', h').
    let e : o.refusal ≡ o'.refusal = z ∙ sym z' in
    let b : o.basis ≡ o'.basis = first_unique A o.basis o'.basis h h' in
    (λ i. record { refusal = e i; basis = b i }))

pub told_one : (r s : Result (List ℕ) Fault) → told r ≡ told s → r ≡ s
told_one (Ok x) (Ok y) e = ap (λ (o : OrderAnswer). Ok o.basis) e
told_one (Ok x) (Err k) e = absurd (some_number k (sym (ap (λ (o : OrderAnswer). o.refusal) e)))
told_one (Err j) (Ok y) e = absurd (some_number j (ap (λ (o : OrderAnswer). o.refusal) e))
told_one (Err j) (Err k) e = ap Err (number_one j k (ap (λ (o : OrderAnswer). o.refusal) e))

pub orders_first : {p : ℕ} {G H : List ℕ} {o : OrderAnswer} → Orders p G H o → o.refusal ≡ 0 → Accepted p G H × IsFirst p G H o.basis
orders_first h z = let (A, k) = door_open (λ n e. ap (λ a. a.refusal) e) (λ k. k.0) h z in (A, k.1)

-- what `order` answers in an opened field
pub orders_made : {p : ℕ} {G H b : List ℕ} {e : OpenedAnswer} (opens : Expands p G H e) (z : e.refusal ≡ 0) → First e.cubic b → Orders p G H (record { refusal = 0; basis = b })
orders_made {G = G} {H} {b} opens z first = door_goes (expands_number opens) z (refl, subst (λ q. IsFirst q G H b) (prime_of opens z) (first G H (kept_of opens z)))
