-- Answers that come through the door of a field.
--   door_refused, door_goes   the two ways in
--   door_out                  by cases: refused with a number from 1 to 8, or accepted
--   door_unique               what two answers at one door have in common, from what their refusals and what comes next have
--   door_map                  another answer at the same door
--   door_number               where an answer carries its number k: it is the table's
--   door_none, door_open      beside k ≠ 0 the refusal k; beside 0 an accepted field, and what comes next
use mathlib.Core.Path.{◌≡◌, sym, ◌∙◌, subst}
use mathlib.Core.Logic.{◌≢◌}
use mathlib.Core.List.{List}
use Prim.Native.Nat.{ℕ, ◌≤◌}
use native.Mathlib.Decide.{ℕ_discrete}
use Rattle.field_open.specs.Refusal.{Refusal, Accepted}
use Rattle.field_open.specs.Door.{Door}
use Rattle.field_open.proofs.Stages.{refusal_unique, numbered}
use Rattle.field_open.proofs.Accept.{accepted}

module _ {p : ℕ} {G H : List ℕ} {R : ℕ → Type 0} {K : Type 0} where
  pub door_refused : {n : ℕ} → Refusal p G H n → n ≢ 0 → R n → Door p G H R K
  door_refused {n} r f q = record { no = n; first = r; none = λ g. q; goes = λ g. absurd (f g) }

  pub door_goes : {n : ℕ} → Refusal p G H n → n ≡ 0 → K → Door p G H R K
  door_goes {n} r z k = record { no = n; first = r; none = λ f. absurd (f z); goes = λ g. k }

  pub door_out : {C : Type 0} → ((n : ℕ) → n ≢ 0 → n ≤ 8 → R n → C) → (Accepted p G H → K → C) → Door p G H R K → C
  door_out {C} out on d = go (ℕ_discrete d.no 0)
    where
      go : Dec (d.no ≡ 0) → C
      go (yes z) = on (accepted p G H (subst (Refusal p G H) z d.first)) (d.goes z)
      go (no f) = out d.no f (numbered p G H d.no d.first) (d.none f)

  pub door_unique : {S : ℕ → Type 0} {L C : Type 0} → ((n : ℕ) → R n → S n → C) → (Accepted p G H → K → L → C) → Door p G H R K → Door p G H S L → C
  door_unique {S} {L} {C} out on d e = go (ℕ_discrete d.no 0)
    where
      same : e.no ≡ d.no
      same = refusal_unique p G H e.no d.no e.first d.first

      go : Dec (d.no ≡ 0) → C
      go (yes z) = on (accepted p G H (subst (Refusal p G H) z d.first)) (d.goes z) (e.goes (same ∙ z))
      go (no f) = out d.no (d.none f) (subst S same (e.none (λ z. f (sym same ∙ z))))

  pub door_map : {S : ℕ → Type 0} {L : Type 0} → ((n : ℕ) → R n → S n) → (K → L) → Door p G H R K → Door p G H S L
  door_map out on d = record { no = d.no; first = d.first; none = λ f. out d.no (d.none f); goes = λ z. on (d.goes z) }

  -- an answer that carries its number k
  module _ {k : ℕ} (says : (n : ℕ) → R n → k ≡ n) (zero : K → k ≡ 0) (d : Door p G H R K) where
    number_is : d.no ≡ k
    number_is = elim (ℕ_discrete d.no 0) [ yes z ↦ z ∙ sym (zero (d.goes z)) | no f ↦ sym (says d.no (d.none f)) ]

    pub door_number : Refusal p G H k
    door_number = subst (Refusal p G H) number_is d.first

    pub door_none : k ≢ 0 → R k
    door_none f = subst R number_is (d.none (λ z. f (sym number_is ∙ z)))

    pub door_open : k ≡ 0 → Accepted p G H × K
    door_open z = (accepted p G H (subst (Refusal p G H) z door_number), d.goes (number_is ∙ z))
