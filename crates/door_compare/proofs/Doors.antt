-- Answers that come through two doors.
--   doors_refused, doors_goes   the two ways in
--   doors_out                   by cases: refused with a number from 1 to 8, or both accepted
--   doors_unique                what two answers at the same doors have in common
--   doors_through               where both are accepted, what comes next
--   both_of                     no refusal: both are accepted
--   second_of                   a pair's own number at its door
use mathlib.Core.Path.{◌≡◌, refl, sym, ◌∙◌, subst}
use mathlib.Core.Logic.{◌≢◌}
use mathlib.Core.List.{List}
use Prim.Native.Nat.{ℕ, ◌≤◌}
use Rattle.field_open.specs.Refusal.{Refusal, Accepted}
use Rattle.field_open.specs.Door.{Door}
use Rattle.field_open.proofs.Stages.{refusal_unique}
use Rattle.field_open.proofs.Accept.{accepted_none}
use Rattle.field_open.proofs.Door.{door_goes, door_out, door_unique, door_map}
use Rattle.pair_agree.specs.Answer.{Both}
use Rattle.door_compare.specs.Answer.{Doors, Refusals}

module _ {p : ℕ} {G H G' H' : List ℕ} {R : ℕ → Type 0} {K : Type 0} where
  pub doors_refused : {n : ℕ} → Refusals p G H G' H' n → n ≢ 0 → R n → Doors p G H G' H' R K
  doors_refused r f q = door_map (λ k e. subst R e q) (λ s. door_map (λ k e. subst R e q) (λ z. absurd (f z)) s) r

  pub doors_goes : Both p G H G' H' → K → Doors p G H G' H' R K
  doors_goes t k = door_goes (accepted_none p G H t.first) refl (door_goes (accepted_none p G' H' t.second) refl k)

  pub doors_out : {C : Type 0} → ((n : ℕ) → n ≢ 0 → n ≤ 8 → R n → C) → (Both p G H G' H' → K → C) → Doors p G H G' H' R K → C
  doors_out out on d = door_out out (λ A e. door_out out (λ A' k. on (record { first = A; second = A' }) k) e) d

  -- both are accepted, so that nothing is refused
  pub doors_through : Both p G H G' H' → Doors p G H G' H' R K → K
  doors_through t d = let e = through t.first d in through t.second e
    where
      through : {F I : List ℕ} {L : Type 0} → Accepted p F I → Door p F I R L → L
      through {F} {I} A x = x.goes (refusal_unique p F I x.no 0 x.first (accepted_none p F I A))

  pub doors_unique : {S : ℕ → Type 0} {L C : Type 0} → ((n : ℕ) → R n → S n → C) → (Both p G H G' H' → K → L → C)
      → Doors p G H G' H' R K → Doors p G H G' H' S L → C
  doors_unique out on = door_unique out (λ A. door_unique out (λ A'. on (record { first = A; second = A' })))

pub both_of : {p n : ℕ} {G H G' H' : List ℕ} → n ≡ 0 → Refusals p G H G' H' n → Both p G H G' H'
both_of z = doors_out (λ k f l e. absurd (f (sym e ∙ z))) (λ t k. t)

pub second_of : {p n : ℕ} {G H : List ℕ} → Refusal p G H n → Door p G H (λ k. n ≡ k) (n ≡ 0)
second_of {n = n} r = record { no = n; first = r; none = λ f. refl; goes = λ z. z }
