-- What the check of 119 numbers answers.
--   checks_yes, checks_no   what `check` answers for an accepted field
--   checks_unique    two answers of `check` to one p, G, H and record are equal
use mathlib.Core.Path.{◌≡◌, refl, sym, ◌∙◌, subst}
use mathlib.Core.Bool.{Bool, true, false}
use mathlib.Core.List.{List}
use Prim.Native.Nat.{ℕ}
use Rattle.base_answers.specs.Decides.{Decides}
use Rattle.field_open.proofs.Door.{door_goes, door_unique}
use Rattle.basis_record.specs.Record.{IsRecord}
use Rattle.field_series.specs.Answer.{Expands, OpenedAnswer}
use Rattle.field_series.proofs.Answer.{expands_number}
use Rattle.basis_accept.specs.Answer.{Accepts}
use Rattle.basis_field.proofs.Known.{prime_of, kept_of}
use Rattle.door_check.specs.Answer.{Goes, no_record, is_a_record, Checks}

module _ {p : ℕ} {G H B : List ℕ} where
  module _ {e : OpenedAnswer} (opens : Expands p G H e) (z : e.refusal ≡ 0) {good : Bool} (tested : Accepts e.cubic B good) where
    decided : Decides good (IsRecord p G H B)
    decided = subst (λ q. Decides good (IsRecord q G H B)) (prime_of opens z) (tested G H (kept_of opens z))

    pub checks_yes : good ≡ true → Checks p G H B 0
    checks_yes t = door_goes (expands_number opens) z (is_a_record (decided.yes! t) refl)

    pub checks_no : good ≡ false → Checks p G H B 9
    checks_no f = door_goes (expands_number opens) z (no_record (decided.no! f) refl)

  pub checks_unique : (n n' : ℕ) → Checks p G H B n → Checks p G H B n' → n ≡ n'
  checks_unique n n' = door_unique (λ k e f. e ∙ sym f) (λ A. goes)
    where
      goes : Goes p G H B n → Goes p G H B n' → n ≡ n'
      goes (no_record f e) (no_record f' e') = e ∙ sym e'
      goes (no_record f e) (is_a_record k e') = absurd (f k)
      goes (is_a_record k e) (no_record f e') = absurd (f k)
      goes (is_a_record k e) (is_a_record k' e') = e ∙ sym e'
