-- One outcome for each input: the number and what the slice holds.
--   transfers_unique    two outcomes that meet `Transfers` are equal
use mathlib.Core.Path.{◌≡◌, sym, ◌∙◌, subst}
use mathlib.Core.List.{List}
use Prim.Native.Nat.{ℕ}
use Rattle.base_answers.proofs.Limits.{six_unique}
use Rattle.pair_laws.specs.Rows.{RowsCarry}
use Rattle.pair_agree.specs.Answer.{Both}
use Rattle.door_compare.proofs.Doors.{doors_unique}
use Rattle.door_transfer.specs.Transfer.{Refused, Goes, unfit, carried, Transfers}
use Rattle.door_transfer.proofs.Rows.{one_of, rows_unique}

pub transfers_unique : (p : ℕ) (G H G' H' rows : List ℕ) (n n' : ℕ) (r r' : List ℕ) → Transfers p G H G' H' rows n r → Transfers p G H G' H' rows n' r'
    → (n ≡ n') × (r ≡ r')
transfers_unique p G H G' H' rows n n' r r' = doors_unique (λ k. refusals) goes
  where
    refusals : {k : ℕ} → Refused rows n r k → Refused rows n' r' k → (n ≡ n') × (r ≡ r')
    refusals a b = (a.number ∙ sym b.number, a.kept ∙ sym b.kept)

    goes : Both p G H G' H' → Goes p G H G' H' rows n r → Goes p G H G' H' rows n' r' → (n ≡ n') × (r ≡ r')
    goes s (unfit u a) (unfit v b) = refusals a b
    goes s (unfit u a) (carried c t k m w) = absurd (u c t (one_of w))
    goes s (carried c t k m w) (unfit u b) = absurd (u c t (one_of w))
    goes s (carried c t k m w) (carried c' t' k' m' w') =
        (k ∙ sym k', rows_unique s c rows r r' t.whole m m' w (subst (λ q. RowsCarry p G H G' H' q rows r') (six_unique t' t) w'))
