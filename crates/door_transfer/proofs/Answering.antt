-- The answers of `carry_between`, case by case.
--   carry_asks        two accepted pairs and six rows: what the inner functions ask
--   too_long, apart   14: the slice has another length; the pairs are not of one field
--   straight_done, swapped_done   0: carried over, in the one order and in the other
--   unpadded_done     the answer of `transfer`, whose lists may have zeros at their ends
use mathlib.Core.Path.{◌≡◌, refl, subst}
use mathlib.Core.Bool.{Bool, true, false}
use mathlib.Core.List.{List}
use Prim.Native.Nat.{ℕ, ◌/◌}
use native.Mathlib.Omega.{arith}
use lib.ListN.{length, take}
use Rattle.base_answers.specs.Limits.{NoSixRows, Six}
use Rattle.base_answers.proofs.Limits.{no_six, six_of, six_at, six_none}
use Rattle.pair_agree.specs.Answer.{Both, Pairs}
use Rattle.pair_laws.specs.Rows.{straight, crossed}
use Rattle.pair_agree.specs.declared.Pairing.{Pairing}
use Rattle.pair_agree.specs.declared.Pairing.TheVariants.{Straight, Swapped, Apart}
use Rattle.pair_agree.proofs.Outcomes.{apart_none}
use Rattle.door_compare.proofs.Doors.{doors_goes}
use Rattle.door_compare.proofs.Fronts.{four}
use Rattle.field_open.specs.Padding.{unpad, Unpadded}
use Rattle.door_transfer.specs.Transfer.{Goes, Transfers, unfit, carried}
use Rattle.pair_carry.specs.Code.{CarryAsks, Carried, CarriedSwapped}

module _ {p : ℕ} {G H G' H' : List ℕ} (rows : List ℕ) (both : Both p G H G' H') where
  pub too_long : {b : Bool} → NoSixRows (length rows) b → b ≡ true → Goes p G H G' H' rows 14 rows
  too_long u f = unfit (λ c t o. six_none rows (no_six u f) c t) (record { number = refl; kept = refl })

  module _ {b : Bool} (u : NoSixRows (length rows) b) (f : b ≡ false) where
    lent : Six (length rows / 6) rows
    lent = six_at rows (six_of u f)

    pub carry_asks : CarryAsks p G H G' H' (length rows / 6) rows
    carry_asks = let t = both in record {
      modulus = record { prime = t.first.prime; kind = t.first.kind; small = omega (arith, t.first.high) };
      first = record { deg_g = t.first.deg_g; deg_h = t.first.deg_h; list_g = t.first.list_g; list_h = t.first.list_h };
      second = record { deg_g = t.second.deg_g; deg_h = t.second.deg_h; list_g = t.second.list_g; list_h = t.second.list_h };
      whole = lent.whole;
    }

    module _ {k : Pairing} (w : Pairs p G H G' H' k) where
      pub apart : k ≡ Apart → Goes p G H G' H' rows 14 rows
      apart g = unfit (λ c t. apart_none w g) (record { number = refl; kept = refl })

      pub straight_done : k ≡ Straight → (rows' : List ℕ) → Carried p G H G' H' (length rows / 6) rows rows' → Goes p G H G' H' rows 0 rows'
      straight_done g rows' d =
          let (a, b) = subst (Pairs p G H G' H') g w in
          carried (length rows / 6) lent refl d.size (straight a b d.x d.y d.law d.E d.F)

      pub swapped_done : k ≡ Swapped → (rows' : List ℕ) → CarriedSwapped p G H G' H' (length rows / 6) rows rows' → Goes p G H G' H' rows 0 rows'
      swapped_done g rows' d =
          let (a, b) = subst (Pairs p G H G' H') g w in
          carried (length rows / 6) lent refl d.size (crossed a b d.x d.y d.law d.E d.F)

module _ {p : ℕ} {G H G' H' : List ℕ} {i j k l : ℕ} (a : Unpadded G i) (b : Unpadded H j) (c : Unpadded G' k) (d : Unpadded H' l) where
  pub unpadded_done : {n : ℕ} {rows rows' : List ℕ} → Both p (unpad G) (unpad H) (unpad G') (unpad H')
      → Goes p (take i G) (take j H) (take k G') (take l H') rows n rows' → Transfers p (unpad G) (unpad H) (unpad G') (unpad H') rows n rows'
  unpadded_done {n} {rows} {rows'} t g = doors_goes t (four a b c d (λ x y z w. Goes p x y z w rows n rows') g)
