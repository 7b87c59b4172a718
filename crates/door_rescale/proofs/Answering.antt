-- The answers of `rescale`.
--   rescales_refused rescales_bad   the refusals, which leave the rows
--   turn_in rescales_turned         what `turn` asks of rows that passed the tests, and the rows turned
use mathlib.Core.Path.{◌≡◌, refl, sym, subst}
use mathlib.Core.Bool.{true}
use mathlib.Core.Logic.{◌≢◌}
use mathlib.Core.List.{List}
use Prim.Native.Nat.{ℕ, ◌/◌}
use lib.ListN.{length}
use Rattle.field_open.proofs.Door.{door_refused, door_goes}
use Rattle.field_series.specs.Answer.{Expands, OpenedAnswer}
use Rattle.field_series.proofs.Answer.{expands_number}
use Rattle.basis_field.proofs.Known.{prime_of, kept_of}
use Rattle.unit_scale.specs.Scale.{FactorAsks, Turned, Turns}
use Rattle.door_rescale.specs.Rescale.{ScaledRows, unfit, turned, Rescales}
use Rattle.door_rescale.specs.Test.{Fit, Unfit}

module _ {p : ℕ} {G H : List ℕ} {i j : ℕ} {rows : List ℕ} {e : OpenedAnswer} (opens : Expands p G H e) where
  pub rescales_refused : e.refusal ≢ 0 → Rescales p G H i j rows e.refusal rows
  rescales_refused f = door_refused (expands_number opens) f (record { number = refl; kept = refl })

  module _ (z : e.refusal ≡ 0) where
    -- the struct's own p is p
    pub rescales_bad : Unfit e.cubic i j rows true → Rescales p G H i j rows 14 rows
    rescales_bad u = door_goes (expands_number opens) z (unfit (λ k k' c a b r. u G H (kept_of opens z) k k' c a b (subst (λ q. ScaledRows k q G H c rows) (sym (prime_of opens z)) r)) (record { number = refl; kept = refl }))

    module _ (t : Fit e.cubic i j rows) where
      pub turn_in : FactorAsks e.cubic j (length rows / 6) rows
      turn_in =
          let r = t.rows_fit G H (kept_of opens z) in
          record { G = G; H = H; kept = kept_of opens z; k = t.k'; named = t.to; most = r.the_six_rows.room; holds = r.holds }

      pub rescales_turned : {rows' : List ℕ} → Turns e.cubic j (length rows / 6) rows rows' → Rescales p G H i j rows 0 rows'
      rescales_turned {rows'} x =
          let r = t.rows_fit G H (kept_of opens z) in
          door_goes (expands_number opens) z (turned t.k t.k' (length rows / 6) t.from t.to (subst (λ q. ScaledRows t.k q G H (length rows / 6) rows) (prime_of opens z) r) refl
          (subst (λ q. Turned t.k' q G H (length rows / 6) rows rows') (prime_of opens z) (x.law G H (kept_of opens z) r.holds t.k' t.to)))
