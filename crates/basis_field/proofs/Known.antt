-- A field that opens is known.
--   prime_of, kept_of   beside 0: the struct's p is the field's, and it holds the field
--   field_of            so that the field is accepted
--   known_of            and an inner function may be lent it
use mathlib.Core.Path.{◌≡◌, subst}
use mathlib.Core.List.{List}
use Prim.Native.Nat.{ℕ}
use Rattle.field_open.specs.Refusal.{Accepted}
use Rattle.field_series.specs.Answer.{Expands, OpenedAnswer}
use Rattle.field_series.specs.Keeps.{Kept, Known}
use Rattle.field_series.proofs.Answer.{expands_holding}

module _ {p : ℕ} {G H : List ℕ} {e : OpenedAnswer} (opens : Expands p G H e) (z : e.refusal ≡ 0) where
  pub prime_of : e.cubic.field.p ≡ p
  prime_of = (expands_holding opens z).0

  pub kept_of : Kept e.cubic G H
  kept_of = (expands_holding opens z).1

  pub field_of : Accepted p G H
  field_of = subst (λ q. Accepted q G H) prime_of kept_of.accepted

  abbrev pub known_of : Known e.cubic
  known_of = record { G = G; H = H; kept = kept_of }
