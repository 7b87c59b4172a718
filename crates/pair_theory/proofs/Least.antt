-- Two pairs of one field have one least degree (request E8).
--   reversed      a correspondence, read the other way
--   unit_carry    units go to units
--   least_carry   so the least positive degree of a unit stays
--   least_agree   for two accepted pairs of one field
use mathlib.Core.Path.{◌≡◌, sym, ap, ◌∙◌}
use mathlib.Core.List.{List}
use Prim.Native.Nat.{ℕ}
use Rattle.field_open.specs.Refusal.{Accepted}
use Rattle.math_ideals.specs.Setting.{Setting}
use Rattle.math_ideals.specs.Element.{O}
use Rattle.math_chain.specs.Unit.{Invertible}
use Rattle.math_fundamental.specs.Smallest.{NoneBetween, LeastDegree}
use Rattle.math_fundamental.proofs.Agree.{least_unique}
use Rattle.basis_record.specs.Record.{setting}
use Rattle.pair_laws.specs.OneField.{OneField}
use Rattle.math_carry.specs.Corresponds.{Corresponds}
use Rattle.pair_theory.proofs.Corresponds.{corresponds}

abbrev reversed : (S S' : Setting) → Corresponds S S' → Corresponds S' S
reversed S S' c = record {
  to = c.from;
  from = c.to;
  to_from = c.from_to;
  from_to = c.to_from;
  to_one = c.from_one;
  from_one = c.to_one;
  to_mul = c.from_mul;
  from_mul = c.to_mul;
  to_deg = c.from_deg;
  from_deg = c.to_deg;
}

pub unit_carry : (S S' : Setting) (c : Corresponds S S') (η : (O S).El) → Invertible S η → Invertible S' (c.to η)
unit_carry S S' c η (θ, e) = (c.to θ, sym (c.to_mul η θ) ∙ ap c.to e ∙ c.to_one)

module _ (S S' : Setting) (c : Corresponds S S') where
  none_carry : (d : ℕ) → NoneBetween S d → NoneBetween S' d
  none_carry d none η inv p q h lo hi = none (c.from η) (unit_carry S' S (reversed S S' c) η inv) p q (c.from_deg η h) lo hi

  pub least_carry : {d : ℕ} → LeastDegree S d → LeastDegree S' d
  least_carry {d} (E, k) = (
    c.to E,
    record { unit = unit_carry S S' c E k.unit; degree = c.to_deg E k.degree; positive = k.positive; least = none_carry d k.least },
  )

pub least_agree : {p : ℕ} {G H G' H' : List ℕ} (A : Accepted p G H) (A' : Accepted p G' H') → OneField p G H G' H' →
    (c d : ℕ) → LeastDegree (setting A) c → LeastDegree (setting A') d → c ≡ d
least_agree A A' o c d a b = least_unique (setting A') c d (least_carry (setting A) (setting A') (corresponds A A' o) a) b
