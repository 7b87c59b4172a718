-- What two accepted pairs of one field share.
--   shared   all of it, at any proof that p is prime: over it both have the same series
use mathlib.Core.List.{List}
use Prim.Native.Nat.{ℕ}
use Rattle.math_fp.specs.Fp.{Prime}
use Rattle.math_valued.specs.Val.{Valued}
use Rattle.math_rows.specs.Made.{reading}
use Rattle.field_open.specs.Refusal.{Accepted}
use Rattle.pair_laws.specs.OneField.{OneField}
use Rattle.math_ideals.specs.Setting.{Roots}
use Rattle.basis_record.specs.Setting.{roots}
use Rattle.pair_theory.specs.Shared.{Shared}
use Rattle.pair_theory.proofs.OneField.{meets}
use Rattle.math_carry.proofs.Meets.{Meets}
use Rattle.math_carry.proofs.Transport.{good_carry, start_carry, degree_carry, next_carry, chain_carry, open_carry, closing_carry, unit_carry}
use Rattle.math_carry.proofs.Same.{start_same, closing_same, unit_same}

met : (𝓥 : Valued) {s s' : Roots 𝓥} → Meets 𝓥 s s' → Shared 𝓥 s s'
met 𝓥 m = let c = m.carries in record {
  map = c;
  rows = m.rows;
  good = good_carry 𝓥 c;
  start = start_carry 𝓥 c;
  degree = degree_carry 𝓥 c;
  next = next_carry 𝓥 c;
  chain = chain_carry 𝓥 c;
  stays_open = open_carry 𝓥 c;
  closing = closing_carry 𝓥 c;
  unit = unit_carry 𝓥 c;
  one_order = start_same 𝓥 c;
  one_period = λ B₀ B₀' st st'. closing_same 𝓥 c B₀ B₀' st st';
  one_unit = λ B₀ B₀' st st'. unit_same 𝓥 c B₀ B₀' st st';
}

pub shared : {p : ℕ} {G H G' H' : List ℕ} (A : Accepted p G H) (A' : Accepted p G' H')
    → OneField p G H G' H' → (pr : Prime p) → Shared (reading p pr).𝓥 (roots A pr) (roots A' pr)
shared {p} A A' o pr = met (reading p pr).𝓥 (meets A A' o pr)
