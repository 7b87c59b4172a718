-- Chains of records of the one pair and of the other.
--   first_over      the record of the order carries over to the record of the order
--   steps_over      a step to a step of the same degree
--   reaches_over    a chain to a chain of as many steps, with the same degree sum
--   closes_over     a closing to a closing
--   open_over       and a chain that stays open to one that does
use mathlib.Core.Path.{subst}
use mathlib.Core.List.{List}
use Prim.Native.Nat.{ℕ}
use Rattle.math_valued.specs.Val.{Valued}
use Rattle.math_rows.specs.Made.{reading}
use Rattle.field_open.specs.Refusal.{Accepted}
use Rattle.field_open.proofs.Accept.{with_prime}
use Rattle.math_ideals.specs.Ideal.{Basis}
use Rattle.math_ideals.specs.Next.{Next, Start}
use Rattle.math_chain.specs.Chain.{Degree, Chain, Open, Closing}
use Rattle.basis_record.specs.Record.{setting, basis_of}
use Rattle.basis_field.specs.First.{IsFirst}
use Rattle.step_next.specs.Steps.{Steps}
use Rattle.walk_chain.specs.Walk.{Reaches, Closes, StaysOpen}
use Rattle.basis_record.specs.Setting.{roots}
use Rattle.math_carry.specs.Carries.{Carries, carry}
use Rattle.math_carry.proofs.Transport.{start_carry, next_carry, degree_carry, chain_carry, open_carry, closing_carry}
use Rattle.pair_answers.proofs.Way.{Way, map}
use Rattle.pair_answers.proofs.Record.{Over, basis_over, record_over}

module _ {p : ℕ} {G H G' H' : List ℕ} (A₀ : Accepted p G H) (w : Way p G H G' H') where
  -- at a proof that p is prime, whichever the second pair has
  module _ (A' : Accepted p G' H') where
    abbrev A : Accepted p G H
    A = with_prime A₀ A'.prime

    abbrev 𝓥 : Valued
    𝓥 = (reading p A'.prime).𝓥

    abbrev φ : Carries (roots A A'.prime) (roots A' A'.prime)
    φ = map A A' A'.prime w

    abbrev move : List ℕ → Basis (setting A')
    move B = carry (roots A A'.prime) (roots A' A'.prime) φ (basis_of A B)

    one : (P : Basis (setting A') → Type 0) {B B' : List ℕ} → Over w B B' → P (move B) → P (basis_of A' B')
    one P {B} {B'} o k = subst P (basis_over A A' A'.prime w B B' o.rows) k

    two : (P : Basis (setting A') → Basis (setting A') → Type 0) {B B' E E' : List ℕ} → Over w B B' → Over w E E'
        → P (move B) (move E) → P (basis_of A' B') (basis_of A' E')
    two P {B' = B'} {E = E} o u k = one (λ e. P (basis_of A' B') e) u (one (λ b. P b (move E)) o k)

  module _ {B B' : List ℕ} (o : Over w B B') where
    pub first_over : IsFirst p G H B → IsFirst p G' H' B'
    first_over f = record {
      is_a_record = record_over A₀ w o f.is_a_record;
      start = λ A'. one A' (Start (setting A')) o (start_carry (𝓥 A') (φ A') (basis_of (A A') B) (f.start (A A')));
    }

    pub open_over : {n : ℕ} → StaysOpen p G H B n → StaysOpen p G' H' B' n
    open_over {n} h A' = one A' (λ b. Open (setting A') b n) o (open_carry (𝓥 A') (φ A') (h (A A')))

    module _ {E E' : List ℕ} (u : Over w E E') where
      pub steps_over : {d : ℕ} → Steps p G H B (record { degree = d; basis = E }) → Steps p G' H' B' (record { degree = d; basis = E' })
      steps_over {d} h = record {
        is_a_record = record_over A₀ w u h.is_a_record;
        next = λ A'. two A' (Next (setting A')) o u (next_carry (𝓥 A') (φ A') (basis_of (A A') B) (basis_of (A A') E) (h.next (A A')));
        degree = λ A'. one A' (λ b. Degree (setting A') b d) o (degree_carry (𝓥 A') (φ A') (basis_of (A A') B) (h.degree (A A')));
      }

      pub reaches_over : {s d : ℕ} → Reaches p G H B s d E → Reaches p G' H' B' s d E'
      reaches_over {s} {d} h = record {
        is_a_record = record_over A₀ w u h.is_a_record;
        chain = λ A'. two A' (λ b e. Chain (setting A') b s d e) o u (chain_carry (𝓥 A') (φ A') (h.chain (A A')));
      }

      pub closes_over : {s d : ℕ} → Closes p G H B s d E → Closes p G' H' B' s d E'
      closes_over {s} {d} h = record {
        is_a_record = record_over A₀ w u h.is_a_record;
        closing = λ A'. two A' (λ b e. Closing (setting A') b s d e) o u (closing_carry (𝓥 A') (φ A') (h.closing (A A')));
      }
