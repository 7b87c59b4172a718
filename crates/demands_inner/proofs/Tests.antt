-- Crates basis_closed and basis_accept: an answer that holds at each field is settled, as there is one. That a test has one answer is
-- `decides_unique` of crate base_answers.
use mathlib.Core.Path.{◌≡◌}
use mathlib.Core.Bool.{Bool}
use mathlib.Core.List.{List}
use Prim.Native.Nat.{ℕ}
use Rattle.num_mod.specs.declared.Modulus.{Modulus}
use Rattle.basis_record.specs.declared.Seven.{Seven}
use Rattle.basis_closed.specs.Closed.{ClosedUnderRAndWAsks, Under}
use Rattle.basis_closed.proofs.Closing as closing
use Rattle.field_series.specs.declared.OpenedField.{OpenedField}
use Rattle.field_series.specs.Keeps.{Known}
use Rattle.basis_accept.specs.Answer.{Accepts}
use Rattle.basis_accept.proofs.Accepting as accepting

-- ---- basis_closed
pub under_unique : {q : Modulus} {g h gh : List ℕ} {b : Seven} (r s : Bool) → ClosedUnderRAndWAsks q g h gh b → Under q.p g h gh b r → Under q.p g h gh b s → r ≡ s
under_unique r s i h k = closing.under_unique i.given.σ i.given.holds r s h k

-- ---- basis_accept
pub accepts_unique : {c : OpenedField} {B : List ℕ} (r s : Bool) → Known c → Accepts c B r → Accepts c B s → r ≡ s
accepts_unique r s g h k = accepting.accepts_unique g r s h k
