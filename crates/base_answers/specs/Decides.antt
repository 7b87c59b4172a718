-- Tests.
--   Decides r A   the answer r is true exactly when A holds
-- That A settles the answer is `decides_unique`, in proofs/Tests.antt.
use Rattle.std.specs.Prelude.{◌≡◌, Bool, true, false}

pub record Decides (r : Bool) (A : Type 0) : Type 0 where
  pub yes! : r ≡ true → A
  pub no! : r ≡ false → A → ⊥
