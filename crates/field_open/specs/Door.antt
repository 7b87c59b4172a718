-- The form of every answer that begins with opening a field.
--   Door p G H Refused Goes   the table decides: `Refused n` where the first refusal of p, G, H is n, `Goes` where there is none
-- Two answers that come through one door are equal where a refusal and what comes next each settle them: `door_unique`, in proofs/Door.antt,
-- with the two ways in (`door_refused`, `door_goes`) and what an answer that carries its number says (`door_number`, `door_none`, `door_open`).
use Rattle.std.specs.Prelude.{◌≡◌, ◌≢◌, List, ℕ}
use Rattle.field_open.specs.Refusal.{Refusal}

pub record Door (p : ℕ) (G H : List ℕ) (Refused : ℕ → Type 0) (Goes : Type 0) : Type 0 where
  pub no : ℕ
  pub first : Refusal p G H no
  pub none : no ≢ 0 → Refused no
  pub goes : no ≡ 0 → Goes
