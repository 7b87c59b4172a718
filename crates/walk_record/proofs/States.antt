-- The codes of states exclude each other.
--   not_going    what is passed over is not open
--   not_closed   a refusal is not closed
--   low_refusal  1 to 8 are refusals
--   within       the limits that a record which is not unfit keeps
--   counted_within counted_over counted_room   how many entries are read: never more than there are
use mathlib.Core.Path.{◌≡◌, ap}
use mathlib.Core.Bool.{Bool, true, false}
use mathlib.Core.Logic.{◌≢◌, ◌⊎◌, inl, inr}
use Prim.Native.Nat.{ℕ, ◌*◌, ◌≤◌, ◌<◌}
use native.Mathlib.Omega.{arith}
use native.Mathlib.Decide.{dec_le}
use borrow.Author.Tests.{le-leb, lt-leb}
use Rattle.walk_record.specs.State.{going, closed, IsRefusal, Passed}
use Rattle.walk_record.specs.declared.WalkRecord.{WalkRecord}
use Rattle.walk_record.specs.Record.{most_steps, counted, Unfit}

pub not_going : {s : ℕ} → Passed s → s ≢ going
not_going (inl a) e = omega arith
not_going (inr (inl (a, b))) e = omega arith
not_going (inr (inr a)) e = omega arith

pub not_closed : {s : ℕ} → IsRefusal s → s ≢ closed
not_closed (inl (a, b)) e = omega arith
not_closed (inr a) e = omega arith

pub low_refusal : {k : ℕ} → k ≢ 0 → k ≤ 8 → IsRefusal k
low_refusal f l = inl (omega arith, omega arith)

pub within : (r : WalkRecord) → (Unfit r → ⊥) → (r.steps ≤ most_steps) × (r.sum ≤ 16 * r.steps)
within r f = (
  elim (dec_le r.steps most_steps) [ yes l ↦ l | no l ↦ absurd (f (inr (inl (omega arith)))) ],
  elim (dec_le r.sum (16 * r.steps)) [ yes l ↦ l | no l ↦ absurd (f (inr (inr (omega arith)))) ],
)

-- ---- how many entries are read
abbrev if_within : ℕ → Bool → ℕ
if_within n b = elim b [ true ↦ n | false ↦ 0 ]

pub counted_within : (n : ℕ) → n ≤ 32 → counted n ≡ n
unfolding counted
counted_within n l = ap (if_within n) (le-leb n 32 l)

pub counted_over : (n : ℕ) → 32 < n → counted n ≡ 0
unfolding counted
counted_over n l = ap (if_within n) (lt-leb n 32 l)

-- never more than there are
pub counted_room : (n : ℕ) {k : ℕ} → k ≡ counted n → k ≤ 32
counted_room n e = elim (dec_le n 32) [
  | yes l ↦ let f = counted_within n l in omega arith
  | no l ↦ let f = counted_over n (omega arith) in omega arith
]
