-- What one call makes of a walk record (document 02, E2).
--   After r w o      o is r after the walk w from its basis: closed where it closed, open where it spent its budget (10), else the refusal's
--                    number in its state
--   Advances b r o   the whole outcome of at most b steps: a record that is closed or a refusal is passed over; else 1 to 8 of its field, then
--                    14, then what the walk from its basis with the budget b gives, 9 being its own
-- Refusals go into the state, and nothing else of the record changes then. A budget over 1,000,000 is 14 of the walk.
-- `advances_unique` in proofs/Unique.antt: two outcomes that meet it are equal.
use Rattle.std.specs.Prelude.{◌≡◌, ◌≢◌, ℕ}
use Rattle.field_open.specs.Door.{Door}
use Rattle.walk_chain.specs.Walk.{WalkAnswer, Walks}
use Rattle.walk_record.specs.declared.WalkRecord.{WalkRecord}
use Rattle.walk_record.specs.State as state
use Rattle.walk_record.specs.Record.{list_g, list_h, marked, moved, Unfit}

pub data After (r : WalkRecord) (w : WalkAnswer) (o : WalkRecord) : Type 0 where
  closed : w.refusal ≡ 0 → o ≡ moved r w.basis w.steps w.sum state.closed → After r w o
  spent : w.refusal ≡ 10 → o ≡ moved r w.basis w.steps w.sum state.going → After r w o
  refused : w.refusal ≢ 0 → w.refusal ≢ 10 → o ≡ marked r w.refusal → After r w o

pub data Advances (b : ℕ) (r o : WalkRecord) : Type 0 where
  passed : state.Passed r.state → o ≡ r → Advances b r o
  unfit :
      (state.Passed r.state → ⊥) → Unfit r →
      Door r.p (list_g r) (list_h r) (λ n. o ≡ marked r n) (o ≡ marked r 14) →
      Advances b r o
  walked :
      (state.Passed r.state → ⊥) → (Unfit r → ⊥) →
      (w : WalkAnswer) → Walks r.p (list_g r) (list_h r) b r.basis w → After r w o →
      Advances b r o
