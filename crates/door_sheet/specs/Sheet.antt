-- What a sheet of walk records comes to (document 02, E2: "It advances each walk record in the lent list by at most B steps, in list order").
--   Each b rs os     record by record, in list order, os is what the single call gives of rs; so the two lists are of one length
--   Sheet rs b n os  the whole outcome: the answer n and the last content os of the list that was lent with rs in it. 14 and nothing changed
--                    where the sheet is refused, else 0 and every record advanced
-- `Beyond`, what a sheet is refused for, is in walk_record/specs/Record. `sheet_unique` in proofs/Unique.antt: two outcomes that meet it are equal.
use Rattle.std.specs.Prelude.{◌≡◌, List, [], ◌∷◌, ℕ, length}
use Rattle.walk_record.specs.declared.WalkRecord.{WalkRecord}
use Rattle.walk_record.specs.Record.{Beyond}
use Rattle.door_record.specs.Advance.{Advances}

abbrev pub Each : ℕ → List WalkRecord → List WalkRecord → Type 0
Each b [] [] = Unit {0}
Each b [] (o ∷ os) = ⊥
Each b (r ∷ rs) [] = ⊥
Each b (r ∷ rs) (o ∷ os) = Advances b r o × Each b rs os

pub data Sheet (rs : List WalkRecord) (b n : ℕ) (os : List WalkRecord) : Type 0 where
  refused : Beyond (length rs) b → n ≡ 14 → os ≡ rs → Sheet rs b n os
  walked : (Beyond (length rs) b → ⊥) → n ≡ 0 → Each b rs os → Sheet rs b n os
