-- A sheet has one outcome: the answer and the whole last content of the list are fixed by what was lent.
use mathlib.Core.Path.{◌≡◌, refl, sym, ◌∙◌}
use mathlib.Core.List.{List, [], ◌∷◌}
use Prim.Native.Nat.{ℕ}
use Rattle.walk_record.specs.declared.WalkRecord.{WalkRecord}
use Rattle.door_record.proofs.Unique.{advances_unique}
use Rattle.door_sheet.specs.Sheet.{Each, Sheet, refused, walked}

abbrev Rs : Type 0
Rs = List WalkRecord

pub each_unique : (b : ℕ) (rs os os' : Rs) → Each b rs os → Each b rs os' → os ≡ os'
each_unique b [] [] [] e e' = refl
each_unique b [] [] (y ∷ ys) e e' = absurd e'
each_unique b [] (x ∷ xs) ys e e' = absurd e
each_unique b (r ∷ rs) [] ys e e' = absurd e
each_unique b (r ∷ rs) (x ∷ xs) [] e e' = absurd e'
each_unique b (r ∷ rs) (x ∷ xs) (y ∷ ys) e e' = λ i. advances_unique b r x y e.0 e'.0 i ∷ each_unique b rs xs ys e.1 e'.1 i

pub sheet_unique : (rs : Rs) (b n n' : ℕ) (os os' : Rs) → Sheet rs b n os → Sheet rs b n' os' → (n ≡ n') × (os ≡ os')
sheet_unique rs b n n' os os' (refused v e f) (refused v' e' f') = (e ∙ sym e', f ∙ sym f')
sheet_unique rs b n n' os os' (refused v e f) (walked a e' f') = absurd (a v)
sheet_unique rs b n n' os os' (walked a e f) (refused v e' f') = absurd (a v)
sheet_unique rs b n n' os os' (walked a e f) (walked a' e' f') = (e ∙ sym e', each_unique b rs os os' f f')
