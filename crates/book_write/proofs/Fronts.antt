-- A body written from lists that may have zeros at their ends.
--   fronts_told   what is said of the fronts that G and H stand for is said of the lists that they stand for
use mathlib.Core.List.{List}
use Prim.Native.Nat.{ℕ}
use lib.ListN.{take}
use Rattle.base_lists.proofs.Paddings.{fronts}
use Rattle.base_answers.specs.Said.{Said}
use Rattle.field_open.specs.Padding.{unpad, Unpadded}
use Rattle.book_write.specs.Write.{body_from, WriteTells}

pub fronts_told : {p t m n : ℕ} {G H a b c d d' : List ℕ} {x : Said} → Unpadded G m → Unpadded H n
    → WriteTells (body_from p (take m G) (take n H) t a b c) d x d' → WriteTells (body_from p (unpad G) (unpad H) t a b c) d x d'
fronts_told {p} {t} {a = a} {b} {c} {d} {d'} {x} u v w = fronts (λ g h. WriteTells (body_from p g h t a b c) d x d') u v w
