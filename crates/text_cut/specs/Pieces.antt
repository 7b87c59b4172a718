-- A text, a list of bytes, cut at one byte.
--   until c s       the bytes of s before the first c; all of s where there is none
--   pieces c s      the pieces of s between the bytes c, in order: one more than there are bytes c
-- Laws: proofs/Cuts; of pieces joined again: Joins of crate text_read.
use Rattle.std.specs.Prelude.{true, false, List, [], ◌∷◌, ℕ, eqb}

unfoldable pub until : ℕ → List ℕ → List ℕ
until c [] = []
until c (x ∷ s) = elim (eqb x c) [ true ↦ [] | false ↦ x ∷ until c s ]

-- x in front of the first piece
unfoldable pub ahead : ℕ → List (List ℕ) → List (List ℕ)
ahead x [] = (x ∷ []) ∷ []
ahead x (p ∷ ps) = (x ∷ p) ∷ ps

unfoldable pub pieces : ℕ → List ℕ → List (List ℕ)
pieces c [] = [] ∷ []
pieces c (x ∷ s) = elim (eqb x c) [ true ↦ [] ∷ pieces c s | false ↦ ahead x (pieces c s) ]
