-- The lister's input, a list of bytes, as lines.
--   Line               a whole line (its bytes without the newline), or a broken one: too long, or the last without its newline
--   lines_of n input   the lines of the input, where a whole line has at most n bytes; the lister's n is 255
--   Kept k n x         the slice k and the number n stand for the bytes x, begun and not ended: n counts them, up to one more
--                      than k has room for, and k begins with them where it has room
-- Laws: proofs/Feeds: a program that goes through its input by `next_line`, in pieces of any size, meets exactly lines_of.
use Rattle.std.specs.Prelude.{◌≡◌, true, false, List, [], ◌∷◌, ℕ, ◌+◌, ◌≤◌, min, leb, length, take}
use Rattle.text_put.specs.Print.{newline}
use Rattle.text_cut.specs.Pieces.{pieces}

pub data Line : Type 0 where
  whole : List ℕ → Line
  broken : Line

-- a line that ended with its newline
unfoldable pub ended : ℕ → List ℕ → Line
ended n s = elim (leb (length s) n) [ true ↦ whole s | false ↦ broken ]

-- what is left at the input's end
unfoldable pub left : List ℕ → List Line
left [] = []
left (b ∷ s) = broken ∷ []

unfoldable pub lines_in : ℕ → List (List ℕ) → List Line
lines_in n [] = []
lines_in n (s ∷ []) = left s
lines_in n (s ∷ t ∷ ps) = ended n s ∷ lines_in n (t ∷ ps)

unfoldable pub lines_of : ℕ → List ℕ → List Line
lines_of n input = lines_in n (pieces newline input)

pub record Kept (k : List ℕ) (n : ℕ) (x : List ℕ) : Type 0 where
  pub counts : n ≡ min (length x) (length k + 1)
  pub holds : length x ≤ length k → take n k ≡ x
