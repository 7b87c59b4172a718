-- G and H as callers give them: lists of coefficients, with zeros above them up to 32 entries.
--   entries       the most entries of a list that a caller gives
--   unpad l       the list that l stands for: l without the zeros at its end; nothing where l has over 32 entries
--   Padded p l d  l stands for a polynomial of degree d: at most 32 entries, each below p, that of t^d not 0, all above it 0, d + 1 at most 13
--   NoPadded p l  refusal 3 in the customer's words: l is empty or of zeros only, has over 32 entries, over 13 without the zeros at its end, or
--                 a coefficient ≥ p
--   Unpadded l n  the list that l stands for is its first n numbers
-- Every function that takes lists G and H from a caller reads `unpad G` and `unpad H`: its contract is a statement of these, and so the list
-- with its zeros and the list without them have one answer. Books are strict: what they hold is not unpadded.
-- In proofs/Paddings.antt: `three_padded`, `padded_three`, refusal 3 of `unpad l` comes exactly for `NoPadded`; `degree_padded`, `padded_degree`,
-- `Degree` of `unpad l` is exactly `Padded`; `accepted_stands`, lists of an accepted field stand for themselves.
use Rattle.std.specs.Prelude.{List, ℕ}
use Rattle.base_lists.specs.Padding as lists
use Rattle.field_open.specs.Refusal.{longest}

abbrev pub entries : ℕ
entries = 32

abbrev pub unpad : List ℕ → List ℕ
unpad = lists.unpad entries

abbrev pub Padded : ℕ → List ℕ → ℕ → Type 0
Padded = lists.Padded entries longest

abbrev pub NoPadded : ℕ → List ℕ → Type 0
NoPadded = lists.NoPadded entries longest

abbrev pub Unpadded : List ℕ → ℕ → Type 0
Unpadded = lists.Unpadded entries
