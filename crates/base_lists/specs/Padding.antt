-- A list of coefficients with zeros above them, as scripts pad it to a common length.
--   unpad room l             the list that l stands for: l without the zeros at its end; nothing where l has over `room` entries
--   Padded room most p l d   l is a padded list of coefficients of a polynomial of degree d: at most `room` entries, each below p, that of
--                            t^d not 0 and all above it 0, and at most `most` of them up to t^d
--   NoPadded room most p l   l is none: it is empty or of zeros only, has over `room` entries, over `most` without the zeros at its end, or a
--                            number from p on
--   Unpadded room l n        the list that l stands for is its first n numbers
-- In proofs/Paddings.antt: the law between this and `Coefficients`, `padded_list` and `list_padded` (l is padded exactly where the list that it
-- stands for is a list of coefficients); `not_padded`, the words of `NoPadded` exactly where it is none; `unpad_again`, `unpad_list` (what has
-- no zeros at its end stands for itself), `unpad_zeros` (zeros put behind change nothing), `unpadded_unique`.
use Rattle.std.specs.Prelude.{◌≡◌, ◌≢◌, ◌⊎◌, true, false, List, [], ℕ, suc, ◌≤◌, ◌<◌, length, get_or, take, ltb}
use Rattle.base_lists.specs.Coefficients.{trim}

unfoldable pub unpad : ℕ → List ℕ → List ℕ
unpad room l = elim (ltb room (length l)) [ true ↦ [] | false ↦ trim l ]

pub record Padded (room most p : ℕ) (l : List ℕ) (d : ℕ) : Type 0 where
  pub entries : length l ≤ room
  pub short : suc d ≤ most
  pub each : (i : ℕ) → i < length l → get_or l i 0 < p
  pub last : get_or l d 0 ≢ 0
  pub above : (i : ℕ) → d < i → get_or l i 0 ≡ 0

abbrev pub NoPadded : ℕ → ℕ → ℕ → List ℕ → Type 0
NoPadded room most p l =
    ((i : ℕ) → get_or l i 0 ≡ 0) ⊎ ((room < length l) ⊎ ((most < length (trim l)) ⊎ ((i : ℕ) × (i < length l) × (p ≤ get_or l i 0))))

pub record Unpadded (room : ℕ) (l : List ℕ) (n : ℕ) : Type 0 where
  pub fits : n ≤ length l
  pub front : take n l ≡ unpad room l
