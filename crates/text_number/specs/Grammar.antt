-- What a number and a list say: decimals of 1 to 5 digits without leading zeros, lists of one or more with commas.
--   value s            the number that the digits s stand for
--   Numeral s          s is 1 to 5 digits without leading zeros; "0" is one, "00", "05" and six digits are none
--   Number s n         s is such a numeral, of value n
--   Listed s l         s is one or more numerals with commas, of the values l
-- Printing and reading a number are each other's inverse: proofs/Inverse.
use Rattle.std.specs.Prelude.{◌≡◌, ◌≢◌, List, [], ◌∷◌, map, ℕ, ◌+◌, ◌-◌, ◌*◌, ◌≤◌, ◌<◌, length, get_or}
use Rattle.text_put.specs.Print.{comma}
use Rattle.text_cut.specs.Pieces.{pieces}

-- a digit's byte is 48 more than the digit
abbrev pub Digit : ℕ → Type 0
Digit b = (48 ≤ b) × (b ≤ 57)

unfoldable pub value_from : ℕ → List ℕ → ℕ
value_from v [] = v
value_from v (b ∷ s) = value_from (v * 10 + (b - 48)) s

abbrev pub value : List ℕ → ℕ
value s = value_from 0 s

pub record Numeral (s : List ℕ) : Type 0 where
  pub some : 1 ≤ length s
  pub few : length s ≤ 5
  pub digits : (k : ℕ) → k < length s → Digit (get_or s k 0)
  pub plain : 1 < length s → get_or s 0 0 ≢ 48

pub record Number (s : List ℕ) (n : ℕ) : Type 0 where
  pub numeral : Numeral s
  pub means : n ≡ value s

pub record Listed (s : List ℕ) (l : List ℕ) : Type 0 where
  pub each : (k : ℕ) → k < length (pieces comma s) → Numeral (get_or (pieces comma s) k [])
  pub means : l ≡ map value (pieces comma s)
