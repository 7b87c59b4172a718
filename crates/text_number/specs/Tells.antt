-- What the answers of the functions say, by cases: with a value, or without one.
--   NumberTells s r   a text as a number             SizeTells s r    a text as a list, counted
-- One outcome for each input: proofs/Answers.
use Rattle.std.specs.Prelude.{◌≡◌, List, ℕ, length, Option, Some, None}
use Rattle.text_number.specs.Grammar.{Number, Listed}

abbrev pub NumberTells : List ℕ → Option ℕ → Type 0
NumberTells s (Some v) = Number s v
NumberTells s None = (n : ℕ) → Number s n → ⊥

abbrev pub SizeTells : List ℕ → Option ℕ → Type 0
SizeTells s (Some n) = (l : List ℕ) × Listed s l × (length l ≡ n)
SizeTells s None = (l : List ℕ) → Listed s l → ⊥
