-- What the lister writes, as bytes.
--   comma, semicolon, newline   the bytes between numbers, between fields and after a line
--   number_text n     the decimal digits of n, highest first, without leading zeros
--   join c ts         the texts ts with the byte c between them
--   list_text l       the numbers l with commas
--   line_text p G H   p;G;H
--   refused_text n    refused n, and a newline
-- A text is put into a lent slice by `Put` of crate base_lists; two outcomes are equal: `placed_unique` there (proofs/Puts).
-- Laws: proofs/Digits (a number by its last digit), proofs/Texts (numbers, lists and fields put). Printing and reading are each other's inverse: Inverse and Writings of crate text_read.
use Rattle.std.specs.Prelude.{true, false, List, [], ◌∷◌, ◌++◌, map, ℕ, zero, suc, ◌+◌, ◌/◌, ◌%◌, ltb}

abbrev pub comma : ℕ
comma = 44

abbrev pub semicolon : ℕ
semicolon = 59

abbrev pub newline : ℕ
newline = 10

-- the first argument bounds how often the number is divided by ten
unfoldable pub digits_of : ℕ → ℕ → List ℕ
digits_of zero n = (48 + n % 10) ∷ []
digits_of (suc f) n = elim (ltb n 10) [ true ↦ (48 + n % 10) ∷ [] | false ↦ digits_of f (n / 10) ++ (48 + n % 10) ∷ [] ]

unfoldable pub number_text : ℕ → List ℕ
number_text n = digits_of n n

unfoldable pub join : ℕ → List (List ℕ) → List ℕ
join c [] = []
join c (t ∷ []) = t
join c (t ∷ u ∷ ts) = t ++ c ∷ join c (u ∷ ts)

unfoldable pub list_text : List ℕ → List ℕ
list_text l = join comma (map number_text l)

unfoldable pub line_text : ℕ → List ℕ → List ℕ → List ℕ
line_text p G H = join semicolon (number_text p ∷ list_text G ∷ list_text H ∷ [])

-- "refused "
abbrev pub refused_word : List ℕ
refused_word = 114 ∷ 101 ∷ 102 ∷ 117 ∷ 115 ∷ 101 ∷ 100 ∷ 32 ∷ []

unfoldable pub refused_text : ℕ → List ℕ
refused_text n = refused_word ++ number_text n ++ newline ∷ []
