-- What the functions ask and promise.
--   new_length n b    the old length + a contents entry + the body
--   line_end s at i   where the first i bodies of s end when they start at `at`
--   lines s at i     the contents of the first i bodies of s when they start at `at`
--   Place d n c b    the book of c bodies and length n in d can take the body b
--   new_bytes d n c b the bytes of the new book, up to its end
use Rattle.std.specs.Prelude.{List, [], ◌++◌, ℕ, zero, suc, ◌+◌, ◌-◌, ◌*◌, ◌≤◌, length, take, drop}
use Rattle.book_bytes.specs.Bytes.{le}
use Rattle.book_check.specs.Book.{width, length_at}

abbrev pub new_length : ℕ → List ℕ → ℕ
new_length n b = n + width + length b

unfoldable pub line_end : List ℕ → ℕ → ℕ → ℕ
line_end s at zero = at
line_end s at (suc i) = line_end s at i + length_at s i

unfoldable pub lines : List ℕ → ℕ → ℕ → List ℕ
lines s at zero = []
lines s at (suc i) = lines s at i ++ (le 4 (line_end s at i) ++ le 4 (length_at s i))

pub record Place (d : List ℕ) (n c : ℕ) (b : List ℕ) : Type 0 where
  pub low : 6 + width * c ≤ n
  pub room : new_length n b ≤ length d
  pub top : new_length n b ≤ 65536
  pub fits : (i : ℕ) → i ≤ c → line_end d (6 + width * suc c) i ≤ 65544

unfoldable pub new_bytes : List ℕ → ℕ → ℕ → List ℕ → List ℕ
new_bytes d n c b =
    take 4 d
    ++ ((((le 2 (c + 1) ++ lines d (6 + width * suc c) c) ++ (le 4 (n + width) ++ le 4 (length b)))
    ++ take (n - (6 + width * c)) (drop (6 + width * c) d)) ++ b)
