-- Numbers in bytes, little-endian. Bytes are a list of numbers below 256.
--   le k n       the number n in k bytes
--   val k s      the number in the first k bytes of s; what is past the end counts 0
--   words l      the numbers of l, 2 bytes each
--   vals n s     the first n numbers of s, 2 bytes each
--   u2 s i, u4 s i   the numbers in the 2 and in the 4 bytes at i
--   list_start head from s k   where list k of s starts: `head` bytes of numbers, among them the lists' lengths, 2 bytes each from
--                byte `from` on, and then the lists without gaps
--   list_at head from s k      list k of s
--   Bytes s      every entry of s is below 256
--   Small l      every entry of l fits 2 bytes
-- A piece of bytes is written by `Written` of crate base_lists.
-- That what is written reads back, and what is read is what was written, is in proofs/Read.antt; lists in
-- proofs/Lists.antt; numbers and lists written in proofs/Write.antt.
use Rattle.std.specs.Prelude.{List, [], ◌∷◌, ◌++◌, ℕ, zero, suc, ◌+◌, ◌*◌, ◌/◌, ◌%◌, ◌<◌, length, get_or, drop}

unfoldable pub le : ℕ → ℕ → List ℕ
le zero n = []
le (suc k) n = n % 256 ∷ le k (n / 256)

unfoldable pub val : ℕ → List ℕ → ℕ
val zero s = 0
val (suc k) s = get_or s 0 0 + 256 * val k (drop 1 s)

unfoldable pub words : List ℕ → List ℕ
words [] = []
words (x ∷ xs) = le 2 x ++ words xs

unfoldable pub vals : ℕ → List ℕ → List ℕ
vals zero s = []
vals (suc n) s = val 2 s ∷ vals n (drop 2 s)

abbrev pub u2 : List ℕ → ℕ → ℕ
u2 s i = val 2 (drop i s)

abbrev pub u4 : List ℕ → ℕ → ℕ
u4 s i = val 4 (drop i s)

unfoldable pub list_start : ℕ → ℕ → List ℕ → ℕ → ℕ
list_start head from s zero = head
list_start head from s (suc k) = list_start head from s k + 2 * u2 s (from + 2 * k)

abbrev pub list_at : ℕ → ℕ → List ℕ → ℕ → List ℕ
list_at head from s k = vals (u2 s (from + 2 * k)) (drop (list_start head from s k) s)

abbrev pub Bytes : List ℕ → Type 0
Bytes s = (i : ℕ) → get_or s i 0 < 256

abbrev pub Small : List ℕ → Type 0
Small l = (i : ℕ) → i < length l → get_or l i 0 < 65536
