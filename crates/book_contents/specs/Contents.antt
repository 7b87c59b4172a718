-- The book of units as bytes: its mark and its contents.
--   mark           the bytes PCF1
--   Marked s       6 to 65,536 bytes that begin with the mark
--   count s        the number of bodies; width the bytes of a contents entry; start_at s i and length_at s i what entry i names
--   ends s i       where the first i bodies end when they follow the contents without gaps
--   Listed s       the contents name the bodies without gaps and in order, and the last one ends at the file's end
--   part s i       the part of the file that entry i names
--   Ready s i      mark and contents are right, and entry i is there
-- Laws: proofs/Contents.
use Rattle.std.specs.Prelude.{◌≡◌, List, [], ◌∷◌, ℕ, zero, suc, ◌+◌, ◌*◌, ◌<◌, ◌≤◌, length, take}
use Rattle.base_lists.specs.Pieces.{piece}
use Rattle.book_bytes.specs.Bytes.{u2, u4}

abbrev pub mark : List ℕ
mark = 80 ∷ 67 ∷ 70 ∷ 49 ∷ []

pub record Marked (s : List ℕ) : Type 0 where
  pub low : 6 ≤ length s
  pub high : length s ≤ 65536
  pub mark : take 4 s ≡ mark

abbrev pub count : List ℕ → ℕ
count s = u2 s 4

abbrev pub width : ℕ
width = 8

abbrev pub start_at : List ℕ → ℕ → ℕ
start_at s i = u4 s (6 + width * i)

abbrev pub length_at : List ℕ → ℕ → ℕ
length_at s i = u4 s (10 + width * i)

unfoldable pub ends : List ℕ → ℕ → ℕ
ends s zero = 6 + width * count s
ends s (suc i) = ends s i + length_at s i

pub record Listed (s : List ℕ) : Type 0 where
  pub starts : (i : ℕ) → i < count s → start_at s i ≡ ends s i
  pub whole : ends s (count s) ≡ length s

abbrev pub part : List ℕ → ℕ → List ℕ
part s i = piece (start_at s i) (length_at s i) s

pub record Ready (s : List ℕ) (i : ℕ) : Type 0 where
  pub marked : Marked s
  pub listed : Listed s
  pub there : i < count s
