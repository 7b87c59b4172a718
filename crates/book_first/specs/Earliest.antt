-- The first entry of a book that is of one field with a body.
--   entry s i            the body that the part says which entry i names
--   EarlierAsks s b i    mark and contents are right, there are i entries or more, and the fields of the body b and of the entries before
--                        i are accepted: bodies whose field is not are not compared
--   FirstOfAsks s p G H i   the same for a field p, G, H in place of the body
--   Earliest s b i j     j is the first entry before i that is of one field with the body b, or i
-- That there is one such j is `earliest_unique`, in crate book_check.
use Rattle.std.specs.Prelude.{List, ℕ, ◌<◌, ◌≤◌}
use Rattle.book_body.specs.Body.{Body, FieldSays, OneField, body_of}
use Rattle.book_field.specs.Code.{pair_of}
use Rattle.book_contents.specs.Contents.{Marked, Listed, count, part}

abbrev pub entry : List ℕ → ℕ → Body
entry s i = body_of (part s i)

pub record EarlierAsks (s b : List ℕ) (i : ℕ) : Type 0 where
  pub marked : Marked s
  pub listed : Listed s
  pub within : i ≤ count s
  pub own : FieldSays (body_of b) 0
  pub each : (j : ℕ) → j < i → FieldSays (entry s j) 0

pub record FirstOfAsks (s : List ℕ) (p : ℕ) (G H : List ℕ) (i : ℕ) : Type 0 where
  pub marked : Marked s
  pub listed : Listed s
  pub within : i ≤ count s
  pub own : FieldSays (pair_of p G H) 0
  pub each : (j : ℕ) → j < i → FieldSays (entry s j) 0

pub record Earliest (s : List ℕ) (b : Body) (i j : ℕ) : Type 0 where
  pub within : j ≤ i
  pub none : (k : ℕ) → k < j → OneField b (entry s k) → ⊥
  pub found : j < i → OneField b (entry s j)
