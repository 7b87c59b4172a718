-- The book of units as bytes.
--   Sound s i      entry i is formed, its field is accepted and no earlier entry is of one field with it
--   Accepted s     mark and contents are right, and every entry is sound
-- Mark, contents and parts are those of crate book_contents, `entry s i` is of crate book_first.
use Rattle.std.specs.Prelude.{List, ℕ, ◌<◌}
pub use Rattle.book_contents.specs.Contents.{mark, Marked, count, width, start_at, length_at, Listed, part}
unfoldable pub use Rattle.book_contents.specs.Contents.{ends}
pub use Rattle.book_first.specs.Earliest.{entry}
use Rattle.book_body.specs.Body.{FieldSays, OneField, Formed}

pub record Sound (s : List ℕ) (i : ℕ) : Type 0 where
  pub body : Formed (part s i)
  pub field : FieldSays (entry s i) 0
  pub once : (j : ℕ) → j < i → OneField (entry s i) (entry s j) → ⊥

pub record Accepted (s : List ℕ) : Type 0 where
  pub marked : Marked s
  pub listed : Listed s
  pub good : (i : ℕ) → i < count s → Sound s i
