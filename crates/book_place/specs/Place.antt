-- What asking for an entry of a book by its place tells.
--   Place           where the part that an entry names starts, and its length; 0 and 0 with a refusal
--   AskSays         the place, and the five numbers of the answer
-- In proofs/Once.antt: two outcomes that meet one of them are equal (place_unique, ask_says_unique).
use Rattle.std.specs.Prelude.{◌≡◌, List, ℕ, ◌<◌}
use Rattle.base_answers.specs.Said.{Said}
use Rattle.book_check.specs.Book.{Accepted, count, start_at, length_at}
use Rattle.book_check.specs.Answer.{AskTells}
use Rattle.book_numbers.specs.Numbers.{numbers}

pub data Place (s : List ℕ) (i start size : ℕ) : Type 0 where
  found : Accepted s → i < count s → start ≡ start_at s i → size ≡ length_at s i → Place s i start size
  none : (Accepted s → i < count s → ⊥) → start ≡ 0 → size ≡ 0 → Place s i start size

pub record AskSays (s : List ℕ) (i start size : ℕ) (out : List ℕ) : Type 0 where
  pub said : Said
  pub tells : AskTells s i said
  pub written : out ≡ numbers said
  pub place : Place s i start size
