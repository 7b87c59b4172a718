-- What asking for a part of a body tells, the body being checked first.
--   NumberTells s n x      asking the body's bytes s for the number n says x: 13 with what is wrong with the body, as entry 0; else n
--   PartTells s k d x d'   asking for list k into the front of the slice d, which is d' then, says x: 13 in the same way; 14 when there is
--                          no such list; 11 when the slice is shorter; else the length
--   PrimeSays, PeriodSays, ListSays    the prime, the period and a list, as the five numbers of the answer
-- In proofs/Once.antt: two outcomes that meet one of them are equal (number_unique, part_unique, prime_says_unique, period_says_unique,
-- list_says_unique), and a refusal leaves the slice as it was (part_kept).
use Rattle.std.specs.Prelude.{◌≡◌, List, ℕ}
use Rattle.base_answers.specs.Said.{Said, passed}
use Rattle.book_body.specs.Body.{body_of, Finished}
use Rattle.book_body.specs.Code.{ListTells}
use Rattle.book_check.specs.Answer.{BodyFault}
use Rattle.book_numbers.specs.Numbers.{numbers}

pub data NumberTells (s : List ℕ) (n : ℕ) (x : Said) : Type 0 where
  fault : BodyFault s 0 x → NumberTells s n x
  told : Finished s → x ≡ passed n → NumberTells s n x

pub data PartTells (s : List ℕ) (k : ℕ) (d : List ℕ) (x : Said) (d' : List ℕ) : Type 0 where
  faulty : BodyFault s 0 x → d' ≡ d → PartTells s k d x d'
  listed : Finished s → ListTells s k d x d' → PartTells s k d x d'

pub record PrimeSays (s out : List ℕ) : Type 0 where
  pub said : Said
  pub tells : NumberTells s (body_of s).p said
  pub written : out ≡ numbers said

pub record PeriodSays (s out : List ℕ) : Type 0 where
  pub said : Said
  pub tells : NumberTells s (body_of s).period said
  pub written : out ≡ numbers said

pub record ListSays (s : List ℕ) (k : ℕ) (d d' out : List ℕ) : Type 0 where
  pub said : Said
  pub tells : PartTells s k d said d'
  pub written : out ≡ numbers said
