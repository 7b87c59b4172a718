-- Whether the entry is there is read off the first of the five numbers.
use mathlib.Core.Path.{◌≡◌, ◌∙◌, sym, ap}
use mathlib.Core.List.{List}
use Prim.Native.Nat.{ℕ, ◌<◌}
use native.Mathlib.Omega.{arith}
use lib.ListN.{get_or}
use Rattle.base_answers.specs.Said.{Said}
use Rattle.book_check.specs.Book.{Accepted, count, start_at, length_at}
use Rattle.book_check.specs.Answer.{AskTells}
use Rattle.book_contents.proofs.Contents.{few_of}
use Rattle.book_check.proofs.Asking.{told_there, told_none}
use Rattle.book_numbers.specs.Numbers.{numbers}
use Rattle.book_place.specs.Place.{found, none, AskSays}

module _ (s : List ℕ) (i : ℕ) (x : Said) (o : List ℕ) (t : AskTells s i x) (e : o ≡ numbers x) where
  number_is : x.number ≡ get_or o 0 0
  number_is = sym (ap (λ l. get_or l 0 0) e)

  is_there : get_or o 0 0 ≡ 0 → Accepted s × (i < count s)
  is_there z = told_there s t (number_is ∙ z)

  pub near : get_or o 0 0 ≡ 0 → i < 65536
  near z =
      let w = is_there z in
      let h = few_of s w.0.marked w.0.listed in
      let k = w.1 in
      omega arith

  pub asked_there : get_or o 0 0 ≡ 0 → (a l : ℕ) → a ≡ start_at s i → l ≡ length_at s i → AskSays s i a l o
  asked_there z a l ha hl = record { said = x; tells = t; written = e; place = found (is_there z).0 (is_there z).1 ha hl }

  pub asked_none : (get_or o 0 0 ≡ 0 → ⊥) → (a l : ℕ) → a ≡ 0 → l ≡ 0 → AskSays s i a l o
  asked_none z a l ha hl =
      record { said = x; tells = t; written = e; place = none (told_none s t (λ n. z (sym number_is ∙ n))) ha hl }
