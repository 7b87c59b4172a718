-- The empty book: its bytes, and that it is accepted and has no bodies.
use mathlib.Core.Path.{◌≡◌, refl, sym, ap, subst}
use mathlib.Core.List.{List, [], ◌∷◌}
use Prim.Native.Nat.{ℕ, ◌<◌, ◌≤◌}
use native.Mathlib.Omega.{arith}
use lib.ListN.{length}
use Rattle.book_bytes.specs.Bytes.{le}
use Rattle.book_check.specs.Book.{Accepted}
use Rattle.book_check.specs.Value as value
use Rattle.book_check.specs.Value.{Obeys, value_of, table, bytes_of_book}
use Rattle.book_check.proofs.Written.{written_accepted, value_back}
use Rattle.base_lists.specs.Pieces.{Written}
use Rattle.base_lists.proofs.Puts.{front_long, front_whole}
use Rattle.base_answers.specs.Said.{passed, refused}
use Rattle.book_begin.specs.Begin.{empty_book, short, begun, BeginSays}

abbrev six : List ℕ
six = 80 ∷ 67 ∷ 70 ∷ 49 ∷ 0 ∷ 0 ∷ []

empty_bytes : empty_book ≡ six
unfolding bytes_of_book table value.bodies le
empty_bytes = refl

obeys_none : Obeys []
obeys_none = record {
  size = rw empty_bytes (omega arith);
  rule = λ i h. absurd (omega arith);
  field = λ i h. absurd (omega arith);
  once = λ i j h k. absurd (omega arith);
}

pub begun_accepted : Accepted empty_book
begun_accepted = written_accepted empty_book ([], obeys_none, refl)

pub begun_empty : value_of empty_book ≡ []
begun_empty = value_back [] obeys_none

-- ---- what the code writes
pub too_short : (d : List ℕ) → length d < 6 → BeginSays d d (11 ∷ 0 ∷ 0 ∷ 0 ∷ 0 ∷ [])
too_short d h = record { said = refused 11; tells = short (rw empty_bytes h) refl refl; written = refl }

module _ (d d' : List ℕ) (r : ℕ) (h : 6 ≤ length d) (q : Written d 0 six 6 r d') where
  front : Written d 0 empty_book 6 r d'
  front = subst (λ x. Written d 0 x 6 r d') (sym empty_bytes) q

  pub put_begun : BeginSays d d' (0 ∷ 0 ∷ 0 ∷ 0 ∷ r ∷ [])
  put_begun = record {
    said = passed r;
    tells = begun (rw empty_bytes h) (ap passed (sym (front_long front h))) (front_whole front h);
    written = refl;
  }
