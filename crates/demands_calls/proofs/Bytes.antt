-- What is written is bytes: a body, and a book.
--   bytes_append, bytes_body, bytes_book
use mathlib.Core.List.{List, [], ◌∷◌, ◌++◌}
use Prim.Native.Nat.{ℕ, zero, suc, ◌+◌, ◌*◌, ◌/◌, ◌<◌}
use native.Mathlib.Omega.{arith}
use lib.ListN.{length, get_or}
use Rattle.book_bytes.specs.Bytes.{le, words, Bytes}
use Rattle.book_body.specs.Body.{Body, body_bytes}
use Rattle.book_check.specs.Value.{table, bodies, bytes_of_book}
use Rattle.book_check.specs.Book.{mark, width}

-- so that a list is read off the fact
record Are (s : List ℕ) : Type 0 where
  all : Bytes s

none : Are []
none = record { all = λ i. omega arith }

one : {x : ℕ} {l : List ℕ} → x < 256 → Are l → Are (x ∷ l)
one {x} {l} h b = record { all = go }
  where
    go : (i : ℕ) → get_or (x ∷ l) i 0 < 256
    go zero = h
    go (suc i) = b.all i

pub bytes_append : (s t : List ℕ) → Bytes s → Bytes t → Bytes (s ++ t)
bytes_append [] t a b = b
bytes_append (x ∷ s) t a b = (one {l = s ++ t} (a 0) (record { all = bytes_append s t (λ i. a (suc i)) b })).all

both : {s t : List ℕ} → Are s → Are t → Are (s ++ t)
both {s} {t} a b = record { all = bytes_append s t a.all b.all }

number : (k n : ℕ) → Are (le k n)
unfolding le
number zero n = none
number (suc k) n = one (omega arith) (number k (n / 256))

list : (l : List ℕ) → Are (words l)
unfolding words
list [] = none
list (x ∷ l) = both (number 2 x) (list l)

body : (b : Body) → Are (body_bytes b)
unfolding body_bytes
body b =
    both (number 2 b.p) (both (number 2 (length b.G)) (both (number 2 (length b.H)) (both (number 2 (length b.E0))
    (both (number 2 (length b.E1)) (both (number 2 (length b.E2)) (both (number 4 b.period)
    (both (list b.G) (both (list b.H) (both (list b.E0) (both (list b.E1) (both (list b.E2) none)))))))))))

contents : (at : ℕ) (bs : List Body) → Are (table at bs)
unfolding table
contents at [] = none
contents at (b ∷ bs) = both (number 4 at) (both (number 4 (length (body_bytes b))) (contents (at + length (body_bytes b)) bs))

all_bodies : (bs : List Body) → Are (bodies bs)
unfolding bodies
all_bodies [] = none
all_bodies (b ∷ bs) = both (body b) (all_bodies bs)

the_mark : Are mark
the_mark = one (omega arith) (one (omega arith) (one (omega arith) (one (omega arith) none)))

pub bytes_body : (b : Body) → Bytes (body_bytes b)
bytes_body b = (body b).all

pub bytes_book : (bs : List Body) → Bytes (bytes_of_book bs)
unfolding bytes_of_book
bytes_book bs = (both the_mark (both (number 2 (length bs)) (both (contents (6 + width * length bs) bs) (all_bodies bs)))).all
