-- Accepted bytes are the writing of the value that they say, and it obeys the rules.
use mathlib.Core.Path.{◌≡◌, refl, sym, ap, ◌∙◌, subst}
use mathlib.Core.List.{List, [], ◌∷◌, ◌++◌, append_assoc}
use Prim.Native.Nat.{ℕ, zero, suc, ◌+◌, ◌-◌, ◌*◌, ◌<◌, ◌≤◌}
use native.Mathlib.Nat.{add-zero}
use native.Mathlib.Omega.{arith}
use lib.ListN.{length, take, drop, take-append-drop, length-drop}
use lib.Seq.{drop-drop, drop-length, length-take-le}
use Rattle.book_bytes.specs.Bytes.{le, Bytes}
use Rattle.book_bytes.proofs.Read.{bytes_drop, peel}
use Rattle.book_body.specs.Body.{Body, Rule, FieldSays, OneField, body_bytes}
use Rattle.book_body.proofs.Body.{body_back}
use Rattle.book_check.specs.Book.{mark, count, start_at, length_at, ends, part, entry, Accepted}
use Rattle.book_check.specs.Value.{rows, value_of, table, bodies, bytes_of_book, at, Obeys}
use Rattle.book_contents.proofs.Contents.{ends_zero, inside}

-- ---- accepted bytes are the writing of what they say
pub bytes_part : (s : List ℕ) (i : ℕ) → Bytes s → Bytes (part s i)
bytes_part s i b = take_bytes (length_at s i) (drop (start_at s i) s) (bytes_drop s (start_at s i) b)
  where
    take_bytes : (n : ℕ) (l : List ℕ) → Bytes l → Bytes (take n l)
    take_bytes zero l h j = omega arith
    take_bytes (suc n) [] h j = h j
    take_bytes (suc n) (x ∷ l) h zero = h 0
    take_bytes (suc n) (x ∷ l) h (suc j) = take_bytes n l (λ k. h (suc k)) j

pub length_rows : (s : List ℕ) (i k : ℕ) → length (rows s i k) ≡ k
length_rows s i zero = refl
length_rows s i (suc k) = ap suc (length_rows s (suc i) k)

pub at_rows : (s : List ℕ) (i k j : ℕ) → j < k → at (rows s i k) j ≡ entry s (i + j)
at_rows s i zero j h = absurd (omega arith)
at_rows s i (suc k) zero h = ap (entry s) (sym (add-zero i))
at_rows s i (suc k) (suc j) h = at_rows s (suc i) k j (omega arith) ∙ ap (entry s) (let e : suc i + j ≡ i + suc j = omega arith in e)

module _ (s : List ℕ) (b : Bytes s) (a : Accepted s) where
  n : ℕ
  n = count s

  pub part_back : (i : ℕ) → i < count s → body_bytes (entry s i) ≡ part s i
  part_back i h = body_back (part s i) (bytes_part s i b) (a.good i h).body.size

  pub part_long : (i : ℕ) → i < count s → length (body_bytes (entry s i)) ≡ length_at s i
  part_long i h =
      let z : start_at s i + length_at s i ≤ length s = inside s i a.listed h in
      let d : length (drop (start_at s i) s) ≡ length s - start_at s i = length-drop (start_at s i) s in
      ap length (part_back i h) ∙ length-take-le (length_at s i) (drop (start_at s i) s) (omega arith)

  ends_suc : (i : ℕ) → ends s (suc i) ≡ ends s i + length_at s i
  unfolding ends
  ends_suc i = refl

  below : (i : ℕ) → i < count s → 14 + 8 * i ≤ length s
  below i h =
      let z : start_at s i + length_at s i ≤ length s = inside s i a.listed h in
      let y : start_at s i ≡ ends s i = a.listed.starts i h in
      let x : 6 + 8 * count s ≤ ends s i = grow i in
      omega arith
    where
      grow : (i : ℕ) → 6 + 8 * count s ≤ ends s i
      grow zero = let e : ends s 0 ≡ 6 + 8 * count s = ends_zero s in omega arith
      grow (suc i) = let g : 6 + 8 * count s ≤ ends s i = grow i in let e : ends s (suc i) ≡ ends s i + length_at s i = ends_suc i in omega arith

  table_back : (k i : ℕ) → i + k ≡ count s → table (ends s i) (rows s i k) ++ drop (6 + 8 * count s) s ≡ drop (6 + 8 * i) s
  unfolding table
  table_back zero i e = ap (λ (x : ℕ). drop (6 + 8 * x) s) (let f : count s ≡ i = omega arith in f)
  table_back (suc k) i e =
      let h : i < count s = omega arith in
      let r : table (ends s (suc i)) (rows s (suc i) k) ++ drop (6 + 8 * count s) s ≡ drop (6 + 8 * suc i) s = table_back k (suc i) (omega arith) in
      let st : start_at s i ≡ ends s i = a.listed.starts i h in
      let ln : length (body_bytes (entry s i)) ≡ length_at s i = part_long i h in
      let en : ends s (suc i) ≡ ends s i + length_at s i = ends_suc i in
      let lo : 14 + 8 * i ≤ length s = below i h in
      let p1 : drop (6 + 8 * i) s ≡ le 4 (start_at s i) ++ drop ((6 + 8 * i) + 4) s = peel 4 (6 + 8 * i) s b (omega arith) in
      let p2 : drop (10 + 8 * i) s ≡ le 4 (length_at s i) ++ drop ((10 + 8 * i) + 4) s = peel 4 (10 + 8 * i) s b (omega arith) in
      let q1 : (6 + 8 * i) + 4 ≡ 10 + 8 * i = omega arith in
      let q2 : (10 + 8 * i) + 4 ≡ 6 + 8 * suc i = omega arith in
      append_assoc (le 4 (ends s i)) (le 4 (length (body_bytes (entry s i))) ++ table (ends s i + length (body_bytes (entry s i))) (rows s (suc i) k)) (drop (6 + 8 * count s) s)
      ∙ ap (λ (z : List ℕ). le 4 (ends s i) ++ z) (append_assoc (le 4 (length (body_bytes (entry s i)))) (table (ends s i + length (body_bytes (entry s i))) (rows s (suc i) k)) (drop (6 + 8 * count s) s))
      ∙ ap (λ (y : ℕ). le 4 (ends s i) ++ (le 4 y ++ (table (ends s i + y) (rows s (suc i) k) ++ drop (6 + 8 * count s) s))) ln
      ∙ ap (λ (y : ℕ). le 4 (ends s i) ++ (le 4 (length_at s i) ++ (table y (rows s (suc i) k) ++ drop (6 + 8 * count s) s))) (sym en)
      ∙ ap (λ (z : List ℕ). le 4 (ends s i) ++ (le 4 (length_at s i) ++ z)) (r ∙ ap (λ (y : ℕ). drop y s) (sym q2))
      ∙ ap (λ (z : List ℕ). le 4 (ends s i) ++ z) (sym p2)
      ∙ ap (λ (y : ℕ). le 4 y ++ drop (10 + 8 * i) s) (sym st)
      ∙ ap (λ (y : ℕ). le 4 (start_at s i) ++ drop y s) (sym q1)
      ∙ sym p1

  pub bodies_back : (k i : ℕ) → i + k ≡ count s → bodies (rows s i k) ≡ drop (ends s i) s
  unfolding bodies
  bodies_back zero i e =
      let f : i ≡ count s = omega arith in
      let w : ends s i ≡ length s = ap (ends s) f ∙ a.listed.whole in
      sym (drop-length s) ∙ ap (λ (y : ℕ). drop y s) (sym w)
  bodies_back (suc k) i e =
      let h : i < count s = omega arith in
      let st : start_at s i ≡ ends s i = a.listed.starts i h in
      ap (λ (z : List ℕ). z ++ bodies (rows s (suc i) k)) (part_back i h)
      ∙ ap (λ (z : List ℕ). part s i ++ z) (bodies_back k (suc i) (omega arith) ∙ ap (λ (y : ℕ). drop y s) (ends_suc i) ∙ sym (drop-drop (length_at s i) (ends s i) s))
      ∙ ap (λ (y : ℕ). take (length_at s i) (drop y s) ++ drop (length_at s i) (drop (ends s i) s)) st
      ∙ take-append-drop (length_at s i) (drop (ends s i) s)

  pub book_back : bytes_of_book (value_of s) ≡ s
  unfolding bytes_of_book
  book_back =
      let l : length (rows s 0 (count s)) ≡ count s = length_rows s 0 (count s) in
      let z : ends s 0 ≡ 6 + 8 * count s = ends_zero s in
      let lo : 6 ≤ length s = a.marked.low in
      let t : table (6 + 8 * count s) (rows s 0 (count s)) ++ bodies (rows s 0 (count s)) ≡ drop 6 s =
      ap (λ (y : ℕ). table y (rows s 0 (count s)) ++ bodies (rows s 0 (count s))) (sym z)
      ∙ ap (λ (y : List ℕ). table (ends s 0) (rows s 0 (count s)) ++ y) (bodies_back (count s) 0 (omega arith) ∙ ap (λ (y : ℕ). drop y s) z)
      ∙ table_back (count s) 0 (omega arith) in
      ap (λ (y : ℕ). mark ++ (le 2 y ++ (table (6 + 8 * y) (rows s 0 (count s)) ++ bodies (rows s 0 (count s))))) l
      ∙ ap (λ (y : List ℕ). mark ++ (le 2 (count s) ++ y)) t
      ∙ ap (λ (y : List ℕ). mark ++ y) (sym (peel 2 4 s b (omega arith)))
      ∙ ap (λ (y : List ℕ). y ++ drop 4 s) (sym a.marked.mark)
      ∙ take-append-drop 4 s

  at_value : (i : ℕ) → i < count s → at (value_of s) i ≡ entry s i
  at_value i h = at_rows s 0 (count s) i h ∙ ap (entry s) (let e : 0 + i ≡ i = omega arith in e)

  length_value : length (value_of s) ≡ count s
  length_value = length_rows s 0 (count s)

  pub book_obeys : Obeys (value_of s)
  book_obeys =
      let l : length (value_of s) ≡ count s = length_value in
      record {
        size = (let e : length (bytes_of_book (value_of s)) ≡ length s = ap length book_back in let h : length s ≤ 65536 = a.marked.high in omega arith);
        rule = λ i h. (let u : i < count s = omega arith in subst Rule (sym (at_value i u)) (a.good i u).body.rule);
        field = λ i h. (let u : i < count s = omega arith in subst (λ (r : Body). FieldSays r 0) (sym (at_value i u)) (a.good i u).field);
        once = λ i j h v o.
            (let u : i < count s = omega arith in
            let x : j < count s = omega arith in
            (a.good i u).once j v
            (subst (λ (r : Body). OneField r (entry s j)) (at_value i u) (subst (λ (r : Body). OneField (at (value_of s) i) r) (at_value j x) o)));
      }
