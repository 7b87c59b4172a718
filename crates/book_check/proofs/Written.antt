-- Bytes are accepted exactly when they are the writing of a value that obeys the rules; what is written reads back; an accepted book
-- has one value, and so one writing.
use mathlib.Core.Path.{◌≡◌, refl, sym, ap, ◌∙◌, subst}
use mathlib.Core.List.{List, [], ◌∷◌, ◌++◌, append_assoc}
use Prim.Native.Nat.{ℕ, zero, suc, ◌+◌, ◌-◌, ◌*◌, ◌<◌, ◌≤◌}
use native.Mathlib.Omega.{arith}
use lib.ListN.{length, take, drop, length-append, length-drop}
use lib.Seq.{drop-drop, drop_at, take_at, drop-cons, drop-length, ext_get_or}
use Rattle.book_bytes.specs.Bytes.{le, val, Bytes}
use Rattle.book_bytes.proofs.Read.{val_le2, val_le4, past_le4, length_le4}
use Rattle.book_body.specs.Body.{Body, Rule, FieldSays, OneField, body_bytes, body_of, Formed}
use Rattle.book_body.proofs.Body.{body_reads, body_size}
use Rattle.book_body.proofs.Field.{fits}
use Rattle.book_check.specs.Book.{mark, Marked, Listed, count, start_at, length_at, ends, part, entry, Accepted}
use Rattle.book_check.specs.Value.{value_of, table, bodies, bytes_of_book, none, at, Obeys, Written}
use Rattle.book_contents.proofs.Contents.{ends_zero}
use Rattle.book_check.proofs.Value.{length_rows, at_rows, book_obeys, book_back}

-- ---- the writing of a value that obeys the rules is accepted, and reads back
-- where the body i starts in the writing
abbrev pub offset : List Body → ℕ → ℕ
offset bs zero = 6 + 8 * length bs
offset bs (suc i) = offset bs i + length (body_bytes (at bs i))

ends_next : (s : List ℕ) (i : ℕ) → ends s (suc i) ≡ ends s i + length_at s i
unfolding ends
ends_next s i = refl

six_w : (bs : List Body) → 6 ≤ length (bytes_of_book bs)
unfolding bytes_of_book le
six_w bs = omega arith

mark_w : (bs : List Body) → take 4 (bytes_of_book bs) ≡ mark
unfolding bytes_of_book
mark_w bs = refl

split_at : (bs : List Body) (i : ℕ) → i < length bs → drop i bs ≡ at bs i ∷ drop (suc i) bs
split_at bs i h = drop-cons bs i none h

module _ (bs : List Body) (o : Obeys bs) where
  abbrev w : List ℕ
  w = bytes_of_book bs

  head_w : drop 6 w ≡ table (6 + 8 * length bs) bs ++ bodies bs
  unfolding bytes_of_book le
  head_w = refl

  table_cons : (x : ℕ) (i : ℕ) → i < length bs
      → table x (drop i bs) ++ bodies bs
      ≡ le 4 x ++ (le 4 (length (body_bytes (at bs i))) ++ (table (x + length (body_bytes (at bs i))) (drop (suc i) bs) ++ bodies bs))
  unfolding table
  table_cons x i h =
      ap (λ (l : List Body). table x l ++ bodies bs) (split_at bs i h)
      ∙ append_assoc (le 4 x) (le 4 (length (body_bytes (at bs i))) ++ table (x + length (body_bytes (at bs i))) (drop (suc i) bs)) (bodies bs)
      ∙ ap (λ (l : List ℕ). le 4 x ++ l) (append_assoc (le 4 (length (body_bytes (at bs i)))) (table (x + length (body_bytes (at bs i))) (drop (suc i) bs)) (bodies bs))

  -- the contents from the entry i on
  tail_w : (i : ℕ) → i ≤ length bs → drop (6 + 8 * i) w ≡ table (offset bs i) (drop i bs) ++ bodies bs
  tail_w zero h = head_w
  tail_w (suc i) h =
      let k : i < length bs = omega arith in
      let e : (6 + 8 * i) + 8 ≡ 6 + 8 * suc i = omega arith in
      let x : ℕ = offset bs i in
      let y : ℕ = length (body_bytes (at bs i)) in
      let t : List ℕ = table (x + y) (drop (suc i) bs) ++ bodies bs in
      ap (λ (j : ℕ). drop j w) (sym e)
      ∙ sym (drop-drop 8 (6 + 8 * i) w)
      ∙ ap (drop 8) (tail_w i (omega arith) ∙ table_cons x i k)
      ∙ sym (drop-drop 4 4 (le 4 x ++ (le 4 y ++ t)))
      ∙ ap (drop 4) (past_le4 x (le 4 y ++ t))
      ∙ past_le4 y t

  -- no empty table: the bytes reach that far
  reach_w : (i : ℕ) → i ≤ length bs → 6 + 8 * i ≤ length w
  reach_w zero h = six_w bs
  reach_w (suc i) h =
      let k : i < length bs = omega arith in
      let r : 6 + 8 * i ≤ length w = reach_w i (omega arith) in
      let x : ℕ = offset bs i in
      let y : ℕ = length (body_bytes (at bs i)) in
      let t : List ℕ = table (x + y) (drop (suc i) bs) ++ bodies bs in
      let a : length (drop (6 + 8 * i) w) ≡ length w - (6 + 8 * i) = length-drop (6 + 8 * i) w in
      let b : length (drop (6 + 8 * i) w) ≡ length (le 4 x ++ (le 4 y ++ t)) = ap length (tail_w i (omega arith) ∙ table_cons x i k) in
      let c : length (le 4 x ++ (le 4 y ++ t)) ≡ length (le 4 x) + length (le 4 y ++ t) = length-append (le 4 x) (le 4 y ++ t) in
      let d : length (le 4 y ++ t) ≡ length (le 4 y) + length t = length-append (le 4 y) t in
      let e : length (le 4 x) ≡ 4 = length_le4 x in
      let f : length (le 4 y) ≡ 4 = length_le4 y in
      omega arith

  bodies_cons : (i : ℕ) → i < length bs → bodies (drop i bs) ≡ body_bytes (at bs i) ++ bodies (drop (suc i) bs)
  unfolding bodies
  bodies_cons i h = ap bodies (split_at bs i h)

  table_end : (x : ℕ) → table x (drop (length bs) bs) ++ bodies bs ≡ bodies bs
  unfolding table
  table_end x = ap (λ (l : List Body). table x l ++ bodies bs) (drop-length bs)

  -- the bodies from i on
  rest_w : (i : ℕ) → i ≤ length bs → drop (offset bs i) w ≡ bodies (drop i bs)
  rest_w zero h = tail_w (length bs) (omega arith) ∙ table_end (offset bs (length bs))
  rest_w (suc i) h =
      let k : i < length bs = omega arith in
      sym (drop-drop (length (body_bytes (at bs i))) (offset bs i) w)
      ∙ ap (drop (length (body_bytes (at bs i)))) (rest_w i (omega arith) ∙ bodies_cons i k)
      ∙ drop_at (body_bytes (at bs i)) (bodies (drop (suc i) bs)) (length (body_bytes (at bs i))) refl

  within_w : (i : ℕ) → i ≤ length bs → offset bs i ≤ length w
  within_w zero h = reach_w (length bs) (omega arith)
  within_w (suc i) h =
      let k : i < length bs = omega arith in
      let r : offset bs i ≤ length w = within_w i (omega arith) in
      let a : length (drop (offset bs i) w) ≡ length w - offset bs i = length-drop (offset bs i) w in
      let b : length (drop (offset bs i) w) ≡ length (body_bytes (at bs i) ++ bodies (drop (suc i) bs)) = ap length (rest_w i (omega arith) ∙ bodies_cons i k) in
      let c : length (body_bytes (at bs i) ++ bodies (drop (suc i) bs)) ≡ length (body_bytes (at bs i)) + length (bodies (drop (suc i) bs)) =
      length-append (body_bytes (at bs i)) (bodies (drop (suc i) bs)) in
      omega arith

  bodies_end : bodies (drop (length bs) bs) ≡ []
  unfolding bodies
  bodies_end = ap bodies (drop-length bs)

  whole_w : offset bs (length bs) ≡ length w
  whole_w =
      let h : offset bs (length bs) ≤ length w = within_w (length bs) (omega arith) in
      let a : length (drop (offset bs (length bs)) w) ≡ length w - offset bs (length bs) = length-drop (offset bs (length bs)) w in
      let b : length (drop (offset bs (length bs)) w) ≡ 0 = ap length (rest_w (length bs) (omega arith) ∙ bodies_end) in
      omega arith

  few_w : length bs < 65536
  few_w = let r : 6 + 8 * length bs ≤ length w = reach_w (length bs) (omega arith) in let s : length w ≤ 65536 = o.size in omega arith

  count_w : count w ≡ length bs
  unfolding bytes_of_book
  count_w = val_le2 (length bs) (table (6 + 8 * length bs) bs ++ bodies bs) few_w

  start_w : (i : ℕ) → i < length bs → start_at w i ≡ offset bs i
  start_w i h =
      let a : offset bs i ≤ length w = within_w i (omega arith) in
      let s : length w ≤ 65536 = o.size in
      ap (val 4) (tail_w i (omega arith) ∙ table_cons (offset bs i) i h)
      ∙ val_le4 (offset bs i) (le 4 (length (body_bytes (at bs i))) ++ (table (offset bs i + length (body_bytes (at bs i))) (drop (suc i) bs) ++ bodies bs)) (omega arith)

  length_w : (i : ℕ) → i < length bs → length_at w i ≡ length (body_bytes (at bs i))
  length_w i h =
      let a : offset bs (suc i) ≤ length w = within_w (suc i) (omega arith) in
      let s : length w ≤ 65536 = o.size in
      let e : (6 + 8 * i) + 4 ≡ 10 + 8 * i = omega arith in
      let x : ℕ = offset bs i in
      let y : ℕ = length (body_bytes (at bs i)) in
      let t : List ℕ = table (x + y) (drop (suc i) bs) ++ bodies bs in
      ap (λ (j : ℕ). val 4 (drop j w)) (sym e)
      ∙ ap (val 4) (sym (drop-drop 4 (6 + 8 * i) w) ∙ ap (drop 4) (tail_w i (omega arith) ∙ table_cons x i h) ∙ past_le4 x (le 4 y ++ t))
      ∙ val_le4 y t (omega arith)

  ends_w : (i : ℕ) → i ≤ length bs → ends w i ≡ offset bs i
  ends_w zero h = ends_zero w ∙ ap (λ (k : ℕ). 6 + 8 * k) count_w
  ends_w (suc i) h =
      let e : ends w (suc i) ≡ ends w i + length_at w i = ends_next w i in
      let a : ends w i ≡ offset bs i = ends_w i (omega arith) in
      let b : length_at w i ≡ length (body_bytes (at bs i)) = length_w i (omega arith) in
      omega arith

  part_w : (i : ℕ) → i < length bs → part w i ≡ body_bytes (at bs i)
  part_w i h =
      ap (λ (k : ℕ). take k (drop (start_at w i) w)) (length_w i h)
      ∙ ap (λ (k : ℕ). take (length (body_bytes (at bs i))) (drop k w)) (start_w i h)
      ∙ ap (take (length (body_bytes (at bs i)))) (rest_w i (omega arith) ∙ bodies_cons i h)
      ∙ take_at (body_bytes (at bs i)) (bodies (drop (suc i) bs)) (length (body_bytes (at bs i))) refl

  -- what is written reads back
  pub reads_back : (i : ℕ) → i < length bs → entry w i ≡ at bs i
  reads_back i h = ap body_of (part_w i h) ∙ body_reads (at bs i) (fits (at bs i) (o.rule i h) (o.field i h))

  body_w : (i : ℕ) → i < length bs → Formed (part w i)
  body_w i h =
      subst Formed (sym (part_w i h)) record {
        size = body_size (at bs i) (fits (at bs i) (o.rule i h) (o.field i h));
        rule = subst Rule (sym (body_reads (at bs i) (fits (at bs i) (o.rule i h) (o.field i h)))) (o.rule i h);
      }

  marked_w : Marked w
  marked_w = record { low = reach_w 0 (omega arith); high = o.size; mark = mark_w bs }

  listed_w : Listed w
  listed_w =
      let c : count w ≡ length bs = count_w in
      record {
        starts = λ i h. (let u : i < length bs = omega arith in start_w i u ∙ sym (ends_w i (omega arith)));
        whole = ap (ends w) c ∙ ends_w (length bs) (omega arith) ∙ whole_w;
      }

  pub writing_accepted : Accepted w
  writing_accepted =
      let c : count w ≡ length bs = count_w in
      record {
        marked = marked_w;
        listed = listed_w;
        good = λ i h.
            (let u : i < length bs = omega arith in
            record {
              body = body_w i u;
              field = subst (λ (r : Body). FieldSays r 0) (sym (reads_back i u)) (o.field i u);
              once = λ j v q.
                  (let x : j < length bs = omega arith in
                  o.once i j u v
                  (subst (λ (r : Body). OneField r (at bs j)) (reads_back i u) (subst (λ (r : Body). OneField (entry w i) r) (reads_back j x) q)));
            });
      }

  pub written_count : count w ≡ length bs
  written_count = count_w

  pub value_back : value_of w ≡ bs
  value_back =
      let c : count w ≡ length bs = count_w in
      let n : length (value_of w) ≡ count w = length_rows w 0 (count w) in
      ext_get_or none (value_of w) bs (n ∙ c)
      (λ i h. (let u : i < count w = omega arith in let v : 0 + i ≡ i = omega arith in at_rows w 0 (count w) i u ∙ ap (entry w) v ∙ reads_back i (omega arith)))

-- ---- the theorem
-- bytes are accepted exactly when they are the writing of a value that obeys the rules
pub accepted_written : (s : List ℕ) → Bytes s → Accepted s → Written s
accepted_written s b a = (value_of s, book_obeys s b a, book_back s b a)

pub written_accepted : (s : List ℕ) → Written s → Accepted s
written_accepted s (bs, o, e) = subst Accepted e (writing_accepted bs o)

-- an accepted book is the writing of one value only
pub one_value : (bs cs : List Body) → Obeys bs → Obeys cs → bytes_of_book bs ≡ bytes_of_book cs → bs ≡ cs
one_value bs cs o q e =
    let n : length bs ≡ length cs = sym (written_count bs o) ∙ ap count e ∙ written_count cs q in
    ext_get_or none bs cs n
    (λ i h. let k : i < length cs = omega arith in sym (reads_back bs o i h) ∙ ap (λ (s : List ℕ). entry s i) e ∙ reads_back cs q i k)
