-- What the book's functions mean together.
use mathlib.Core.Path.{◌≡◌, refl, sym, ap, ◌∙◌, subst}
use mathlib.Core.Logic.{◌⊎◌, inl, inr}
use mathlib.Core.List.{List, [], ◌∷◌, ◌++◌}
use Prim.Native.Nat.{ℕ, zero, suc, ◌+◌, ◌*◌, ◌<◌, ◌≤◌}
use native.Mathlib.Omega.{arith}
use lib.ListN.{length, take, drop, get_or-append, length-append}
use lib.Seq.{get_or-append_seam, length-take-le, take_at, drop_at}
use Rattle.base_answers.specs.Said.{Said, passed, refused}
use Rattle.base_answers.proofs.Said.{number_of, result_of}
use Rattle.door_unit.specs.Unit.{UnitAnswer, Makes}
use Rattle.book_bytes.specs.Bytes.{Bytes}
use Rattle.book_bytes.proofs.Read.{bytes_drop}
use Rattle.book_body.specs.Body.{Body, Rule, FieldSays, list_at, body_bytes, body_of, Finished}
use Rattle.book_body.specs.Code as code
use Rattle.book_body.proofs.Body.{body_reads, body_size, body_back}
use Rattle.book_body.proofs.Field.{fits}
use Rattle.book_write.specs.Write as write
use Rattle.book_write.proofs.Pieces.{long_body}
use Rattle.book_check.specs.Book.{count, entry, part, Accepted}
use Rattle.book_check.specs.Value.{bytes_of_book, value_of, none, at}
use Rattle.book_check.specs.Answer as says
use Rattle.book_check.proofs.One.{tells_unique, ask_unique, part_unique, finished_no}
use Rattle.book_check.proofs.Value.{length_rows, at_rows, part_back, book_back}
use Rattle.book_check.proofs.Facts.{told_fine, body_thirteen}
use Rattle.book_add.specs.Add as add
use Rattle.book_add.proofs.Accepted.{new_length_lem, added_accepted}
use Rattle.book_put.specs.Code.{new_length}
use Rattle.book_add.proofs.Front.{bytes_take}
use Rattle.book_attest.specs.Attest.{AttestTells}
use Rattle.demands_calls.specs.BookCalls.{list_of, Wrote, Grown, Returns, unit_body, BookCalls}
use Rattle.demands_calls.proofs.UnitBody.{unit_bookable}
use Rattle.demands_calls.proofs.Bytes.{bytes_append, bytes_body, bytes_book}

-- ---- written
module _ (b : Body) (s : FieldSays b 0) (r : Rule b) where
  body_finished : Finished (body_bytes b)
  body_finished =
      let f = fits b r s in
      let e = sym (body_reads b f) in
      record {
        formed = record { size = body_size b f; rule = subst Rule e r };
        field = subst (λ (x : Body). FieldSays x 0) e s;
      }

  wrote : (d d' : List ℕ) (n : ℕ) → n ≡ length (body_bytes b) → d' ≡ body_bytes b ++ drop (length (body_bytes b)) d → Wrote b d n d'
  wrote d d' n e q =
      let w = body_bytes b in
      let t : take n d' ≡ w = ap (take n) q ∙ take_at w (drop (length w) d) n (sym e) in
      let l = long_body b in
      record {
        long = omega arith;
        bytes = t;
        says = ap body_of t ∙ body_reads b (fits b r s);
        finished = subst Finished (sym t) body_finished;
        rest = ap (drop n) q ∙ drop_at w (drop (length w) d) n (sym e) ∙ ap (λ k. drop k d) (sym e);
      }

written : {b : Body} {d d' : List ℕ} {x : Said} → write.WriteTells b d x d' → x.number ≡ 0 → Wrote b d x.result d'
written (write.field n h s e q) z = absurd (h (sym (number_of e) ∙ z))
written (write.rule s r e q) z = let u = number_of e in absurd (omega arith)
written (write.short s r l e q) z = let u = number_of e in absurd (omega arith)
written {b} {d} {d'} {x} (write.done s r l e q) z = wrote b s r d d' x.result (result_of e) q

written_bytes : {b : Body} {d d' : List ℕ} {n : ℕ} → Wrote b d n d' → Bytes (take n d')
written_bytes {b} w = subst Bytes (sym w.bytes) (bytes_body b)

-- ---- added
-- the rows of a book are its entries
at_value : (s : List ℕ) (i : ℕ) → i < count s → at (value_of s) i ≡ entry s i
at_value s i h = at_rows s 0 (count s) i h ∙ ap (entry s) (let e : 0 + i ≡ i = omega arith in e)

module _ (s b s' : List ℕ) (bs : Bytes s) (bb : Bytes b) (bs' : Bytes s') (a : Accepted s) (f : Finished b) (a' : Accepted s')
    (e : value_of s' ≡ value_of s ++ (body_of b ∷ [])) where
  one_more : count s' ≡ suc (count s)
  one_more =
      let n = length_rows s 0 (count s) in
      let n' = length_rows s' 0 (count s') in
      let l = ap length e in
      let m = length-append (value_of s) (body_of b ∷ []) in
      omega arith

  old_entry : (i : ℕ) → i < count s → entry s' i ≡ entry s i
  old_entry i h =
      let c = one_more in
      let n = length_rows s 0 (count s) in
      sym (at_value s' i (omega arith)) ∙ ap (λ l. at l i) e ∙ get_or-append (value_of s) (body_of b ∷ []) none i (omega arith) ∙ at_value s i h

  new_entry : entry s' (count s) ≡ body_of b
  new_entry =
      let c = one_more in
      sym (at_value s' (count s) (omega arith)) ∙ ap (λ l. at l (count s)) e
      ∙ ap (at (value_of s ++ (body_of b ∷ []))) (sym (length_rows s 0 (count s))) ∙ get_or-append_seam (value_of s) (body_of b) [] none

  -- a part of a book is the writing of its entry
  new_part : part s' (count s) ≡ b
  new_part =
      let c = one_more in
      sym (part_back s' bs' a' (count s) (omega arith)) ∙ ap body_bytes new_entry ∙ body_back b bb f.formed.size

  old_part : (i : ℕ) → i < count s → part s' i ≡ part s i
  old_part i h =
      let c = one_more in
      sym (part_back s' bs' a' i (omega arith)) ∙ ap body_bytes (old_entry i h) ∙ part_back s bs a i h

  grown : Grown s b s'
  grown =
      let c = one_more in
      record {
        accepted = a';
        one_more = one_more;
        checked = λ y t. tells_unique s' t (says.fine a' refl);
        new_there = λ y t. ask_unique s' t (says.there a' (omega arith) refl);
        new_part = λ r t. part_unique s' t (says.found a' (omega arith) refl) ∙ new_part;
        new_entry = new_entry;
        old_part = λ i h r r' t u.
            part_unique s' u (says.found a' (omega arith) refl) ∙ old_part i h ∙ sym (part_unique s t (says.found a h refl));
        old_entry = old_entry;
      }

-- what an added body's cases say
record Done (n : ℕ) (d b : List ℕ) (x : Said) (d' : List ℕ) : Type 0 where
  long : n ≤ length d
  old : Accepted (take n d)
  body : Finished b
  size : x.result ≡ new_length n b
  slice : d' ≡ add.new_book (take n d) b ++ drop (new_length n b) d

done : {n : ℕ} {d b : List ℕ} {x : Said} {d' : List ℕ} → add.AddTells d n b x d' → x.number ≡ 0 → Done n d b x d'
done (add.length_out l e q) z = let u = number_of e in absurd (omega arith)
done (add.book l f t q) z = absurd (f (told_fine t z))
done (add.body l a t q) z = let u = body_thirteen t in absurd (omega arith)
done (add.known l a t j h o e q) z = let u = number_of e in absurd (omega arith)
done (add.short l a t u o e q) z = let v = number_of e in absurd (omega arith)
done (add.added l a f u h k e q) z = record { long = l; old = a; body = f; size = result_of e; slice = q }

added : {n : ℕ} {d b d' : List ℕ} {x : Said} → Bytes d → Bytes b → add.AddTells d n b x d' → x.number ≡ 0
    → Grown (take n d) b (take x.result d') × (drop x.result d' ≡ drop x.result d)
added {n} {d} {b} {d'} {x} bd bb t z =
    let c = done t z in
    let s = take n d in
    let m = new_length n b in
    let bs = bytes_take n d bd in
    let l : length s ≡ n = length-take-le n d c.long in
    let w : length (add.new_book s b) ≡ m = new_length_lem s b bs bb c.old c.body ∙ ap (λ k. new_length k b) l in
    let all : Bytes d' =
    subst Bytes (sym c.slice) (bytes_append (add.new_book s b) (drop m d) (bytes_book (value_of s ++ (body_of b ∷ []))) (bytes_drop d m bd)) in
    let (a, e) = added_accepted d n b bd bb t z in
    subst (λ k. Grown s b (take k d') × (drop k d' ≡ drop k d)) (sym c.size) (
      grown s b (take m d') bs bb (bytes_take m d' all) c.old c.body a e,
      ap (drop m) c.slice ∙ drop_at (add.new_book s b) (drop m d) m w,
    )

-- ---- the lists of a body
list_at_lem : (r : List ℕ) (k : ℕ) → k < 5 → list_at r k ≡ list_of (body_of r) k
unfolding body_of
list_at_lem r zero h = refl
list_at_lem r (suc zero) h = refl
list_at_lem r (suc (suc zero)) h = refl
list_at_lem r (suc (suc (suc zero))) h = refl
list_at_lem r (suc (suc (suc (suc zero)))) h = refl
list_at_lem r (suc (suc (suc (suc (suc k))))) h = absurd (omega arith)

list_told : {r : List ℕ} {k : ℕ} {out out' : List ℕ} {y : Said} → k < 5 → length (list_at r k) ≤ length out → code.ListTells r k out y out'
    → (y ≡ passed (length (list_at r k))) × (out' ≡ list_at r k ++ drop (length (list_at r k)) out)
list_told h l (code.read _ _ e q) = (e, q)
list_told h l (code.none g e q) = absurd (omega arith)
list_told h l (code.short _ g e q) = absurd (omega arith)

returns : (b : Body) (r : List ℕ) → body_of r ≡ b → Returns b r
returns b r e = record {
  says = e;
  lists = λ k h out out' y t l.
      let f : list_at r k ≡ list_of b k = list_at_lem r k h ∙ ap (λ x. list_of x k) e in
      subst (λ z. (y ≡ passed (length z)) × (out' ≡ z ++ drop (length z) out)) f (list_told h (subst (λ z. length z ≤ length out) (sym f) l) t);
}

round : {b : Body} {w w' : List ℕ} {x : Said} → write.WriteTells b w x w' → x.number ≡ 0
    → {n : ℕ} {d d' : List ℕ} {y : Said} → Bytes d → add.AddTells d n (take x.result w') y d' → y.number ≡ 0
    → (r : List ℕ) → says.AskedPart (take y.result d') (count (take n d)) r → (r ≡ take x.result w') × Returns b r
round {b} t z bd u v r p =
    let w = written t z in
    let (g, _) = added bd (written_bytes w) u v in
    (g.new_part r p, returns b r (ap body_of (g.new_part r p) ∙ w.says))

-- the body is not at fault
addable : {b : Body} {w w' : List ℕ} {x : Said} → write.WriteTells b w x w' → x.number ≡ 0
    → {n : ℕ} {d d' : List ℕ} {y : Said} → n ≤ length d → Accepted (take n d) → add.AddTells d n (take x.result w') y d'
    → (y.number ≡ 0) ⊎ ((y ≡ refused 15) ⊎ (y ≡ refused 11))
addable t z l a (add.length_out h e q) = absurd (omega arith)
addable t z l a (add.book h f u q) = absurd (f a)
addable t z l a (add.body h _ u q) = absurd (finished_no (written t z).finished u)
addable t z l a (add.known h _ f j k o e q) = inr (inl e)
addable t z l a (add.short h _ f u o e q) = inr (inr e)
addable t z l a (add.added h _ f u g k e q) = inl (number_of e)

unit_attested : {p k : ℕ} {G H rows scratch rows' scratch' : List ℕ} (m : UnitAnswer) → Makes 1 p G H k rows scratch m rows' scratch' → m.refusal ≡ 0
    → (c : ℕ) → length rows' ≡ 6 * c
    → {w w' : List ℕ} {x : Said} → write.WriteTells (unit_body p G H m c rows') w x w' → x.number ≡ 0
    → {n : ℕ} {d d' : List ℕ} {y : Said} → Bytes d → add.AddTells d n (take x.result w') y d' → y.number ≡ 0
    → {v : Said} → AttestTells (take y.result d') (count (take n d)) v → v ≡ passed 1
unit_attested m h z c e t o bd u q v =
    let w = written t o in
    let (g, _) = added bd (written_bytes w) u q in
    let more = g.one_more in
    (unit_bookable m h z c e).attests g.accepted (omega arith) (g.new_entry ∙ w.says) v

pub book_calls : BookCalls
book_calls = record {
  written = written;
  added = added;
  addable = addable;
  round = round;
  same_rows = λ s t b c a a' e. sym (book_back s b a) ∙ ap bytes_of_book e ∙ book_back t c a';
  unit_bookable = unit_bookable;
  unit_attested = unit_attested;
}
