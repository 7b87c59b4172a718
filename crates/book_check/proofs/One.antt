-- The bytes settle the answers: two outcomes that meet the contract are equal.
--   tells_unique    the check: number, inner reason, entry and inner number
--   ask_unique      asking for an entry
--   part_unique     the part that is handed out
--   reason_unique, answer_unique, request_unique    what the numbers say settles the code's answer
--   judge_unique, earliest_unique    judging a body by itself; the first entry of one field with it
use mathlib.Core.Path.{◌≡◌, refl, sym, ap, ◌∙◌, subst}
use mathlib.Core.List.{List}
use Prim.Native.Nat.{ℕ, ◌<◌, ◌≤◌}
use native.Mathlib.Omega.{arith}
use native.Mathlib.Decide.{dec_lt}
use Rattle.field_open.proofs.Stages.{refusal_unique}
use Rattle.base_answers.specs.Said.{Said, malformed}
use Rattle.book_body.specs.Body.{Body, FieldSays, body_of, Finished}
use Rattle.book_check.specs.Book.{Sound, Accepted, entry}
use Rattle.book_first.specs.Earliest.{Earliest}
use Rattle.book_judge.specs.Reasons.{JudgeTells}
use Rattle.book_check.specs.Answer.{reason_says, answer_says, request_says, BodyFault, Fault, Tells, AskTells, AskedPart, rule, field, body, twice, mark, contents, at_entry, fine, book, no_entry, there, found, empty}
use Rattle.std.specs.declared.result.Result.{Result}
use Rattle.std.specs.declared.result.Result.TheVariants.{Ok, Err}
use Rattle.base_answers.proofs.Said.{number_of}
pub use Rattle.book_judge.proofs.Says.{reason_unique}
use Rattle.book_judge.proofs.Says.{refusal_number, refusal_unique as one_refusal}
use Rattle.book_judge.specs.declared.Reason.{Reason}
use Rattle.book_judge.specs.declared.BookRefusal.{BookRefusal}
use Rattle.book_judge.specs.declared.BookRefusal.TheVariants.{Malformed}

pub field_unique : (b : Body) (n m : ℕ) → FieldSays b n → FieldSays b m → n ≡ m
field_unique b = refusal_unique b.p b.G b.H

pub body_unique : {b : List ℕ} {i : ℕ} {x y : Said} → BodyFault b i x → BodyFault b i y → x ≡ y
body_unique (rule f e) (rule g u) = e ∙ sym u
body_unique (rule f e) (field g n h o u) = absurd (f g)
body_unique (field f n h o e) (rule g u) = absurd (g f)
body_unique {b} {i} (field f n h o e) (field g m k q u) = e ∙ ap (malformed 4 i) (field_unique (body_of b) n m o q) ∙ sym u

module _ (s : List ℕ) where
  fault_unique : {i : ℕ} {x y : Said} → Fault s i x → Fault s i y → x ≡ y
  fault_unique (body f) (body g) = body_unique f g
  fault_unique (body (rule f e)) (twice g o j h w l u) = absurd (f g)
  fault_unique {i} (body (field f n h o e)) (twice g q j k w l u) = absurd (h (field_unique (entry s i) n 0 o q))
  fault_unique (twice g o j h w l u) (body (rule f e)) = absurd (f g)
  fault_unique {i} (twice g q j k w l u) (body (field f n h o e)) = absurd (h (field_unique (entry s i) n 0 o q))
  fault_unique {i} (twice g o j h w l e) (twice f q k v z m u) = e ∙ ap (malformed 5 i) (least (dec_lt j k) (dec_lt k j)) ∙ sym u
    where
      least : Dec (j < k) → Dec (k < j) → j ≡ k
      least (yes a) c = absurd (m j a w)
      least (no a) (yes c) = absurd (l k c z)
      least (no a) (no c) = omega arith

  sound_no_fault : {i : ℕ} {x : Said} → Sound s i → Fault s i x → ⊥
  sound_no_fault g (body (rule f e)) = f g.body
  sound_no_fault {i} g (body (field f n h o e)) = h (field_unique (entry s i) n 0 o g.field)
  sound_no_fault g (twice f o j h w l e) = g.once j h w

  pub accepted_fine : {x : Said} → Accepted s → Tells s x → x ≡ record { number = 0; reason = 0; entry = 0; other = 0; result = 0 }
  accepted_fine a (mark f e) = absurd (f a.marked)
  accepted_fine a (contents m f e) = absurd (f a.listed)
  accepted_fine a (at_entry m l i h g f) = absurd (sound_no_fault (a.good i h) f)
  accepted_fine a (fine b e) = e

  pub tells_unique : {x y : Said} → Tells s x → Tells s y → x ≡ y
  tells_unique (fine a e) t = e ∙ sym (accepted_fine a t)
  tells_unique (mark f e) (mark g u) = e ∙ sym u
  tells_unique (mark f e) (contents m g u) = absurd (f m)
  tells_unique (mark f e) (at_entry m l i h g u) = absurd (f m)
  tells_unique (mark f e) (fine a u) = absurd (f a.marked)
  tells_unique (contents m f e) (mark g u) = absurd (g m)
  tells_unique (contents m f e) (contents n g u) = e ∙ sym u
  tells_unique (contents m f e) (at_entry n l i h g u) = absurd (f l)
  tells_unique (contents m f e) (fine a u) = absurd (f a.listed)
  tells_unique (at_entry m l i h g f) (mark k u) = absurd (k m)
  tells_unique (at_entry m l i h g f) (contents n k u) = absurd (k l)
  tells_unique {x} {y} (at_entry m l i h g f) (at_entry n k j v w u) = same (dec_lt i j) (dec_lt j i)
    where
      same : Dec (i < j) → Dec (j < i) → x ≡ y
      same (yes a) c = absurd (sound_no_fault (w i a) f)
      same (no a) (yes c) = absurd (sound_no_fault (g j c) u)
      same (no a) (no c) = let e : j ≡ i = omega arith in fault_unique f (subst (λ (z : ℕ). Fault s z y) e u)
  tells_unique (at_entry m l i h g f) (fine a u) = absurd (sound_no_fault (a.good i h) f)

  pub ask_unique : {i : ℕ} {x y : Said} → AskTells s i x → AskTells s i y → x ≡ y
  ask_unique (book f t) (book g u) = tells_unique t u
  ask_unique (book f t) (no_entry a h e) = absurd (f a)
  ask_unique (book f t) (there a h e) = absurd (f a)
  ask_unique (no_entry a h e) (book f t) = absurd (f a)
  ask_unique (no_entry a h e) (no_entry b k u) = e ∙ sym u
  ask_unique (no_entry a h e) (there b k u) = absurd (omega arith)
  ask_unique (there a h e) (book f t) = absurd (f a)
  ask_unique (there a h e) (no_entry b k u) = absurd (omega arith)
  ask_unique (there a h e) (there b k u) = e ∙ sym u

  pub part_unique : {i : ℕ} {r q : List ℕ} → AskedPart s i r → AskedPart s i q → r ≡ q
  part_unique (found a h e) (found b k u) = e ∙ sym u
  part_unique (found a h e) (empty f u) = absurd (f a h)
  part_unique (empty f e) (found b k u) = absurd (f b k)
  part_unique (empty f e) (empty g u) = e ∙ sym u

-- ---- what is said settles the code's answer
pub answer_unique : (a b : Result (Unit {0}) Reason) → answer_says a ≡ answer_says b → a ≡ b
answer_unique (Ok u) (Ok v) e = refl
answer_unique (Ok u) (Err why) e = absurd (refusal_number (Malformed why) (sym (number_of e)))
answer_unique (Err why) (Ok v) e = absurd (refusal_number (Malformed why) (number_of e))
answer_unique (Err why) (Err wer) e = ap Err (reason_unique why wer e)

pub request_unique : (a b : Result (Unit {0}) BookRefusal) → request_says a ≡ request_says b → a ≡ b
request_unique (Ok u) (Ok v) e = refl
request_unique (Ok u) (Err q) e = absurd (refusal_number q (sym (number_of e)))
request_unique (Err r) (Ok v) e = absurd (refusal_number r (number_of e))
request_unique (Err r) (Err q) e = ap Err (one_refusal r q e)

-- ---- whole answers
pub finished_no : {b : List ℕ} {i : ℕ} {x : Said} → Finished b → BodyFault b i x → ⊥
finished_no f (rule g e) = g f.formed
finished_no {b} f (field g n h o e) = h (field_unique (body_of b) n 0 o f.field)

pub judge_unique : (b : List ℕ) (i : ℕ) (r q : Result (Unit {0}) Reason) → JudgeTells b i r → JudgeTells b i q → r ≡ q
judge_unique b i (Ok u) (Ok v) t w = refl
judge_unique b i (Ok u) (Err why) t w = absurd (finished_no (record { formed = t.0; field = t.1 }) w)
judge_unique b i (Err why) (Ok v) t w = absurd (finished_no (record { formed = w.0; field = w.1 }) t)
judge_unique b i (Err why) (Err wer) t w = ap Err (reason_unique why wer (body_unique t w))

pub earliest_unique : {s : List ℕ} {b : Body} {i j k : ℕ} → Earliest s b i j → Earliest s b i k → j ≡ k
earliest_unique {s} {b} {i} {j} {k} t u = least (dec_lt j k) (dec_lt k j)
  where
    least : Dec (j < k) → Dec (k < j) → j ≡ k
    least (yes a) c = let h : k ≤ i = u.within in absurd (u.none j a (t.found (omega arith)))
    least (no a) (yes c) = let h : j ≤ i = t.within in absurd (t.none k c (u.found (omega arith)))
    least (no a) (no c) = omega arith
