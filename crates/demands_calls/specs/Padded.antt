-- Request E1: "The list check should accept zeros above the true degree, up to 32 entries, and tell its callers the trimmed length. Everything
-- above it (opening, the lister, the walk) then uses the trimmed list. The lister prints trimmed lists. Bodies in a book stay strict, so that
-- one row has one writing. .. Refusals: 3 is now given for a list empty or of only zeros, over 32 entries, or a trimmed length over 13, or a
-- coefficient ≥ p."
--   Stand l m     two lists stand for one: what is read of them is the same
--   PaddedLists   the request: what is read of a list, refusal 3, one answer from every entry point, what is kept, printed and written
-- How to read it: `unpad l` (field_open/specs/Padding.antt) is what every entry point reads of a list l that a caller gives; the contract of each
-- speaks of `unpad G` and `unpad H`, and so do the demands: their G and H are the lists without the zeros at their ends. A field `.._same`
-- says that padded lists and trimmed ones have the same answer, and leave the same in what is lent. Since they hold for all lists, they
-- hold for those of C and Rust, whose contracts are built on these; `any` says it of whatever else a contract may say.
-- The theorem `padded_lists` is in proofs/Padded.antt.
use Rattle.std.specs.Prelude.{◌≡◌, ◌⊎◌, List, [], ◌++◌, ℕ, ◌+◌, ◌≤◌, ◌<◌, length, take, replicate}
use Rattle.base_lists.specs.Coefficients.{trim}
use Rattle.base_answers.specs.Said.{Said}
use Rattle.field_open.specs.Refusal.{Degree, Fault3, Refusal, Accepted}
use Rattle.field_open.specs.Padding.{entries, unpad, Padded, NoPadded}
use Rattle.field_open.specs.Opening.{pad, Opens, FieldAnswer}
use Rattle.field_series.specs.Answer as series
use Rattle.field_series.specs.Answer.{OpenedAnswer}
use Rattle.door_order.specs.Answer.{OrderAnswer, Orders}
use Rattle.door_check.specs.Answer.{Checks}
use Rattle.door_step.specs.Answer.{StepAnswer, Answers}
use Rattle.walk_chain.specs.Walk.{WalkAnswer, Walks}
use Rattle.door_period.specs.Order.{PeriodAnswer, FromOrder}
use Rattle.door_unit.specs.Unit.{UnitAnswer, Makes}
use Rattle.door_compare.specs.Answer.{CompareAnswer, Refusals, Compares}
use Rattle.door_transfer.specs.Transfer.{Transfers}
use Rattle.door_rescale.specs.Rescale.{Rescales}
use Rattle.book_body.specs.Body.{Body, FieldSays, body_of}
use Rattle.book_write.specs.Write.{body_from, WriteTells}
use Rattle.book_rows.specs.Rows.{RowsSays}
use Rattle.text_put.specs.Print.{line_text, refused_text}
use Rattle.text_read.specs.Grammar.{Reads}
use Rattle.lister.specs.Listing.{Lists}

pub record Stand (l m : List ℕ) : Type 0 where
  pub one : unpad l ≡ unpad m

pub record PaddedLists : Type 1 where
  -- "accept zeros above the true degree, up to 32 entries"
  pub trimmed : (l : List ℕ) → length l ≤ entries → (unpad l ≡ trim l) × Stand l (trim l)
  pub longer : (l : List ℕ) → entries < length l → unpad l ≡ []
  pub padded : (l : List ℕ) (k : ℕ) → length l + k ≤ entries → Stand (l ++ replicate k 0) l
  -- the law between the padding check and the strict one: one degree, and refusal 3 in the words of the request
  pub degree : {p : ℕ} → 0 < p → (l : List ℕ) {d : ℕ} → (Degree p (unpad l) d → Padded p l d) × (Padded p l d → Degree p (unpad l) d)
  pub three : {p : ℕ} → 0 < p → (l : List ℕ) → (Fault3 p (unpad l) → NoPadded p l) × (NoPadded p l → Fault3 p (unpad l))
  pub strict : {p : ℕ} {G H : List ℕ} → Accepted p G H → (unpad G ≡ G) × (unpad H ≡ H)
  -- whatever is promised of the one pair of lists is promised of the other
  pub any : {G H G' H' : List ℕ} → Stand G G' → Stand H H' → (C : List ℕ → List ℕ → Type 0) → C (unpad G) (unpad H) → C (unpad G') (unpad H')
  -- "Everything above it then uses the trimmed list": one answer
  pub refusal_same :
      (p : ℕ) {G H G' H' : List ℕ} (m n : ℕ) → Stand G G' → Stand H H' →
      Refusal p (unpad G) (unpad H) m → Refusal p (unpad G') (unpad H') n →
      m ≡ n
  pub open_same :
      {p : ℕ} {G H G' H' : List ℕ} (o o' : FieldAnswer) → Stand G G' → Stand H H' →
      Opens p (unpad G) (unpad H) o → Opens p (unpad G') (unpad H') o' →
      o ≡ o'
  pub series_same :
      {p n n' : ℕ} {G H G' H' r w r₁ w₁ r₂ w₂ : List ℕ} → Stand G G' → Stand H H' →
      series.Answer p (unpad G) (unpad H) r w r₁ w₁ n → series.Answer p (unpad G') (unpad H') r w r₂ w₂ n' →
      (n ≡ n') × (r₁ ≡ r₂) × (w₁ ≡ w₂)
  pub open_series_same :
      {p : ℕ} {G H G' H' : List ℕ} (o o' : OpenedAnswer) → Stand G G' → Stand H H' →
      series.Expands p (unpad G) (unpad H) o → series.Expands p (unpad G') (unpad H') o' →
      o ≡ o'
  pub order_same :
      {p : ℕ} {G H G' H' : List ℕ} (o o' : OrderAnswer) → Stand G G' → Stand H H' →
      Orders p (unpad G) (unpad H) o → Orders p (unpad G') (unpad H') o' →
      o ≡ o'
  pub check_same :
      {p : ℕ} {G H G' H' B : List ℕ} (n n' : ℕ) → Stand G G' → Stand H H' →
      Checks p (unpad G) (unpad H) B n → Checks p (unpad G') (unpad H') B n' →
      n ≡ n'
  pub step_same :
      {p : ℕ} {G H G' H' B : List ℕ} (s s' : StepAnswer) → Stand G G' → Stand H H' →
      Answers p (unpad G) (unpad H) B s → Answers p (unpad G') (unpad H') B s' →
      s ≡ s'
  pub walk_same :
      {p n : ℕ} {G H G' H' B : List ℕ} (v w : WalkAnswer) → Stand G G' → Stand H H' →
      Walks p (unpad G) (unpad H) n B v → Walks p (unpad G') (unpad H') n B w →
      v ≡ w
  pub from_order_same :
      {p n : ℕ} {G H G' H' : List ℕ} (v w : PeriodAnswer) → Stand G G' → Stand H H' →
      FromOrder p (unpad G) (unpad H) n v → FromOrder p (unpad G') (unpad H') n w →
      v ≡ w
  pub unit_same :
      {i p n : ℕ} {G H G' H' rows scratch r s r' s' : List ℕ} (m m' : UnitAnswer) → Stand G G' → Stand H H' →
      Makes i p (unpad G) (unpad H) n rows scratch m r s → Makes i p (unpad G') (unpad H') n rows scratch m' r' s' →
      (m ≡ m') × (r ≡ r') × (s ≡ s')
  pub rescale_same :
      {p i j n n' : ℕ} {G H G' H' rows r r' : List ℕ} → Stand G G' → Stand H H' →
      Rescales p (unpad G) (unpad H) i j rows n r → Rescales p (unpad G') (unpad H') i j rows n' r' →
      (n ≡ n') × (r ≡ r')
  -- two pairs: each list may be padded
  pub pairs_same :
      {p m n : ℕ} {G H K L G' H' K' L' : List ℕ} → Stand G G' → Stand H H' → Stand K K' → Stand L L' →
      Refusals p (unpad G) (unpad H) (unpad K) (unpad L) m → Refusals p (unpad G') (unpad H') (unpad K') (unpad L') n →
      m ≡ n
  pub compare_same :
      {p : ℕ} {G H K L G' H' K' L' : List ℕ} (a b : CompareAnswer) → Stand G G' → Stand H H' → Stand K K' → Stand L L' →
      Compares p (unpad G) (unpad H) (unpad K) (unpad L) a → Compares p (unpad G') (unpad H') (unpad K') (unpad L') b →
      a ≡ b
  pub transfer_same :
      {p n n' : ℕ} {G H K L G' H' K' L' rows r r' : List ℕ} → Stand G G' → Stand H H' → Stand K K' → Stand L L' →
      Transfers p (unpad G) (unpad H) (unpad K) (unpad L) rows n r → Transfers p (unpad G') (unpad H') (unpad K') (unpad L') rows n' r' →
      (n ≡ n') × (r ≡ r')
  -- a body written from lists, and from the rows of a unit
  pub write_same :
      {p t : ℕ} {G H G' H' a b c d e f : List ℕ} {x y : Said} → Stand G G' → Stand H H' →
      WriteTells (body_from p (unpad G) (unpad H) t a b c) d x e → WriteTells (body_from p (unpad G') (unpad H') t a b c) d y f →
      (x ≡ y) × (e ≡ f)
  pub rows_same :
      {p t : ℕ} {G H G' H' l d e e' o o' : List ℕ} → Stand G G' → Stand H H' →
      RowsSays p (unpad G) (unpad H) t l d e o → RowsSays p (unpad G') (unpad H') t l d e' o' →
      (e ≡ e') × (o ≡ o')
  -- two lines of text over one p
  pub line_same :
      {line line' t t' : List ℕ} {p : ℕ} {G H G' H' : List ℕ} → Reads line p G H → Reads line' p G' H' → Stand G G' → Stand H H' →
      Lists line t → Lists line' t' →
      t ≡ t'
  -- the trimmed lists are what an opened field keeps, what "the lister prints", and what "writing a body trims first" writes
  pub kept :
      {p : ℕ} (G H : List ℕ) (o : FieldAnswer) → Opens p (unpad G) (unpad H) o → o.refusal ≡ 0 →
      (o.field.g ≡ pad (trim G)) × (o.field.h ≡ pad (trim H))
  pub printed :
      {line t : List ℕ} {p : ℕ} {G H : List ℕ} → Reads line p G H → Lists line t →
      ((n : ℕ) × (t ≡ refused_text n)) ⊎ ((rest : List ℕ) × (t ≡ line_text p (trim G) (trim H) ++ rest))
  pub written :
      {p u : ℕ} (G H : List ℕ) {a b c d d' : List ℕ} {x : Said} →
      WriteTells (body_from p (unpad G) (unpad H) u a b c) d x d' → x.number ≡ 0 →
      body_of (take x.result d') ≡ body_from p (trim G) (trim H) u a b c
  -- "Bodies in a book stay strict": lists of an accepted body have no zero at the end
  pub book_strict : (b : Body) → FieldSays b 0 → (trim b.G ≡ b.G) × (trim b.H ≡ b.H)
