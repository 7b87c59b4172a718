-- From an entry's answer to the book's.
use mathlib.Core.Path.{◌≡◌, refl, sym, ap, subst}
use mathlib.Core.List.{List}
use Prim.Native.Nat.{ℕ, ◌<◌, ◌≤◌}
use native.Mathlib.Omega.{arith}
use Rattle.base_answers.specs.Said.{Said}
use Rattle.base_answers.proofs.Said.{number_of}
use Rattle.book_body.specs.Body.{FieldSays, OneField, body_of, Formed}
use Rattle.book_check.specs.Book.{part, entry, Sound, Accepted}
use Rattle.book_check.specs.Answer as says
use Rattle.book_check.specs.Answer.{reason_says, BodyFault, Fault, Tells}
use Rattle.book_first.specs.Earliest.{Earliest}
pub use Rattle.book_judge.proofs.Says.{thirteen}
use Rattle.book_judge.specs.declared.Reason.{Reason}
use Rattle.book_judge.specs.declared.Reason.TheVariants.{Twice}

-- ---- one entry
module _ (s b : List ℕ) (i : ℕ) (e : b ≡ part s i) where
  pub fault_here : (why : Reason) → BodyFault b i (reason_says why) → Fault s i (reason_says why)
  fault_here why f = says.body (subst (λ (z : List ℕ). BodyFault z i (reason_says why)) e f)

  pub sound_here : (j : ℕ) → i ≤ j → Formed b × FieldSays (body_of b) 0 → Earliest s (body_of b) i j → Sound s i
  sound_here j h g f =
      record {
        body = subst Formed e g.0;
        field = subst (λ (z : List ℕ). FieldSays (body_of z) 0) e g.1;
        once = λ k u o. f.none k (omega arith) (subst (λ (z : List ℕ). OneField (body_of z) (entry s k)) (sym e) o);
      }

  pub twice_here : (j : ℕ) → j < i → Formed b × FieldSays (body_of b) 0 → Earliest s (body_of b) i j → Fault s i (reason_says (Twice i j))
  twice_here j h g f =
      says.twice (subst Formed e g.0) (subst (λ (z : List ℕ). FieldSays (body_of z) 0) e g.1) j h
      (subst (λ (z : List ℕ). OneField (body_of z) (entry s j)) e (f.found h))
      (λ k u o. f.none k u (subst (λ (z : List ℕ). OneField (body_of z) (entry s k)) (sym e) o)) refl

pub body_thirteen : {b : List ℕ} {i : ℕ} {x : Said} → BodyFault b i x → x.number ≡ 13
body_thirteen (says.rule f e) = ap (λ (x : Said). x.number) e
body_thirteen (says.field g n h o e) = ap (λ (x : Said). x.number) e

pub fault_thirteen : {s : List ℕ} {i : ℕ} {x : Said} → Fault s i x → x.number ≡ 13
fault_thirteen (says.body f) = body_thirteen f
fault_thirteen (says.twice g o j h k l e) = ap (λ (x : Said). x.number) e

-- an answer of 0 says that the book is accepted
pub told_fine : {s : List ℕ} {x : Said} → Tells s x → x.number ≡ 0 → Accepted s
told_fine (says.mark f e) z = let u = number_of e in absurd (omega arith)
told_fine (says.contents m f e) z = let u = number_of e in absurd (omega arith)
told_fine (says.at_entry m l i h g f) z = let u = fault_thirteen f in absurd (omega arith)
told_fine (says.fine a e) z = a
