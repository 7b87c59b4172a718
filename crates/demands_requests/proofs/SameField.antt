-- Request E3 holds: what the layers prove, side by side.
use mathlib.Core.Path.{◌≡◌, refl}
use mathlib.Core.Bool.{Bool, true, false}
use mathlib.Core.List.{List}
use Prim.Native.Nat.{ℕ, ◌<◌}
use Rattle.field_open.specs.Refusal.{Accepted}
use Rattle.pair_laws.specs.OneField.{OneField}
use Rattle.door_compare.specs.Answer.{CompareAnswer}
use Rattle.door_compare.specs.Answer as pairs
use Rattle.pair_agree.proofs.Relation as relation
use Rattle.door_compare.proofs.Doors.{doors_through}
use Rattle.pair_theory.proofs.Shared as theory
use Rattle.door_transfer.proofs.Back.{transfers_back}
use Rattle.pair_answers.proofs.Alike as answers
use Rattle.base_answers.specs.Decides.{Decides}
use Rattle.base_answers.specs.Said.{Said}
use Rattle.base_answers.proofs.Said.{number_of}
use Rattle.book_body.specs.Body as body
use Rattle.book_check.specs.Book as book
use Rattle.book_check.specs.Answer as says
use Rattle.book_check.proofs.Facts.{fault_thirteen}
use Rattle.book_add.specs.Add as add
use Rattle.book_add.proofs.One.{add_unique}
use Rattle.demands_requests.specs.SameField.{SameField}

yes_of : {A : Type 0} (r : Bool) → Decides r A → A → r ≡ true
yes_of true d a = refl
yes_of false d a = absurd (d.no! refl a)

compared : {p : ℕ} {G H G' H' : List ℕ} → Accepted p G H → Accepted p G' H' → (a : CompareAnswer) → pairs.Compares p G H G' H' a →
    OneField p G H G' H' → (a.refusal ≡ 0) × (a.same ≡ true)
compared A A' a h o = let (e, d) = doors_through (record { first = A; second = A' }) h in (e, yes_of a.same d o)

twice : (s : List ℕ) (x : Said) → says.Tells s x → (i j : ℕ) → i < book.count s → j < i → body.OneField (book.entry s i) (book.entry s j) → x.number ≡ 13
twice s x (says.mark f e) i j h k o = number_of e
twice s x (says.contents m f e) i j h k o = number_of e
twice s x (says.at_entry m l n u g f) i j h k o = fault_thirteen f
twice s x (says.fine a e) i j h k o = absurd ((a.good i h).once j k o)

pub same_field : SameField
same_field = record {
  reflexive = λ p pr. relation.one_refl p pr;
  symmetric = relation.one_sym;
  transitive = λ p pr. relation.one_trans p pr;
  compared = compared;
  shared = theory.shared;
  alike = answers.alike;
  back = transfers_back;
  twice = twice;
  known = λ d b d' n x t l a f j h o. add_unique d n b t (add.known l a f j h o refl refl);
}
