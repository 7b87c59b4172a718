-- From the answer to asking for an entry, and from its body, to the answer to attesting it.
use mathlib.Core.Path.{◌≡◌, refl, sym, subst}
use mathlib.Core.Logic.{◌≢◌}
use mathlib.Core.Bool.{Bool, true, false}
use mathlib.Core.List.{List}
use Prim.Native.Nat.{ℕ, ◌<◌}
use Rattle.base_answers.specs.Said.{Said, passed}
use Rattle.base_answers.specs.Decides.{Decides}
use Rattle.base_answers.proofs.Said.{number_of}
use Rattle.std.specs.declared.result.Result.TheVariants.{Ok}
use Rattle.book_body.specs.Body.{body_of, Finished}
use Rattle.book_check.specs.Book.{count, part, Accepted}
use Rattle.book_check.specs.Answer as asking
use Rattle.book_check.specs.Answer.{refusal_says, AskTells}
use Rattle.book_judge.specs.declared.BookRefusal.{BookRefusal}
use Rattle.book_judge.proofs.Says.{refusal_number}
use Rattle.book_norm.specs.Attested.{Attested}
use Rattle.book_attest.specs.Attest.{attest_says, AttestTells, book, no_entry, yes, no}

module _ (s : List ℕ) (i : ℕ) where
  pub finished_part : (b : List ℕ) → b ≡ part s i → Accepted s × (i < count s) → Finished b
  finished_part b e w = subst Finished (sym e) (record { formed = (w.0.good i w.1).body; field = (w.0.good i w.1).field })

  pub attest_yes : (b : List ℕ) → b ≡ part s i → Accepted s × (i < count s) → Attested (body_of b) → AttestTells s i (passed 1)
  attest_yes b e w a = yes w.0 w.1 (subst (λ (z : List ℕ). Attested (body_of z)) e a) refl

  pub attest_no : (b : List ℕ) → b ≡ part s i → Accepted s × (i < count s) → (Attested (body_of b) → ⊥) → AttestTells s i (passed 0)
  attest_no b e w f = no w.0 w.1 (λ a. f (subst (λ (z : List ℕ). Attested (body_of z)) (sym e) a)) refl

  -- what is refused when an entry is asked for is refused when it is attested
  from_asked : {x : Said} → AskTells s i x → x.number ≢ 0 → AttestTells s i x
  from_asked (asking.book f t) n = book f t
  from_asked (asking.no_entry a h e) n = no_entry a h e
  from_asked (asking.there a h e) n = absurd (n (number_of e))

  pub attest_refused : (r : BookRefusal) → AskTells s i (refusal_says r) → AttestTells s i (refusal_says r)
  attest_refused r t = from_asked t (refusal_number r)

  pub attested : {b : List ℕ} (r : Bool) → b ≡ part s i → Accepted s × (i < count s) → Decides r (Attested (body_of b)) → AttestTells s i (attest_says (Ok r))
  attested {b} true e w d = attest_yes b e w (d.yes! refl)
  attested {b} false e w d = attest_no b e w (d.no! refl)
