-- `book_judge::judge` meets its contract: what the field refuses is told as that of entry i.
use mathlib.Core.Path.{◌≡◌, refl}
use mathlib.Core.List.{List}
use Prim.Native.Nat.{ℕ}
use borrow.Author.Rules.{rules}
use Rattle.std.specs.declared.result.Result.{Result}
use Rattle.std.specs.declared.result.Result.TheVariants.{Ok, Err}
use Rattle.std.specs.Result.{MatchResult, IsErrAnd}
use Rattle.std.proofs.lemmas.Result.{err_from_is_err_and}
use Rattle.base_answers.specs.declared.Fault.{Fault}
use Rattle.base_answers.specs.Faults.{fault_number, no_of}
use Rattle.base_answers.proofs.Faults.{some_number}
use Rattle.book_body.specs.Body.{FieldSays, body_of, Formed}
use Rattle.book_judge.specs.Reasons.{field, JudgeTells}
use Rattle.book_judge.specs.declared.Reason.{Reason}
use Rattle.book_judge.specs.declared.Reason.TheVariants.{Field}
use Rattle.book_judge.proofs.judge.Goals as goal

judged : (b : List ℕ) (i : ℕ) (Q : Fault → Reason → Type 0) (f : Result (Unit {0}) Fault) (r : Result (Unit {0}) Reason)
    → Formed b → FieldSays (body_of b) (no_of f) → ((k : Fault) (why : Reason) → Q k why → why ≡ Field i (fault_number k))
    → MatchResult f (λ x. r ≡ Ok x) (λ k. IsErrAnd r (Q k)) → JudgeTells b i r
judged b i Q (Ok u) r g s h m = rw m (g, s)
judged b i Q (Err k) r g s h m =
    let w = err_from_is_err_and r m in
    rw (w.1, h k w.0 w.2) (field g (fault_number k) (some_number k) s refl)

pub returns : goal.returns
returns c =
    judged _ c.args.i _ c.field_refusal.result c.map_err.result (c.if-not-body_rule.ensures.yes! refl) c.field_refusal.ensures (λ k why q. search rules)
    c.map_err.ensures.cases
