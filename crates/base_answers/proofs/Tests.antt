-- Answers of tests: how one is given, that it answers an equivalent statement too, and that the statement settles it.
use mathlib.Core.Path.{◌≡◌, refl, sym}
use mathlib.Core.Bool.{Bool, true, false, true≢false}
use Rattle.base_answers.specs.Decides.{Decides}

pub answer_yes : {A : Type 0} → A → Decides true A
answer_yes a = record { yes! = λ e. a; no! = λ e. absurd (true≢false e) }

pub answer_no : {A : Type 0} → (A → ⊥) → Decides false A
answer_no f = record { yes! = λ e. absurd (true≢false (sym e)); no! = λ e. f }

pub carried : {r : Bool} {A B : Type 0} → (A → B) → (B → A) → Decides r A → Decides r B
carried f g d = record { yes! = λ e. f (d.yes! e); no! = λ e b. d.no! e (g b) }

pub decides_unique : (r s : Bool) (A : Type 0) → Decides r A → Decides s A → r ≡ s
decides_unique true true A d e = refl
decides_unique false false A d e = refl
decides_unique true false A d e = absurd (e.no! refl (d.yes! refl))
decides_unique false true A d e = absurd (d.no! refl (e.yes! refl))
