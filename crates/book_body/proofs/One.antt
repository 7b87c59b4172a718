-- The outcome of reading a list is settled by the body's bytes, the list's number and the slice.
--   list_unique    what is said, and the slice
--   list_kept      a refusal leaves the slice as it was
--   got_unique     the answer itself, and the slice
use mathlib.Core.Path.{◌≡◌, sym, ap, ◌∙◌}
use mathlib.Core.Logic.{◌≢◌}
use mathlib.Core.List.{List}
use Prim.Native.Nat.{ℕ}
use native.Mathlib.Omega.{arith}
use Rattle.std.specs.declared.result.Result.{Result}
use Rattle.std.specs.declared.result.Result.TheVariants.{Ok, Err}
use Rattle.base_answers.specs.Said.{Said}
use Rattle.base_answers.specs.declared.Fault.{Fault}
use Rattle.base_answers.proofs.Said.{number_of, result_of}
use Rattle.base_answers.proofs.Faults.{some_number, number_one}
use Rattle.book_body.specs.Code.{got_says, ListTells, read, none, short}

pub list_unique : {s : List ℕ} {k : ℕ} {d : List ℕ} {x y : Said} {e f : List ℕ} → ListTells s k d x e → ListTells s k d y f → (x ≡ y) × (e ≡ f)
list_unique (read h l p q) (read i m u v) = (p ∙ sym u, q ∙ sym v)
list_unique (read h l p q) (none i u v) = absurd (omega arith)
list_unique (read h l p q) (short i m u v) = absurd (omega arith)
list_unique (none h p q) (read i m u v) = absurd (omega arith)
list_unique (none h p q) (none i u v) = (p ∙ sym u, q ∙ sym v)
list_unique (none h p q) (short i m u v) = absurd (omega arith)
list_unique (short h l p q) (read i m u v) = absurd (omega arith)
list_unique (short h l p q) (none i u v) = absurd (omega arith)
list_unique (short h l p q) (short i m u v) = (p ∙ sym u, q ∙ sym v)

pub list_kept : {s : List ℕ} {k : ℕ} {d : List ℕ} {x : Said} {e : List ℕ} → ListTells s k d x e → x.number ≢ 0 → e ≡ d
list_kept (read h l p q) f = absurd (f (ap (λ (z : Said). z.number) p))
list_kept (none h p q) f = q
list_kept (short h l p q) f = q

-- ---- answers that say the same are equal, for no refusal has the number 0
pub got_one : (g h : Result ℕ Fault) → got_says g ≡ got_says h → g ≡ h
got_one (Ok n) (Ok m) e = ap Ok (result_of e)
got_one (Ok n) (Err k) e = absurd (some_number k (sym (number_of e)))
got_one (Err j) (Ok m) e = absurd (some_number j (number_of e))
got_one (Err j) (Err k) e = ap Err (number_one j k (number_of e))

pub got_unique : {s : List ℕ} {k : ℕ} {d : List ℕ} (g h : Result ℕ Fault) {e f : List ℕ} → ListTells s k d (got_says g) e → ListTells s k d (got_says h) f → (g ≡ h) × (e ≡ f)
got_unique g h t u = let w = list_unique t u in (got_one g h w.0, w.1)
