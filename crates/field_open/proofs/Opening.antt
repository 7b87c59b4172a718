-- What `open` answers.
--   opens_unique      two answers that meet it are equal
--   told_one          two results that tell one answer are equal
--   opens_number   the number beside the field is the table's
--   opens_nothing, opens_held   beside a refusal zeros; beside 0 an accepted field, opened
use mathlib.Core.Path.{◌≡◌, sym, ap, ap₂, ◌∙◌}
use mathlib.Core.Logic.{◌≢◌}
use mathlib.Core.List.{List}
use Prim.Native.Nat.{ℕ}
use native.Mathlib.Omega.{arith}
use Rattle.std.specs.declared.result.Result.{Result}
use Rattle.std.specs.declared.result.Result.TheVariants.{Ok, Err}
use Rattle.base_answers.specs.declared.Fault.{Fault}
use Rattle.base_answers.proofs.Faults.{some_number, number_one}
use Rattle.math_fp.specs.Fp.{Prime}
use Rattle.math_rows.specs.Made.{reading}
use Rattle.math_rows.proofs.Unique.{row_unique}
use Rattle.field_open.specs.declared.Field.{Field}
use Rattle.field_open.specs.Refusal.{Refusal, Accepted}
use Rattle.field_open.specs.Opening.{FieldAnswer, Holds, Held, nothing, told, Opens}
use Rattle.field_open.proofs.Door.{door_unique, door_number, door_none, door_open}

abbrev made : ℕ → List ℕ → List ℕ → List ℕ → ℕ → ℕ → Field
made p g h gh dr dw = record { p = p; g = g; h = h; gh = gh; dr = dr; dw = dw }

pub holds_unique : {p d e : ℕ} {G H : List ℕ} (f f' : Field) → Prime p → Holds p G H d e f → Holds p G H d e f' → f ≡ f'
holds_unique f f' pr a b =
    let e₁ : f.p ≡ f'.p = a.prime ∙ sym b.prime in
    let e₂ : f.g ≡ f'.g = a.row_g ∙ sym b.row_g in
    let e₃ : f.h ≡ f'.h = a.row_h ∙ sym b.row_h in
    let e₄ : f.gh ≡ f'.gh = row_unique (reading _ pr) a.row_gh b.row_gh (a.product pr ∙ sym (b.product pr)) in
    let e₅ : f.dr ≡ f'.dr = omega (arith, a.deg_r, b.deg_r) in
    let e₆ : f.dw ≡ f'.dw = omega (arith, a.deg_w, b.deg_w) in
    let m : made f.p f.g f.h f.gh f.dr f.dw ≡ made f'.p f'.g f'.h f'.gh f'.dr f'.dw = cc in
    m

opened_path : (o o' : FieldAnswer) → o.refusal ≡ o'.refusal → o.field ≡ o'.field → o ≡ o'
opened_path o o' e f = ap₂ (λ (n : ℕ) (g : Field). record { refusal = n; field = g }) e f

pub opens_unique : {p : ℕ} {G H : List ℕ} (o o' : FieldAnswer) → Opens p G H o → Opens p G H o' → o ≡ o'
opens_unique o o' = door_unique (λ n e f. e ∙ sym f)
    (λ k (z, a) (z', b). opened_path o o' (z ∙ sym z')
    (holds_unique o.field o'.field k.prime (a k.deg_g k.deg_h k.list_g k.list_h) (b k.deg_g k.deg_h k.list_g k.list_h)))

pub told_one : (r s : Result Field Fault) → told r ≡ told s → r ≡ s
told_one (Ok f) (Ok g) e = ap (λ (o : FieldAnswer). Ok o.field) e
told_one (Ok f) (Err k) e = absurd (some_number k (sym (ap (λ (o : FieldAnswer). o.refusal) e)))
told_one (Err j) (Ok g) e = absurd (some_number j (ap (λ (o : FieldAnswer). o.refusal) e))
told_one (Err j) (Err k) e = ap Err (number_one j k (ap (λ (o : FieldAnswer). o.refusal) e))

module _ {p : ℕ} {G H : List ℕ} {o : FieldAnswer} (h : Opens p G H o) where
  pub opens_number : Refusal p G H o.refusal
  opens_number = door_number (λ n e. ap (λ a. a.refusal) e) (λ k. k.0) h

  pub opens_nothing : o.refusal ≢ 0 → o.field ≡ nothing
  opens_nothing f = ap (λ a. a.field) (door_none (λ n e. ap (λ a. a.refusal) e) (λ k. k.0) h f)

  pub opens_held : o.refusal ≡ 0 → Accepted p G H × Held p G H o.field
  opens_held z = let (A, k) = door_open (λ n e. ap (λ a. a.refusal) e) (λ k. k.0) h z in (A, k.1)
