-- The parts of an answer, put one after the other.
--   made_unit, made_refused   what is printed of what `unit` answers
--   unit_put, refusal_put     that it is put; err_put, ok_put: of a result
--   printed_made              what is printed of an answer as a result is its `made_text`
--   told_put                  so it is of what `unit` answers, its refusal handed on by number
use mathlib.Core.Path.{◌≡◌, refl, sym, ap, subst}
use mathlib.Core.Logic.{◌≢◌}
use mathlib.Core.List.{List, ◌∷◌, ◌++◌}
use Prim.Native.Nat.{ℕ, zero, suc}
use Rattle.base_lists.specs.Pieces.{Put, cut}
use Rattle.text_put.specs.Print.{semicolon, number_text, refused_text}
use Rattle.base_lists.proofs.Puts.{put_then}
use Rattle.std.specs.declared.result.Result.{Result}
use Rattle.std.specs.declared.result.Result.TheVariants.{Ok, Err}
use Rattle.std.specs.Result.{MatchResult, IsErrAnd}
use Rattle.std.proofs.lemmas.Result.{err_from_is_err_and}
use Rattle.base_answers.specs.declared.Fault.{Fault}
use Rattle.base_answers.specs.declared.Cycle.{Cycle}
use Rattle.base_answers.specs.Faults.{fault_number}
use Rattle.base_answers.proofs.Faults.{some_number}
use Rattle.door_unit.specs.Unit as U
use Rattle.door_unit.specs.Unit.{UnitAnswer}
use Rattle.base_lists.specs.Coefficients.{trim}
use Rattle.lister_rows.specs.Text.{rows_text}
use Rattle.lister_print.specs.Text.{unit_text, told, made_text, printed, result_by, result_of}

told_none : (n : ℕ) (t : List ℕ) → n ≡ 0 → told n t ≡ t
unfolding told
told_none n t e = ap (λ k. told k t) e

told_some : (n : ℕ) (t : List ℕ) → n ≢ 0 → told n t ≡ refused_text n
unfolding told
told_some zero t h = absurd (h refl)
told_some (suc n) t h = refl

pub made_unit : (s : List ℕ) (m : UnitAnswer) (rows : List ℕ) → m.refusal ≡ 0
    → made_text s m rows ≡ unit_text s m.period.0 m.regulator.0 (trim (cut 0 1024 rows)) (trim (cut 1024 1024 rows)) (trim (cut 2048 1024 rows))
unfolding made_text
made_unit s m rows e =
    told_none m.refusal (unit_text s m.period.0 m.regulator.0 (trim (cut 0 1024 rows)) (trim (cut 1024 1024 rows)) (trim (cut 2048 1024 rows))) e

pub made_refused : (s : List ℕ) (m : UnitAnswer) (rows : List ℕ) → m.refusal ≢ 0 → made_text s m rows ≡ refused_text m.refusal
unfolding made_text
made_refused s m rows h =
    told_some m.refusal (unit_text s m.period.0 m.regulator.0 (trim (cut 0 1024 rows)) (trim (cut 1024 1024 rows)) (trim (cut 2048 1024 rows))) h

pub refusal_put : (s : List ℕ) (m : UnitAnswer) (rows : List ℕ) {d : List ℕ} {at r : ℕ} {d' : List ℕ} → m.refusal ≢ 0 → Put d at (refused_text m.refusal) r d'
    → Put d at (made_text s m rows) r d'
refusal_put s m rows {d} {at} {r} {d'} h a = subst (λ (x : List ℕ). Put d at x r d') (sym (made_refused s m rows h)) a

-- the field, the period, the regulator and the rows, one after the other
module _ (s : List ℕ) (l R : ℕ) (rows d : List ℕ) (at r₁ : ℕ) (d₁ : List ℕ) (r₂ : ℕ) (d₂ : List ℕ) (r₃ : ℕ) (d₃ : List ℕ) (r₄ : ℕ) (d₄ : List ℕ) where
  pub unit_put : Put d at s r₁ d₁ → Put d₁ r₁ (semicolon ∷ number_text l) r₂ d₂ → Put d₂ r₂ (semicolon ∷ number_text R) r₃ d₃
      → Put d₃ r₃ (rows_text (trim (cut 0 1024 rows)) (trim (cut 1024 1024 rows)) (trim (cut 2048 1024 rows))) r₄ d₄
      → Put d at (unit_text s l R (trim (cut 0 1024 rows)) (trim (cut 1024 1024 rows)) (trim (cut 2048 1024 rows))) r₄ d₄
  unfolding unit_text
  unit_put a b c e =
      let l' = semicolon ∷ number_text l in
      let R' = semicolon ∷ number_text R in
      let E = rows_text (trim (cut 0 1024 rows)) (trim (cut 1024 1024 rows)) (trim (cut 2048 1024 rows)) in
      let x = put_then d at s r₁ d₁ l' r₂ d₂ a b in
      let y = put_then d at (s ++ l') r₂ d₂ R' r₃ d₃ x c in
      put_then d at (s ++ l' ++ R') r₃ d₃ E r₄ d₄ y e

module _ (s rows : List ℕ) {m : Result Cycle Fault} {d : List ℕ} {at r : ℕ} {d' : List ℕ} where
  pub err_put : {k : Fault} {n : ℕ} → m ≡ Err k → n ≡ fault_number k → Put d at (refused_text n) r d' → Put d at (made_text s (U.told m) rows) r d'
  err_put {k} e f a = subst (λ (q : Result Cycle Fault). Put d at (made_text s (U.told q) rows) r d') (sym e)
      (refusal_put s (U.told (Err k)) rows (some_number k) (subst (λ (q : ℕ). Put d at (refused_text q) r d') f a))

  pub ok_put : {c : Cycle} → m ≡ Ok c
      → Put d at (unit_text s c.period.0 c.regulator.0 (trim (cut 0 1024 rows)) (trim (cut 1024 1024 rows)) (trim (cut 2048 1024 rows))) r d'
      → Put d at (made_text s (U.told m) rows) r d'
  ok_put {c} e a = subst (λ (q : Result Cycle Fault). Put d at (made_text s (U.told q) rows) r d') (sym e)
      (subst (λ (t : List ℕ). Put d at t r d') (sym (made_unit s (U.told (Ok c)) rows refl)) a)

module _ (s : List ℕ) (c : Cycle) (rows : List ℕ) where
  printed_by : (n : ℕ) → printed s (result_by n c) rows ≡ made_text s (record { refusal = n; period = c.period; regulator = c.regulator }) rows
  unfolding made_text told
  printed_by zero = refl
  printed_by (suc n) = refl

pub printed_made : (s : List ℕ) (m : UnitAnswer) (rows : List ℕ) → printed s (result_of m) rows ≡ made_text s m rows
printed_made s m rows = printed_by s (record { period = m.period; regulator = m.regulator }) rows m.refusal

module _ (s rows : List ℕ) (b : Result Cycle ℕ) {d : List ℕ} {at r : ℕ} {d' : List ℕ} where
  again : {q : Result Cycle ℕ} → b ≡ q → Put d at (printed s b rows) r d' → Put d at (printed s q rows) r d'
  again e a = subst (λ (z : Result Cycle ℕ). Put d at (printed s z rows) r d') e a

  pub told_put : (m : Result Cycle Fault) → MatchResult m (λ c. b ≡ Ok c) (λ k. IsErrAnd b (λ n. n ≡ fault_number k)) → Put d at (printed s b rows) r d'
      → Put d at (made_text s (U.told m) rows) r d'
  told_put (Ok c) e a = ok_put s rows refl (again e a)
  told_put (Err k) e a = let w = err_from_is_err_and b e in err_put s rows refl w.2 (again w.1 a)
