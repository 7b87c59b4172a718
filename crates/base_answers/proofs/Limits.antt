-- What the tests of the limits say, and that the number settles their answer.
use mathlib.Core.Path.{◌≡◌, refl, subst}
use mathlib.Core.Bool.{Bool, true, false}
use mathlib.Core.List.{List}
use Prim.Native.Nat.{ℕ, ◌*◌, ◌/◌, ◌≤◌, ◌<◌}
use native.Mathlib.Omega.{arith}
use lib.ListN.{length}
use Rattle.base_answers.specs.Limits.{longest, Over, SixRows, NoSixRows, Six}

pub over_yes : {m n : ℕ} {r : Bool} → Over m n r → r ≡ true → m < n
over_yes {m} {n} o e = subst (Over m n) e o

pub over_no : {m n : ℕ} {r : Bool} → Over m n r → r ≡ false → n ≤ m
over_no {m} {n} o e = subst (Over m n) e o

pub over_unique : (m n : ℕ) (r s : Bool) → Over m n r → Over m n s → r ≡ s
over_unique m n true true o q = refl
over_unique m n false false o q = refl
over_unique m n true false o q = absurd (omega (arith, o, q))
over_unique m n false true o q = absurd (omega (arith, o, q))

pub six_of : {n : ℕ} {r : Bool} → NoSixRows n r → r ≡ false → SixRows n
six_of {n} o e = subst (NoSixRows n) e o

pub no_six : {n : ℕ} {r : Bool} → NoSixRows n r → r ≡ true → SixRows n → ⊥
no_six {n} o e = subst (NoSixRows n) e o

pub no_six_unique : (n : ℕ) (r s : Bool) → NoSixRows n r → NoSixRows n s → r ≡ s
no_six_unique n true true o q = refl
no_six_unique n false false o q = refl
no_six_unique n true false o q = absurd (o q)
no_six_unique n false true o q = absurd (q o)

-- ---- a list of six rows
pub six_at : (l : List ℕ) → SixRows (length l) → Six (length l / 6) l
six_at l (a, b) = record { room = omega arith; whole = omega arith }

pub six_none : (l : List ℕ) → (SixRows (length l) → ⊥) → (c : ℕ) → Six c l → ⊥
six_none l f c t = let w : length l ≡ 6 * c = t.whole in let r : c ≤ longest = t.room in f (omega arith, omega arith)

pub six_unique : {c c' : ℕ} {l : List ℕ} → Six c l → Six c' l → c ≡ c'
six_unique {c} {c'} {l} x y = let e : length l ≡ 6 * c = x.whole in let f : length l ≡ 6 * c' = y.whole in omega arith
