-- Refusals and their numbers.
--   some_number   no refusal has the number 0
--   number_low    none has one above 15
--   number_one    two refusals with one number are equal; `fault_at` finds the refusal of a number
use mathlib.Core.Path.{◌≡◌, refl, sym, ap, ◌∙◌}
use mathlib.Core.Logic.{◌≢◌}
use mathlib.Core.List.{[], ◌∷◌}
use Prim.Native.Nat.{ℕ, ◌-◌, ◌≤◌}
use native.Mathlib.Omega.{arith}
use lib.ListN.{get_or}
use Rattle.base_answers.specs.declared.Fault.{Fault}
use Rattle.base_answers.specs.declared.Fault.TheVariants.{NotPrime, OneModThree, BadList, BothConstant, SumTooLarge, NotThirds, HasSquare, HasCommon, NotBasis, NotClosing, NoRoom, BadLine, BadBook, OutOfRule, AlreadyIn}
use Rattle.base_answers.specs.Faults.{fault_number}

abbrev fault_at : ℕ → Fault
fault_at n = get_or (NotPrime ∷ OneModThree ∷ BadList ∷ BothConstant ∷ SumTooLarge ∷ NotThirds ∷ HasSquare ∷ HasCommon ∷ NotBasis ∷ NotClosing
    ∷ NoRoom ∷ BadLine ∷ BadBook ∷ OutOfRule ∷ []) (n - 1) AlreadyIn

at_number : (k : Fault) → fault_at (fault_number k) ≡ k
at_number NotPrime = refl
at_number OneModThree = refl
at_number BadList = refl
at_number BothConstant = refl
at_number SumTooLarge = refl
at_number NotThirds = refl
at_number HasSquare = refl
at_number HasCommon = refl
at_number NotBasis = refl
at_number NotClosing = refl
at_number NoRoom = refl
at_number BadLine = refl
at_number BadBook = refl
at_number OutOfRule = refl
at_number AlreadyIn = refl

pub number_one : (j k : Fault) → fault_number j ≡ fault_number k → j ≡ k
number_one j k e = sym (at_number j) ∙ ap fault_at e ∙ at_number k

-- both bounds at once, case by case
within : (k : Fault) → (1 ≤ fault_number k) × (fault_number k ≤ 15)
within NotPrime = (omega arith, omega arith)
within OneModThree = (omega arith, omega arith)
within BadList = (omega arith, omega arith)
within BothConstant = (omega arith, omega arith)
within SumTooLarge = (omega arith, omega arith)
within NotThirds = (omega arith, omega arith)
within HasSquare = (omega arith, omega arith)
within HasCommon = (omega arith, omega arith)
within NotBasis = (omega arith, omega arith)
within NotClosing = (omega arith, omega arith)
within NoRoom = (omega arith, omega arith)
within BadLine = (omega arith, omega arith)
within BadBook = (omega arith, omega arith)
within OutOfRule = (omega arith, omega arith)
within AlreadyIn = (omega arith, omega arith)

pub some_number : (k : Fault) → fault_number k ≢ 0
some_number k e = let l = (within k).0 in omega (arith, l)

pub number_low : (k : Fault) → fault_number k ≤ 15
number_low k = (within k).1
