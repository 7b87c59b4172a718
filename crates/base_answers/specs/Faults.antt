-- Refusals, in document 01's numbers ("What we say no to").
--   fault_number k   the number of the refusal k, 1 to 15
--   no_of r          the number that a result tells: 0 where it is there, else the refusal's
-- In proofs/Faults.antt: `some_number`, no refusal has the number 0; `number_low`, none is above 15; `number_one`, one number, one refusal.
use Rattle.std.specs.Prelude.{ℕ, Result, Ok, Err}
use Rattle.base_answers.specs.declared.Fault.{Fault}
use Rattle.base_answers.specs.declared.Fault.TheVariants.{NotPrime, OneModThree, BadList, BothConstant, SumTooLarge, NotThirds, HasSquare, HasCommon, NotBasis, NotClosing, NoRoom, BadLine, BadBook, OutOfRule, AlreadyIn}

abbrev pub fault_number : Fault → ℕ
fault_number NotPrime = 1
fault_number OneModThree = 2
fault_number BadList = 3
fault_number BothConstant = 4
fault_number SumTooLarge = 5
fault_number NotThirds = 6
fault_number HasSquare = 7
fault_number HasCommon = 8
fault_number NotBasis = 9
fault_number NotClosing = 10
fault_number NoRoom = 11
fault_number BadLine = 12
fault_number BadBook = 13
fault_number OutOfRule = 14
fault_number AlreadyIn = 15

abbrev pub no_of : {A : Type 0} → Result A Fault → ℕ
no_of (Ok x) = 0
no_of (Err k) = fault_number k
