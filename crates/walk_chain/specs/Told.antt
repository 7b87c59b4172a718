-- What a walk tells, in document 01's numbers.
--   end_number e   0 where it closed, 10 where its budget is spent
--   gone w         the answer of a walk that was gone
--   told r         the answer that a result tells: of the walk, or beside a refusal before it
--   TenEnds r      10 is how a walk ends, and no refusal before it
-- In proofs/Told.antt: `told_one`, two such results that tell one answer are equal.
use Rattle.std.specs.Prelude.{◌≢◌, ℕ, Result, Ok, Err}
use Rattle.base_answers.specs.declared.Fault.{Fault}
use Rattle.base_answers.specs.declared.Fault.TheVariants.{NotClosing}
use Rattle.base_answers.specs.Faults.{fault_number}
use Rattle.walk_chain.specs.declared.End.{End}
use Rattle.walk_chain.specs.declared.End.TheVariants.{Closed, Spent}
use Rattle.walk_chain.specs.declared.Walked.{Walked}
use Rattle.walk_chain.specs.Walk.{WalkAnswer, refused}

abbrev pub end_number : End → ℕ
end_number Closed = 0
end_number Spent = fault_number NotClosing

abbrev pub gone : Walked → WalkAnswer
gone w = record { refusal = end_number w.end; steps = w.steps; sum = w.sum; basis = w.basis }

abbrev pub told : Result Walked Fault → WalkAnswer
told (Ok w) = gone w
told (Err k) = refused (fault_number k)

abbrev pub TenEnds : Result Walked Fault → Type 0
TenEnds r = r ≢ Err NotClosing
