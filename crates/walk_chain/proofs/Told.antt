-- What a walk tells: `told_one`, two results that tell one answer are equal, where 10 is how a walk ends.
use mathlib.Core.Path.{◌≡◌, refl, sym, ap, ◌∙◌}
use Prim.Native.Nat.{ℕ}
use native.Mathlib.Omega.{arith}
use Rattle.std.specs.declared.result.Result.{Result}
use Rattle.std.specs.declared.result.Result.TheVariants.{Ok, Err}
use Rattle.base_answers.specs.declared.Fault.{Fault}
use Rattle.base_answers.specs.declared.Fault.TheVariants.{NotClosing}
use Rattle.base_answers.specs.Faults.{fault_number}
use Rattle.base_answers.proofs.Faults.{some_number, number_one}
use Rattle.walk_chain.specs.declared.End.{End}
use Rattle.walk_chain.specs.declared.End.TheVariants.{Closed, Spent}
use Rattle.walk_chain.specs.declared.Walked.{Walked}
use Rattle.walk_chain.specs.Walk.{WalkAnswer}
use Rattle.walk_chain.specs.Told.{end_number, gone, told, TenEnds}

end_one : (a b : End) → end_number a ≡ end_number b → a ≡ b
end_one Closed Closed e = refl
end_one Closed Spent e = absurd (omega arith)
end_one Spent Closed e = absurd (omega arith)
end_one Spent Spent e = refl

-- a walk and a refusal before it tell two numbers
apart : (a : End) (k : Fault) → TenEnds (Err k) → end_number a ≡ fault_number k → ⊥
apart Closed k t e = some_number k (sym e)
apart Spent k t e = t (ap Err (sym (number_one NotClosing k e)))

number : {v w : WalkAnswer} → v ≡ w → v.refusal ≡ w.refusal
number e = ap (λ (o : WalkAnswer). o.refusal) e

pub told_one : (r s : Result Walked Fault) → TenEnds r → TenEnds s → told r ≡ told s → r ≡ s
told_one (Ok v) (Ok w) t u e =
    let a : v.end ≡ w.end = end_one v.end w.end (number e) in
    λ i. Ok (record { end = a i; steps = (e i).steps; sum = (e i).sum; basis = (e i).basis })
told_one (Ok v) (Err k) t u e = absurd (apart v.end k u (number e))
told_one (Err j) (Ok w) t u e = absurd (apart w.end j t (sym (number e)))
told_one (Err j) (Err k) t u e = ap Err (number_one j k (number e))
