-- `poly_mix::mix` meets its contract: the list is filled with the remainders of the sums, which need no more than the sizes of g and h.
use Prim.Native.Nat.{◌+◌, ◌%◌}
use mathlib.Core.Path.{◌∙◌, ap₂}
use native.Mathlib.Omega.{arith}
use lib.ListN.{length}
use Rattle.math_rows.specs.Sum.{sum_to, term_at}
use Rattle.math_rows.proofs.Tab.{filled_more}
use Rattle.poly_mix.proofs.Sums.{trimmed}
use Rattle.poly_mix.proofs.Mixing.{mixed}
use Rattle.poly_mix.proofs.mix.Goals as goal

pub loop-k-preserved : goal.loop-k-preserved
loop-k-preserved c = let l = c.loop-k in
    filled_more (length c.args.d.now) (λ i. (sum_to (term_at c.args.g.now c.args.x.now i) (length c.args.g.now) + sum_to
    (term_at c.args.h.now c.args.y.now i) (length c.args.h.now)) % c.args.p)
    l.d l.k _ l.invariant (omega (arith, l.invariant.size)) (ap₂ (λ v w. (v + w) % c.args.p)
    (c.sum_at-s.ensures.value ∙ trimmed _ _ _ _ c.size-m.ensures) (c.sum_at-t.ensures.value ∙ trimmed _ _ _ _ c.size-n.ensures))

pub returns : goal.returns
returns c = mixed _ _ _ _ _ _ _ _ c.requires c.loop-k.invariant (omega (arith, c.loop-k.invariant.size))
